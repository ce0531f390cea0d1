-- Where the property rules of a head stand.
use Rattle.std.specs.Prelude.{◌≡◌, ℕ, List, Bool, ◌&&◌, Option, Some, slice_get}
use Rattle.std.specs.List.{list_any}
use Rattle.lt_definitions.specs.Types.{Chars, same_name, found}
use Rattle.lt_hol.specs.declared.property.Property.{Property}
use Rattle.lt_hol.specs.declared.property.Property.TheVariants.{LeftTotal, RightTotal, LeftUnique, RightUnique, BiTotal, BiUnique}
use Rattle.lt_relations.specs.declared.entries.PropertyRule.{PropertyRule}
use Rattle.lt_relations.specs.declared.property_rules.Places.{Places}
use Rattle.lt_transport_definitions.specs.Answers.{given, only_where}
use Rattle.lt_relations.specs.Told.{property_name}

-- whether a rule is that of a property and a head
abbrev pub is_rule : Property → Chars → PropertyRule → Bool
is_rule p x r = same_name (property_name p) (property_name r.property) && same_name x r.head

-- whether a premise is of a property
abbrev pub has_premise : Property → List (Property × ℕ) → Bool
has_premise p sides = list_any (λ s. same_name (property_name p) (property_name s.0)) sides

abbrev pub place_in : Places → Property → Option ℕ
place_in places LeftTotal = places.left_total
place_in places RightTotal = places.right_total
place_in places LeftUnique = places.left_unique
place_in places RightUnique = places.right_unique
place_in places BiTotal = places.bi_total
place_in places BiUnique = places.bi_unique

abbrev pub place_of : List (Chars × Places) → Property → Chars → Option ℕ
place_of heads p x = given (found x heads) λ places. place_in places p

-- the rule in a place, where it is that of the property and the head
abbrev pub rule_in : List PropertyRule → Property → Chars → ℕ → Option PropertyRule
rule_in rules p x place = given (slice_get rules place) λ r. only_where (is_rule p x r) r

-- Each rule stands in the place that is told of it.
abbrev pub ArePlaced : List (Chars × Places) → List PropertyRule → Type 0
ArePlaced heads rules = (i : ℕ) → (r : PropertyRule) → slice_get rules i ≡ Some r
    → place_of heads r.property r.head ≡ Some i
