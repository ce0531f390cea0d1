-- Correspondences by their types.
use Rattle.std.proofs.Common.{◌≡◌, ℕ, List, Bool, true, false, ◌&&◌, not, if◌then◌else◌, map, Option, Some, None, option_map, codes, refl, sym, ◌∙◌, ap}
use Rattle.std.proofs.lemmas.Option.{same_Some, none-some}
use Rattle.lt_definitions.specs.Types.{Chars, same_name, TypeTree, TypeTrees, type_variable, type_constructor, row, same_types, type_names, types_names, are_distinct}
use Rattle.lt_definitions.proofs.SameNames.{true-name}
use Rattle.lt_transport_definitions.specs.Answers.{only_where, given}
use Rattle.lt_transport_definitions.specs.Relations.{Correspondence}
use Rattle.lt_transport_definitions.specs.Forms.{is_over_variables, are_among, constructor_name}
use Rattle.lt_forms.specs.Constructors.{constructor_of}
use Rattle.lt_relations.specs.Reading.{correspondence_over, is_over, may_have}

abbrev test : TypeTree → TypeTree → Bool
test raw over = is_over_variables over && not (same_name (constructor_name over) (codes "fun")) && are_among (type_names raw) (type_names over)

abbrev told : Chars → TypeTree → Chars → List Chars → Correspondence
told c raw con params = record { name = c; raw = raw; con = con; parameters = params }

test-is : (raw over : TypeTree) (con : Chars) → constructor_of over ≡ Some con → may_have raw over con (type_names over) ≡ test raw over
test-is raw (type_variable a) con h = absurd (none-some con h)
test-is raw (type_constructor d ts) con h =
    let same : d ≡ con = same_Some d con h in
    let sure : same_name d con ≡ true = true-name d con same in
    (λ i. ((sure i && same_types ts (row (map type_variable (types_names ts)))) && are_distinct (types_names ts)) && not (same_name (sym same i) (codes "fun")) && are_among (type_names raw) (types_names ts))

pub over-none : (c : Chars) (raw over : TypeTree) → constructor_of over ≡ None → None ≡ correspondence_over c (raw, over)
over-none c raw (type_variable a) h = refl
over-none c raw (type_constructor d ts) h = absurd (none-some d (sym h))

pub over-not : (c : Chars) (raw over : TypeTree) (con : Chars) (params : List Chars) (b : Bool) → constructor_of over ≡ Some con → params ≡ type_names over
    → b ≡ may_have raw over con params → b ≡ false → None ≡ correspondence_over c (raw, over)
over-not c raw over con params b h e k f =
    let none : test raw over ≡ false = sym (test-is raw over con h) ∙ ap (may_have raw over con) (sym e) ∙ sym k ∙ f in
    sym (ap (λ (t : Bool). only_where t (told c raw (constructor_name over) (type_names over))) none)

con-is : (over : TypeTree) (con : Chars) → constructor_of over ≡ Some con → con ≡ constructor_name over
con-is (type_variable a) con h = absurd (none-some con h)
con-is (type_constructor d ts) con h = sym (same_Some d con h)

pub over-some : (c : Chars) (raw over : TypeTree) (con : Chars) (params : List Chars) (b : Bool) (d : Correspondence) → constructor_of over ≡ Some con → params ≡ type_names over
    → b ≡ may_have raw over con params → b ≡ true → d ≡ told c raw con params → Some d ≡ correspondence_over c (raw, over)
over-some c raw over con params b d h e k f n =
    let holds : test raw over ≡ true = sym (test-is raw over con h) ∙ ap (may_have raw over con) (sym e) ∙ sym k ∙ f in
    ap Some n ∙ (λ i. Some (told c raw (con-is over con h i) (e i)))
    ∙ sym (ap (λ (t : Bool). only_where t (told c raw (constructor_name over) (type_names over))) holds)
