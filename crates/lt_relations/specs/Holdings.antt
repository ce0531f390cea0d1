-- What holds of an expression, as a test.
use Rattle.std.specs.Prelude.{ℕ, zero, suc, ◌-◌, List, [], ◌∷◌, ◌++◌, length, take, drop, Bool, true, false, ◌||◌, Option, Some, None, codes, slice_get, option_map, unwrap_or}
use Rattle.std.specs.List.{list_all}
use Rattle.lt_definitions.specs.Types.{Chars, TypeTree}
use Rattle.lt_hol.specs.declared.property.Property.{Property}
use Rattle.lt_hol.specs.declared.property.Property.TheVariants.{LeftTotal, RightTotal, LeftUnique, RightUnique, BiTotal, BiUnique}
use Rattle.lt_transport_definitions.specs.Relations as registry
use Rattle.lt_transport_definitions.specs.Relations.{Relation, relation_variable, equality, constructed, Relations, no_relations, relation_and, relation_row, Registry, property_rule_for}
use Rattle.lt_transport_definitions.specs.Expressions.{is_equality}
use Rattle.lt_relations.specs.declared.holdings.Holding.{Holding}

-- whether the rule is there, and all its premises hold
abbrev pub rule_test : Option registry.PropertyRule → (ℕ → registry.Property → Bool)
    → Bool
rule_test None holds = false
rule_test (Some rule) holds = list_all (λ s. holds s.1 s.0) rule.premises

-- whether the side condition holds that a relation has a property
abbrev mutual
  pub side_test : Registry → Relation → registry.Property → Bool
  side_test G (relation_variable n t) p = false
  side_test G (equality t) p = true
  side_test G (constructed c ts rs) p = is_equality G (constructed c ts rs)
      || rule_test (property_rule_for G p c) (side_test_at G rs)

  pub side_test_at : Registry → Relations → ℕ → registry.Property → Bool
  side_test_at G no_relations i p = false
  side_test_at G (relation_and r rs) zero p = side_test G r p
  side_test_at G (relation_and r rs) (suc i) p = side_test_at G rs i p

-- equality throughout, and the properties that an expression has
abbrev pub holding : Registry → Relation → Holding
holding G r = record {
  equality = is_equality G r;
  left_total = side_test G r (codes "left_total");
  right_total = side_test G r (codes "right_total");
  left_unique = side_test G r (codes "left_unique");
  right_unique = side_test G r (codes "right_unique");
  bi_total = side_test G r (codes "bi_total");
  bi_unique = side_test G r (codes "bi_unique");
}

abbrev pub has_property : Holding → Property → Bool
has_property h LeftTotal = h.left_total
has_property h RightTotal = h.right_total
has_property h LeftUnique = h.left_unique
has_property h RightUnique = h.right_unique
has_property h BiTotal = h.bi_total
has_property h BiUnique = h.bi_unique

-- whether a premise holds of arguments
abbrev pub premise_test : List Holding → Property × ℕ → Bool
premise_test args s = unwrap_or (option_map (λ h. has_property h s.0) (slice_get args s.1)) false

-- the last expressions become the arguments of a constructor
abbrev pub joined : Chars → List TypeTree → ℕ → List Relation → List Relation
joined c ts n before = take (length before - n) before
    ++ constructed c ts (relation_row (drop (length before - n) before)) ∷ []
