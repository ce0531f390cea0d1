-- The map by which a rule fits.
use Rattle.std.specs.Prelude.{◌≡◌, List, [], map, true}
use Rattle.lt_definitions.specs.Types.{Chars, names_joined, TypeTree, row, TypeMap, found, type_instance, types_names}
use Rattle.lt_transport_definitions.specs.RuleForm.{TransferRule}
use Rattle.lt_transport_definitions.specs.Candidates.{match_of, fits}

-- The rule fits these type arguments, by a map that has the pattern's type variables in order of
-- first appearance, and what the definitions' match puts for each.
pub record IsFit (rule : TransferRule) (ts : List TypeTree) (m : TypeMap) : Type 0 where
  pub fitting : fits rule.constant ts rule ≡ true
  pub instance : map (type_instance m) rule.pattern ≡ ts
  pub domain : map (λ p. p.0) m ≡ names_joined [] (types_names (row rule.pattern))
  pub values : (a : Chars) → found a m ≡ found a (match_of rule ts)
