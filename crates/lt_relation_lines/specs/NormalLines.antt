-- A relation equals its normal form, as a derivation.
-- Source: this project's own.
use Rattle.std.specs.Prelude.{List, [], ◌∷◌, Option, Some, None, Ok, Err}
use Rattle.lt_definitions.specs.Typing.{with_ok}
use Rattle.lt_definitions.specs.declared.reason.Reason.TheVariants.{NotEquation}
use Rattle.lt_nameless.specs.Nameless.{nameless_constant, NamelessSequent}
use Rattle.lt_nameless.specs.NamelessRules.{NamelessOutcome, nameless_refl_gives, applied_both, turned}
use Rattle.lt_transport_definitions.specs.Expressions.{normal_equality}
use Rattle.lt_transport_definitions.specs.Relations.{Relation, relation_variable, equality, constructed, Relations, no_relations, relation_and}
use Rattle.lt_relation_lines.specs.Grounds.{Ground, constant_types}
use Rattle.lt_relation_lines.specs.Equalities.{equality_gives}

-- Of an expression in which no correspondence has a parametrised form: |- R = R in normal form. For
-- equality by the line of its normal form, turned.
abbrev mutual
  pub normal_gives : Ground → Relation → NamelessOutcome
  normal_gives g (relation_variable n t) = Err NotEquation
  normal_gives g (equality t) = with_ok (equality_gives g (normal_equality g.registry t)) turned
  normal_gives g (constructed c ts rs) =
      with_ok (nameless_refl_gives g.signature
      (nameless_constant c (constant_types g.registry ts rs))) (normal_arguments g rs)

  -- from |- f = g: |- f R1 .. Rn = g S1 .. Sn, the Si in normal form
  pub normal_arguments : Ground → Relations → NamelessSequent → NamelessOutcome
  normal_arguments g no_relations s = Ok s
  normal_arguments g (relation_and r rs) s =
      with_ok (normal_gives g r) (λ u. with_ok (applied_both s u) (normal_arguments g rs))
