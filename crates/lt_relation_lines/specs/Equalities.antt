-- A relation that is equality throughout equals equality at its type.
-- Source: Huffman and Kunčar, for the laws.
use Rattle.std.specs.Prelude.{List, [], ◌∷◌, if◌then◌else◌, Option, Ok, Err, codes, find}
use Rattle.std.specs.List.{zip}
use Rattle.lt_definitions.specs.Types.{Chars, same_name, found, TypeTree, listed, type_names}
use Rattle.lt_definitions.specs.Typing.{with_ok}
use Rattle.lt_definitions.specs.Rules.{with_found}
use Rattle.lt_definitions.specs.declared.reason.Reason.TheVariants.{UnknownLabel, NotEquation}
use Rattle.lt_nameless.specs.Nameless.{Nameless, nameless_constant, nameless_application, NamelessSequent}
use Rattle.lt_nameless.specs.NamelessRules.{NamelessOutcome, nameless_refl_gives, applied_both, linked, turned}
use Rattle.lt_programs.specs.Programs.{statement_at}
use Rattle.lt_transport_definitions.specs.Expressions.{rights}
use Rattle.lt_transport_definitions.specs.Relations.{Relation, relation_variable, equality, constructed, Relations, no_relations, relation_and, Relator, Registry, function_relator_name}
use Rattle.lt_relation_lines.specs.Grounds.{Ground, term_of, constant_types, law_gives}

-- the relator with a constant
abbrev pub relator_with : Registry → Chars → Option Relator
relator_with G c = find (λ r. same_name c r.rel) G.relators

-- the type variables 'a1 .. 'an of a statement R eq .. eq = eq at K 'a1 .. 'an
abbrev pub equated_names : Nameless → List Chars
equated_names (nameless_application f (nameless_constant c (ty ∷ []))) = type_names ty
equated_names _ = []

-- |- R eq .. eq = eq at K t1 .. tn, by rel_fun_eq, or by the statement with which R was registered
abbrev pub relator_equality : Ground → Chars → List TypeTree → NamelessOutcome
relator_equality g c ts =
    if same_name c function_relator_name
    then law_gives g (codes "rel_fun_eq") (zip (codes "a" ∷ codes "b" ∷ []) ts)
    else with_found UnknownLabel (relator_with g.registry c) (λ r.
    with_found UnknownLabel (found r.eq g.named) (λ p.
    statement_at g.signature (zip (equated_names p) ts) [] p))

-- Of an expression that is equality throughout: |- R = eq. The parts of an application come before
-- it, then the law of its relator.
abbrev mutual
  pub equality_gives : Ground → Relation → NamelessOutcome
  equality_gives g (relation_variable n t) = Err NotEquation
  equality_gives g (equality t) =
      nameless_refl_gives g.signature (term_of g.registry (equality t))
  equality_gives g (constructed c ts rs) =
      with_ok (nameless_refl_gives g.signature
      (nameless_constant c (constant_types g.registry ts rs))) (λ s.
      with_ok (equal_arguments g rs s) (λ u.
      with_ok (relator_equality g c (listed (rights g.registry rs))) (linked u)))

  -- from |- f = g: |- f R1 .. Rn = g eq .. eq
  pub equal_arguments : Ground → Relations → NamelessSequent → NamelessOutcome
  equal_arguments g no_relations s = Ok s
  equal_arguments g (relation_and r rs) s =
      with_ok (equality_gives g r) (λ u. with_ok (applied_both s u) (equal_arguments g rs))
