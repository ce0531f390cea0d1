-- What derivations over relation expressions stand on, and the terms that they speak of.
-- Source: this project's own.
use Rattle.std.specs.Prelude.{List, [], ◌∷◌, ◌++◌, map, codes, Option}
use Rattle.lt_definitions.specs.Types.{Chars, found, TypeTree, TypeMap}
use Rattle.lt_definitions.specs.Typing.{Signature}
use Rattle.lt_definitions.specs.Rules.{with_found}
use Rattle.lt_definitions.specs.declared.reason.Reason.TheVariants.{UnknownLabel}
use Rattle.lt_nameless.specs.Nameless.{Nameless, nameless, nameless_constant, nameless_application}
use Rattle.lt_nameless.specs.NamelessRules.{NamelessOutcome}
use Rattle.lt_programs.specs.Programs.{named_at}
use Rattle.lt_transport_definitions.specs.Expressions.{left, right}
use Rattle.lt_transport_definitions.specs.Relations.{Relation, Relations, no_relations, relation_and, Property, Registry}
use Rattle.lt_transport_definitions.specs.RelationTerms.{relation_term, written_list, forced_types}

-- What is declared, the named statements, what is registered of relations, and the laws by their
-- names, each with the label of its statement.
pub record Ground : Type 0 where
  pub signature : Signature
  pub named : List (Chars × Nameless)
  pub registry : Registry
  pub laws : List (Chars × Chars)

-- the term of an expression
abbrev pub term_of : Registry → Relation → Nameless
term_of G r = nameless [] (relation_term G r)

abbrev pub terms_of : Registry → Relations → List Nameless
terms_of G no_relations = []
terms_of G (relation_and r rs) = term_of G r ∷ terms_of G rs

-- the type arguments of a constructor's constant: those that it has, or those that its relation
-- arguments force
abbrev pub constant_types : Registry → List TypeTree → Relations → List TypeTree
constant_types G ts rs = ts ++ forced_types (written_list G [] rs)

-- the property of an expression
abbrev pub property_constant : Registry → Property → Relation → Nameless
property_constant G p r = nameless_constant p (left G r ∷ right G r ∷ [])

abbrev pub has_property : Registry → Property → Relation → Nameless
has_property G p r = nameless_application (property_constant G p r) (term_of G r)

-- a registered law at types
abbrev pub law_gives : Ground → Chars → TypeMap → NamelessOutcome
law_gives g w m =
    with_found UnknownLabel (found w g.laws) (λ l. named_at g.signature g.named l m [])
