-- The side condition that a relation has a property, as a derivation.
-- Source: Huffman and Kunčar, for the properties and their rules.
use Rattle.std.specs.Prelude.{ℕ, zero, suc, List, [], ◌∷◌, ◌++◌, if◌then◌else◌, Option, Ok, Err, codes}
use Rattle.std.specs.List.{zip}
use Rattle.lt_definitions.specs.Types.{Chars, found, TypeTree, row, types_names}
use Rattle.lt_definitions.specs.Typing.{with_ok}
use Rattle.lt_definitions.specs.Rules.{with_found}
use Rattle.lt_definitions.specs.declared.reason.Reason.TheVariants.{UnknownLabel, MissingLine, NotEquation}
use Rattle.lt_nameless.specs.Nameless.{Nameless, nameless_constant, nameless_application, nameless_abstraction, NamelessSequent}
use Rattle.lt_nameless.specs.NamelessRules.{NamelessOutcome, nameless_refl_gives, applied_both, detached}
use Rattle.lt_programs.specs.Programs.{statement_at, carried_back}
use Rattle.lt_transport_definitions.specs.Expressions.{right, is_equality}
use Rattle.lt_transport_definitions.specs.Relations.{Relation, relation_variable, equality, constructed, Relations, no_relations, relation_and, Property, Sides, PropertyRule, property_rule_for}
use Rattle.lt_relation_lines.specs.Grounds.{Ground, term_of, terms_of, constant_types, property_constant, law_gives}
use Rattle.lt_relation_lines.specs.Equalities.{equality_gives}

-- |- p eq, at a type
abbrev pub equality_property : Ground → Property → TypeTree → NamelessOutcome
equality_property g p t = law_gives g (p ++ codes "_eq") ((codes "a", t) ∷ [])

-- |- p R of an R that is equality throughout, by |- R = eq
abbrev pub equality_side : Ground → Property → Relation → NamelessOutcome
equality_side g p r =
    with_ok (equality_property g p (right g.registry r)) (λ s.
    with_ok (equality_gives g r) (λ e.
    with_ok (nameless_refl_gives g.signature (property_constant g.registry p r)) (λ c.
    with_ok (applied_both c e) (λ u. carried_back u s))))

-- the constant at the head of a term, by its type arguments
abbrev pub head_types : Nameless → List TypeTree
head_types (nameless_constant c ts) = ts
head_types (nameless_application f a) = head_types f
head_types _ = []

-- the conclusion behind universal quantifiers and premises
abbrev pub conclusion_of : Nameless → Nameless
conclusion_of (nameless_application (nameless_constant c ts) (nameless_abstraction ty b)) =
    conclusion_of b
conclusion_of (nameless_application (nameless_application (nameless_constant c []) p) q) =
    conclusion_of q
conclusion_of p = p

-- the type variables of the head of what a property is said of
abbrev pub head_names : Nameless → List Chars
head_names (nameless_application f h) = types_names (row (head_types h))
head_names _ = []

-- the type variables of a statement all A1 .. An. p1 Ai --> .. --> p (H A1 .. An), in the order of
-- the type arguments of H
abbrev pub property_names : Nameless → List Chars
property_names t = head_names (conclusion_of t)

-- from H |- p1 --> .. --> q: q, by what is given for each premise
abbrev pub detached_each : Sides → (ℕ → Property → NamelessOutcome) → NamelessSequent
    → NamelessOutcome
detached_each [] given s = Ok s
detached_each (x ∷ xs) given s =
    with_ok (given x.1 x.0) (λ u. with_ok (detached s u) (detached_each xs given))

-- a registered rule at an expression's types and arguments
abbrev pub rule_at : Ground → PropertyRule → List TypeTree → Relations → NamelessOutcome
rule_at g rule ts rs =
    with_found UnknownLabel (found rule.label g.named) (λ q.
    statement_at g.signature (zip (property_names q) (constant_types g.registry ts rs))
    (terms_of g.registry rs) q)

-- |- p (H R1 .. Rn) by a registered rule, by what is given for its premises
abbrev pub rule_side : Ground → PropertyRule → List TypeTree → Relations
    → (ℕ → Property → NamelessOutcome) → NamelessOutcome
rule_side g rule ts rs given =
    with_ok (rule_at g rule ts rs) (detached_each rule.premises given)

-- |- p R: by the law of p where R is equality throughout, else by the rule that is registered for p
-- and the constructor of R.
abbrev mutual
  pub side_gives : Ground → Relation → Property → NamelessOutcome
  side_gives g (relation_variable n t) p = Err NotEquation
  side_gives g (equality t) p = equality_property g p t
  side_gives g (constructed c ts rs) p =
      if is_equality g.registry (constructed c ts rs)
      then equality_side g p (constructed c ts rs)
      else with_found UnknownLabel (property_rule_for g.registry p c) (λ rule.
      rule_side g rule ts rs (side_at g rs))

  -- |- p Ri, of the argument with a number
  pub side_at : Ground → Relations → ℕ → Property → NamelessOutcome
  side_at g no_relations i p = Err MissingLine
  side_at g (relation_and r rs) zero p = side_gives g r p
  side_at g (relation_and r rs) (suc i) p = side_at g rs i p
