-- What the laws of relators say, for derivations over relation expressions.
-- Source: Huffman and Kunčar, for the laws.
use Rattle.std.specs.Prelude.{◌≡◌, ℕ, zero, suc, List, [], ◌∷◌, Bool, true, map, Some, None, Ok, codes}
use Rattle.lt_definitions.specs.Types.{Chars, TypeTree, type_constructor, bool, fun, row}
use Rattle.lt_definitions.specs.Typing.{type_fault}
use Rattle.lt_nameless.specs.Nameless.{Nameless, nameless_constant, nameless_application}
use Rattle.lt_nameless.specs.NamelessRules.{nameless_equation, nameless_implies}
use Rattle.lt_programs.specs.Programs.{theorem}
use Rattle.lt_programs.specs.TypedTerms.{IsOfType}
use Rattle.lt_transport_definitions.specs.Expressions.{left, right, IsExpression}
use Rattle.lt_transport_definitions.specs.Notation.{◌~◌}
use Rattle.lt_transport_definitions.specs.Relations.{Relation, relation_variable, equality, constructed, Relations, no_relations, relation_and, Property, Sides, PropertyRule, Registry, property_rule_for, form_for, Kind, a_relator, kind_of}
use Rattle.lt_relation_lines.specs.Grounds.{Ground, constant_types, has_property}
use Rattle.lt_relation_lines.specs.Equalities.{relator_equality}
use Rattle.lt_relation_lines.specs.SideLines.{equality_property, rule_at}

-- equality at a type
abbrev pub equal_at : TypeTree → Nameless
equal_at t = nameless_constant (codes "eq") (t ∷ [])

-- a term applied to terms, from the left
abbrev pub applied_each : Nameless → List Nameless → Nameless
applied_each f [] = f
applied_each f (x ∷ xs) = applied_each (nameless_application f x) xs

-- each type twice, as the type arguments of a relator over equalities
abbrev pub doubled : List TypeTree → List TypeTree
doubled [] = []
doubled (t ∷ ts) = t ∷ t ∷ doubled ts

-- t1~t1 -> .. -> tn~tn -> ty
abbrev pub from_relations : List TypeTree → TypeTree → TypeTree
from_relations [] ty = ty
from_relations (t ∷ ts) ty = fun (t ~ t) (from_relations ts ty)

abbrev pub over : Chars → List TypeTree → TypeTree
over K ts = type_constructor K (row ts)

-- Equality is a relation on each type. Each relator takes relations on types to one on the type over
-- them, and takes equalities to equality.
pub record IsGround (g : Ground) : Type 0 where
  pub equality : (t : TypeTree) → type_fault g.signature t ≡ None
      → IsOfType g.signature (equal_at t) (t ~ t)
  pub typed : (c K : Chars) (ts : List TypeTree) → kind_of g.registry c ≡ a_relator K
      → type_fault g.signature (over K ts) ≡ None
      → IsOfType g.signature (nameless_constant c (doubled ts))
      (from_relations ts (over K ts ~ over K ts))
  pub equal : (c K : Chars) (ts : List TypeTree) → kind_of g.registry c ≡ a_relator K
      → type_fault g.signature (over K ts) ≡ None
      → relator_equality g c ts ≡ Ok (theorem (nameless_equation (over K ts ~ over K ts)
      (applied_each (nameless_constant c (doubled ts)) (map equal_at ts)) (equal_at (over K ts))))

-- the property of the argument with a number
abbrev pub argument_property : Registry → Relations → ℕ → Property → Nameless
argument_property G no_relations i p = nameless_constant p []
argument_property G (relation_and r rs) zero p = has_property G p r
argument_property G (relation_and r rs) (suc i) p = argument_property G rs i p

-- the properties of arguments, each with -->, then a conclusion
abbrev pub premised : Registry → Relations → Sides → Nameless → Nameless
premised G rs [] q = q
premised G rs (x ∷ xs) q =
    nameless_implies (argument_property G rs x.1 x.0) (premised G rs xs q)

-- Each of these properties is wanted.
abbrev pub AreWanted : (Property → Bool) → Sides → Type 0
AreWanted wanted [] = Unit {0}
AreWanted wanted (x ∷ xs) = (wanted x.0 ≡ true) × AreWanted wanted xs

-- Each property that is wanted is one of relations, and holds of equality by its law. Each
-- registered rule says what it is registered for, and the properties of its premises are wanted.
pub record HasRules (g : Ground) (wanted : Property → Bool) : Type 0 where
  pub typed : (p : Property) (t : TypeTree) → wanted p ≡ true → type_fault g.signature t ≡ None
      → IsOfType g.signature (nameless_constant p (t ∷ t ∷ [])) (fun (t ~ t) bool)
  pub equal : (p : Property) (t : TypeTree) → wanted p ≡ true → type_fault g.signature t ≡ None
      → equality_property g p t
      ≡ Ok (theorem (nameless_application (nameless_constant p (t ∷ t ∷ [])) (equal_at t)))
  pub asked : (p : Property) (c : Chars) (rule : PropertyRule)
      → property_rule_for g.registry p c ≡ Some rule → AreWanted wanted rule.premises
  pub rule : (p : Property) (c : Chars) (rule : PropertyRule) (ts : List TypeTree) (rs : Relations)
      → property_rule_for g.registry p c ≡ Some rule
      → IsExpression g.registry (constructed c ts rs)
      → type_fault g.signature (right g.registry (constructed c ts rs)) ≡ None
      → rule_at g rule ts rs ≡ Ok (theorem (premised g.registry rs rule.premises
      (has_property g.registry p (constructed c ts rs))))

-- l1~r1 -> .. -> ln~rn -> ty, over the types of relations
abbrev pub from_sides : Registry → Relations → TypeTree → TypeTree
from_sides G no_relations ty = ty
from_sides G (relation_and r rs) ty = fun (left G r ~ right G r) (from_sides G rs ty)

-- An expression without variables, in which no correspondence has a parametrised form: equalities
-- are at types without a fault, and each constructor takes its arguments.
abbrev mutual
  pub IsPlain : Ground → Relation → Type 0
  IsPlain g (relation_variable n t) = ⊥
  IsPlain g (equality t) = type_fault g.signature t ≡ None
  IsPlain g (constructed c ts rs) =
      (form_for g.registry c ≡ None)
      × IsOfType g.signature (nameless_constant c (constant_types g.registry ts rs))
      (from_sides g.registry rs (left g.registry (constructed c ts rs)
      ~ right g.registry (constructed c ts rs))) × ArePlain g rs

  pub ArePlain : Ground → Relations → Type 0
  ArePlain g no_relations = Unit {0}
  ArePlain g (relation_and r rs) = IsPlain g r × ArePlain g rs
