-- What the laws on normal forms of relation expressions say.
-- Source: this project's own.
use Rattle.std.specs.Prelude.{◌≡◌, List, [], Some, length}
use Rattle.lt_definitions.specs.Types.{Chars, TypeTree}
use Rattle.lt_transport_definitions.specs.Relations.{Relation, relation_variable, equality, constructed, Relations, no_relations, relation_and, Correspondence, Parametrised, Registry, form_for, Kind, no_constructor, a_relator, a_correspondence, a_form, kind_of}
use Rattle.lt_transport_definitions.specs.Expressions.{variables_of, normal_equality, normal, IsExpression}
use Rattle.lt_transport_laws.specs.Statements.{IsRegistry}

-- A registered constructor with as many arguments as it may have.
abbrev pub HasArguments : Kind → List TypeTree → Relations → Type 0
HasArguments no_constructor ts rs = ⊥
HasArguments (a_relator K) ts rs = ts ≡ []
HasArguments (a_correspondence d) ts rs =
    (length ts ≡ length (variables_of d)) × (rs ≡ no_relations)
HasArguments (a_form d) ts rs = ts ≡ []

-- An expression without variables, in normal form or not.
abbrev mutual
  pub IsFormed : Registry → Relation → Type 0
  IsFormed G (relation_variable n t) = ⊥
  IsFormed G (equality t) = Unit {0}
  IsFormed G (constructed c ts rs) = HasArguments (kind_of G c) ts rs × AreFormed G rs

  pub AreFormed : Registry → Relations → Type 0
  AreFormed G no_relations = Unit {0}
  AreFormed G (relation_and r rs) = IsFormed G r × AreFormed G rs

-- Each registered form is by its name the form of a correspondence, and nothing else.
abbrev pub AreFormsNamed : Registry → Type 0
AreFormsNamed G = (c : Chars) (p : Parametrised) → form_for G c ≡ Some p
    → (d : Correspondence) × (kind_of G p.name ≡ a_form d)

-- Equality at a type, in normal form, is an expression.
abbrev pub EqualitiesAreExpressions : Type 0
EqualitiesAreExpressions =
    (G : Registry) (t : TypeTree) → IsRegistry G → IsExpression G (normal_equality G t)

-- The normal form of an expression is one.
abbrev pub NormalFormsAreExpressions : Type 0
NormalFormsAreExpressions =
    (G : Registry) (r : Relation) → IsRegistry G → AreFormsNamed G → IsFormed G r
    → IsExpression G (normal G r)
