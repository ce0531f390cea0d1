-- Normal forms are expressions.
use Rattle.std.proofs.Common.{◌≡◌, List, [], Option, Some, None, refl, subst, sym, ap}
use Rattle.lt_definitions.specs.Types.{Chars, TypeTree}
use Rattle.lt_transport_definitions.specs.Relations.{Relation, relation_variable, equality, constructed, Relations, no_relations, relation_and, Parametrised, Registry, form_for, Kind, no_constructor, a_relator, a_correspondence, a_form, kind_of}
use Rattle.lt_transport_definitions.specs.Expressions.{right, arguments_of, normal_equalities, normal_constructed, normal, normals, MayHave, IsExpression, AreExpressions}
use Rattle.lt_transport_laws.specs.Statements.{IsRegistry}
use Rattle.lt_transport_laws.specs.ExpressionStatements.{HasArguments, IsFormed, AreFormed, AreFormsNamed, EqualitiesAreExpressions, NormalFormsAreExpressions}
use Rattle.lt_transport_laws.proofs.Equalities.{expression-equality, expressions-equalities}

may-have : (G : Registry) (k : Kind) (ts : List TypeTree) (rs : Relations) (form : Option Parametrised) → HasArguments k ts rs → form ≡ None
    → MayHave k form ts (normals G rs)
may-have G no_constructor ts rs form h e = h
may-have G (a_relator K) ts rs form h e = h
may-have G (a_correspondence d) ts rs form h e = (h.0, ap (normals G) h.1, e)
may-have G (a_form d) ts rs form h e = h

normal-at : (G : Registry) → IsRegistry G → AreFormsNamed G → (c : Chars) (ts : List TypeTree) (rs : Relations) → HasArguments (kind_of G c) ts rs
    → AreExpressions G (normals G rs) → (o : Option Parametrised) → form_for G c ≡ o → IsExpression G (normal_constructed G o c ts (normals G rs))
normal-at G ok named c ts rs h k None e = (may-have G (kind_of G c) ts rs (form_for G c) h e, k)
normal-at G ok named c ts rs h k (Some p) e =
    let f = named c p e in
    let us = arguments_of (right G (constructed c ts (normals G rs))) in
    (subst (λ (x : Kind). MayHave x (form_for G p.name) [] (normal_equalities G us)) (sym f.1) refl, expressions-equalities G ok us)

mutual
  expression-normal : (G : Registry) → IsRegistry G → AreFormsNamed G → (r : Relation) → IsFormed G r → IsExpression G (normal G r)
  expression-normal G ok named (relation_variable n t) h = absurd h
  expression-normal G ok named (equality t) h = expression-equality G ok t
  expression-normal G ok named (constructed c ts rs) h =
      normal-at G ok named c ts rs h.0 (expressions-normals G ok named rs h.1) (form_for G c) refl

  expressions-normals : (G : Registry) → IsRegistry G → AreFormsNamed G → (rs : Relations) → AreFormed G rs → AreExpressions G (normals G rs)
  expressions-normals G ok named no_relations h = tt
  expressions-normals G ok named (relation_and r rs) h =
      (expression-normal G ok named r h.0, expressions-normals G ok named rs h.1)

pub equalities-expressions : EqualitiesAreExpressions
equalities-expressions G t ok = expression-equality G ok t

pub normals-are-expressions : NormalFormsAreExpressions
normals-are-expressions G r ok named h = expression-normal G ok named r h
