-- Expressions equal their normal forms.
use Rattle.std.proofs.Common.{◌≡◌, List, [], ◌∷◌, ◌++◌, map, unwrap_or, None, Ok, refl, sym, ◌∙◌, ap}
use Rattle.lt_definitions.specs.Types.{Chars, TypeTree, row, fun}
use Rattle.lt_definitions.specs.Typing.{with_ok, type_fault}
use Rattle.lt_nameless.specs.Nameless.{Nameless, nameless_constant, nameless_application}
use Rattle.lt_nameless.specs.NamelessRules.{nameless_equation, nameless_refl_gives, applied_both, turned}
use Rattle.lt_programs.specs.Programs.{theorem}
use Rattle.lt_transport_definitions.specs.Notation.{WithType, ◌~◌}
use Rattle.lt_transport_definitions.specs.Patterns.{relation_sides}
use Rattle.lt_transport_definitions.specs.Expressions.{left, left_of, right, right_of, normal_equality, normal, normals, normal_constructed}
use Rattle.lt_transport_definitions.specs.Relations.{Relation, relation_variable, equality, constructed, Relations, no_relations, relation_and, Registry, kind_of, form_for}
use Rattle.lt_transport_definitions.specs.RelationTerms.{sides_of_relation, forced_types, written, written_list}
use Rattle.lt_transport_laws.specs.Statements.{IsRegistry}
use Rattle.lt_transport_laws.proofs.Equalities as types
use Rattle.lt_relation_lines.specs.Grounds.{Ground, term_of, terms_of, constant_types}
use Rattle.lt_relation_lines.specs.NormalLines.{normal_gives, normal_arguments}
use Rattle.lt_relation_lines.specs.Equated.{equal_at, applied_each, from_sides, IsGround, IsPlain, ArePlain}
use Rattle.lt_relation_lines.proofs.EqualityLemmas.{constructed-is, on-type, applied-equal, refl-equal, equality-is}

pub normal-equal : (g : Ground) → IsGround g → IsRegistry g.registry → (t : TypeTree) → type_fault g.signature t ≡ None
    → normal_gives g (equality t) ≡ Ok (theorem (nameless_equation (t ~ t) (equal_at t) (term_of g.registry (normal_equality g.registry t))))
normal-equal g h ok t w =
    let r = normal_equality g.registry t in
    let same : right g.registry r ≡ t = types.right-equality g.registry ok t in
    ap (λ o. with_ok o turned) (equality-is g h r (types.equality-is g.registry ok t) (types.expression-equality g.registry ok t) (ap (type_fault g.signature) same ∙ w))
    ∙ (λ i. Ok (theorem (nameless_equation (same i ~ same i) (equal_at (same i)) (term_of g.registry r))))

-- ---- the types of normal forms

-- two lists of relations have the same types, place by place
pub record SameSides (ws vs : List WithType) : Type 0 where
  pub lefts : map (λ (w : WithType). (sides_of_relation w).0) ws ≡ map (λ (w : WithType). (sides_of_relation w).0) vs
  pub others : map (λ (w : WithType). (sides_of_relation w).1) ws ≡ map (λ (w : WithType). (sides_of_relation w).1) vs
  pub forced : forced_types ws ≡ forced_types vs

same-sides : (w v : WithType) → w.ty ≡ v.ty → sides_of_relation w ≡ sides_of_relation v
same-sides w v e = ap (λ (ty : TypeTree). unwrap_or (relation_sides ty) (ty, ty)) e

module _ (g : Ground) (h : IsGround g) (ok : IsRegistry g.registry) where
  abbrev G : Registry
  G = g.registry

  abbrev plain_normal : Chars → List TypeTree → Relations → Relation
  plain_normal c ts rs = constructed c ts (normals G rs)

  normal-is : (c : Chars) (ts : List TypeTree) (rs : Relations) → form_for G c ≡ None → normal G (constructed c ts rs) ≡ plain_normal c ts rs
  normal-is c ts rs e = ap (λ o. normal_constructed G o c ts (normals G rs)) e

  mutual
    pub same-type : (r : Relation) → IsPlain g r → (written G [] (normal G r)).ty ≡ (written G [] r).ty
    same-type (relation_variable n t) x = absurd x
    same-type (equality t) x =
        on-type G (normal_equality G t) (types.equality-is G ok t) ∙ (λ i. types.right-equality G ok t i ~ types.right-equality G ok t i)
    same-type (constructed c ts rs) x =
        let same = same-types rs x.2 in
        ap (λ r. (written G [] r).ty) (normal-is c ts rs x.0)
        ∙ (λ i. left_of (kind_of G c) ts (row (same.lefts i)) ~ right_of (kind_of G c) ts (row (same.others i)))

    pub same-types : (rs : Relations) → ArePlain g rs → SameSides (written_list G [] (normals G rs)) (written_list G [] rs)
    same-types no_relations x = record { lefts = refl; others = refl; forced = refl }
    same-types (relation_and r rs) x =
        let one = same-sides (written G [] (normal G r)) (written G [] r) (same-type r x.0) in
        let more = same-types rs x.1 in
        record {
          lefts = λ i. (one i).0 ∷ more.lefts i;
          others = λ i. (one i).1 ∷ more.others i;
          forced = λ i. (one i).0 ∷ (one i).1 ∷ more.forced i;
        }

  mutual
    pub normal-are : (r : Relation) → IsPlain g r
        → normal_gives g r ≡ Ok (theorem (nameless_equation (left G r ~ right G r) (term_of G r) (term_of G (normal G r))))
    normal-are (relation_variable n t) x = absurd x
    normal-are (equality t) x = normal-equal g h ok t x
    normal-are (constructed c ts rs) x =
        let r : Relation = constructed c ts rs in
        let T : TypeTree = left G r ~ right G r in
        let con = nameless_constant c (constant_types G ts rs) in
        let made : term_of G (normal G r) ≡ applied_each con (terms_of G (normals G rs)) =
        ap (term_of G) (normal-is c ts rs x.0) ∙ constructed-is G c ts (normals G rs)
        ∙ ap (λ us. applied_each (nameless_constant c (ts ++ us)) (terms_of G (normals G rs))) (same-types rs x.2).forced in
        ap (λ o. with_ok o (normal_arguments g rs)) (refl-equal g.signature con (from_sides G rs T) x.1)
        ∙ arguments-normal rs x.2 T con con
        ∙ (λ i. Ok (theorem (nameless_equation T (sym (constructed-is G c ts rs) i) (sym made i))))

    pub arguments-normal : (rs : Relations) → ArePlain g rs → (ty : TypeTree) (f k : Nameless)
        → normal_arguments g rs (theorem (nameless_equation (from_sides G rs ty) f k))
        ≡ Ok (theorem (nameless_equation ty (applied_each f (terms_of G rs)) (applied_each k (terms_of G (normals G rs)))))
    arguments-normal no_relations x ty f k = refl
    arguments-normal (relation_and r rs) x ty f k =
        let t : TypeTree = left G r ~ right G r in
        let s = theorem (nameless_equation (fun t (from_sides G rs ty)) f k) in
        ap (λ o. with_ok o (λ u. with_ok (applied_both s u) (normal_arguments g rs))) (normal-are r x.0)
        ∙ ap (λ o. with_ok o (normal_arguments g rs)) (applied-equal t (from_sides G rs ty) f k (term_of G r) (term_of G (normal G r)))
        ∙ arguments-normal rs x.1 ty (nameless_application f (term_of G r)) (nameless_application k (term_of G (normal G r)))
