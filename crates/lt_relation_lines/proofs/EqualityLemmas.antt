-- Expressions that are equality throughout equal equality.
use Rattle.std.proofs.Common.{◌≡◌, List, [], ◌∷◌, ◌++◌, map, length, Bool, true, false, Option, Some, None, Result, Ok, Err, refl, sym, ◌∙◌, ap, subst}
use Rattle.std.specs.Result.{result_unwrap_or}
use Rattle.std.proofs.lemmas.Bool.{and_parts}
use Rattle.lt_definitions.specs.Types.{Chars, TypeTree, type_constructor, TypeTrees, no_types, type_and, listed, row, bool, fun}
use Rattle.lt_definitions.specs.Terms.{constant}
use Rattle.lt_definitions.specs.Typing.{Signature, with_ok, type_fault, types_fault, constructor_fault, declared_arity}
use Rattle.lt_definitions.specs.Rules.{with_found, joined_type}
use Rattle.lt_definitions.specs.declared.reason.Reason.TheVariants.{TypeDiffers, MiddleDiffers}
use Rattle.lt_definitions.proofs.SameNames.{type-refl}
use Rattle.lt_definitions.proofs.TypingLemmas.{both-none, joined-fun}
use Rattle.lt_definitions.proofs.RuleLemmas.{holds-on}
use Rattle.lt_nameless.specs.Nameless.{Nameless, nameless, nameless_constant, nameless_application, NamelessSequent}
use Rattle.lt_nameless.specs.NamelessRules.{NamelessOutcome, nameless_equation, nameless_refl_gives, same_nameless, applied_both, linked}
use Rattle.lt_nameless.proofs.SameForms.{same-refl}
use Rattle.lt_programs.specs.Programs.{theorem}
use Rattle.lt_programs.specs.TypedTerms.{IsOfType}
use Rattle.lt_transport_definitions.specs.Notation.{WithType, ◌~◌, ◌·◌, applied, equality_at}
use Rattle.lt_transport_definitions.specs.Expressions.{right, rights, right_of, is_relator, is_equality, are_equalities, IsExpression, AreExpressions, MayHave}
use Rattle.lt_transport_definitions.specs.Relations.{Relation, relation_variable, equality, constructed, Relations, no_relations, relation_and, Registry, Kind, no_constructor, a_relator, a_correspondence, a_form, kind_of, form_for}
use Rattle.lt_transport_definitions.specs.RelationTerms.{sides_of_relation, forced_types, constructed_term, written, written_list, relation_term}
use Rattle.lt_relation_lines.specs.Grounds.{Ground, term_of, terms_of, constant_types}
use Rattle.lt_relation_lines.specs.Equalities.{relator_equality, equality_gives, equal_arguments}
use Rattle.lt_relation_lines.specs.Equated.{equal_at, applied_each, doubled, from_relations, over, IsGround}

-- ---- kinds

abbrev pub Related : Kind → Type 0
Related k = (K : Chars) × (k ≡ a_relator K)

pub relator-of : (k : Kind) → is_relator k ≡ true → Related k
relator-of no_constructor e = absurd (cc e)
relator-of (a_relator K) e = (K, refl)
relator-of (a_correspondence d) e = absurd (cc e)
relator-of (a_form d) e = absurd (cc e)

row-listed : (ts : TypeTrees) → row (listed ts) ≡ ts
row-listed no_types = refl
row-listed (type_and t ts) = ap (type_and t) (row-listed ts)

-- ---- terms

nameless-applied : (f : WithType) (ws : List WithType) → nameless [] (applied f ws).term ≡ applied_each (nameless [] f.term) (map (λ w. nameless [] w.term) ws)
nameless-applied f [] = refl
nameless-applied f (w ∷ ws) = nameless-applied (f · w) ws

written-terms : (G : Registry) (rs : Relations) → map (λ (w : WithType). nameless [] w.term) (written_list G [] rs) ≡ terms_of G rs
written-terms G no_relations = refl
written-terms G (relation_and r rs) = ap (λ ts. term_of G r ∷ ts) (written-terms G rs)

pub constructed-is : (G : Registry) (c : Chars) (ts : List TypeTree) (rs : Relations)
    → term_of G (constructed c ts rs) ≡ applied_each (nameless_constant c (constant_types G ts rs)) (terms_of G rs)
constructed-is G c ts rs =
    nameless-applied (record { term = constant c (constant_types G ts rs); ty = bool }) (written_list G [] rs) ∙ ap (applied_each (nameless_constant c (constant_types G ts rs))) (written-terms G rs)

-- ---- types of expressions that are equality throughout

-- a relation on a type has that type on both sides
sides-on : (w : WithType) (t : TypeTree) → w.ty ≡ t ~ t → sides_of_relation w ≡ (t, t)
sides-on w t e = ap (λ ty. sides_of_relation (record { term = w.term; ty = ty })) e

-- the types of relations, each on both sides
pub record OnTypes (G : Registry) (rs : Relations) : Type 0 where
  pub lefts : map (λ (w : WithType). (sides_of_relation w).0) (written_list G [] rs) ≡ listed (rights G rs)
  pub others : map (λ (w : WithType). (sides_of_relation w).1) (written_list G [] rs) ≡ listed (rights G rs)
  pub forced : forced_types (written_list G [] rs) ≡ doubled (listed (rights G rs))

mutual
  pub on-type : (G : Registry) (r : Relation) → is_equality G r ≡ true → (written G [] r).ty ≡ right G r ~ right G r
  on-type G (relation_variable n t) e = absurd (cc e)
  on-type G (equality t) e = refl
  on-type G (constructed c ts rs) e =
      let both = and_parts (is_relator (kind_of G c)) (are_equalities G rs) e in
      let k = relator-of (kind_of G c) both.0 in
      let on = on-types G rs both.1 in
      let T : TypeTree = type_constructor k.0 (rights G rs) in
      let by-kind : (written G [] (constructed c ts rs)).ty ≡ (constructed_term (a_relator k.0) c ts (written_list G [] rs)).ty = ap (λ q. (constructed_term q c ts (written_list G [] rs)).ty) k.1 in
      let named : right G (constructed c ts rs) ≡ T = ap (λ q. right_of q ts (rights G rs)) k.1 in
      by-kind
      ∙ (λ i. type_constructor k.0 (row (on.lefts i)) ~ type_constructor k.0 (row (on.others i)))
      ∙ (λ i. type_constructor k.0 (row-listed (rights G rs) i) ~ type_constructor k.0 (row-listed (rights G rs) i))
      ∙ (λ i. sym named i ~ sym named i)

  pub on-types : (G : Registry) (rs : Relations) → are_equalities G rs ≡ true → OnTypes G rs
  on-types G no_relations e = record { lefts = refl; others = refl; forced = refl }
  on-types G (relation_and r rs) e =
      let both = and_parts (is_equality G r) (are_equalities G rs) e in
      let one = sides-on (written G [] r) (right G r) (on-type G r both.0) in
      let more = on-types G rs both.1 in
      record {
        lefts = λ i. (one i).0 ∷ more.lefts i;
        others = λ i. (one i).1 ∷ more.others i;
        forced = λ i. (one i).0 ∷ (one i).1 ∷ more.forced i;
      }

-- ---- derivations

pub applied-equal : (s t : TypeTree) (f h a b : Nameless) → applied_both (theorem (nameless_equation (fun s t) f h)) (theorem (nameless_equation s a b))
    ≡ Ok (theorem (nameless_equation t (nameless_application f a) (nameless_application h b)))
applied-equal s t f h a b =
    ap (λ (o : Option TypeTree). with_found TypeDiffers o (λ ty. Ok (theorem (nameless_equation ty (nameless_application f a) (nameless_application h b))))) (joined-fun s t)

pub linked-equal : (t : TypeTree) (r s u : Nameless) → linked (theorem (nameless_equation t r s)) (theorem (nameless_equation t s u)) ≡ Ok (theorem (nameless_equation t r u))
linked-equal t r s u = holds-on (same_nameless s s) MiddleDiffers (Ok (theorem (nameless_equation t r u))) (same-refl s)

pub refl-equal : (sig : Signature) (t : Nameless) (ty : TypeTree) → IsOfType sig t ty → nameless_refl_gives sig t ≡ Ok (theorem (nameless_equation ty t t))
refl-equal sig t ty h = ap (λ o. Ok (theorem (nameless_equation (result_unwrap_or o bool) t t))) h

module _ (g : Ground) (h : IsGround g) where
  abbrev G : Registry
  G = g.registry

  abbrev Equal : Relation → Type 0
  Equal r = equality_gives g r ≡ Ok (theorem (nameless_equation (right G r ~ right G r) (term_of G r) (equal_at (right G r))))

  mutual
    pub equality-is : (r : Relation) → is_equality G r ≡ true → IsExpression G r → type_fault g.signature (right G r) ≡ None → Equal r
    equality-is (relation_variable n t) e x w = absurd (cc e)
    equality-is (equality t) e x w = refl-equal g.signature (equal_at t) (t ~ t) (h.equality t w)
    equality-is (constructed c ts rs) e x w =
        let both = and_parts (is_relator (kind_of G c)) (are_equalities G rs) e in
        let k = relator-of (kind_of G c) both.0 in
        let us = listed (rights G rs) in
        let T : TypeTree = over k.0 us in
        let named : right G (constructed c ts rs) ≡ T = ap (λ q. right_of q ts (rights G rs)) k.1 ∙ ap (type_constructor k.0) (sym (row-listed (rights G rs))) in
        let sound : type_fault g.signature T ≡ None = ap (type_fault g.signature) (sym named) ∙ w in
        let none : ts ≡ [] = subst (λ q. MayHave q (form_for G c) ts rs) k.1 x.0 in
        let head : constant_types G ts rs ≡ doubled us = (λ i. none i ++ (on-types G rs both.1).forced i) in
        let whole : term_of G (constructed c ts rs) ≡ applied_each (nameless_constant c (doubled us)) (terms_of G rs) =
        constructed-is G c ts rs ∙ ap (λ vs. applied_each (nameless_constant c vs) (terms_of G rs)) head in
        let con = nameless_constant c (doubled us) in
        ap (λ vs. with_ok (nameless_refl_gives g.signature (nameless_constant c vs)) (λ s. with_ok (equal_arguments g rs s) (λ u. with_ok (relator_equality g c us) (linked u)))) head
        ∙ ap (λ o. with_ok o (λ s. with_ok (equal_arguments g rs s) (λ u. with_ok (relator_equality g c us) (linked u))))
        (refl-equal g.signature con (from_relations us (T ~ T)) (h.typed c k.0 us k.1 sound))
        ∙ ap (λ o. with_ok o (λ u. with_ok (relator_equality g c us) (linked u)))
        (arguments-are rs both.1 x.1 (ap (types_fault g.signature) (sym (row-listed (rights G rs))) ∙ (both-none (constructor_fault k.0 (length (listed (row us))) (declared_arity g.signature k.0)) (types_fault g.signature (row us)) sound).1) (T ~ T) con con)
        ∙ ap (λ o. with_ok o (linked (theorem (nameless_equation (T ~ T) (applied_each con (terms_of G rs)) (applied_each con (map equal_at us)))))) (h.equal c k.0 us k.1 sound)
        ∙ linked-equal (T ~ T) (applied_each con (terms_of G rs)) (applied_each con (map equal_at us)) (equal_at T)
        ∙ (λ i. Ok (theorem (nameless_equation (sym named i ~ sym named i) (sym whole i) (equal_at (sym named i)))))

    pub arguments-are : (rs : Relations) → are_equalities G rs ≡ true → AreExpressions G rs → types_fault g.signature (rights G rs) ≡ None → (ty : TypeTree) (f k : Nameless)
        → equal_arguments g rs (theorem (nameless_equation (from_relations (listed (rights G rs)) ty) f k))
        ≡ Ok (theorem (nameless_equation ty (applied_each f (terms_of G rs)) (applied_each k (map equal_at (listed (rights G rs))))))
    arguments-are no_relations e x w ty f k = refl
    arguments-are (relation_and r rs) e x w ty f k =
        let both = and_parts (is_equality G r) (are_equalities G rs) e in
        let sound = both-none (type_fault g.signature (right G r)) (types_fault g.signature (rights G rs)) w in
        let t = right G r in
        let s = theorem (nameless_equation (fun (t ~ t) (from_relations (listed (rights G rs)) ty)) f k) in
        ap (λ o. with_ok o (λ u. with_ok (applied_both s u) (equal_arguments g rs))) (equality-is r both.0 x.0 sound.0)
        ∙ ap (λ o. with_ok o (equal_arguments g rs)) (applied-equal (t ~ t) (from_relations (listed (rights G rs)) ty) f k (term_of G r) (equal_at t))
        ∙ arguments-are rs both.1 x.1 sound.1 ty (nameless_application f (term_of G r)) (nameless_application k (equal_at t))
