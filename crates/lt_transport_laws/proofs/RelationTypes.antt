-- The terms of expressions have their types.
use Rattle.std.specs.Prelude.{◌≡◌, List, [], ◌∷◌, ◌++◌, Some, None, codes, map, length, unwrap_or}
use Rattle.std.specs.List.{zip}
use Rattle.std.proofs.Common.{refl, sym, ap, ◌∙◌, subst, arith}
use Rattle.lt_definitions.specs.Types.{Chars, found, TypeTree, type_variable, type_constructor, TypeTrees, no_types, type_and, bool, fun, listed, row}
use Rattle.lt_definitions.specs.Terms.{TermTree, constant}
use Rattle.lt_definitions.specs.Typing.{Signature, constructor_fault, type_fault, types_fault, declared_arity, HasType}
use Rattle.lt_definitions.proofs.TypingLemmas.{both-none, none-both}
use Rattle.lt_nameless.proofs.StatementTypes.{sound-fun, typed-sound}
use Rattle.lt_transport_definitions.specs.Notation.{WithType, ◌~◌, applied}
use Rattle.lt_transport_definitions.specs.Patterns.{relation_sides}
use Rattle.lt_transport_definitions.specs.Relations.{Relation, relation_variable, equality, constructed, Relations, no_relations, relation_and, Registry, form_for, Kind, no_constructor, a_relator, a_correspondence, a_form, kind_of}
use Rattle.lt_transport_definitions.specs.Expressions.{left_of, left, lefts, right_of, right, rights, MayHave, IsExpression, AreExpressions}
use Rattle.lt_transport_definitions.specs.RelationTerms.{sides_of_relation, forced_types, written, written_list, relation_term}
use Rattle.lt_transport_definitions.specs.RelatorForm.{functions_from}
use Rattle.lt_transport_laws.specs.Statements.{IsRegistry}
use Rattle.lt_transport_laws.specs.ImageStatements.{interleaved, relations_between, IsSoundRegistry}

row-listed : (ts : TypeTrees) → row (listed ts) ≡ ts
row-listed no_types = refl
row-listed (type_and t ts) = ap (type_and t) (row-listed ts)

-- the sides of a relation's type
sides-at : (w : WithType) (l r : TypeTree) → w.ty ≡ l ~ r → sides_of_relation w ≡ (l, r)
sides-at w l r e = ap (λ (ty : TypeTree). unwrap_or (relation_sides ty) (ty, ty)) e

mutual
  written-type : (G : Registry) (r : Relation) → IsExpression G r → (written G [] r).ty ≡ left G r ~ right G r
  written-type G (relation_variable n t) h = absurd h
  written-type G (equality t) h = refl
  written-type G (constructed c ts rs) h =
      let x : row (map (λ r. (sides_of_relation r).0) (written_list G [] rs)) ≡ lefts G rs = ap row (written-lefts G rs h.1) ∙ row-listed (lefts G rs) in
      let y : row (map (λ r. (sides_of_relation r).1) (written_list G [] rs)) ≡ rights G rs = ap row (written-rights G rs h.1) ∙ row-listed (rights G rs) in
      (λ i. left_of (kind_of G c) ts (x i) ~ right_of (kind_of G c) ts (y i))

  written-lefts : (G : Registry) (rs : Relations) → AreExpressions G rs
      → map (λ r. (sides_of_relation r).0) (written_list G [] rs) ≡ listed (lefts G rs)
  written-lefts G no_relations h = refl
  written-lefts G (relation_and r rs) h =
      let e = sides-at (written G [] r) (left G r) (right G r) (written-type G r h.0) in
      let f = written-lefts G rs h.1 in
      (λ i. (e i).0 ∷ f i)

  written-rights : (G : Registry) (rs : Relations) → AreExpressions G rs
      → map (λ r. (sides_of_relation r).1) (written_list G [] rs) ≡ listed (rights G rs)
  written-rights G no_relations h = refl
  written-rights G (relation_and r rs) h =
      let e = sides-at (written G [] r) (left G r) (right G r) (written-type G r h.0) in
      let f = written-rights G rs h.1 in
      (λ i. (e i).1 ∷ f i)

written-forced : (G : Registry) (rs : Relations) → AreExpressions G rs
    → forced_types (written_list G [] rs) ≡ interleaved (listed (lefts G rs)) (listed (rights G rs))
written-forced G no_relations h = refl
written-forced G (relation_and r rs) h =
    let e = sides-at (written G [] r) (left G r) (right G r) (written-type G r h.0) in
    let f = written-forced G rs h.1 in
    (λ i. (e i).0 ∷ (e i).1 ∷ f i)

-- arguments of these relation types
abbrev AreRelated : Signature → List WithType → List (TypeTree × TypeTree) → Type 0
AreRelated sig [] [] = Unit {0}
AreRelated sig (w ∷ ws) (p ∷ ps) = HasType sig [] w.term (p.0 ~ p.1) × AreRelated sig ws ps
AreRelated sig _ _ = ⊥

applied-typed : (sig : Signature) (f : WithType) (ws : List WithType) (ps : List (TypeTree × TypeTree)) (ty : TypeTree)
    → HasType sig [] f.term (functions_from (map (λ p. p.0 ~ p.1) ps) ty) → AreRelated sig ws ps → HasType sig [] (applied f ws).term ty
applied-typed sig f [] [] ty h k = h
applied-typed sig f [] (p ∷ ps) ty h k = absurd k
applied-typed sig f (w ∷ ws) [] ty h k = absurd k
applied-typed sig f (w ∷ ws) (p ∷ ps) ty h k = applied-typed sig _ ws ps ty (p.0 ~ p.1, h, k.0) k.1

same-length : (G : Registry) (rs : Relations) → length (listed (lefts G rs)) ≡ length (listed (rights G rs))
same-length G no_relations = refl
same-length G (relation_and r rs) = let e = same-length G rs in omega arith

nil-on : {A : Type 0} (xs : List A) → xs ++ [] ≡ xs
nil-on [] = refl
nil-on (x ∷ xs) = ap (λ ys. x ∷ ys) (nil-on xs)

no-pair : (sig : Signature) (c : Chars) (u : TypeTree) → found {A = TypeTree} c [] ≡ Some u → type_fault sig u ≡ None
no-pair sig c u f = absurd (cc)

-- the left type of a typed relation has no fault
pub left-sound : (G : Registry) (sig : Signature) → IsSoundRegistry G sig → (t : TermTree) (l r : TypeTree) → HasType sig [] t (l ~ r) → type_fault sig l ≡ None
left-sound G sig s t l r h =
    (sound-fun sig l (fun r bool) (typed-sound sig s.signature.built s.signature.consts [] (no-pair sig) t (l ~ r) h)).0

equality-typed : (sig : Signature) (G : Registry) → IsSoundRegistry G sig → (t : TypeTree) → type_fault sig t ≡ None → HasType sig [] (constant (codes "eq") (t ∷ [])) (t ~ t)
equality-typed sig G s t e = (
  fun (type_variable (codes "a")) (fun (type_variable (codes "a")) bool),
  s.signature.built.consts (codes "eq") _ refl,
  refl,
  none-both (type_fault sig t) None e refl,
  refl,
)

-- a constructor's term, by its kind
by-kind : (G : Registry) (sig : Signature) → IsRegistry G → IsSoundRegistry G sig → (c : Chars) (ts : List TypeTree) (rs : Relations) → AreExpressions G rs
    → (k : Kind) → kind_of G c ≡ k → MayHave k (form_for G c) ts rs → type_fault sig (right_of k ts (rights G rs)) ≡ None
    → (types_fault sig (rights G rs) ≡ None → types_fault sig (lefts G rs) ≡ None)
    → (types_fault sig (rights G rs) ≡ None → AreRelated sig (written_list G [] rs) (zip (listed (lefts G rs)) (listed (rights G rs))))
    → HasType sig [] (applied (record { term = constant c (ts ++ forced_types (written_list G [] rs)); ty = bool }) (written_list G [] rs)).term
    (left_of k ts (lefts G rs) ~ right_of k ts (rights G rs))
by-kind G sig ok s c ts rs x no_constructor e m f a b = absurd m
by-kind G sig ok s c ts rs x (a_relator K) e m f a b =
    let h = both-none (constructor_fault K (length (listed (rights G rs))) (declared_arity sig K)) (types_fault sig (rights G rs)) f in
    let g : type_fault sig (type_constructor K (lefts G rs)) ≡ None =
    none-both (constructor_fault K (length (listed (lefts G rs))) (declared_arity sig K)) (types_fault sig (lefts G rs))
    (ap (λ n. constructor_fault K n (declared_arity sig K)) (same-length G rs) ∙ h.0) (a h.1) in
    let args : ts ++ forced_types (written_list G [] rs) ≡ interleaved (listed (lefts G rs)) (listed (rights G rs)) =
    ap (λ us. us ++ forced_types (written_list G [] rs)) m ∙ written-forced G rs x in
    applied-typed sig _ (written_list G [] rs) (zip (listed (lefts G rs)) (listed (rights G rs))) _
    (subst (λ us. HasType sig [] (constant c us) (functions_from (relations_between (lefts G rs) (rights G rs))
    (type_constructor K (lefts G rs) ~ type_constructor K (rights G rs)))) (sym args)
    (s.relators K c (lefts G rs) (rights G rs) (ok.relators K c e) g f)) (b h.1)
by-kind G sig ok s c ts rs x (a_correspondence d) e m f a b =
    subst (λ us. HasType sig [] (applied (record { term = constant c (ts ++ forced_types (written_list G [] us)); ty = bool }) (written_list G [] us)).term
    (left_of (a_correspondence d) ts (lefts G us) ~ right_of (a_correspondence d) ts (rights G us))) (sym m.1)
    (subst (λ us. HasType sig [] (constant c us) (left_of (a_correspondence d) ts no_types ~ right_of (a_correspondence d) ts no_types)) (sym (nil-on ts))
    (s.correspondences c d ts e m.0 f))
by-kind G sig ok s c ts rs x (a_form d) e m f a b =
    let h = both-none (constructor_fault d.con (length (listed (rights G rs))) (declared_arity sig d.con)) (types_fault sig (rights G rs)) f in
    let args : ts ++ forced_types (written_list G [] rs) ≡ interleaved (listed (lefts G rs)) (listed (rights G rs)) =
    ap (λ us. us ++ forced_types (written_list G [] rs)) m ∙ written-forced G rs x in
    applied-typed sig _ (written_list G [] rs) (zip (listed (lefts G rs)) (listed (rights G rs))) _
    (subst (λ us. HasType sig [] (constant c us) (functions_from (relations_between (lefts G rs) (rights G rs))
    (left_of (a_form d) ts (lefts G rs) ~ type_constructor d.con (rights G rs)))) (sym args)
    (s.forms c d (lefts G rs) (rights G rs) e (a h.1) f (same-length G rs))) (b h.1)

mutual
  pub relation-typed : (G : Registry) (sig : Signature) → IsRegistry G → IsSoundRegistry G sig → (r : Relation) → IsExpression G r
      → type_fault sig (right G r) ≡ None → HasType sig [] (relation_term G r) (left G r ~ right G r)
  relation-typed G sig ok s (relation_variable n t) x f = absurd x
  relation-typed G sig ok s (equality t) x f = equality-typed sig G s t f
  relation-typed G sig ok s (constructed c ts rs) x f =
      by-kind G sig ok s c ts rs x.1 (kind_of G c) refl x.0 f (lefts-sound G sig ok s rs x.1) (relations-typed G sig ok s rs x.1)

  lefts-sound : (G : Registry) (sig : Signature) → IsRegistry G → IsSoundRegistry G sig → (rs : Relations) → AreExpressions G rs
      → types_fault sig (rights G rs) ≡ None → types_fault sig (lefts G rs) ≡ None
  lefts-sound G sig ok s no_relations x f = refl
  lefts-sound G sig ok s (relation_and r rs) x f =
      let h = both-none (type_fault sig (right G r)) (types_fault sig (rights G rs)) f in
      none-both (type_fault sig (left G r)) (types_fault sig (lefts G rs))
      (left-sound G sig s (relation_term G r) (left G r) (right G r) (relation-typed G sig ok s r x.0 h.0)) (lefts-sound G sig ok s rs x.1 h.1)

  relations-typed : (G : Registry) (sig : Signature) → IsRegistry G → IsSoundRegistry G sig → (rs : Relations) → AreExpressions G rs
      → types_fault sig (rights G rs) ≡ None → AreRelated sig (written_list G [] rs) (zip (listed (lefts G rs)) (listed (rights G rs)))
  relations-typed G sig ok s no_relations x f = tt
  relations-typed G sig ok s (relation_and r rs) x f =
      let h = both-none (type_fault sig (right G r)) (types_fault sig (rights G rs)) f in
      (relation-typed G sig ok s r x.0 h.0, relations-typed G sig ok s rs x.1 h.1)
