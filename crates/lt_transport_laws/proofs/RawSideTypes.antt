-- The raw side of a rule, with relations put for its variables, has its type.
use Rattle.std.specs.Prelude.{◌≡◌, ◌⊎◌, suc, List, [], ◌∷◌, Bool, true, false, ◌&&◌, if◌then◌else◌, Option, Some, None, codes, map, length, unwrap_or, option_map}
use Rattle.std.proofs.Common.{refl, sym, ap, ◌∙◌, subst, inl, inr, arith}
use Rattle.std.proofs.lemmas.Bool.{and_parts}
use Rattle.std.proofs.lemmas.List.{length-map}
use Rattle.lt_definitions.specs.Types.{Chars, same_name, found, TypeTree, type_variable, type_constructor, TypeTrees, no_types, type_and, bool, fun, listed, row, TypeMap, type_instance, types_instance, type_names, type_variables}
use Rattle.lt_definitions.specs.Terms.{TermTree, free_variable, bound_name, constant, application, abstraction}
use Rattle.lt_definitions.specs.Typing.{Signature, constructor_fault, type_fault, types_fault, at_types, HasType}
use Rattle.lt_definitions.proofs.SameNames.{bool_cases, name-true}
use Rattle.lt_definitions.proofs.TypingLemmas.{both-none, none-both}
use Rattle.lt_nameless.specs.Booleans.{IsSoundSignature}
use Rattle.lt_nameless.proofs.BindingLemmas.{if-true, if-false}
use Rattle.lt_nameless.proofs.StatementTypes.{bool-sound, more-binders}
use Rattle.lt_nameless.proofs.Substitutions.{joined-has}
use Rattle.lt_transport_definitions.specs.Notation.{◌⇒◌, ◌~◌}
use Rattle.lt_transport_definitions.specs.RelationTerms.{Meaning, domain_at, with_relations}
use Rattle.lt_transport_laws.specs.ImageStatements.{HasOnly}
use Rattle.lt_transport_laws.proofs.Twice.{twice}

-- each type that a map gives has no fault
abbrev pub IsSoundMap : Signature → TypeMap → Type 0
IsSoundMap sig m = (a : Chars) → type_fault sig (unwrap_or (found a m) (type_variable a)) ≡ None

same_count : (m : TypeMap) (ts : TypeTrees) → length (listed (types_instance m ts)) ≡ length (listed ts)
same_count m no_types = refl
same_count m (type_and t ts) = ap suc (same_count m ts)

mutual
  pub sound-instance : (sig : Signature) (m : TypeMap) → IsSoundMap sig m → (t : TypeTree) → type_fault sig t ≡ None → type_fault sig (type_instance m t) ≡ None
  sound-instance sig m s (type_variable a) e = s a
  sound-instance sig m s (type_constructor c ts) e =
      let k = both-none (constructor_fault c (length (listed ts)) (found c sig.types)) (types_fault sig ts) e in
      none-both (constructor_fault c (length (listed (types_instance m ts))) (found c sig.types)) (types_fault sig (types_instance m ts))
      (ap (λ n. constructor_fault c n (found c sig.types)) (same_count m ts) ∙ k.0) (sound-instances sig m s ts k.1)

  pub sound-instances : (sig : Signature) (m : TypeMap) → IsSoundMap sig m → (ts : TypeTrees) → types_fault sig ts ≡ None → types_fault sig (types_instance m ts) ≡ None
  sound-instances sig m s no_types e = refl
  sound-instances sig m s (type_and t ts) e =
      let k = both-none (type_fault sig t) (types_fault sig ts) e in
      none-both (type_fault sig (type_instance m t)) (types_fault sig (types_instance m ts)) (sound-instance sig m s t k.0) (sound-instances sig m s ts k.1)

row-instances : (m : TypeMap) (ts : List TypeTree) → row (map (type_instance m) ts) ≡ types_instance m (row ts)
row-instances m [] = refl
row-instances m (t ∷ ts) = ap (type_and (type_instance m t)) (row-instances m ts)

-- binders with types put for type variables
abbrev binders_at : TypeMap → List (Chars × TypeTree) → List (Chars × TypeTree)
binders_at m [] = []
binders_at m (p ∷ env) = (p.0, type_instance m p.1) ∷ binders_at m env

found-at : (m : TypeMap) (env : List (Chars × TypeTree)) (x : Chars) (ty : TypeTree) → found x env ≡ Some ty → found x (binders_at m env) ≡ Some (type_instance m ty)
found-at m [] x ty e = absurd (cc)
found-at m (p ∷ env) x ty e = elim (bool_cases (same_name x p.0)) [
  | inl s ↦
      let k : ◌≡◌ {A = Option TypeTree} (Some p.1) (Some ty) = sym (if-true (same_name x p.0) (Some p.1) (found x env) s) ∙ e in
      let l : p.1 ≡ ty = cc in
      if-true (same_name x p.0) (Some (type_instance m p.1)) (found x (binders_at m env)) s ∙ ap (λ t. Some (type_instance m t)) l
  | inr s ↦ if-false (same_name x p.0) (Some (type_instance m p.1)) (found x (binders_at m env)) s
      ∙ found-at m env x ty (sym (if-false (same_name x p.0) (Some p.1) (found x env) s) ∙ e)
]

-- a meaning for a variable of a relation type
pub record IsMeaningOf (sig : Signature) (counts : Bool) (m : TypeMap) (u : TypeTree) (y : Meaning) : Type 0 where
  pub from : TypeTree
  pub to : TypeTree
  pub between : u ≡ from ~ to
  pub relation : HasType sig [] y.relation (type_instance m u)
  pub domain : counts ≡ true → HasType sig [] y.domain (type_instance m from ⇒ bool)

-- one for each variable
abbrev pub AreMeaningsOf : Signature → Bool → TypeMap → List (Chars × TypeTree) → List (Chars × Meaning) → Type 0
AreMeaningsOf sig counts m [] [] = Unit {0}
AreMeaningsOf sig counts m (v ∷ vs) (y ∷ ys) = (v.0 ≡ y.0) × IsMeaningOf sig counts m v.1 y.1 × AreMeaningsOf sig counts m vs ys
AreMeaningsOf sig counts m _ _ = ⊥

found-meaning : (sig : Signature) (counts : Bool) (m : TypeMap) (vs : List (Chars × TypeTree)) (ys : List (Chars × Meaning)) → AreMeaningsOf sig counts m vs ys
    → (x : Chars) (u : TypeTree) → found x vs ≡ Some u → (y : Meaning) × (found x ys ≡ Some y) × IsMeaningOf sig counts m u y
found-meaning sig counts m [] [] h x u e = absurd (cc)
found-meaning sig counts m [] (y ∷ ys) h x u e = absurd h
found-meaning sig counts m (v ∷ vs) [] h x u e = absurd h
found-meaning sig counts m (v ∷ vs) (y ∷ ys) h x u e = elim (bool_cases (same_name x v.0)) [
  | inl s ↦
      let k : ◌≡◌ {A = Option TypeTree} (Some v.1) (Some u) = sym (if-true (same_name x v.0) (Some v.1) (found x vs) s) ∙ e in
      let l : v.1 ≡ u = cc in
      (y.1, if-true (same_name x y.0) (Some y.1) (found x ys) (ap (same_name x) (sym h.0) ∙ s), subst (λ (t : TypeTree). IsMeaningOf sig counts m t y.1) l h.1)
  | inr s ↦
      let f = found-meaning sig counts m vs ys h.2 x u (sym (if-false (same_name x v.0) (Some v.1) (found x vs) s) ∙ e) in
      (f.0, if-false (same_name x y.0) (Some y.1) (found x ys) (ap (same_name x) (sym h.0) ∙ s) ∙ f.1, f.2)
]

-- what Domainp's type tells
abbrev DomainpIsTyped : Signature → Bool → Type 0
DomainpIsTyped sig counts = counts ≡ true → (l r : TypeTree) → type_fault sig l ≡ None → type_fault sig r ≡ None
    → HasType sig [] (constant (codes "Domainp") (l ∷ r ∷ [])) ((l ~ r) ⇒ l ⇒ bool)

two-types : (sig : Signature) (ts : List TypeTree) → length ts ≡ 2 → types_fault sig (row ts) ≡ None
    → (l : TypeTree) × (r : TypeTree) × (ts ≡ l ∷ r ∷ []) × (type_fault sig l ≡ None) × (type_fault sig r ≡ None)
two-types sig [] e f = absurd (omega arith)
two-types sig (l ∷ []) e f = absurd (omega arith)
two-types sig (l ∷ r ∷ t ∷ ts) e f = absurd (omega arith)
two-types sig (l ∷ r ∷ []) e f =
    let h = both-none (type_fault sig l) (types_fault sig (row (r ∷ []))) f in
    let k = both-none (type_fault sig r) None h.1 in (l, r, refl, h.0, k.0)

-- a constant has one type at type arguments
one-type : (sig : Signature) (env : List (Chars × TypeTree)) (c : Chars) (ts : List TypeTree) (t u : TypeTree) → HasType sig env (constant c ts) t
    → HasType sig [] (constant c ts) u → t ≡ u
one-type sig env c ts t u h k =
    let e : ◌≡◌ {A = Option TypeTree} (Some h.0) (Some k.0) = sym h.1 ∙ k.1 in
    let d : h.0 ≡ k.0 = cc in
    sym h.4 ∙ ap (λ x. at_types x ts) d ∙ k.4

domainp-type : (sig : Signature) (counts : Bool) → IsSoundSignature sig → DomainpIsTyped sig counts → counts ≡ true → (env : List (Chars × TypeTree)) (ts : List TypeTree) (ty : TypeTree)
    → HasType sig env (constant (codes "Domainp") ts) ty → (l : TypeTree) × (r : TypeTree) × (ty ≡ (l ~ r) ⇒ l ⇒ bool)
domainp-type sig counts s p c env ts ty h =
    let b = bool-sound sig s.built in
    let k = p c bool bool b b in
    let e : ◌≡◌ {A = Option TypeTree} (Some h.0) (Some k.0) = sym h.1 ∙ k.1 in
    let d : h.0 ≡ k.0 = cc in
    let n : length ts ≡ 2 = h.2 ∙ ap (λ x. length (type_variables x)) d ∙ sym k.2 in
    let w = two-types sig ts n h.3 in
    let g : HasType sig env (constant (codes "Domainp") (w.0 ∷ w.1 ∷ [])) ty = subst (λ us. HasType sig env (constant (codes "Domainp") us) ty) w.2 h in
    (w.0, w.1, one-type sig env (codes "Domainp") (w.0 ∷ w.1 ∷ []) ty ((w.0 ~ w.1) ⇒ w.0 ⇒ bool) g (p c w.0 w.1 w.3 w.4))

-- where a domain is put, Domainp is applied to a relation variable
if-some : {A : Type 0} (b : Bool) (o : Option A) (x : A) → (if b then o else None) ≡ Some x → (b ≡ true) × (o ≡ Some x)
if-some true o x e = (refl, e)
if-some false o x e = absurd (cc)

domain-shape : (counts : Bool) (ys : List (Chars × Meaning)) (f a d : TermTree) → domain_at counts ys f a ≡ Some d
    → (ts : List TypeTree) × (x : Chars) × (u : TypeTree) × (f ≡ constant (codes "Domainp") ts) × (a ≡ free_variable x u)
    × (counts ≡ true) × (option_map (λ y. y.domain) (found x ys) ≡ Some d)
domain-shape counts ys (constant c ts) (free_variable x u) d e =
    let h = if-some (counts && same_name c (codes "Domainp")) (option_map (λ y. y.domain) (found x ys)) d e in
    let k = and_parts counts (same_name c (codes "Domainp")) h.0 in
    (ts, x, u, ap (λ n. constant n ts) (name-true c (codes "Domainp") k.1), refl, k.0, h.1)
domain-shape counts ys (constant c ts) (bound_name x) d e = absurd (cc)
domain-shape counts ys (constant c ts) (constant k us) d e = absurd (cc)
domain-shape counts ys (constant c ts) (application g b) d e = absurd (cc)
domain-shape counts ys (constant c ts) (abstraction x ty b) d e = absurd (cc)
domain-shape counts ys (free_variable y u) a d e = absurd (cc)
domain-shape counts ys (bound_name y) a d e = absurd (cc)
domain-shape counts ys (application g b) a d e = absurd (cc)
domain-shape counts ys (abstraction x ty b) a d e = absurd (cc)

map-some : {A B : Type 0} (f : A → B) (o : Option A) (x : A) (z : B) → o ≡ Some x → option_map f o ≡ Some z → f x ≡ z
map-some f (Some y) x z e h = let p : y ≡ x = cc in let q : f y ≡ z = cc in ap f (sym p) ∙ q
map-some f None x z e h = absurd (cc)

optional : {A : Type 0} (o : Option A) → ((x : A) × (o ≡ Some x)) ⊎ (o ≡ None)
optional (Some x) = inl (x, refl)
optional None = inr refl

-- the domain that is put has its type
domain-typed : (sig : Signature) (counts : Bool) (m : TypeMap) (vs : List (Chars × TypeTree)) (ys : List (Chars × Meaning)) → IsSoundSignature sig
    → DomainpIsTyped sig counts → AreMeaningsOf sig counts m vs ys → (env : List (Chars × TypeTree)) (f a d : TermTree) (ty : TypeTree)
    → domain_at counts ys f a ≡ Some d → HasOnly vs a → HasType sig env (application f a) ty → HasType sig [] d (type_instance m ty)
domain-typed sig counts m vs ys s p h env f a d ty e o t =
    let k = domain-shape counts ys f a d e in
    let u : found k.1 vs ≡ Some k.2 = subst (HasOnly vs) k.4 o in
    let y = found-meaning sig counts m vs ys h k.1 k.2 u in
    let g : HasType sig env (constant (codes "Domainp") k.0) (fun t.0 ty) = subst (λ (x : TermTree). HasType sig env x (fun t.0 ty)) k.3 t.1 in
    let b : HasType sig env (free_variable k.1 k.2) t.0 = subst (λ (x : TermTree). HasType sig env x t.0) k.4 t.2 in
    let w = domainp-type sig counts s p k.5 env k.0 (fun t.0 ty) g in
    let from : t.0 ≡ w.0 ~ w.1 = domain-of (w.0 ~ w.1) t.0 ty (w.0 ⇒ bool) w.2 in
    let to : ty ≡ w.0 ⇒ bool = result-of (w.0 ~ w.1) t.0 ty (w.0 ⇒ bool) w.2 in
    let same : y.2.from ~ y.2.to ≡ w.0 ~ w.1 = sym y.2.between ∙ b.1 ∙ from in
    let l : y.2.from ≡ w.0 = left-of y.2.from y.2.to w.0 w.1 same in
    subst (λ (x : TermTree). HasType sig [] x (type_instance m ty)) (map-some (λ (z : Meaning). z.domain) (found k.1 ys) y.0 d y.1 k.6)
    (subst (λ (x : TypeTree). HasType sig [] y.0.domain x) (ap (λ x. type_instance m x ⇒ bool) l ∙ ap (type_instance m) (sym to)) (y.2.domain k.5))
  where
    domain-of : (s t u v : TypeTree) → fun t u ≡ fun s v → t ≡ s
    domain-of s t u v e = cc

    result-of : (s t u v : TypeTree) → fun t u ≡ fun s v → u ≡ v
    result-of s t u v e = cc

    left-of : (a b c d : TypeTree) → a ~ b ≡ c ~ d → a ≡ c
    left-of a b c d e = cc

-- A typed term stays typed where meanings are put for its relation variables.
pub with-typed : (sig : Signature) (counts : Bool) (m : TypeMap) (vs : List (Chars × TypeTree)) (ys : List (Chars × Meaning)) → IsSoundSignature sig
    → IsSoundMap sig m → DomainpIsTyped sig counts → AreMeaningsOf sig counts m vs ys → (env : List (Chars × TypeTree)) (t : TermTree) (ty : TypeTree)
    → HasOnly vs t → HasType sig env t ty → HasType sig (binders_at m env) (with_relations counts m ys t) (type_instance m ty)
with-typed sig counts m vs ys s n p h env (free_variable x u) ty o t =
    let y = found-meaning sig counts m vs ys h x u o in
    let e : y.0.relation ≡ unwrap_or (option_map (λ (z : Meaning). z.relation) (found x ys)) (free_variable x (type_instance m u)) =
    ap (λ w. unwrap_or (option_map (λ (z : Meaning). z.relation) w) (free_variable x (type_instance m u))) (sym y.1) in
    subst (λ (z : TermTree). HasType sig (binders_at m env) z (type_instance m ty)) e
    (subst (λ (z : TypeTree). HasType sig (binders_at m env) y.0.relation (type_instance m z)) t.1
    (more-binders sig [] (binders_at m env) y.0.relation (type_instance m u) y.2.relation))
with-typed sig counts m vs ys s n p h env (bound_name x) ty o t = found-at m env x ty t
with-typed sig counts m vs ys s n p h env (constant c ts) ty o t = (
  t.0,
  t.1,
  length-map ts (type_instance m) ∙ t.2,
  ap (types_fault sig) (row-instances m ts) ∙ sound-instances sig m n (row ts) t.3,
  twice m (type_variables t.0) ts t.0 t.2 (λ a k. joined-has a [] (type_names t.0) k) ∙ ap (type_instance m) t.4,
)
with-typed sig counts m vs ys s n p h env (application f a) ty o t = elim (optional (domain_at counts ys f a)) [
  | inl d ↦
      let k = domain-typed sig counts m vs ys s p h env f a d.0 ty d.1 o.1 t in
      subst (λ (z : TermTree). HasType sig (binders_at m env) z (type_instance m ty))
      (ap (λ w. unwrap_or w (application (with_relations counts m ys f) (with_relations counts m ys a))) (sym d.1))
      (more-binders sig [] (binders_at m env) d.0 (type_instance m ty) k)
  | inr e ↦ subst (λ (z : TermTree). HasType sig (binders_at m env) z (type_instance m ty))
      (ap (λ w. unwrap_or w (application (with_relations counts m ys f) (with_relations counts m ys a))) (sym e))
      (type_instance m t.0, with-typed sig counts m vs ys s n p h env f (fun t.0 ty) o.0 t.1, with-typed sig counts m vs ys s n p h env a t.0 o.1 t.2)
]
with-typed sig counts m vs ys s n p h env (abstraction x u b) ty o t =
    (type_instance m t.0, sound-instance sig m n u t.1, with-typed sig counts m vs ys s n p h ((x, u) ∷ env) b t.0 o t.2, ap (type_instance m) t.3)
