-- Opening, closing, replacing and type instances keep types.
use Rattle.std.proofs.Common.{◌≡◌, inl, inr, ◌<◌, List, [], ◌∷◌, ◌++◌, true, false, ◌&&◌, not, if◌then◌else◌, Some, None, unwrap_or, length, map, refl, sym, ◌∙◌, ap, subst, arith}
use Rattle.std.specs.List.{zip}
use Rattle.std.proofs.lemmas.List.{length-map}
use Rattle.std.proofs.lemmas.Bool.{or_parts, or_left, or_right, or_cases}
use Rattle.lt_definitions.specs.Types.{Chars, same_name, has_name, names_joined, found, TypeTree, TypeTrees, TypeMap, type_variable, type_constructor, no_types, type_and, fun, row, same_type, type_names, types_names, type_variables, type_instance, types_instance}
use Rattle.lt_definitions.specs.Terms.{TermTree, free_variable, bound_name, constant, application, abstraction, has_loose, term_instance}
use Rattle.lt_definitions.specs.Typing.{Signature, type_fault, types_fault, HasType}
use Rattle.lt_definitions.specs.Binding.{opened, replaced, longest, new_binder, closed_over}
use Rattle.lt_definitions.proofs.SameNames.{true-false, bool_cases, both-true, name-true, true-name, name-false, false-name, type-true, longer-differs}
use Rattle.lt_nameless.proofs.BindingLemmas.{if-true, if-false, new_is_longer}
use Rattle.lt_nameless.proofs.LaterItems.{found-append}
use Rattle.lt_nameless.proofs.StatementTypes.{found-new, found-first, more-binders, instance-sound, instances-sound}

abbrev Env : Type 0
Env = List (Chars × TypeTree)

-- one more binder, outermost

found-last : (env : Env) (x : Chars) (u : TypeTree) → found x env ≡ None → found x (env ++ (x, u) ∷ []) ≡ Some u
found-last env x u e = found-new x env ((x, u) ∷ []) e ∙ found-first x u []

found-other : (env : Env) (x y : Chars) (u : TypeTree) → same_name y x ≡ false → found y (env ++ (x, u) ∷ []) ≡ found y env
found-other [] x y u e = if-false (same_name y x) (Some u) None e
found-other (p ∷ env) x y u e = elim (bool_cases (same_name y p.0)) [
  | inl h ↦ if-true (same_name y p.0) (Some p.1) (found y (env ++ (x, u) ∷ [])) h ∙ sym (if-true (same_name y p.0) (Some p.1) (found y env) h)
  | inr h ↦ if-false (same_name y p.0) (Some p.1) (found y (env ++ (x, u) ∷ [])) h ∙ found-other env x y u e
      ∙ sym (if-false (same_name y p.0) (Some p.1) (found y env) h)
]

found-hidden : (env : Env) (x y : Chars) (u v : TypeTree) → found x env ≡ Some v → found y (env ++ (x, u) ∷ []) ≡ found y env
found-hidden env x y u v e = elim (bool_cases (same_name y x)) [
  | inl h ↦ let here : found y env ≡ Some v = ap (λ (n : Chars). found n env) (name-true y x h) ∙ e in
      found-append y env ((x, u) ∷ []) v here ∙ sym here
  | inr h ↦ found-other env x y u h
]

turned : (x y : Chars) → same_name x y ≡ false → same_name y x ≡ false
turned x y e = false-name y x (λ q. name-false x y e (sym q))

-- a name that has a pair still has one under a further binder
under : (env : Env) (x y : Chars) (w v : TypeTree) → found x env ≡ Some v → (z : TypeTree) × (found x ((y, w) ∷ env) ≡ Some z)
under env x y w v e = elim (bool_cases (same_name x y)) [
  | inl h ↦ (w, if-true (same_name x y) (Some w) (found x env) h)
  | inr h ↦ (v, if-false (same_name x y) (Some w) (found x env) h ∙ e)
]

not-under : (env : Env) (x y : Chars) (w : TypeTree) → same_name x y ≡ false → found x env ≡ None → found x ((y, w) ∷ env) ≡ None
not-under env x y w h e = if-false (same_name x y) (Some w) (found x env) h ∙ e

hidden-has : (sig : Signature) (env : Env) (x : Chars) (u v : TypeTree) (t : TermTree) (ty : TypeTree) → found x env ≡ Some v
    → HasType sig (env ++ (x, u) ∷ []) t ty → HasType sig env t ty
hidden-has sig env x u v (free_variable y w) ty e h = h
hidden-has sig env x u v (bound_name y) ty e h = sym (found-hidden env x y u v e) ∙ h
hidden-has sig env x u v (constant c ts) ty e h = h
hidden-has sig env x u v (application f a) ty e h = (h.0, hidden-has sig env x u v f (fun h.0 ty) e h.1, hidden-has sig env x u v a h.0 e h.2)
hidden-has sig env x u v (abstraction y w b) ty e h =
    let k = under env x y w v e in (h.0, h.1, hidden-has sig ((y, w) ∷ env) x u k.0 b h.0 k.1 h.2, h.3)

-- opening

pub opened-has : (sig : Signature) (env : Env) (x : Chars) (u : TypeTree) (by t : TermTree) (ty : TypeTree) → found x env ≡ None → HasType sig [] by u
    → HasType sig (env ++ (x, u) ∷ []) t ty → HasType sig env (opened x by t) ty
opened-has sig env x u by (free_variable y w) ty e k h = h
opened-has sig env x u by (bound_name y) ty e k h = elim (bool_cases (same_name x y)) [
  | inl s ↦ let some : Some u ≡ Some ty = sym (found-last env x u e) ∙ ap (λ (n : Chars). found n (env ++ (x, u) ∷ [])) (name-true x y s) ∙ h in
      let same : u ≡ ty = cc some in
      subst (λ (t : TermTree). HasType sig env t ty) (sym (if-true (same_name x y) by (bound_name y) s))
      (subst (λ (v : TypeTree). HasType sig env by v) same (more-binders sig [] env by u k))
  | inr s ↦ subst (λ (t : TermTree). HasType sig env t ty) (sym (if-false (same_name x y) by (bound_name y) s))
      (sym (found-other env x y u (turned x y s)) ∙ h)
]
opened-has sig env x u by (constant c ts) ty e k h = h
opened-has sig env x u by (application f a) ty e k h =
    (h.0, opened-has sig env x u by f (fun h.0 ty) e k h.1, opened-has sig env x u by a h.0 e k h.2)
opened-has sig env x u by (abstraction y w b) ty e k h = (
  h.0,
  h.1,
  elim (bool_cases (same_name x y)) [
    | inl s ↦ subst (λ (t : TermTree). HasType sig ((y, w) ∷ env) t h.0) (sym (if-true (same_name x y) b (opened x by b) s))
        (hidden-has sig ((y, w) ∷ env) x u w b h.0 (if-true (same_name x y) (Some w) (found x env) s) h.2)
    | inr s ↦ subst (λ (t : TermTree). HasType sig ((y, w) ∷ env) t h.0) (sym (if-false (same_name x y) b (opened x by b) s))
        (opened-has sig ((y, w) ∷ env) x u by b h.0 (not-under env x y w s e) k h.2)
  ],
  h.3,
)

-- a binder whose name isn't loose can go
pub not-loose-has : (sig : Signature) (env : Env) (x : Chars) (u : TypeTree) (t : TermTree) (ty : TypeTree) → has_loose x t ≡ false
    → HasType sig (env ++ (x, u) ∷ []) t ty → HasType sig env t ty
not-loose-has sig env x u (free_variable y w) ty e h = h
not-loose-has sig env x u (bound_name y) ty e h = sym (found-other env x y u (turned x y e)) ∙ h
not-loose-has sig env x u (constant c ts) ty e h = h
not-loose-has sig env x u (application f a) ty e h =
    let k = or_parts (has_loose x f) (has_loose x a) e in
    (h.0, not-loose-has sig env x u f (fun h.0 ty) k.0 h.1, not-loose-has sig env x u a h.0 k.1 h.2)
not-loose-has sig env x u (abstraction y w b) ty e h = (
  h.0,
  h.1,
  elim (bool_cases (same_name x y)) [
    | inl s ↦ hidden-has sig ((y, w) ∷ env) x u w b h.0 (if-true (same_name x y) (Some w) (found x env) s) h.2
    | inr s ↦ not-loose-has sig ((y, w) ∷ env) x u b h.0 (sym (ap (λ v. not v && has_loose x b) s) ∙ e) h.2
  ],
  h.3,
)

-- replacing

pub replaced-has : (sig : Signature) (env : Env) (x : Chars) (u : TypeTree) (by t : TermTree) (ty : TypeTree) → HasType sig [] by u
    → HasType sig env t ty → HasType sig env (replaced x u by t) ty
replaced-has sig env x u by (free_variable y w) ty k h = elim (bool_cases (same_name x y && same_type u w)) [
  | inl s ↦ let same : u ≡ ty = type-true u w (both-true (same_name x y) (same_type u w) s).1 ∙ h.1 in
      subst (λ (t : TermTree). HasType sig env t ty) (sym (if-true (same_name x y && same_type u w) by (free_variable y w) s))
      (subst (λ (v : TypeTree). HasType sig env by v) same (more-binders sig [] env by u k))
  | inr s ↦ subst (λ (t : TermTree). HasType sig env t ty) (sym (if-false (same_name x y && same_type u w) by (free_variable y w) s)) h
]
replaced-has sig env x u by (bound_name y) ty k h = h
replaced-has sig env x u by (constant c ts) ty k h = h
replaced-has sig env x u by (application f a) ty k h =
    (h.0, replaced-has sig env x u by f (fun h.0 ty) k h.1, replaced-has sig env x u by a h.0 k h.2)
replaced-has sig env x u by (abstraction y w b) ty k h = (h.0, h.1, replaced-has sig ((y, w) ∷ env) x u by b h.0 k h.2, h.3)

-- closing

closed-body : (sig : Signature) (env : Env) (n x : Chars) (u : TypeTree) (t : TermTree) (ty : TypeTree) → longest t < length n → found n env ≡ None
    → HasType sig env t ty → HasType sig (env ++ (n, u) ∷ []) (replaced x u (bound_name n) t) ty
closed-body sig env n x u (free_variable y w) ty l e h = elim (bool_cases (same_name x y && same_type u w)) [
  | inl s ↦ let same : u ≡ ty = type-true u w (both-true (same_name x y) (same_type u w) s).1 ∙ h.1 in
      subst (λ (t : TermTree). HasType sig (env ++ (n, u) ∷ []) t ty) (sym (if-true (same_name x y && same_type u w) (bound_name n) (free_variable y w) s))
      (found-last env n u e ∙ ap Some same)
  | inr s ↦ subst (λ (t : TermTree). HasType sig (env ++ (n, u) ∷ []) t ty)
      (sym (if-false (same_name x y && same_type u w) (bound_name n) (free_variable y w) s)) h
]
closed-body sig env n x u (bound_name y) ty l e h = found-append y env ((n, u) ∷ []) ty h
closed-body sig env n x u (constant c ts) ty l e h = h
closed-body sig env n x u (application f a) ty l e h =
    (h.0, closed-body sig env n x u f (fun h.0 ty) (omega arith) e h.1, closed-body sig env n x u a h.0 (omega arith) e h.2)
closed-body sig env n x u (abstraction y w b) ty l e h =
    (h.0, h.1, closed-body sig ((y, w) ∷ env) n x u b h.0 (omega arith) (not-under env n y w (longer-differs n y (omega arith)) e) h.2, h.3)

pub closed-inner : (sig : Signature) (x : Chars) (u : TypeTree) (t : TermTree) (ty : TypeTree) → HasType sig [] t ty
    → HasType sig ((new_binder t, u) ∷ []) (replaced x u (bound_name (new_binder t)) t) ty
closed-inner sig x u t ty h = closed-body sig [] (new_binder t) x u t ty (new_is_longer t) refl h

pub closed-has : (sig : Signature) (x : Chars) (u : TypeTree) (t : TermTree) (ty : TypeTree) → type_fault sig u ≡ None → HasType sig [] t ty
    → HasType sig [] (closed_over x u t) (fun u ty)
closed-has sig x u t ty e h = (ty, e, closed-inner sig x u t ty h, refl)

-- type instances

pub append-left : (a : Chars) (xs ys : List Chars) → has_name a xs ≡ true → has_name a (xs ++ ys) ≡ true
append-left a [] ys e = absurd (true-false (sym e))
append-left a (x ∷ xs) ys e = elim (or_cases (same_name a x) (has_name a xs) e) [
  | inl h ↦ or_left (same_name a x) (has_name a (xs ++ ys)) h
  | inr h ↦ or_right (same_name a x) (has_name a (xs ++ ys)) (append-left a xs ys h)
]

pub append-right : (a : Chars) (xs ys : List Chars) → has_name a ys ≡ true → has_name a (xs ++ ys) ≡ true
append-right a [] ys e = e
append-right a (x ∷ xs) ys e = or_right (same_name a x) (has_name a (xs ++ ys)) (append-right a xs ys e)

abbrev joined_one : List Chars → Chars → List Chars
joined_one xs y = if has_name y xs then xs else xs ++ y ∷ []

one-keeps : (a y : Chars) (xs : List Chars) → has_name a xs ≡ true → has_name a (joined_one xs y) ≡ true
one-keeps a y xs e = elim (bool_cases (has_name y xs)) [
  | inl h ↦ ap (has_name a) (if-true (has_name y xs) xs (xs ++ y ∷ []) h) ∙ e
  | inr h ↦ ap (has_name a) (if-false (has_name y xs) xs (xs ++ y ∷ []) h) ∙ append-left a xs (y ∷ []) e
]

one-has : (a y : Chars) (xs : List Chars) → same_name a y ≡ true → has_name a (joined_one xs y) ≡ true
one-has a y xs e = elim (bool_cases (has_name y xs)) [
  | inl h ↦ ap (has_name a) (if-true (has_name y xs) xs (xs ++ y ∷ []) h) ∙ ap (λ (n : Chars). has_name n xs) (name-true a y e) ∙ h
  | inr h ↦ ap (has_name a) (if-false (has_name y xs) xs (xs ++ y ∷ []) h)
      ∙ append-right a xs (y ∷ []) (or_left (same_name a y) false e)
]

joined-keeps : (a : Chars) (xs ys : List Chars) → has_name a xs ≡ true → has_name a (names_joined xs ys) ≡ true
joined-keeps a xs [] e = e
joined-keeps a xs (y ∷ ys) e = joined-keeps a (joined_one xs y) ys (one-keeps a y xs e)

pub joined-has : (a : Chars) (xs ys : List Chars) → has_name a ys ≡ true → has_name a (names_joined xs ys) ≡ true
joined-has a xs [] e = absurd (true-false (sym e))
joined-has a xs (y ∷ ys) e = elim (or_cases (same_name a y) (has_name a ys) e) [
  | inl h ↦ joined-keeps a (joined_one xs y) ys (one-has a y xs h)
  | inr h ↦ joined-has a (joined_one xs y) ys h
]

-- Each of the names is among the variables.
abbrev pub Covers : List Chars → List Chars → Type 0
Covers vs names = (a : Chars) → has_name a names ≡ true → has_name a vs ≡ true

-- an instance of an instance at as many types as names

pub twice-variable : (m : TypeMap) (vs : List Chars) (ts : List TypeTree) (a : Chars) → length ts ≡ length vs → has_name a vs ≡ true
    → unwrap_or (found a (zip vs (map (type_instance m) ts))) (type_variable a) ≡ type_instance m (unwrap_or (found a (zip vs ts)) (type_variable a))
twice-variable m [] ts a l e = absurd (true-false (sym e))
twice-variable m (v ∷ vs) [] a l e = absurd (omega arith)
twice-variable m (v ∷ vs) (t ∷ ts) a l e = elim (bool_cases (same_name a v)) [
  | inl h ↦ ap (λ o. unwrap_or o (type_variable a)) (if-true (same_name a v) (Some (type_instance m t)) (found a (zip vs (map (type_instance m) ts))) h)
      ∙ sym (ap (λ o. type_instance m (unwrap_or o (type_variable a))) (if-true (same_name a v) (Some t) (found a (zip vs ts)) h))
  | inr h ↦ ap (λ o. unwrap_or o (type_variable a)) (if-false (same_name a v) (Some (type_instance m t)) (found a (zip vs (map (type_instance m) ts))) h)
      ∙ twice-variable m vs ts a (omega arith) (elim (or_cases (same_name a v) (has_name a vs) e) [ inl k ↦ absurd (true-false (sym k ∙ h)) | inr k ↦ k ])
      ∙ sym (ap (λ o. type_instance m (unwrap_or o (type_variable a))) (if-false (same_name a v) (Some t) (found a (zip vs ts)) h))
]

mutual
  pub twice : (m : TypeMap) (vs : List Chars) (ts : List TypeTree) (t : TypeTree) → length ts ≡ length vs → Covers vs (type_names t)
      → type_instance (zip vs (map (type_instance m) ts)) t ≡ type_instance m (type_instance (zip vs ts) t)
  twice m vs ts (type_variable a) l c = twice-variable m vs ts a l (c a (or_left (same_name a a) false (true-name a a refl)))
  twice m vs ts (type_constructor d us) l c = ap (type_constructor d) (all-twice m vs ts us l c)

  pub all-twice : (m : TypeMap) (vs : List Chars) (ts : List TypeTree) (us : TypeTrees) → length ts ≡ length vs → Covers vs (types_names us)
      → types_instance (zip vs (map (type_instance m) ts)) us ≡ types_instance m (types_instance (zip vs ts) us)
  all-twice m vs ts no_types l c = refl
  all-twice m vs ts (type_and u us) l c = λ i. type_and
      (twice m vs ts u l (λ a e. c a (append-left a (type_names u) (types_names us) e)) i)
      (all-twice m vs ts us l (λ a e. c a (append-right a (type_names u) (types_names us) e)) i)

row-instance : (m : TypeMap) (ts : List TypeTree) → row (map (type_instance m) ts) ≡ types_instance m (row ts)
row-instance m [] = refl
row-instance m (t ∷ ts) = ap (type_and (type_instance m t)) (row-instance m ts)

abbrev env_instance : TypeMap → Env → Env
env_instance m env = map (λ p. (p.0, type_instance m p.1)) env

found-instance : (m : TypeMap) (env : Env) (x : Chars) (ty : TypeTree) → found x env ≡ Some ty → found x (env_instance m env) ≡ Some (type_instance m ty)
found-instance m [] x ty e = absurd (cc e)
found-instance m (p ∷ env) x ty e = elim (bool_cases (same_name x p.0)) [
  | inl h ↦ let some : Some p.1 ≡ Some ty = sym (if-true (same_name x p.0) (Some p.1) (found x env) h) ∙ e in
      let same : p.1 ≡ ty = cc some in
      if-true (same_name x p.0) (Some (type_instance m p.1)) (found x (env_instance m env)) h ∙ ap (λ v. Some (type_instance m v)) same
  | inr h ↦ if-false (same_name x p.0) (Some (type_instance m p.1)) (found x (env_instance m env)) h
      ∙ found-instance m env x ty (sym (if-false (same_name x p.0) (Some p.1) (found x env) h) ∙ e)
]

pub instance-has : (sig : Signature) (vs : List Chars) (us : List TypeTree) (env : Env) (t : TermTree) (ty : TypeTree) → types_fault sig (row us) ≡ None
    → HasType sig env t ty → HasType sig (env_instance (zip vs us) env) (term_instance (zip vs us) t) (type_instance (zip vs us) ty)
instance-has sig vs us env (free_variable x u) ty e h = (instance-sound sig vs us u e h.0, ap (type_instance (zip vs us)) h.1)
instance-has sig vs us env (bound_name x) ty e h = found-instance (zip vs us) env x ty h
instance-has sig vs us env (constant c ts) ty e h = (
  h.0,
  h.1,
  length-map ts (type_instance (zip vs us)) ∙ h.2,
  ap (types_fault sig) (row-instance (zip vs us) ts) ∙ instances-sound sig vs us (row ts) e h.3,
  twice (zip vs us) (type_variables h.0) ts h.0 h.2 (λ a k. joined-has a [] (type_names h.0) k) ∙ ap (type_instance (zip vs us)) h.4,
)
instance-has sig vs us env (application f a) ty e h = (
  type_instance (zip vs us) h.0,
  instance-has sig vs us env f (fun h.0 ty) e h.1,
  instance-has sig vs us env a h.0 e h.2,
)
instance-has sig vs us env (abstraction x u b) ty e h = (
  type_instance (zip vs us) h.0,
  instance-sound sig vs us u e h.1,
  instance-has sig vs us ((x, u) ∷ env) b h.0 e h.2,
  ap (type_instance (zip vs us)) h.3,
)
