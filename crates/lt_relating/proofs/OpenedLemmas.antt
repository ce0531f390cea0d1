-- Terms opened by variables that are named by the depth of their binders.
use Rattle.std.proofs.Common.{◌≡◌, ◌≢◌, ◌⊎◌, inl, inr, ℕ, zero, suc, ◌-◌, ◌<◌, ◌≤◌, List, [], ◌∷◌, length, get_or, slice_get, replicate, true, false, ◌&&◌, ◌||◌, nat_eq, nat_lt, Some, refl, sym, ◌∙◌, ap, arith}
use Rattle.std.proofs.lemmas.List.{length-replicate}
use Rattle.std.proofs.lemmas.Bool.{cases_Bool, cond-true, cond-false, and_parts, and_from}
use Rattle.std.proofs.lemmas.Bool.Decides.{nat_tests}
use Rattle.lt_definitions.specs.Types.{Chars, same_name, TypeTree, same_type}
use Rattle.lt_definitions.proofs.SameNames.{true-name, false-name, type-refl}
use Rattle.lt_nameless.specs.Nameless.{Nameless, nameless_free, nameless_bound, nameless_loose, nameless_constant, nameless_application, nameless_abstraction}
use Rattle.lt_nameless.specs.NamelessRules.{nameless_has_free, abstracted}
use Rattle.lt_programs.specs.Openings.{filled}
use Rattle.lt_relating.specs.TypedRelations.{TypedRelation, has_no_free}
use Rattle.lt_relating.specs.RelatedSteps.{closed}
use Rattle.lt_relating.proofs.RelatedLemmas.{either-false}

less : (i d : ℕ) → i < d → nat_lt i d ≡ true
less i d h = grind (arith, nat_tests)

not-less : (i d : ℕ) → d ≤ i → nat_lt i d ≡ false
not-less i d h = grind (arith, nat_tests)

-- below, at or above
place : (i d : ℕ) → (i < d) ⊎ ((i ≡ d) ⊎ (d < i))
place i d = elim (cases_Bool (nat_lt i d)) [
  | inl e ↦ inl (is-less i d e)
  | inr e ↦ inr (elim (cases_Bool (nat_eq i d)) [ inl f ↦ inl (is-same i d f) | inr f ↦ inr (is-more i d e f) ])
]
  where
    is-less : (i d : ℕ) → nat_lt i d ≡ true → i < d
    is-less i d e = grind (arith, nat_tests)

    is-same : (i d : ℕ) → nat_eq i d ≡ true → i ≡ d
    is-same i d e = grind (arith, nat_tests)

    is-more : (i d : ℕ) → nat_lt i d ≡ false → nat_eq i d ≡ false → d < i
    is-more i d e f = grind (arith, nat_tests)

-- none of the terms has the variable
abbrev pub Lack : Chars → TypeTree → List Nameless → Type 0
Lack x ty [] = Unit {0}
Lack x ty (t ∷ ts) = (nameless_has_free x ty t ≡ false) × Lack x ty ts

lacking : (x : Chars) (ty : TypeTree) (ts : List Nameless) (k i : ℕ) → Lack x ty ts → nameless_has_free x ty (get_or ts k (nameless_bound i)) ≡ false
lacking x ty [] k i h = refl
lacking x ty (t ∷ ts) zero i h = h.0
lacking x ty (t ∷ ts) (suc k) i h = lacking x ty ts k i h.1

pub filled-lacks : (x : Chars) (ty : TypeTree) (ts : List Nameless) (d : ℕ) (b : Nameless) → has_no_free b ≡ true → Lack x ty ts → nameless_has_free x ty (filled ts d b) ≡ false
filled-lacks x ty ts d (nameless_free y u) e h = absurd (cc e)
filled-lacks x ty ts d (nameless_bound i) e h = elim (cases_Bool (nat_lt i d)) [
  | inl l ↦ ap (nameless_has_free x ty) (cond-true (nat_lt i d) (nameless_bound i) (get_or ts (i - d) (nameless_bound i)) l)
  | inr l ↦ ap (nameless_has_free x ty) (cond-false (nat_lt i d) (nameless_bound i) (get_or ts (i - d) (nameless_bound i)) l) ∙ lacking x ty ts (i - d) i h
]
filled-lacks x ty ts d (nameless_loose y) e h = refl
filled-lacks x ty ts d (nameless_constant c us) e h = refl
filled-lacks x ty ts d (nameless_application f a) e h =
    let k = and_parts (has_no_free f) (has_no_free a) e in
    either-false (nameless_has_free x ty (filled ts d f)) (nameless_has_free x ty (filled ts d a)) (filled-lacks x ty ts d f k.0 h) (filled-lacks x ty ts d a k.1 h)
filled-lacks x ty ts d (nameless_abstraction u b) e h = filled-lacks x ty ts (suc d) b e h

-- a list of variables
abbrev pub AreVariables : List Nameless → Type 0
AreVariables [] = Unit {0}
AreVariables (nameless_free x ty ∷ ts) = AreVariables ts
AreVariables (t ∷ ts) = ⊥

variable-stays : (x : Chars) (ty : TypeTree) (d : ℕ) (ts : List Nameless) (k i : ℕ) → AreVariables ts → Lack x ty ts
    → abstracted d x ty (get_or ts k (nameless_bound i)) ≡ get_or ts k (nameless_bound i)
variable-stays x ty d [] k i v h = refl
variable-stays x ty d (nameless_free y u ∷ ts) zero i v h = cond-false (same_name x y && same_type ty u) _ _ h.0
variable-stays x ty d (nameless_free y u ∷ ts) (suc k) i v h = variable-stays x ty d ts k i v h.1
variable-stays x ty d (nameless_bound j ∷ ts) k i v h = absurd v
variable-stays x ty d (nameless_loose y ∷ ts) k i v h = absurd v
variable-stays x ty d (nameless_constant c us ∷ ts) k i v h = absurd v
variable-stays x ty d (nameless_application f a ∷ ts) k i v h = absurd v
variable-stays x ty d (nameless_abstraction u b ∷ ts) k i v h = absurd v

-- opened by a variable and closed over it
pub opened-closed : (x : Chars) (ty : TypeTree) (ts : List Nameless) (d : ℕ) (b : Nameless) → has_no_free b ≡ true → AreVariables ts → Lack x ty ts
    → abstracted d x ty (filled (nameless_free x ty ∷ ts) d b) ≡ filled ts (suc d) b
opened-closed x ty ts d (nameless_free y u) e v h = absurd (cc e)
opened-closed x ty ts d (nameless_bound i) e v h = elim (place i d) [
  | inl l ↦ ap (abstracted d x ty) (cond-true (nat_lt i d) (nameless_bound i) (get_or (nameless_free x ty ∷ ts) (i - d) (nameless_bound i)) (less i d l))
      ∙ sym (cond-true (nat_lt i (suc d)) (nameless_bound i) (get_or ts (i - suc d) (nameless_bound i)) (less i (suc d) (omega (arith, l))))
  | inr k ↦ elim k [
    | inl q ↦ let first : i - d ≡ 0 = omega (arith, q) in
        ap (abstracted d x ty) (cond-false (nat_lt i d) (nameless_bound i) (get_or (nameless_free x ty ∷ ts) (i - d) (nameless_bound i)) (not-less i d (omega (arith, q)))
        ∙ ap (λ n. get_or (nameless_free x ty ∷ ts) n (nameless_bound i)) first)
        ∙ cond-true (same_name x x && same_type ty ty) (nameless_bound d) (nameless_free x ty) (and_from _ _ (true-name x x refl) (type-refl ty))
        ∙ ap nameless_bound (sym q)
        ∙ sym (cond-true (nat_lt i (suc d)) (nameless_bound i) (get_or ts (i - suc d) (nameless_bound i)) (less i (suc d) (omega (arith, q))))
    | inr l ↦ let later : i - d ≡ suc (i - suc d) = omega (arith, l) in
        ap (abstracted d x ty) (cond-false (nat_lt i d) (nameless_bound i) (get_or (nameless_free x ty ∷ ts) (i - d) (nameless_bound i)) (not-less i d (omega (arith, l)))
        ∙ ap (λ n. get_or (nameless_free x ty ∷ ts) n (nameless_bound i)) later)
        ∙ variable-stays x ty d ts (i - suc d) i v h
        ∙ sym (cond-false (nat_lt i (suc d)) (nameless_bound i) (get_or ts (i - suc d) (nameless_bound i)) (not-less i (suc d) (omega (arith, l))))
  ]
]
opened-closed x ty ts d (nameless_loose y) e v h = refl
opened-closed x ty ts d (nameless_constant c us) e v h = refl
opened-closed x ty ts d (nameless_application f a) e v h =
    let k = and_parts (has_no_free f) (has_no_free a) e in λ i. nameless_application (opened-closed x ty ts d f k.0 v h i) (opened-closed x ty ts d a k.1 v h i)
opened-closed x ty ts d (nameless_abstraction u b) e v h = ap (nameless_abstraction u) (opened-closed x ty ts (suc d) b e v h)

-- ---- names by depth

pub other-depth : (c m n : ℕ) → m ≢ n → same_name (replicate (suc m) c) (replicate (suc n) c) ≡ false
other-depth c m n h = false-name (replicate (suc m) c) (replicate (suc n) c) (λ e.
    let l : length (replicate (suc m) c) ≡ length (replicate (suc n) c) = ap length e in
    let p = length-replicate {A = ℕ} (suc m) c in let q = length-replicate {A = ℕ} (suc n) c in absurd (h (omega (arith, l, p, q))))

-- the variables of binders on one side, the innermost first: their names are of this letter, as long as their binders are deep
module _ (letter : ℕ) (side : TypedRelation → TypeTree) where
  abbrev pub variables : List TypedRelation → List Nameless
  variables [] = []
  variables (r ∷ env) = nameless_free (replicate (suc (length env)) letter) (side r) ∷ variables env

  pub are-variables : (env : List TypedRelation) → AreVariables (variables env)
  are-variables [] = tt
  are-variables (r ∷ env) = are-variables env

  -- none further out has the name of one further in
  pub lack-deeper : (env : List TypedRelation) (n : ℕ) (ty : TypeTree) → length env ≤ n → Lack (replicate (suc n) letter) ty (variables env)
  lack-deeper [] n ty h = tt
  lack-deeper (r ∷ env) n ty h = (
    ap (λ b. b && same_type ty (side r)) (other-depth letter n (length env) (omega (arith, h))),
    lack-deeper env n ty (omega (arith, h)),
  )

  -- the variable of an index
  pub variable-at : (env : List TypedRelation) (i : ℕ) (r : TypedRelation) → slice_get env i ≡ Some r
      → filled (variables env) 0 (nameless_bound i) ≡ nameless_free (replicate (suc (length env - suc i)) letter) (side r)
  variable-at env i r e =
      let n : i - 0 ≡ i = omega arith in
      cond-false (nat_lt i 0) (nameless_bound i) (get_or (variables env) (i - 0) (nameless_bound i)) (not-less i 0 (omega arith))
      ∙ ap (λ k. get_or (variables env) k (nameless_bound i)) n ∙ by env i i e
    where
      by : (env : List TypedRelation) (i j : ℕ) → slice_get env i ≡ Some r
          → get_or (variables env) i (nameless_bound j) ≡ nameless_free (replicate (suc (length env - suc i)) letter) (side r)
      by [] i j e = absurd (cc e)
      by (q ∷ env) zero j e =
          let same : q ≡ r = cc e in let n : length env ≡ suc (length env) - 1 = omega arith in λ v. nameless_free (replicate (suc (n v)) letter) (side (same v))
      by (q ∷ env) (suc i) j e =
          let n : length env - suc i ≡ suc (length env) - suc (suc i) = omega arith in
          by env i j e ∙ ap (λ d. nameless_free (replicate (suc d) letter) (side r)) n

  -- a body closed over its binder's variable
  pub body-closed : (env : List TypedRelation) (r : TypedRelation) (b : Nameless) → has_no_free b ≡ true
      → closed (replicate (suc (length env)) letter) (side r) (filled (variables (r ∷ env)) 0 b) ≡ filled (variables env) 0 (nameless_abstraction (side r) b)
  body-closed env r b e = ap (nameless_abstraction (side r)) (opened-closed (replicate (suc (length env)) letter) (side r) (variables env) 0 b e
      (are-variables env) (lack-deeper env (length env) (side r) (omega arith)))

-- the variables of the other side have another letter
pub lack-given : (env : List TypedRelation) (n : ℕ) (ty : TypeTree) → Lack (replicate (suc n) 121) ty (variables 120 (λ r. r.left) env)
lack-given [] n ty = tt
lack-given (r ∷ env) n ty = (refl, lack-given env n ty)

pub lack-image : (env : List TypedRelation) (n : ℕ) (ty : TypeTree) → Lack (replicate (suc n) 120) ty (variables 121 (λ r. r.right) env)
lack-image [] n ty = tt
lack-image (r ∷ env) n ty = (refl, lack-image env n ty)
