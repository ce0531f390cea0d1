-- Opening by one closed term after another is putting all at once.
use Rattle.std.proofs.Common.{◌≡◌, ◌≢◌, ◌⊎◌, inl, inr, ℕ, zero, suc, ◌+◌, ◌-◌, ◌<◌, ◌≤◌, List, [], ◌∷◌, ◌++◌, length, reverse, get_or, true, false, if◌then◌else◌, nat_eq, nat_lt, Result, Ok, Err, refl, sym, ◌∙◌, ap, subst, arith}
use Rattle.std.proofs.Math.Seq.{get_or-append_seam}
use Rattle.std.proofs.Math.ListN.{get_or-append}
use Rattle.std.proofs.lemmas.List.{reverse-append, length-reverse}
use Rattle.std.proofs.lemmas.Bool.{cases_Bool, cond-true, cond-false}
use Rattle.std.proofs.lemmas.Bool.Decides.{nat_tests}
use Rattle.lt_definitions.specs.Types.{TypeTree}
use Rattle.lt_definitions.specs.Typing.{Signature, Fault, is_of_type, with_ok}
use Rattle.lt_definitions.specs.Rules.{where_holds}
use Rattle.lt_definitions.specs.declared.reason.Reason.TheVariants.{TypeDiffers}
use Rattle.lt_nameless.specs.Nameless.{Nameless, nameless_free, nameless_bound, nameless_loose, nameless_constant, nameless_application, nameless_abstraction, IsWhole}
use Rattle.lt_nameless.specs.NamelessRules.{nameless_gives, nameless_for_all, nameless_typed, nameless_has_type, instance_at}
use Rattle.lt_nameless.proofs.ClosedSteps.{typed-whole}
use Rattle.lt_programs.specs.Programs.{theorem, at_each}
use Rattle.lt_programs.specs.Openings.{for_alls, filled, HaveTypes}

less : (i d : ℕ) → i < d → nat_lt i d ≡ true
less i d h = grind (arith, nat_tests)

not-less : (i d : ℕ) → d ≤ i → nat_lt i d ≡ false
not-less i d h = grind (arith, nat_tests)

less-cases : (i d : ℕ) → (i < d) ⊎ (d ≤ i)
less-cases i d = elim (cases_Bool (nat_lt i d)) [ inl e ↦ inl (is-less i d e) | inr e ↦ inr (is-not i d e) ]
  where
    is-less : (i d : ℕ) → nat_lt i d ≡ true → i < d
    is-less i d e = grind (arith, nat_tests)

    is-not : (i d : ℕ) → nat_lt i d ≡ false → d ≤ i
    is-not i d e = grind (arith, nat_tests)

number-same : (i d : ℕ) → nat_eq i d ≡ true → i ≡ d
number-same i d e = grind (arith, nat_tests)

number-other : (i d : ℕ) → nat_eq i d ≡ false → i ≢ d
number-other i d e = grind (arith, nat_tests)

-- a term without loose indices stays
pub filled-whole : (ts : List Nameless) (d e : ℕ) (t : Nameless) → e ≤ d → IsWhole e t → filled ts d t ≡ t
filled-whole ts d e (nameless_free x ty) h w = refl
filled-whole ts d e (nameless_bound i) h w = cond-true (nat_lt i d) _ _ (less i d (omega (arith, w, h)))
filled-whole ts d e (nameless_loose x) h w = refl
filled-whole ts d e (nameless_constant c us) h w = refl
filled-whole ts d e (nameless_application f a) h w = λ i. nameless_application (filled-whole ts d e f h w.0 i) (filled-whole ts d e a h w.1 i)
filled-whole ts d e (nameless_abstraction ty b) h w = ap (nameless_abstraction ty) (filled-whole ts (suc d) (suc e) b (omega arith) w)

-- an index is that of the last term or another one
other-place : (ts : List Nameless) (t : Nameless) (k : ℕ) (r : Nameless) → k ≢ length ts → get_or ts k r ≡ get_or (ts ++ t ∷ []) k r
other-place ts t k r h = elim (less-cases k (length ts)) [
  | inl l ↦ sym (get_or-append ts (t ∷ []) r k l)
  | inr l ↦ past ts t k r (omega (arith, l, h))
] where
  past : (ts : List Nameless) (t : Nameless) (k : ℕ) (r : Nameless) → length ts < k → get_or ts k r ≡ get_or (ts ++ t ∷ []) k r
  past [] t zero r h = absurd (omega arith)
  past [] t (suc k) r h = refl
  past (u ∷ us) t zero r h = absurd (omega arith)
  past (u ∷ us) t (suc k) r h = past us t k r (omega arith)

index-filled : (ts : List Nameless) (t : Nameless) (d i : ℕ) → IsWhole 0 t
    → filled ts d (if nat_eq i (d + length ts) then t else nameless_bound i) ≡ filled (ts ++ t ∷ []) d (nameless_bound i)
index-filled ts t d i w = elim (cases_Bool (nat_eq i (d + length ts))) [
  | inl e ↦ let same : i ≡ d + length ts = number-same i (d + length ts) e in let place : i - d ≡ length ts = omega (arith, same) in
      ap (filled ts d) (cond-true (nat_eq i (d + length ts)) t (nameless_bound i) e) ∙ filled-whole ts d 0 t (omega arith) w
      ∙ sym (cond-false (nat_lt i d) _ _ (not-less i d (omega (arith, same))) ∙ ap (λ k. get_or (ts ++ t ∷ []) k (nameless_bound i)) place ∙ get_or-append_seam ts t [] (nameless_bound i))
  | inr e ↦ let other : i ≢ d + length ts = number-other i (d + length ts) e in
      ap (filled ts d) (cond-false (nat_eq i (d + length ts)) t (nameless_bound i) e) ∙ elim (less-cases i d) [
        | inl l ↦ cond-true (nat_lt i d) _ _ (less i d l) ∙ sym (cond-true (nat_lt i d) _ _ (less i d l))
        | inr l ↦ cond-false (nat_lt i d) _ _ (not-less i d l) ∙ other-place ts t (i - d) (nameless_bound i) (omega (arith, other, l)) ∙ sym (cond-false (nat_lt i d) _ _ (not-less i d l))
      ]
]

filled-more : (ts : List Nameless) (t : Nameless) (d e : ℕ) (b : Nameless) → IsWhole 0 t → e ≡ d + length ts
    → filled ts d (instance_at e t b) ≡ filled (ts ++ t ∷ []) d b
filled-more ts t d e (nameless_free x ty) w q = refl
filled-more ts t d e (nameless_bound i) w q = subst (λ (n : ℕ). filled ts d (if nat_eq i n then t else nameless_bound i) ≡ filled (ts ++ t ∷ []) d (nameless_bound i)) (sym q) (index-filled ts t d i w)
filled-more ts t d e (nameless_loose x) w q = refl
filled-more ts t d e (nameless_constant c us) w q = refl
filled-more ts t d e (nameless_application f a) w q = λ i. nameless_application (filled-more ts t d e f w q i) (filled-more ts t d e a w q i)
filled-more ts t d e (nameless_abstraction ty b) w q = ap (nameless_abstraction ty) (filled-more ts t (suc d) (suc e) b w (omega arith))

through-alls : (d e : ℕ) (t : Nameless) (tys : List TypeTree) (b : Nameless) → e ≡ length tys + d → instance_at d t (for_alls tys b) ≡ for_alls tys (instance_at e t b)
through-alls d e t [] b q = ap (λ n. instance_at n t b) (omega (arith, q))
through-alls d e t (ty ∷ tys) b q = ap (λ p. nameless_for_all ty (nameless_abstraction ty p)) (through-alls (suc d) e t tys b (omega arith))

of-typed : (ty : TypeTree) (r : Result TypeTree Fault) → is_of_type ty r ≡ true → (u : TypeTree) × (r ≡ Ok u)
of-typed ty (Ok u) e = (u, refl)
of-typed ty (Err f) e = absurd (cc e)

pub has-whole : (sig : Signature) (t : Nameless) (ty : TypeTree) → nameless_has_type sig t ty ≡ true → IsWhole 0 t
has-whole sig t ty e = let h = of-typed ty (nameless_typed sig [] t) e in typed-whole sig [] t h.0 h.1

as-many : (sig : Signature) (ts : List Nameless) (tys : List TypeTree) → HaveTypes sig ts tys → length ts ≡ length tys
as-many sig [] [] h = refl
as-many sig (t ∷ ts) (ty ∷ tys) h = ap suc (as-many sig ts tys h.1)
as-many sig ts tys h = absurd h

-- no terms
pub filled-none : (b : Nameless) (d : ℕ) → filled [] d b ≡ b
filled-none (nameless_free x ty) d = refl
filled-none (nameless_bound i) d = elim (cases_Bool (nat_lt i d)) [ inl e ↦ cond-true (nat_lt i d) _ _ e | inr e ↦ cond-false (nat_lt i d) _ _ e ]
filled-none (nameless_loose x) d = refl
filled-none (nameless_constant c us) d = refl
filled-none (nameless_application f a) d = λ i. nameless_application (filled-none f d i) (filled-none a d i)
filled-none (nameless_abstraction ty c) d = ap (nameless_abstraction ty) (filled-none c (suc d))

-- the terms put all at once
pub at-each-filled : (sig : Signature) (tys : List TypeTree) (ts : List Nameless) (b : Nameless) → HaveTypes sig ts tys
    → at_each sig ts (theorem (for_alls tys b)) ≡ Ok (theorem (filled (reverse ts) 0 b))
at-each-filled sig [] [] b h = ap (λ p. Ok (theorem p)) (sym (filled-none b 0))
at-each-filled sig (ty ∷ tys) (t ∷ ts) b h =
    let count = as-many sig ts tys h.1 in
    let back = length-reverse ts in
    ap (λ v. with_ok (where_holds v TypeDiffers (nameless_gives [] (instance_at 0 t (for_alls tys b)))) (at_each sig ts)) h.0
    ∙ ap (λ p. at_each sig ts (theorem p)) (through-alls 0 (length tys) t tys b (omega arith))
    ∙ at-each-filled sig tys ts (instance_at (length tys) t b) h.1
    ∙ ap (λ p. Ok (theorem p)) (filled-more (reverse ts) t 0 (length tys) b (has-whole sig t ty h.0) (omega (arith, count, back)) ∙ ap (λ us. filled us 0 b) (sym (reverse-append (t ∷ []) ts)))
at-each-filled sig tys ts b h = absurd h
