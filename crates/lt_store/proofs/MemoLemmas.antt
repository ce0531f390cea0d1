-- What a memo has after a result was kept.
use Rattle.std.proofs.Common.{◌≡◌, ℕ, Option, Some, None, IsSome, Bool, true, false, refl, sym, ◌∙◌, ap, subst, arith, rules, if◌then◌else◌, ◌==◌, ◌&&◌, ◌⊎◌, inl, inr}
use Rattle.std.proofs.lemmas.Grind.{common_steps}
use Rattle.std.proofs.lemmas.Bool.Decides.{nat_tests}
use Rattle.std.specs.HashMap.{IsEmpty}
use Rattle.lt_store.specs.Memos.{Memo, result_at, IsKept}

-- a result of this pair was kept, and no other changed
abbrev pub Keeps : Memo → Memo → ℕ → ℕ → ℕ → Type 0
Keeps old new id beside made = (i d : ℕ) → result_at new i d ≡ (if (id == i) && (beside == d) then Some made else result_at old i d)

module _ (old new : Memo) (id beside made : ℕ) (law : Keeps old new id beside made) where
  -- what was kept stays
  pub keeps_more : (p : ℕ × ℕ) → IsKept old p → IsKept new p
  keeps_more p k = subst IsSome (sym (law p.0 p.1)) (by ((id == p.0) && (beside == p.1)))
    where
      by : (b : Bool) → IsSome (if b then Some made else result_at old p.0 p.1)
      by true = refl
      by false = k

  -- the pair was kept
  pub keeps_own : IsKept new (id, beside)
  keeps_own = subst IsSome (sym (law id beside)) (subst (λ b. IsSome (if b then Some made else result_at old id beside)) (sym own) refl)
    where
      own : ((id == id) && (beside == beside)) ≡ true
      own = grind (arith, common_steps, nat_tests)

  -- what was kept is the pair or was kept before
  pub kept_back : (i d r : ℕ) → result_at new i d ≡ Some r → ((id ≡ i) × (beside ≡ d) × (made ≡ r)) ⊎ (result_at old i d ≡ Some r)
  kept_back i d r at = by ((id == i) && (beside == d)) refl
    where
      by : (b : Bool) → ((id == i) && (beside == d)) ≡ b → ((id ≡ i) × (beside ≡ d) × (made ≡ r)) ⊎ (result_at old i d ≡ Some r)
      by true t =
          let both : (id ≡ i) × (beside ≡ d) = grind (arith, common_steps, nat_tests) in
          let same : Some made ≡ Some r = ap (λ b. if b then Some made else result_at old i d) (sym t) ∙ sym (law i d) ∙ at in
          inl (both.0, both.1, cc)
      by false t = inr (ap (λ b. if b then Some made else result_at old i d) (sym t) ∙ sym (law i d) ∙ at)

-- what was kept has a result
pub result_of : (m : Memo) (i d : ℕ) → IsKept m (i, d) → (r : ℕ) × (result_at m i d ≡ Some r)
result_of m i d k = by (result_at m i d) refl k
  where
    by : (o : Option ℕ) → result_at m i d ≡ o → IsSome o → (r : ℕ) × (result_at m i d ≡ Some r)
    by None e k = absurd cc
    by (Some r) e k = (r, e)

pub kept_from : (m : Memo) (i d r : ℕ) → result_at m i d ≡ Some r → IsKept m (i, d)
kept_from m i d r e = subst IsSome (sym e) refl

-- an empty memo has nothing
pub empty_memo : (m : Memo) → IsEmpty m → (i d : ℕ) → result_at m i d ≡ None
empty_memo m e i d = search (rules, common_steps)
