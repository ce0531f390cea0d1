-- What holds of the node at each place of a list, from a place on.
use Rattle.std.proofs.Common.{◌≡◌, ℕ, zero, suc, ◌+◌, List, [], ◌∷◌, ◌++◌, length, slice_get, Some, subst, arith}
use Rattle.std.proofs.lemmas.Option.{same_Some, none-some}

module _ {N : Type 0} (P : ℕ → N → Type 0) where
  abbrev pub AllPlaces : ℕ → List N → Type 0
  AllPlaces from [] = Unit {0}
  AllPlaces from (n ∷ ns) = P from n × AllPlaces (from + 1) ns

  pub places-append : (from next : ℕ) (xs ys : List N) → next ≡ from + length xs → AllPlaces from xs → AllPlaces next ys → AllPlaces from (xs ++ ys)
  places-append from next [] ys n h k = let e : next ≡ from = omega (arith, n) in subst (λ i. AllPlaces i ys) e k
  places-append from next (x ∷ xs) ys n h k = (h.0, places-append (from + 1) next xs ys (omega (arith, n)) h.1 k)

  pub at-place : (ns : List N) (from at : ℕ) (n : N) → AllPlaces from ns → slice_get ns at ≡ Some n → P (from + at) n
  at-place [] from at n h e = absurd (none-some n e)
  at-place (m ∷ ns) from zero n h e =
      let place : from ≡ from + 0 = omega arith in
      subst (λ k. P k n) place (subst (P from) (same_Some m n e) h.0)
  at-place (m ∷ ns) from (suc at) n h e =
      let place : (from + 1) + at ≡ from + suc at = omega arith in
      subst (λ k. P k n) place (at-place ns (from + 1) at n h.1 e)
