-- Each step of the walk, and each of its ends.
use Rattle.std.specs.Bool.{OnTrue, OnFalse}
use Rattle.std.specs.Prelude.{◌↔◌, IsTrue}
use Rattle.std.proofs.Common.{◌≡◌, ℕ, ◌+◌, ◌<◌, ◌≤◌, Bool, true, false, List, [], ◌∷◌, ◌++◌, length, refl, subst, sym, ap, ◌∙◌, arith}
use Rattle.std.proofs.lemmas.List.{length-append}
use Rattle.lt_transport_definitions.specs.Search.{Question, Solution, IsWhole, HasVisits, HasNoImage, HasMoreVisits}
use Rattle.lt_transport_laws.proofs.LeastSolutions.{least_solution}
use Rattle.lt_search_laws.specs.Walk.{IsSound, IsAt}
use Rattle.lt_search_laws.proofs.Endings.{walk-goes}
use Rattle.lt_search.specs.Walks.{IsNext, IsBack, StandsAt, IsFirst}

pub stands-start : (q : Question) → IsSound q → (p : List ℕ) → p ≡ [] → StandsAt q p 0 0
stands-start q ok p e = subst (λ z. StandsAt q z 0 0) (sym e) (record { visits = []; counted = refl; stands = (walk-goes q ok).starts })

one-more : (vs : List (List ℕ)) (x : List ℕ) (n : ℕ) → length vs ≡ n → length (vs ++ x ∷ []) ≡ n + 1
one-more vs x n e = length-append vs (x ∷ []) ∙ ap (λ m. m + 1) e

pub stands-dead : (q : Question) → IsSound q → (p new : List ℕ) (i n : ℕ) → StandsAt q p i n → IsNext q p i
    → (Solution q (p ++ i ∷ []) → ⊥) → new ≡ p → StandsAt q new (i + 1) (n + 1)
stands-dead q ok p new i n h c dead e = subst (λ z. StandsAt q z (i + 1) (n + 1)) (sym e) (record {
  visits = h.visits ++ (p ++ i ∷ []) ∷ [];
  counted = one-more h.visits (p ++ i ∷ []) n h.counted;
  stands = (walk-goes q ok).dead p i h.visits h.stands c dead;
})

pub stands-live : (q : Question) → IsSound q → (p new : List ℕ) (i n : ℕ) → StandsAt q p i n → IsNext q p i
    → Solution q (p ++ i ∷ []) → (IsWhole q new → ⊥) → new ≡ p ++ i ∷ [] → StandsAt q new 0 (n + 1)
stands-live q ok p new i n h c s unfinished e = subst (λ z. StandsAt q z 0 (n + 1)) (sym e) (record {
  visits = h.visits ++ (p ++ i ∷ []) ∷ [];
  counted = one-more h.visits (p ++ i ∷ []) n h.counted;
  stands = (walk-goes q ok).down p i h.visits h.stands c s (λ w. unfinished (subst (IsWhole q) (sym e) w));
})

pub stands-back : (q : Question) → IsSound q → (p new : List ℕ) (i next n : ℕ) → StandsAt q p i n → (IsNext q p i → ⊥)
    → IsBack q p new next → StandsAt q new next n
stands-back q ok p new i next n h stop b = subst (λ m. StandsAt q new m n) (sym b.behind) (record {
  visits = h.visits;
  counted = h.counted;
  stands = (walk-goes q ok).up new b.last i h.visits b.live (subst (λ z. IsAt q z i h.visits) b.parted h.stands)
      (λ c. stop (subst (λ z. IsNext q z i) (sym b.parted) c));
})

pub stands-found : (q : Question) → IsSound q → (p new : List ℕ) (i n limit : ℕ) → StandsAt q p i n → IsNext q p i
    → Solution q (p ++ i ∷ []) → IsWhole q new → new ≡ p ++ i ∷ [] → n + 1 ≤ limit → IsFirst q new limit (n + 1)
stands-found q ok p new i n limit h c s whole e l = subst (λ z. IsFirst q z limit (n + 1)) (sym e)
    (let w : IsWhole q (p ++ i ∷ []) = subst (IsWhole q) e whole in
    let least = least_solution q (p ++ i ∷ []) ok.is_registry w s in
    record {
      whole = w;
      solved = s;
      visits = subst (λ m. HasVisits q (m + 1)) h.counted ((walk-goes q ok).found p i h.visits h.stands c w least.0 least.1).1;
      within = l;
      answer = λ t k. ((walk-goes q ok).found p i h.visits h.stands c w t k).0;
    })

pub stands-ended : (q : Question) → IsSound q → (p : List ℕ) (i n limit : ℕ) → StandsAt q p i n → (IsNext q p i → ⊥)
    → p ≡ [] → n ≤ limit → HasNoImage q limit
stands-ended q ok p i n limit h stop e l =
    let k = (walk-goes q ok).ended i h.visits (subst (λ z. IsAt q z i h.visits) e h.stands) (λ c. stop (subst (λ z. IsNext q z i) (sym e) c)) in
    ((n, subst (HasVisits q) h.counted k.0, l), k.1)

pub stands-limited : (q : Question) → IsSound q → (p : List ℕ) (i n limit : ℕ) → StandsAt q p i n → IsNext q p i → limit ≤ n → HasMoreVisits q limit
stands-limited q ok p i n limit h c l = (walk-goes q ok).limited p i h.visits limit h.stands c (subst (λ m. limit ≤ m) (sym h.counted) l)

pub on-true : (P : Type 0) (b : Bool) → b ≡ true → OnTrue b P → P
on-true P b e h = subst (λ z. OnTrue z P) e h

pub on-false : (P : Type 0) (b : Bool) → b ≡ false → OnFalse b P → P
on-false P b e h = subst (λ z. OnFalse z P) e h

-- The steps as the loop has them: what the calls tell is told of a question that is the one asked.
pub loop-back : (q r : Question) → q ≡ r → IsSound r → (p new : List ℕ) (i next n count : ℕ) → StandsAt r p i n
    → ((j : ℕ) → (j < count) ↔ IsNext q p j) → count ≤ i → IsBack q p new next → StandsAt r new next n
loop-back q r e ok p new i next n count h tells l b =
    let t : (j : ℕ) → (j < count) ↔ IsNext r p j = subst (λ z. (j : ℕ) → (j < count) ↔ IsNext z p j) e tells in
    stands-back r ok p new i next n h (λ c. let m : i < count = (t i).1 c in absurd (omega arith)) (subst (λ z. IsBack z p new next) e b)

pub loop-ended : (q r : Question) → q ≡ r → IsSound r → (p : List ℕ) (i n count limit : ℕ) → StandsAt r p i n
    → ((j : ℕ) → (j < count) ↔ IsNext q p j) → count ≤ i → p ≡ [] → n ≤ limit → HasNoImage r limit
loop-ended q r e ok p i n count limit h tells l none within =
    let t : (j : ℕ) → (j < count) ↔ IsNext r p j = subst (λ z. (j : ℕ) → (j < count) ↔ IsNext z p j) e tells in
    stands-ended r ok p i n limit h (λ c. let m : i < count = (t i).1 c in absurd (omega arith)) none within

pub loop-limited : (q r : Question) → q ≡ r → IsSound r → (p : List ℕ) (i n count limit : ℕ) → StandsAt r p i n
    → ((j : ℕ) → (j < count) ↔ IsNext q p j) → i < count → limit ≤ n → HasMoreVisits r limit
loop-limited q r e ok p i n count limit h tells l past =
    stands-limited r ok p i n limit h (subst (λ z. IsNext z p i) e ((tells i).0 l)) past

pub loop-dead : (q r : Question) → q ≡ r → IsSound r → (p new : List ℕ) (i n count : ℕ) → StandsAt r p i n
    → ((j : ℕ) → (j < count) ↔ IsNext q p j) → i < count → (b : Bool) → b ≡ false
    → OnFalse b (Solution q (p ++ i ∷ []) → ⊥) → OnFalse b (new ≡ p) → StandsAt r new (i + 1) (n + 1)
loop-dead q r e ok p new i n count h tells l b f dead kept =
    stands-dead r ok p new i n h (subst (λ z. IsNext z p i) e ((tells i).0 l))
    (subst (λ z. Solution z (p ++ i ∷ []) → ⊥) e (on-false (Solution q (p ++ i ∷ []) → ⊥) b f dead)) (on-false (new ≡ p) b f kept)

pub loop-live : (q r now : Question) → q ≡ r → now ≡ q → IsSound r → (p new : List ℕ) (i n count : ℕ) → StandsAt r p i n
    → ((j : ℕ) → (j < count) ↔ IsNext q p j) → i < count → (b : Bool) → b ≡ true
    → OnTrue b (Solution q (p ++ i ∷ [])) → OnTrue b (new ≡ p ++ i ∷ []) → (IsWhole now new → ⊥) → StandsAt r new 0 (n + 1)
loop-live q r now e d ok p new i n count h tells l b t live longer unfinished =
    stands-live r ok p new i n h (subst (λ z. IsNext z p i) e ((tells i).0 l))
    (subst (λ z. Solution z (p ++ i ∷ [])) e (on-true (Solution q (p ++ i ∷ [])) b t live))
    (λ w. unfinished (subst (λ z. IsWhole z new) (sym (d ∙ e)) w)) (on-true (new ≡ p ++ i ∷ []) b t longer)

pub loop-found : (q r now : Question) → q ≡ r → now ≡ q → IsSound r → (p new : List ℕ) (i n count limit : ℕ) → StandsAt r p i n
    → ((j : ℕ) → (j < count) ↔ IsNext q p j) → i < count → (b : Bool) → b ≡ true
    → OnTrue b (Solution q (p ++ i ∷ [])) → OnTrue b (new ≡ p ++ i ∷ []) → IsWhole now new → n + 1 ≤ limit → IsFirst r new limit (n + 1)
loop-found q r now e d ok p new i n count limit h tells l b t live longer whole within =
    stands-found r ok p new i n limit h (subst (λ z. IsNext z p i) e ((tells i).0 l))
    (subst (λ z. Solution z (p ++ i ∷ [])) e (on-true (Solution q (p ++ i ∷ [])) b t live))
    (subst (λ z. IsWhole z new) (d ∙ e) whole) (on-true (new ≡ p ++ i ∷ []) b t longer) within

-- a step back makes the prefix shorter
pub back-shorter : (q : Question) (p new : List ℕ) (next : ℕ) → IsBack q p new next → length p ≡ length new + 1
back-shorter q p new next b = ap length b.parted ∙ length-append new (b.last ∷ [])

pub on-longer : (p new : List ℕ) (i : ℕ) (b : Bool) → b ≡ true → OnTrue b (new ≡ p ++ i ∷ []) → length new ≡ length p + 1
on-longer p new i b t longer = ap length (on-true (new ≡ p ++ i ∷ []) b t longer) ∙ length-append p (i ∷ [])

pub not-both : (b : Bool) → IsTrue b → b ≡ false → ⊥
not-both b t f = let h = subst (λ z. IsTrue z) f t in absurd (cc (h))
