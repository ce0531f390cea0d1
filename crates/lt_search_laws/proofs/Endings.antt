-- How the walk ends.
use Rattle.std.proofs.Common.{◌≡◌, ℕ, suc, ◌+◌, ◌≤◌, List, [], ◌∷◌, ◌++◌, length, refl, subst, sym, ap, ◌∙◌, inl, inr, arith, Contains, ◌⊎◌, append-nil}
use Rattle.std.proofs.lemmas.List.Elements.{Contains-append_left, Contains-append_right, Contains-append_cases}
use Rattle.std.proofs.lemmas.List.{length-append}
use Rattle.lt_definitions.specs.Types.{found}
use Rattle.lt_transport_definitions.specs.Candidates.{occurrences}
use Rattle.lt_transport_definitions.specs.Search.{Question, Solution, IsWhole, IsLeast, IsBefore, IsAnswer, HasNoAnswer, AreChoices, IsPrefix, IsNoLater, IsVisit, HasVisits, HasMoreVisits}
use Rattle.lt_search_laws.specs.Walk.{Precedes, IsStep, IsAt, TheWalkGoes}
use Rattle.lt_search_laws.proofs.Enumerated.{solution-choices}
use Rattle.lt_search_laws.proofs.Orders.{not-nothing, before-precedes, Places, comes, follows, begins, continues, places-of, one-is, here, different-more}
use Rattle.lt_search_laws.proofs.Walking.{no-later, no-snoc, walk-starts, not-yet, this-step, walk-dead, walk-down, less-or-more, walk-up}

precedes-trans : (x y z : List ℕ) → Precedes x y → Precedes y z → Precedes x z
precedes-trans [] y [] h k = absurd (not-nothing y k)
precedes-trans [] y (c ∷ z) h k = tt
precedes-trans (a ∷ x) [] z h k = absurd h
precedes-trans (a ∷ x) (b ∷ y) [] h k = absurd k
precedes-trans (a ∷ x) (b ∷ y) (c ∷ z) h k = elim h [
  | inl l ↦ elim k [
    | inl m ↦ inl (omega arith)
    | inr m ↦ (let e = m.0 in inl (omega arith))
  ]
  | inr l ↦ elim k [
    | inl m ↦ (let e = l.0 in inl (omega arith))
    | inr m ↦ inr (l.0 ∙ m.0, precedes-trans x y z l.1 m.1)
  ]
]

begins-before : (x : List ℕ) (j : ℕ) (r : List ℕ) → Precedes x (x ++ j ∷ r)
begins-before [] j r = tt
begins-before (a ∷ x) j r = inr (refl, begins-before x j r)

same-length : (x y rest : List ℕ) → length x ≡ length y → y ≡ x ++ rest → y ≡ x
same-length x y [] l e = e ∙ append-nil x
same-length x y (j ∷ r) l e = let n = ap length e ∙ length-append x (j ∷ r) in absurd (omega arith)

-- what the walk has come by is no later than an answer
come-by : (q : Question) (p : List ℕ) (i : ℕ) (vs : List (List ℕ)) → IsAt q p i vs → (x : List ℕ) → Precedes x (p ++ i ∷ []) ⊎ (x ≡ p ++ i ∷ []) → IsNoLater q x
come-by q p i vs at x h choices s a = elim-places (places-of x choices)
  where
    through : Precedes choices x → ⊥
    through k = elim h [
      | inl l ↦ at.none choices a.whole s (precedes-trans choices x (p ++ i ∷ []) k l)
      | inr e ↦ at.none choices a.whole s (subst (Precedes choices) e k)
    ]

    continued : (rest : List ℕ) → x ≡ choices ++ rest → IsPrefix x choices ⊎ IsBefore x choices
    continued [] e = inl ([], append-nil x ∙ e ∙ append-nil choices)
    continued (j ∷ r) e = absurd (through (subst (Precedes choices) (sym e) (begins-before choices j r)))

    elim-places : Places x choices → IsPrefix x choices ⊎ IsBefore x choices
    elim-places (comes k) = inr k
    elim-places (follows k) = absurd (through (before-precedes choices x k))
    elim-places (begins k) = inl (k.0, sym k.1)
    elim-places (continues k) = continued k.0 k.1

visit : (q : Question) (x : List ℕ) → IsStep q x → IsNoLater q x → IsVisit q x
visit q x s n = record { parent = s.parent; last = s.last; longer = s.longer; choices = s.choices; live = s.live; no_later = n }

step-of : (q : Question) (x : List ℕ) → IsVisit q x → IsStep q x
step-of q x v = record { parent = v.parent; last = v.last; longer = v.longer; choices = v.choices; live = v.live }

-- the visits so far and the prefix at which the walk stands
these-visits : (q : Question) (p : List ℕ) (i : ℕ) (vs : List (List ℕ)) → IsAt q p i vs → AreChoices q (occurrences q.statement) (p ++ i ∷ []) → (x : List ℕ) → Contains (vs ++ (p ++ i ∷ []) ∷ []) x → IsVisit q x
these-visits q p i vs at c x h = elim (Contains-append_cases vs ((p ++ i ∷ []) ∷ []) x h) [
  | inl k ↦ (let w = (at.visited x).0 k in visit q x w.0 (come-by q p i vs at x (inl w.1)))
  | inr k ↦ (let e = one-is (p ++ i ∷ []) x k in
      subst (IsVisit q) (sym e) (visit q (p ++ i ∷ []) (this-step q p i vs at c) (come-by q p i vs at (p ++ i ∷ []) (inr refl))))
]

-- The walk would pass its limit.
pub walk-limit : (q : Question) (p : List ℕ) (i : ℕ) (vs : List (List ℕ)) (limit : ℕ) → IsAt q p i vs → AreChoices q (occurrences q.statement) (p ++ i ∷ []) → limit ≤ length vs → HasMoreVisits q limit
walk-limit q p i vs limit at c l =
    let n = length-append vs ((p ++ i ∷ []) ∷ []) in
    (vs ++ (p ++ i ∷ []) ∷ [], omega arith, different-more vs (p ++ i ∷ []) at.different (not-yet q p i vs at), these-visits q p i vs at c)

-- A whole choice list that has a solution: the answer.
pub walk-found : (q : Question) (p : List ℕ) (i : ℕ) (vs : List (List ℕ)) → IsAt q p i vs → AreChoices q (occurrences q.statement) (p ++ i ∷ []) → IsWhole q (p ++ i ∷ [])
    → (s : Solution q (p ++ i ∷ [])) → IsLeast s → IsAnswer q (p ++ i ∷ []) s × HasVisits q (length vs + 1)
walk-found q p i vs at c w s least = (
  answer,
  (
    vs ++ (p ++ i ∷ []) ∷ [],
    length-append vs ((p ++ i ∷ []) ∷ []),
    different-more vs (p ++ i ∷ []) at.different (not-yet q p i vs at),
    λ x. (these-visits q p i vs at c x, (λ v. back x v)),
  ),
)
  where
    first-of : (others : List ℕ) → IsWhole q others → Solution q others → Places others (p ++ i ∷ []) → ((p ++ i ∷ []) ≡ others) ⊎ IsBefore (p ++ i ∷ []) others
    first-of others u t (comes k) = absurd (at.none others u t (before-precedes others (p ++ i ∷ []) k))
    first-of others u t (follows k) = inr k
    first-of others u t (begins k) = inl (same-length others (p ++ i ∷ []) k.0 (u ∙ sym w) k.1)
    first-of others u t (continues k) = inl (sym (same-length (p ++ i ∷ []) others k.0 (w ∙ sym u) k.1))

    answer : IsAnswer q (p ++ i ∷ []) s
    answer = record { whole = w; least = least; first = λ others u t. first-of others u t (places-of others (p ++ i ∷ [])) }

    inside : (x rest : List ℕ) → IsStep q x → x ++ rest ≡ p ++ i ∷ [] → Contains (vs ++ (p ++ i ∷ []) ∷ []) x
    inside x [] t e = Contains-append_right vs ((p ++ i ∷ []) ∷ []) x (subst (λ z. Contains ((p ++ i ∷ []) ∷ []) z) (sym (sym (append-nil x) ∙ e)) (here (p ++ i ∷ []) []))
    inside x (j ∷ r) t e = Contains-append_left vs ((p ++ i ∷ []) ∷ []) x ((at.visited x).1 (t, subst (Precedes x) e (begins-before x j r)))

    back : (x : List ℕ) → IsVisit q x → Contains (vs ++ (p ++ i ∷ []) ∷ []) x
    back x v = elim (v.no_later (p ++ i ∷ []) s answer) [
      | inl k ↦ inside x k.0 (step-of q x v) k.1
      | inr k ↦ Contains-append_left vs ((p ++ i ∷ []) ∷ []) x ((at.visited x).1 (step-of q x v, before-precedes x (p ++ i ∷ []) k))
    ]

-- No candidate is left at the first place: there is no answer.
pub walk-none : (q : Question) (i : ℕ) (vs : List (List ℕ)) → IsAt q [] i vs → (AreChoices q (occurrences q.statement) (i ∷ []) → ⊥) → HasVisits q (length vs) × HasNoAnswer q
walk-none q i vs at stop = (
  (
    vs,
    refl,
    at.different,
    λ x. (
      (λ h. let w = (at.visited x).0 h in visit q x w.0 (come-by q [] i vs at x (inl w.1))),
      (λ v. (at.visited x).1 (step-of q x v, all x (λ e. no-snoc v.parent v.last [] (sym v.longer ∙ e)) v.choices)),
    ),
  ),
  λ choices w s. at.none choices w s (all choices (λ e. let l = ap length e in omega (arith, w)) (solution-choices q choices s)),
)
  where
    all : (x : List ℕ) → (x ≡ [] → ⊥) → AreChoices q (occurrences q.statement) x → Precedes x (i ∷ [])
    all [] n c = absurd (n refl)
    all (a ∷ x) n c = elim (less-or-more a i) [
      | inl l ↦ inl l
      | inr d ↦ absurd (no-later q (occurrences q.statement) [] i stop d.0 x (subst (λ z. AreChoices q (occurrences q.statement) (z ∷ x)) d.1 c))
    ]

one-on : (q : Question) (p : List ℕ) (i : ℕ) (vs : List (List ℕ)) → IsAt q p (suc i) vs → IsAt q p (i + 1) vs
one-on q p i vs h = let e : suc i ≡ i + 1 = omega arith in subst (λ k. IsAt q p k vs) e h

pub walk-goes : TheWalkGoes
walk-goes q ok = record {
  starts = walk-starts q;
  dead = λ p i vs at c dead. one-on q p i (vs ++ (p ++ i ∷ []) ∷ []) (walk-dead q ok p i vs at c dead);
  down = λ p i vs at c s unfinished. walk-down q p i vs at c s unfinished;
  up = λ p k i vs alive at stop. one-on q p k vs (walk-up q p k i vs alive at stop);
  found = λ p i vs at c w s least. walk-found q p i vs at c w s least;
  ended = λ i vs at stop. walk-none q i vs at stop;
  limited = λ p i vs limit at c l. walk-limit q p i vs limit at c l;
}
