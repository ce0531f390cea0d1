-- The steps of the walk.
use Rattle.std.proofs.Common.{◌≡◌, ℕ, zero, suc, ◌+◌, ◌<◌, List, [], ◌∷◌, ◌++◌, slice_get, refl, subst, sym, ◌∙◌, inl, inr, arith, Contains, append_assoc, ◌⊎◌, append-nil}
use Rattle.std.specs.Prelude.{IsSome}
use Rattle.std.proofs.lemmas.List.Elements.{Contains-append_left, Contains-append_right, Contains-append_cases}
use Rattle.lt_definitions.specs.Types.{Chars, TypeTree}
use Rattle.lt_transport_definitions.specs.RuleForm.{TransferRule}
use Rattle.lt_transport_definitions.specs.Candidates.{occurrences, candidates, IsChoice}
use Rattle.lt_transport_definitions.specs.Search.{Top, equal, implied, Question, top_candidates, Solution, IsWhole, IsLive, AreChoices}
use Rattle.lt_transport_laws.proofs.Prefixes.{shortened}
use Rattle.lt_search_laws.specs.Walk.{Precedes, IsSound, IsStep, IsAt}
use Rattle.lt_search_laws.proofs.Enumerated.{none_filled, solution-choices}
use Rattle.lt_search_laws.proofs.Orders.{not-nothing, Begins, precedes-next, next-precedes, branch-precedes, begins-precedes, precedes-down, precedes-append, precedes-longer, precedes-split, not-itself, one-is, here, different-more}

-- an earlier number is that of a candidate too
one-lower : {A : Type 0} (xs : List A) (i : ℕ) → IsSome (slice_get xs (suc i)) → IsSome (slice_get xs i)
one-lower [] i h = absurd (cc (h))
one-lower (x ∷ xs) zero h = refl
one-lower (x ∷ xs) (suc i) h = one-lower xs i h

choice-lower : (rules : List TransferRule) (c : Chars) (ts : List TypeTree) (i : ℕ) → IsChoice rules c ts (suc i) → IsChoice rules c ts i
choice-lower rules c ts i h = elim h [
  | inl k ↦ (let e = k.1 in absurd (omega arith))
  | inr k ↦ inr (one-lower (candidates rules c ts) i k)
]

top-lower : (g : Top) (i : ℕ) → IsSome (slice_get (top_candidates g) (suc i)) → IsSome (slice_get (top_candidates g) i)
top-lower equal zero h = refl
top-lower equal (suc i) h = absurd (cc (h))
top-lower implied zero h = refl
top-lower implied (suc zero) h = absurd (cc (h))
top-lower implied (suc (suc i)) h = absurd (cc (h))

-- places that are named by candidates stay so with an earlier number at the last
lower : (q : Question) (os : List (Chars × List TypeTree)) (p : List ℕ) (i : ℕ) (rest : List ℕ) → AreChoices q os (p ++ suc i ∷ rest) → AreChoices q os (p ++ i ∷ [])
lower q [] [] i rest h = (top-lower q.top i h.0, refl)
lower q (o ∷ os) [] i rest h = (choice-lower q.rules o.0 o.1 i h.0, none_filled q os)
lower q [] (b ∷ p) i rest h = absurd (no p i rest h.1)
  where
    no : (p : List ℕ) (i : ℕ) (rest : List ℕ) → p ++ suc i ∷ rest ≡ [] → ⊥
    no [] i rest e = absurd (cc (e))
    no (c ∷ p) i rest e = absurd (cc (e))
lower q (o ∷ os) (b ∷ p) i rest h = (h.0, lower q os p i rest h.1)

front : (q : Question) (os : List (Chars × List TypeTree)) (p rest : List ℕ) → AreChoices q os (p ++ rest) → AreChoices q os p
front q os [] rest h = none_filled q os
front q [] (b ∷ p) rest h = (h.0, shorter p rest h.1)
  where
    shorter : (p rest : List ℕ) → p ++ rest ≡ [] → p ≡ []
    shorter [] rest e = refl
    shorter (c ∷ p) rest e = absurd (cc (e))
front q (o ∷ os) (b ∷ p) rest h = (h.0, front q os p rest h.1)

-- where a number is that of no candidate, no later one is
pub no-later : (q : Question) (os : List (Chars × List TypeTree)) (p : List ℕ) (i : ℕ) → (AreChoices q os (p ++ i ∷ []) → ⊥) → (d : ℕ) (rest : List ℕ) → AreChoices q os (p ++ (d + i) ∷ rest) → ⊥
no-later q os p i stop zero rest h =
    let e : 0 + i ≡ i = omega arith in
    stop (front q os (p ++ i ∷ []) rest (subst (AreChoices q os) (sym (append_assoc p (i ∷ []) rest)) (subst (λ k. AreChoices q os (p ++ k ∷ rest)) e h)))
no-later q os p i stop (suc d) rest h =
    let e : suc d + i ≡ suc (d + i) = omega arith in
    no-later q os p i stop d [] (lower q os p (d + i) rest (subst (λ k. AreChoices q os (p ++ k ∷ rest)) e h))

empty-one : (p : List ℕ) (i : ℕ) (rest : List ℕ) → (p ++ i ∷ []) ++ rest ≡ [] → ⊥
empty-one [] i rest e = absurd (cc (e))
empty-one (b ∷ p) i rest e = absurd (cc (e))

pub no-snoc : (p : List ℕ) (j : ℕ) (r : List ℕ) → p ++ j ∷ r ≡ [] → ⊥
no-snoc [] j r e = absurd (cc (e))
no-snoc (b ∷ p) j r e = absurd (cc (e))

-- what is longer than p has a parent that begins with p
parent-begins : (p : List ℕ) (j : ℕ) (r sp : List ℕ) (l : ℕ) → p ++ j ∷ r ≡ sp ++ l ∷ [] → Begins p sp
parent-begins [] j r sp l e = (sp, refl)
parent-begins (b ∷ p) j r [] l e = let f : p ++ j ∷ r ≡ [] = cc (e) in absurd (no-snoc p j r f)
parent-begins (b ∷ p) j r (c ∷ sp) l e =
    let f : p ++ j ∷ r ≡ sp ++ l ∷ [] = cc (e) in
    let g : c ≡ b = cc (e) in
    let w = parent-begins p j r sp l f in
    let m = w.1 in (w.0, (λ i. g i ∷ m i))

-- a live prefix has live prefixes
pub live-front : (q : Question) → IsSound q → (p : List ℕ) (i : ℕ) (x : List ℕ) → Begins (p ++ i ∷ []) x → IsLive q x → Solution q (p ++ i ∷ [])
live-front q ok p i x h l = elim l [
  | inl e ↦ absurd (empty-one p i h.0 (sym h.1 ∙ e))
  | inr s ↦ shortened q (p ++ i ∷ []) h.0 ok.is_registry ok.are_typed (subst (Solution q) h.1 s)
]

whole-front : (q : Question) → IsSound q → (p : List ℕ) (i : ℕ) (x : List ℕ) → Begins (p ++ i ∷ []) x → Solution q x → Solution q (p ++ i ∷ [])
whole-front q ok p i x h s = shortened q (p ++ i ∷ []) h.0 ok.is_registry ok.are_typed (subst (Solution q) h.1 s)

-- a step that begins with a prefix is the prefix, or the prefix is live
step-front : (q : Question) → IsSound q → (p : List ℕ) (i : ℕ) (x : List ℕ) → Begins (p ++ i ∷ []) x → IsStep q x → (x ≡ p ++ i ∷ []) ⊎ Solution q (p ++ i ∷ [])
step-front q ok p i x h s = at h.0 h.1
  where
    at : (rest : List ℕ) → x ≡ (p ++ i ∷ []) ++ rest → (x ≡ p ++ i ∷ []) ⊎ Solution q (p ++ i ∷ [])
    at [] e = inl (e ∙ append-nil (p ++ i ∷ []))
    at (j ∷ r) e = inr (live-front q ok p i s.parent (parent-begins (p ++ i ∷ []) j r s.parent s.last (sym e ∙ s.longer)) s.live)

-- The walk begins.
pub walk-starts : (q : Question) → IsAt q [] 0 []
walk-starts q = record {
  live = inl refl;
  choices = none_filled q (occurrences q.statement);
  different = tt;
  visited = λ x. (
    (λ h. absurd (no h.1)),
    (λ h. absurd (first x h.0 h.1)),
  );
  none = λ others w s h. before others w h;
}
  where
    no : {k : ℕ} → k < 0 → ⊥
    no l = omega arith

    first : (x : List ℕ) → IsStep q x → Precedes x (0 ∷ []) → ⊥
    first [] s h = no-snoc s.parent s.last [] (sym s.longer)
    first (a ∷ x) s h = elim h [
      | inl l ↦ omega arith
      | inr k ↦ not-nothing x k.1
    ]

    before : (x : List ℕ) → IsWhole q x → Precedes x (0 ∷ []) → ⊥
    before [] w h = omega (arith, w)
    before (a ∷ x) w h = elim h [
      | inl l ↦ omega arith
      | inr k ↦ not-nothing x k.1
    ]

pub not-yet : (q : Question) (p : List ℕ) (i : ℕ) (vs : List (List ℕ)) → IsAt q p i vs → Contains vs (p ++ i ∷ []) → ⊥
not-yet q p i vs at h = not-itself (p ++ i ∷ []) ((at.visited (p ++ i ∷ [])).0 h).1

pub this-step : (q : Question) (p : List ℕ) (i : ℕ) (vs : List (List ℕ)) → IsAt q p i vs → AreChoices q (occurrences q.statement) (p ++ i ∷ []) → IsStep q (p ++ i ∷ [])
this-step q p i vs at c = record { parent = p; last = i; longer = refl; choices = c; live = at.live }

-- A prefix that isn't live: on to the next number.
pub walk-dead : (q : Question) → IsSound q → (p : List ℕ) (i : ℕ) (vs : List (List ℕ)) → IsAt q p i vs → AreChoices q (occurrences q.statement) (p ++ i ∷ []) → (Solution q (p ++ i ∷ []) → ⊥)
    → IsAt q p (suc i) (vs ++ (p ++ i ∷ []) ∷ [])
walk-dead q ok p i vs at c dead = record {
  live = at.live;
  choices = at.choices;
  different = different-more vs (p ++ i ∷ []) at.different (not-yet q p i vs at);
  visited = λ x. (
    (λ h. elim (Contains-append_cases vs ((p ++ i ∷ []) ∷ []) x h) [
      | inl k ↦ (let w = (at.visited x).0 k in (w.0, next-precedes x p i w.1))
      | inr k ↦ (let e = one-is (p ++ i ∷ []) x k in
          subst (λ z. IsStep q z × Precedes z (p ++ suc i ∷ [])) (sym e) (this-step q p i vs at c, begins-precedes (p ++ i ∷ []) p i ([], sym (append-nil (p ++ i ∷ [])))))
    ]),
    (λ h. elim (precedes-next x p i h.1) [
      | inl k ↦ Contains-append_left vs ((p ++ i ∷ []) ∷ []) x ((at.visited x).1 (h.0, k))
      | inr k ↦ elim (step-front q ok p i x k h.0) [
        | inl e ↦ Contains-append_right vs ((p ++ i ∷ []) ∷ []) x (subst (λ z. Contains ((p ++ i ∷ []) ∷ []) z) (sym e) (here (p ++ i ∷ []) []))
        | inr s ↦ absurd (dead s)
      ]
    ]),
  );
  none = λ others w s h. elim (precedes-next others p i h) [
    | inl k ↦ at.none others w s k
    | inr k ↦ dead (whole-front q ok p i others k s)
  ];
}

-- A live prefix: down to its first continuation.
pub walk-down : (q : Question) → (p : List ℕ) (i : ℕ) (vs : List (List ℕ)) → IsAt q p i vs → AreChoices q (occurrences q.statement) (p ++ i ∷ []) → Solution q (p ++ i ∷ []) → (IsWhole q (p ++ i ∷ []) → ⊥)
    → IsAt q (p ++ i ∷ []) 0 (vs ++ (p ++ i ∷ []) ∷ [])
walk-down q p i vs at c alive unfinished = record {
  live = inr alive;
  choices = c;
  different = different-more vs (p ++ i ∷ []) at.different (not-yet q p i vs at);
  visited = λ x. (
    (λ h. elim (Contains-append_cases vs ((p ++ i ∷ []) ∷ []) x h) [
      | inl k ↦ (let w = (at.visited x).0 k in (w.0, precedes-append x (p ++ i ∷ []) (0 ∷ []) w.1))
      | inr k ↦ (let e = one-is (p ++ i ∷ []) x k in
          subst (λ z. IsStep q z × Precedes z ((p ++ i ∷ []) ++ 0 ∷ [])) (sym e) (this-step q p i vs at c, precedes-longer (p ++ i ∷ []) 0))
    ]),
    (λ h. elim (precedes-down x (p ++ i ∷ []) h.1) [
      | inl k ↦ Contains-append_left vs ((p ++ i ∷ []) ∷ []) x ((at.visited x).1 (h.0, k))
      | inr e ↦ Contains-append_right vs ((p ++ i ∷ []) ∷ []) x (subst (λ z. Contains ((p ++ i ∷ []) ∷ []) z) (sym e) (here (p ++ i ∷ []) []))
    ]),
  );
  none = λ others w s h. elim (precedes-down others (p ++ i ∷ []) h) [
    | inl k ↦ at.none others w s k
    | inr e ↦ unfinished (subst (IsWhole q) e w)
  ];
}

pub less-or-more : (j i : ℕ) → (j < i) ⊎ ((d : ℕ) × (j ≡ d + i))
less-or-more j zero = inr (j, omega arith)
less-or-more zero (suc i) = inl (omega arith)
less-or-more (suc j) (suc i) = elim (less-or-more j i) [
  | inl l ↦ inl (omega arith)
  | inr d ↦ (let e = d.1 in inr (d.0, omega arith))
]

up-or : (q : Question) (g : List ℕ) (k i : ℕ) → (AreChoices q (occurrences q.statement) ((g ++ k ∷ []) ++ i ∷ []) → ⊥) → (x : List ℕ) → AreChoices q (occurrences q.statement) x
    → Precedes x (g ++ suc k ∷ []) → Precedes x ((g ++ k ∷ []) ++ i ∷ [])
up-or q g k i stop x c h = elim (precedes-next x g k h) [
  | inl m ↦ precedes-append x (g ++ k ∷ []) (i ∷ []) m
  | inr m ↦ inside m.0 m.1
]
  where
    inside : (rest : List ℕ) → x ≡ (g ++ k ∷ []) ++ rest → Precedes x ((g ++ k ∷ []) ++ i ∷ [])
    inside [] e = subst (λ z. Precedes z ((g ++ k ∷ []) ++ i ∷ [])) (sym (e ∙ append-nil (g ++ k ∷ []))) (precedes-longer (g ++ k ∷ []) i)
    inside (j ∷ r) e = elim (less-or-more j i) [
      | inl l ↦ subst (λ z. Precedes z ((g ++ k ∷ []) ++ i ∷ [])) (sym e) (branch-precedes (g ++ k ∷ []) j i r l)
      | inr d ↦ absurd (no-later q (occurrences q.statement) (g ++ k ∷ []) i stop d.0 r (subst (λ z. AreChoices q (occurrences q.statement) ((g ++ k ∷ []) ++ z ∷ r)) d.1 (subst (AreChoices q (occurrences q.statement)) e c)))
    ]

-- No further candidate: back to the parent's next number.
pub walk-up : (q : Question) (g : List ℕ) (k i : ℕ) (vs : List (List ℕ)) → IsLive q g → IsAt q (g ++ k ∷ []) i vs → (AreChoices q (occurrences q.statement) ((g ++ k ∷ []) ++ i ∷ []) → ⊥)
    → IsAt q g (suc k) vs
walk-up q g k i vs alive at stop = record {
  live = alive;
  choices = front q (occurrences q.statement) g (k ∷ []) at.choices;
  different = at.different;
  visited = λ x. (
    (λ h. let w = (at.visited x).0 h in (w.0, up x w.1)),
    (λ h. (at.visited x).1 (h.0, up-or q g k i stop x h.0.choices h.1)),
  );
  none = λ others w s h. at.none others w s (up-or q g k i stop others (solution-choices q others s) h);
}
  where
    up : (x : List ℕ) → Precedes x ((g ++ k ∷ []) ++ i ∷ []) → Precedes x (g ++ suc k ∷ [])
    up x h = elim (precedes-split x (g ++ k ∷ []) (i ∷ []) h) [
      | inl m ↦ next-precedes x g k m
      | inr m ↦ begins-precedes x g k m
    ]
