-- Conversions one after another.
use Rattle.std.proofs.Common.{◌≡◌, ℕ, ◌<◌, List, length, Option, Some, None, refl, sym, ◌∙◌, ap, subst}
use Rattle.lt_definitions.specs.Types.{Chars}
use Rattle.lt_nameless.specs.Nameless.{Nameless}
use Rattle.lt_store.specs.Trees.{tree_at}
use Rattle.lt_store.proofs.TreeLemmas.{tree_at-extends}
use Rattle.lt_store.specs.Typed.{IsTyped}
use Rattle.lt_kernel.specs.State.{State, statements}
use Rattle.lt_kernel.specs.Growing.{IsSound, Grows, Carries}
use Rattle.lt_derived.specs.Equations.{Equates, Stands, IsEquation, Meet}
use Rattle.lt_conv.specs.Conversions.{Converts, and_then, or_else}
use Rattle.lt_kernel.proofs.GrowingLemmas.{carries-grows}
use Rattle.lt_derived.proofs.EquationLemmas.{equates-kept, stands-sound}

pub converted : (s : State) (t : Nameless) (o : Option Nameless) (n : ℕ) → Converts s t o (Some n) → (r : Nameless) × (o ≡ Some r) × Equates s n t r
converted s t (Some r) n h = (r, refl, h)
converted s t None n h = absurd h

pub not-converted : (s : State) (t : Nameless) (o : Option Nameless) → Converts s t o None → o ≡ None
not-converted s t (Some r) h = absurd h
not-converted s t None h = refl

pub at-line : (s : State) (t : Nameless) (o : Option Nameless) (l k : Option ℕ) → Converts s t o l → l ≡ k → Converts s t o k
at-line s t o l k h e = subst (Converts s t o) e h

-- the same term and statements, seen earlier
pub earlier : (s0 s1 s2 : State) (id : ℕ) (b : List (Chars × Nameless) → Nameless → Option Nameless) (line : Option ℕ) (t : Nameless) → Grows s0 s1 → tree_at s1.nodes id ≡ t
    → Converts s2 (tree_at s1.nodes id) (b (statements s1) (tree_at s1.nodes id)) line → Converts s2 t (b (statements s0) t) line
earlier s0 s1 s2 id b line t g e h =
    subst (λ (named : List (Chars × Nameless)). Converts s2 t (b named t) line) g.stays.statements
    (subst (λ (q : Nameless). Converts s2 q (b (statements s1) q) line) e h)

pub else-converts : (s0 s1 s2 : State) (id : ℕ) (a : Option Nameless) (b : List (Chars × Nameless) → Nameless → Option Nameless) (line : Option ℕ) → Carries s0 s1 → id < length s0.nodes
    → Converts s1 (tree_at s0.nodes id) a None → Converts s2 (tree_at s1.nodes id) (b (statements s1) (tree_at s1.nodes id)) line
    → Converts s2 (tree_at s0.nodes id) (or_else a (b (statements s0) (tree_at s0.nodes id))) line
else-converts s0 s1 s2 id a b line c w n h =
    let g = carries-grows s0 s1 c in
    subst (λ (o : Option Nameless). Converts s2 (tree_at s0.nodes id) (or_else o (b (statements s0) (tree_at s0.nodes id))) line) (sym (not-converted s1 (tree_at s0.nodes id) a n))
    (earlier s0 s1 s2 id b line (tree_at s0.nodes id) g (tree_at-extends s0.nodes s1.nodes id g.stays.nodes w) h)

-- what was sound is sound
pub still-sound : (s0 s1 : State) → Carries s0 s1 → IsSound s0 → IsSound s1
still-sound s0 s1 c h = let g = carries-grows s0 s1 c in g.sound h

module _ (s0 s1 : State) (a : Option Nameless) (b : List (Chars × Nameless) → Nameless → Option Nameless) (t : Nameless) (n1 m : ℕ) (c1 : Carries s0 s1)
    (h1 : Converts s1 t a (Some n1)) (st : (q : IsEquation s1 n1) → Stands s1 m q.to) where
  pub first : (r : Nameless) × (a ≡ Some r) × Equates s1 n1 t r
  first = converted s1 t a n1 h1

  pub middle-stands : Stands s1 m first.0
  middle-stands = st (record { from = t; to = first.0; holds = first.2 })

  pub middle-sound : IsTyped s1.signature s1.nodes m
  middle-sound = stands-sound s1 n1 m t first.0 first.2 middle-stands

  module _ (s2 : State) (o : Option ℕ) (h2 : Converts s2 (tree_at s1.nodes m) (b (statements s1) (tree_at s1.nodes m)) o) where
    second : Converts s2 first.0 (b (statements s0) first.0) o
    second = earlier s0 s1 s2 m b o first.0 (carries-grows s0 s1 c1) middle-stands.is h2

    whole : (v : Option Nameless) → b (statements s0) first.0 ≡ v → and_then a (b (statements s0)) ≡ v
    whole v e = ap (λ p. and_then p (b (statements s0))) first.1 ∙ e

    pub then-none : o ≡ None → Converts s2 t (and_then a (b (statements s0))) None
    then-none e = subst (λ v. Converts s2 t v None) (sym (whole None (not-converted s2 first.0 (b (statements s0) first.0) (at-line s2 first.0 (b (statements s0) first.0) o None second e)))) tt

    module _ (n2 : ℕ) (e : o ≡ Some n2) (c2 : Carries s1 s2) where
      pub last : (r : Nameless) × (b (statements s0) first.0 ≡ Some r) × Equates s2 n2 first.0 r
      last = converted s2 first.0 (b (statements s0) first.0) n2 (at-line s2 first.0 (b (statements s0) first.0) o (Some n2) second e)

      abbrev pub then-meets : Meet s2 n1 n2
      then-meets = record { from = t; middle = first.0; to = last.0; first = equates-kept s1 s2 n1 t first.0 c2 first.2; second = last.2 }

      pub then-converts : (s3 : State) (n3 : ℕ) → ((q : Meet s2 n1 n2) → Equates s3 n3 q.from q.to) → Converts s3 t (and_then a (b (statements s0))) (Some n3)
      then-converts s3 n3 k = subst (λ v. Converts s3 t v (Some n3)) (sym (whole (Some last.0) last.1)) (k then-meets)
