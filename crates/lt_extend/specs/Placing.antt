-- A node whose children are taken from the places of the terms before it.
use Rattle.std.specs.Prelude.{◌≡◌, ℕ, ◌≤◌, List, [], ◌∷◌, ◌++◌, length}
use Rattle.lt_terms.specs.declared.term.TermNode.{TermNode}
use Rattle.lt_terms.specs.declared.term.TermNode.TheVariants.{App, Lam}

-- a node's children are among the places
abbrev pub HasPlaces : List ℕ → TermNode → Type 0
HasPlaces places (App i j) = 2 ≤ length places
HasPlaces places (Lam x ty i) = 1 ≤ length places
HasPlaces places n = Unit {0}

-- The node by its children's places, which are the last ones and are taken away.
abbrev pub TakesPlaces : (old new : List ℕ) → TermNode → TermNode → Type 0
TakesPlaces old new (App i j) m =
    (f : ℕ) × (a : ℕ) × (old ≡ new ++ f ∷ a ∷ []) × (m ≡ App f a)
TakesPlaces old new (Lam x ty i) m = (b : ℕ) × (old ≡ new ++ b ∷ []) × (m ≡ Lam x ty b)
TakesPlaces old new n m = (new ≡ old) × (m ≡ n)
