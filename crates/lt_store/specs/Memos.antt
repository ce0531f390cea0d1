-- What a pass has kept.
use Rattle.std.specs.Prelude.{ℕ, List, [], ◌∷◌, Option, IsSome, ◌==◌, ◌&&◌}
use Rattle.std.specs.declared.hash.FoldHasher.{FoldHasher}
use Rattle.std.specs.declared.hash.BuildHasherDefault.{BuildHasherDefault}
use Rattle.std.specs.HashMap.{get, HashMap}

-- results by an id and a number beside it
abbrev pub Memo : Type 0
Memo = HashMap (ℕ × ℕ) ℕ (BuildHasherDefault FoldHasher)

-- the result that was kept
abbrev pub result_at : Memo → ℕ → ℕ → Option ℕ
result_at m i d = get (λ p q. (p.0 == q.0) && (p.1 == q.1)) m (i, d)

-- a result was kept for the pair, and for each pair
abbrev pub IsKept : Memo → ℕ × ℕ → Type 0
IsKept m p = IsSome (result_at m p.0 p.1)

abbrev pub AllKept : Memo → List (ℕ × ℕ) → Type 0
AllKept m [] = Unit {0}
AllKept m (p ∷ ps) = IsKept m p × AllKept m ps
