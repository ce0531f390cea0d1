-- Named statements by ids and as terms.
use Rattle.std.proofs.Common.{◌≡◌, ℕ, zero, suc, ◌<◌, List, [], ◌∷◌, Bool, true, false, Some, refl, arith, if◌then◌else◌}
use Rattle.std.specs.Option.{option_map}
use Rattle.std.proofs.lemmas.Option.{none-some, same_Some}
use Rattle.lt_definitions.specs.Types.{Chars, same_name, found}
use Rattle.lt_store.specs.declared.node.Node.{Node}
use Rattle.lt_store.specs.Trees.{tree_at}
use Rattle.lt_kernel.specs.Sequents.{statements_at, NamedWithin}

-- the statement of a label is that of its id
pub found-statement : (ns : List Node) (l : Chars) (named : List (Chars × ℕ)) → found l (statements_at ns named) ≡ option_map (tree_at ns) (found l named)
found-statement ns l [] = refl
found-statement ns l (p ∷ named) = by (same_name l p.0) (found-statement ns l named)
  where
    by : (b : Bool) → found l (statements_at ns named) ≡ option_map (tree_at ns) (found l named)
        → (if b then Some (tree_at ns p.1) else found l (statements_at ns named)) ≡ option_map (tree_at ns) (if b then Some p.1 else found l named)
    by true later = refl
    by false later = later

-- the id of a label is in range
pub found-within : (n : ℕ) (l : Chars) (named : List (Chars × ℕ)) (id : ℕ) → NamedWithin n named → found l named ≡ Some id → id < n
found-within n l [] id h e = absurd (none-some id e)
found-within n l (p ∷ named) id h e =
    by (same_name l p.0) e (λ later. found-within n l named id (λ k d w. h (suc k) d (omega (arith, w))) later)
  where
    by : (b : Bool) → (if b then Some p.1 else found l named) ≡ Some id → (found l named ≡ Some id → id < n) → id < n
    by true e later = let same : p.1 ≡ id = same_Some p.1 id e in let first : p.1 < n = h zero p (omega arith) in omega (arith, same, first)
    by false e later = later e
