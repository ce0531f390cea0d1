-- Terms that are told of ids.
use Rattle.std.proofs.Common.{◌≡◌, ℕ, zero, suc, ◌+◌, ◌≤◌, ◌<◌, List, [], ◌∷◌, ◌++◌, length, map, take, get_or, slice_get, Some, option_map, sym, ◌∙◌, ap, subst, arith}
use Rattle.std.specs.List.{All}
use Rattle.std.proofs.lemmas.List.{map-append, take_more, take_all}
use Rattle.std.proofs.lemmas.List.Elements.{All-get_or}
use Rattle.std.proofs.lemmas.Option.{slice_get-map}
use Rattle.lt_definitions.specs.Terms.{TermTree}
use Rattle.lt_definitions.specs.Rules.{line_at}
use Rattle.lt_nameless.specs.Nameless.{NamelessSequent, nameless, IsWhole}
use Rattle.lt_store.specs.declared.node.Node.{Node}
use Rattle.lt_store.specs.Trees.{tree_at, trees}
use Rattle.lt_extend.specs.Proving.{AreWhole, IsWholeSequent}

within-at : {A : Type 0} (xs : List A) (i : ℕ) (x : A) → slice_get xs i ≡ Some x → i < length xs
within-at [] i x e = absurd (cc e)
within-at (y ∷ ys) zero x e = omega arith
within-at (y ∷ ys) (suc i) x e = let rest : i < length ys = within-at ys i x e in omega (arith, rest)

got-at : {A : Type 0} (xs : List A) (i : ℕ) (x d : A) → slice_get xs i ≡ Some x → get_or xs i d ≡ x
got-at [] i x d e = absurd (cc e)
got-at (y ∷ ys) zero x d e = cc e
got-at (y ∷ ys) (suc i) x d e = got-at ys i x d e

pub all-at : {A : Type 0} (P : A → Type 0) (xs : List A) (i : ℕ) (x : A) → All P xs → slice_get xs i ≡ Some x → P x
all-at P xs i x h e = subst P (got-at xs i x x e) (All-get_or P xs i x (within-at xs i x e) h)

-- an id of a list of ids is whole
pub whole-at : (nodes : List Node) (ids : List ℕ) (i id : ℕ) → All (IsWhole 0) (trees nodes ids) → slice_get ids i ≡ Some id → IsWhole 0 (tree_at nodes id)
whole-at nodes ids i id h e = all-at (IsWhole 0) (trees nodes ids) i (tree_at nodes id) h (slice_get-map (tree_at nodes) ids i ∙ ap (option_map (tree_at nodes)) e)

-- one more term
pub told-next : (nodes : List Node) (ids : List ℕ) (i id : ℕ) (terms more : List TermTree) (t : TermTree) → map (nameless []) terms ≡ trees nodes (take i ids) → slice_get ids i ≡ Some id
    → nameless [] t ≡ tree_at nodes id → more ≡ terms ++ t ∷ [] → map (nameless []) more ≡ trees nodes (take (i + 1) ids)
told-next nodes ids i id terms more t h e is m =
    let next : take (i + 1) ids ≡ take i ids ++ id ∷ [] = take_more ids i id (within-at ids i id e) ∙ ap (λ x. take i ids ++ x ∷ []) (got-at ids i id id e) in
    ap (map (nameless [])) m ∙ map-append (nameless []) terms (t ∷ []) ∙ (λ j. h j ++ is j ∷ []) ∙ sym (map-append (tree_at nodes) (take i ids) (id ∷ [])) ∙ ap (trees nodes) (sym next)

-- behind the last term
pub told-all : (nodes : List Node) (ids : List ℕ) (i : ℕ) (terms : List TermTree) → map (nameless []) terms ≡ trees nodes (take i ids) → length ids ≤ i → map (nameless []) terms ≡ trees nodes ids
told-all nodes ids i terms h down = h ∙ ap (trees nodes) (take_all i ids down)

-- a line's sequent is whole, where all are
pub whole-line : (ss : List NamelessSequent) (n : ℕ) (s : NamelessSequent) → AreWhole ss → line_at ss n ≡ Some s → IsWholeSequent s
whole-line ss zero s h e = absurd (cc e)
whole-line ss (suc n) s h e = all-at IsWholeSequent ss n s h e
