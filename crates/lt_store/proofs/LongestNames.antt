-- The longest name of a free variable in terms.
use Rattle.std.proofs.Common.{◌≡◌, ℕ, ◌+◌, ◌<◌, List, [], ◌∷◌, length, get_or, drop, Bool, true, false, ◌||◌, ◌&&◌, refl, ap, ◌∙◌, arith}
use Rattle.std.specs.Prelude.{max}
use Rattle.std.specs.List.{list_any}
use Rattle.lt_definitions.specs.Types.{Chars, TypeTree, same_name, same_type}
use Rattle.lt_definitions.proofs.SameNames.{false-name}
use Rattle.lt_nameless.specs.Nameless.{Nameless, nameless_free, nameless_bound, nameless_loose, nameless_constant, nameless_application, nameless_abstraction}
use Rattle.lt_nameless.specs.NamelessRules.{nameless_has_free}
use Rattle.lt_store.specs.declared.node.Node.{Node}
use Rattle.lt_store.specs.declared.change.Work.TheVariants.{Measure}
use Rattle.lt_store.specs.Trees.{tree_at, trees, AllBelow, Extends}
use Rattle.lt_store.specs.Passes.{longest_free, longest_free_of, IsResult}
use Rattle.lt_store.proofs.TreeLemmas.{tree_at-extends}
use Rattle.lt_store.proofs.Lists.{trees_left}

-- one more of the terms was measured
pub longest_more : (old new : List Node) (ids : List ℕ) (i so r : ℕ) → Extends old new → AllBelow (length old) ids → i < length ids → IsResult Measure new (get_or ids i 0) 0 r
    → max so (longest_free_of (trees old (drop i ids))) ≡ longest_free_of (trees old ids)
    → max (max so r) (longest_free_of (trees old (drop (i + 1) ids))) ≡ longest_free_of (trees old ids)
longest_more old new ids i so r e below l is was =
    let here : r ≡ longest_free (tree_at old (get_or ids i 0)) = is ∙ ap longest_free (tree_at-extends old new (get_or ids i 0) e (below i 0 l)) in
    let left : longest_free_of (trees old (drop i ids)) ≡ max (longest_free (tree_at old (get_or ids i 0))) (longest_free_of (trees old (drop (i + 1) ids))) =
    ap longest_free_of (trees_left old ids i l) in
    omega (arith, here, left, was)

-- a longer name is that of no free variable
pub longer-not-free : (x : Chars) (ty : TypeTree) (t : Nameless) → longest_free t < length x → nameless_has_free x ty t ≡ false
longer-not-free x ty (nameless_free y u) h = ap (λ b. b && same_type ty u) (false-name x y (λ e. absurd (omega (arith, ap length e, h))))
longer-not-free x ty (nameless_bound i) h = refl
longer-not-free x ty (nameless_loose y) h = refl
longer-not-free x ty (nameless_constant c ts) h = refl
longer-not-free x ty (nameless_application f a) h =
    ap (λ b. b || nameless_has_free x ty a) (longer-not-free x ty f (omega (arith, h))) ∙ longer-not-free x ty a (omega (arith, h))
longer-not-free x ty (nameless_abstraction u b) h = longer-not-free x ty b h

pub longer-in-none : (x : Chars) (ty : TypeTree) (ts : List Nameless) → longest_free_of ts < length x → list_any (nameless_has_free x ty) ts ≡ false
longer-in-none x ty [] h = refl
longer-in-none x ty (t ∷ ts) h =
    ap (λ b. b || list_any (nameless_has_free x ty) ts) (longer-not-free x ty t (omega (arith, h))) ∙ longer-in-none x ty ts (omega (arith, h))
