-- Terms of a store with names for their binders: what is kept, task by task.
use Rattle.std.specs.Prelude.{◌≡◌, ℕ, zero, suc, ◌+◌, ◌*◌, ◌<◌, ◌≤◌, List, [], ◌∷◌, ◌++◌, length, slice_get, Some, codes}
use Rattle.std.specs.Fmt.{decimal}
use Rattle.lt_definitions.specs.Types.{Chars}
use Rattle.lt_definitions.specs.Terms.{TermTree}
use Rattle.lt_nameless.specs.Nameless.{Nameless, nameless, IsWhole}
use Rattle.lt_terms.specs.Layout.{applied, abstracted}
use Rattle.lt_store.specs.declared.node.Node.{Node}
use Rattle.lt_store.specs.declared.naming.NameTask.{NameTask}
use Rattle.lt_store.specs.declared.naming.NameTask.TheVariants.{Visit, Join, Cover}
use Rattle.lt_store.specs.Trees.{tree_at, tree_size}

-- the name of a binder under so many others
abbrev pub binder_name : ℕ → Chars
binder_name d = codes "x" ++ decimal d

-- the names of so many binders, the innermost first
abbrev pub binder_names : ℕ → List Chars
binder_names zero = []
binder_names (suc d) = binder_name d ∷ binder_names d

-- Each name is that of its place.
abbrev pub HasNames : List Chars → Type 0
HasNames xs = (d : ℕ) (x : Chars) → slice_get xs d ≡ Some x → x ≡ binder_name d

-- The tasks that are left make a term of the goal from the terms that there are, the last one first.
abbrev pub Leaves : List Node → ℕ → Nameless → List TermTree → List NameTask → Type 0
Leaves ns names goal before [] = (t : TermTree) × (before ≡ t ∷ []) × (nameless [] t ≡ goal)
Leaves ns names goal before (Visit i d ∷ rest) = (i < length ns) × IsWhole d (tree_at ns i) × (d ≤ names)
    × ((t : TermTree) → nameless (binder_names d) t ≡ tree_at ns i → Leaves ns names goal (t ∷ before) rest)
Leaves ns names goal before (Join ∷ rest) = (2 ≤ length before) × Leaves ns names goal (applied before) rest
Leaves ns names goal before (Cover ty d ∷ rest) = (1 ≤ length before) × (d < names) × Leaves ns names goal (abstracted (binder_name d) ty before) rest

-- how much there is to do
abbrev pub weight : List Node → NameTask → ℕ
weight ns (Visit i d) = 2 * tree_size (tree_at ns i)
weight ns Join = 1
weight ns (Cover ty d) = 1

abbrev pub weights : List Node → List NameTask → ℕ
weights ns [] = 0
weights ns (t ∷ ts) = weight ns t + weights ns ts

-- What one task leaves: the same goal, and less to do.
abbrev pub Turns : List Node → NameTask → (names later : ℕ) → (before after : List TermTree) → (rest tasks : List NameTask) → Type 0
Turns ns t names later before after rest tasks =
    ((goal : Nameless) → Leaves ns names goal before (t ∷ rest) → Leaves ns later goal after tasks) × (weights ns tasks < weight ns t + weights ns rest)
