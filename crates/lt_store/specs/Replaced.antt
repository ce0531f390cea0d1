-- What was made of ids by a replacement of a free variable.
use Rattle.std.specs.Prelude.{◌≡◌, ℕ, ◌<◌, List, length, Some}
use Rattle.lt_definitions.specs.Types.{Chars, TypeTree}
use Rattle.lt_nameless.specs.NamelessRules.{nameless_replaced}
use Rattle.lt_store.specs.declared.node.Node.{Node}
use Rattle.lt_store.specs.declared.replacing.Replacing.{Replacing}
use Rattle.lt_store.specs.Memos.{Memo, result_at}
use Rattle.lt_store.specs.Trees.{tree_at}

-- Each id that was kept has its term with the variable replaced, at any depth.
abbrev pub AreReplaced : List Node → Chars → TypeTree → ℕ → Memo → Type 0
AreReplaced ns x ty by m = (i d r : ℕ) → result_at m i d ≡ Some r
    → (i < length ns) × ((r < length ns) × (tree_at ns r ≡ nameless_replaced x ty (tree_at ns by) (tree_at ns i)))

-- The term that is put is in the store, and what was kept is right.
abbrev pub IsReplacing : List Node → Replacing → Type 0
IsReplacing ns k = (k.by < length ns) × AreReplaced ns k.name k.ty k.by k.made
