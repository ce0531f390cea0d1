-- Terms of a store that have a type.
use Rattle.std.specs.Prelude.{◌≡◌, ℕ, ◌<◌, List, length, None}
use Rattle.lt_definitions.specs.Typing.{Signature}
use Rattle.lt_nameless.specs.NamelessRules.{nameless_fault}
use Rattle.lt_store.specs.declared.node.Node.{Node}
use Rattle.lt_store.specs.Trees.{tree_at}

-- The id is in the store, and the term for which it stands has a type.
pub record IsTyped (sig : Signature) (ns : List Node) (id : ℕ) : Type 0 where
  pub within : id < length ns
  pub typed : nameless_fault sig (tree_at ns id) ≡ None
