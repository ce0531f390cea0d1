-- Terms of a store that have a type.
use Rattle.std.proofs.Common.{ℕ, List}
use Rattle.lt_definitions.specs.Typing.{Signature}
use Rattle.lt_nameless.specs.Nameless.{IsWhole}
use Rattle.lt_nameless.proofs.ClosedSteps.{term-whole}
use Rattle.lt_store.specs.declared.node.Node.{Node}
use Rattle.lt_store.specs.Trees.{tree_at}
use Rattle.lt_store.specs.Typed.{IsTyped}

-- each bound name in it has its binder
pub typed-is-whole : (sig : Signature) (ns : List Node) (id : ℕ) → IsTyped sig ns id → IsWhole 0 (tree_at ns id)
typed-is-whole sig ns id h = term-whole sig (tree_at ns id) h.typed
