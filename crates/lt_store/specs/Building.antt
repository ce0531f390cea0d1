-- What a call that makes terms answers.
use Rattle.std.specs.Prelude.{◌≡◌, ℕ, ◌<◌, List, length, Result, IfOk}
use Rattle.lt_types.specs.declared.memory.Memory.{Memory}
use Rattle.lt_nameless.specs.Nameless.{Nameless}
use Rattle.lt_store.specs.declared.node.Node.{Node}
use Rattle.lt_store.specs.Trees.{tree_at, trees, AllBelow, Extends}

-- The nodes stay, whatever is answered; an id that is answered is in the store and stands for the term.
pub record Builds (old new : List Node) (result : Result ℕ Memory) (term : Nameless) : Type 0 where
  pub kept : Extends old new
  pub made : IfOk result (λ id. id < length new)
  pub is : IfOk result (λ id. tree_at new id ≡ term)

-- The same of several terms.
pub record BuildsEach (old new : List Node) (result : Result (List ℕ) Memory) (terms : List Nameless) : Type 0 where
  pub kept : Extends old new
  pub made : IfOk result (AllBelow (length new))
  pub is : IfOk result (λ ids. trees new ids ≡ terms)
