-- What a typing of a term in a store keeps, task by task.
use Rattle.std.specs.Prelude.{◌≡◌, ℕ, ◌+◌, ◌*◌, ◌<◌, List, [], ◌∷◌, ◌++◌, length, reverse, Option, Some, None, Result, Ok, Err, ◌⊎◌}
use Rattle.lt_definitions.specs.Types.{TypeTree}
use Rattle.lt_definitions.specs.Typing.{Signature, Fault, earlier, type_fault}
use Rattle.lt_nameless.specs.Nameless.{nameless_application, nameless_abstraction, IsWhole}
use Rattle.lt_nameless.specs.NamelessRules.{nameless_typed}
use Rattle.lt_hol.specs.declared.type_fault.TypeFault.{TypeFault}
use Rattle.lt_hol.specs.Faults.{Finds, fault_of}
use Rattle.lt_store.specs.declared.node.Node.{Node}
use Rattle.lt_store.specs.declared.type_work.TypeTask.{TypeTask}
use Rattle.lt_store.specs.declared.type_work.TypeTask.TheVariants.{Visit, Apply, Leave}
use Rattle.lt_store.specs.declared.type_work.TypeWork.{TypeWork}
use Rattle.lt_store.specs.Trees.{tree_at, tree_size}
use Rattle.lt_store.specs.Memos.{Memo, result_at, IsKept}
use Rattle.lt_store.specs.TypeNumbers.{Has, AreTypes, context_type}

-- An id under binders of these types, and the number that tells these.
pub record IsPlace (ns : List Node) (ts tys : List TypeTree) (id context : ℕ) : Type 0 where
  pub within : id < length ns
  pub tells : Has ts context (context_type tys)
  pub whole : IsWhole (length tys) (tree_at ns id)

-- The number of a type that was found.
pub record IsFound (sig : Signature) (ns : List Node) (ts : List TypeTree) (id context number : ℕ) : Type 0 where
  pub tys : List TypeTree
  pub ty : TypeTree
  pub tells : Has ts context (context_type tys)
  pub has : Has ts number ty
  pub is : nameless_typed sig tys (tree_at ns id) ≡ Ok ty

abbrev pub AllFound : Signature → List Node → List TypeTree → Memo → Type 0
AllFound sig ns ts m = (i c r : ℕ) → result_at m i c ≡ Some r → IsFound sig ns ts i c r

-- the pair is in the list
abbrev pub IsAmong : ℕ × ℕ → List (ℕ × ℕ) → Type 0
IsAmong p [] = ⊥
IsAmong p (q ∷ qs) = (q ≡ p) ⊎ IsAmong p qs

-- it was found, or will be with these
abbrev pub IsDue : Memo → List (ℕ × ℕ) → ℕ × ℕ → Type 0
IsDue m ps p = IsKept m p ⊎ IsAmong p ps

-- the binders around the innermost one
abbrev pub outer : List TypeTree → List TypeTree
outer [] = []
outer (ty ∷ tys) = tys

-- A binder that was entered.
pub record IsEntered (sig : Signature) (ns : List Node) (ts tys : List TypeTree) (id body inner : ℕ) : Type 0 where
  pub ty : TypeTree
  pub binders : tys ≡ ty ∷ outer tys
  pub right : type_fault sig ty ≡ None
  pub stands : tree_at ns id ≡ nameless_abstraction ty (tree_at ns body)
  pub tells : Has ts inner (context_type tys)

-- what each task needs, the first one first, where what these are for was done before
abbrev pub AreDue : Signature → List Node → List TypeTree → Memo → ℕ × ℕ → List (ℕ × ℕ) → List TypeTree → List TypeTask → Type 0
AreDue sig ns ts m goal ps tys [] = IsDue m ps goal
AreDue sig ns ts m goal ps tys (Visit i c ∷ rest) = IsPlace ns ts tys i c × AreDue sig ns ts m goal ((i, c) ∷ ps) tys rest
AreDue sig ns ts m goal ps tys (Apply i c f a ∷ rest) =
    IsPlace ns ts tys i c × (tree_at ns i ≡ nameless_application (tree_at ns f) (tree_at ns a)) × IsDue m ps (f, c) × IsDue m ps (a, c) × AreDue sig ns ts m goal ((i, c) ∷ ps) tys rest
AreDue sig ns ts m goal ps tys (Leave i c b d ∷ rest) =
    IsPlace ns ts (outer tys) i c × IsEntered sig ns ts tys i b d × IsDue m ps (b, d) × AreDue sig ns ts m goal ((i, c) ∷ ps) (outer tys) rest

-- the fault of an id
abbrev pub fault_at : Signature → List Node → List TypeTree → ℕ → Option Fault
fault_at sig ns tys i = fault_of (nameless_typed sig tys (tree_at ns i))

-- the first fault among those for which there are tasks
abbrev pub faults : Signature → List Node → List TypeTree → List TypeTask → Option Fault
faults sig ns tys [] = None
faults sig ns tys (Visit i c ∷ rest) = earlier (fault_at sig ns tys i) (faults sig ns tys rest)
faults sig ns tys (Apply i c f a ∷ rest) = earlier (fault_at sig ns tys i) (faults sig ns tys rest)
faults sig ns tys (Leave i c b d ∷ rest) = earlier (fault_at sig ns (outer tys) i) (faults sig ns (outer tys) rest)

-- What is kept from task to task: the numbers of the binders' types, the innermost first, and of the types that were found;
-- that the first fault of the root is the first among those that are still to be looked for.
pub record IsTyping (sig : Signature) (ns : List Node) (root base : ℕ) (ts : List TypeTree) (m : Memo) (binders : List ℕ) (tasks : List TypeTask) : Type 0 where
  pub tys : List TypeTree
  pub numbers : AreTypes ts binders tys
  pub bottom : Has ts base (context_type [])
  pub found : AllFound sig ns ts m
  pub due : AreDue sig ns ts m (root, base) [] tys tasks
  pub first : fault_at sig ns [] root ≡ faults sig ns tys tasks

-- the same of a state, where these tasks come before its own
abbrev pub IsGoing : Signature → List Node → ℕ → ℕ → List TypeTask → TypeWork → Type 0
IsGoing sig ns root base now w = IsTyping sig ns root base w.types w.found (reverse w.binders.items) (now ++ reverse w.tasks.items)

-- how much there is to do
abbrev pub weight : List Node → TypeTask → ℕ
weight ns (Visit i c) = 2 * tree_size (tree_at ns i)
weight ns (Apply i c f a) = 1
weight ns (Leave i c b d) = 1

abbrev pub weights : List Node → List TypeTask → ℕ
weights ns [] = 0
weights ns (t ∷ ts) = weight ns t + weights ns ts

-- What a task leaves: less to do, or the first fault of the root.
abbrev pub Turns : Signature → List Node → ℕ → ℕ → TypeTask → TypeWork → TypeWork → Result (Unit {0}) TypeFault → Type 0
Turns sig ns root base t old new (Ok _) =
    IsGoing sig ns root base [] new × (weights ns (reverse new.tasks.items) < weight ns t + weights ns (reverse old.tasks.items))
Turns sig ns root base t old new (Err e) = Finds (fault_at sig ns [] root) e
