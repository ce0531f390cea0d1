-- What conversions answer, and lines whose right sides have a form.
use Rattle.std.specs.Prelude.{◌≡◌, ℕ, ◌+◌, ◌<◌, ◌≤◌, if◌then◌else◌, nat_lt, false, length, Option, Some, None}
use Rattle.lt_definitions.specs.Types.{Chars, TypeTree, row, type_nodes, types_nodes}
use Rattle.lt_nameless.specs.Nameless.{Nameless, nameless_free, nameless_application, nameless_abstraction}
use Rattle.lt_nameless.specs.NamelessRules.{nameless_has_free, instance_at}
use Rattle.lt_store.specs.declared.node.Node.{Node}
use Rattle.lt_store.specs.declared.node.Node.TheVariants.{Free, Bound, Const, App, Lam}
use Rattle.lt_kernel.specs.State.{State}
use Rattle.lt_derived.specs.Equations.{Equates}

-- What a conversion answers: a line that equates the term with the result, or none where there is no result.
abbrev pub Converts : State → Nameless → Option Nameless → Option ℕ → Type 0
Converts s t (Some r) (Some n) = Equates s n t r
Converts s t None None = Unit {0}
Converts s t _ _ = ⊥

-- what the one gives for what the other gives
abbrev pub and_then : Option Nameless → (Nameless → Option Nameless) → Option Nameless
and_then None g = None
and_then (Some r) g = g r

-- what the one gives, or else the other
abbrev pub or_else : Option Nameless → Option Nameless → Option Nameless
or_else None o = o
or_else (Some r) o = Some r

-- A line whose right side is an application.
pub record IsApplied (s : State) (n : ℕ) : Type 0 where
  pub from : Nameless
  pub f : Nameless
  pub a : Nameless
  pub holds : Equates s n from (nameless_application f a)

-- A line whose right side is an abstraction.
pub record IsUnder (s : State) (n : ℕ) : Type 0 where
  pub from : Nameless
  pub ty : TypeTree
  pub b : Nameless
  pub holds : Equates s n from (nameless_abstraction ty b)

-- A line whose right side is a redex.
pub record IsRedexAt (s : State) (n : ℕ) : Type 0 where
  pub from : Nameless
  pub ty : TypeTree
  pub b : Nameless
  pub a : Nameless
  pub holds : Equates s n from (nameless_application (nameless_abstraction ty b) a)

-- A line whose right side is an application, and lines on its parts.
pub record Joins (s : State) (e k n : ℕ) : Type 0 where
  pub from : Nameless
  pub f : Nameless
  pub a : Nameless
  pub g : Nameless
  pub c : Nameless
  pub whole : Equates s e from (nameless_application f a)
  pub function : Equates s k f g
  pub argument : Equates s n a c

-- A line whose right side is an abstraction, and a line on its body opened by a variable that isn't in it.
pub record Shuts (s : State) (e : ℕ) (x : Chars) (ty : TypeTree) (n : ℕ) : Type 0 where
  pub from : Nameless
  pub b : Nameless
  pub c : Nameless
  pub whole : Equates s e from (nameless_abstraction ty b)
  pub new : nameless_has_free x ty b ≡ false
  pub body : Equates s n (instance_at 0 (nameless_free x ty) b) c

-- a number up to a limit, or that it is greater
abbrev pub Counts : ℕ → ℕ → Option ℕ → Type 0
Counts most n (Some k) = (k ≡ n) × (k ≤ most)
Counts most n None = most < n

-- the length of a free variable's name
abbrev pub node_length : Node → ℕ
node_length (Free x ty) = length x
node_length _ = 0

-- how many nodes a free variable has; it counts as a bound name where its name is longer than the floor
abbrev pub variable_count : ℕ → Chars → TypeTree → ℕ
variable_count floor x ty = if nat_lt floor (length x) then 1 else 1 + type_nodes ty

-- how many nodes a node stands for: itself, and those of its types
abbrev pub node_count : ℕ → Node → ℕ
node_count floor (Free x ty) = variable_count floor x ty
node_count floor (Bound i) = 1
node_count floor (Const c ts) = 1 + types_nodes (row ts)
node_count floor (App f a) = 1
node_count floor (Lam ty b) = 1 + type_nodes ty

-- A line |- b = b, with the body b opened by a variable that isn't in it and whose name is longer than the floor.
pub record IsOpened (s : State) (ty : TypeTree) (b : Nameless) (n floor : ℕ) (x : Chars) (u : TypeTree) : Type 0 where
  pub same : u ≡ ty
  pub new : nameless_has_free x ty b ≡ false
  pub long : floor < length x
  pub line : Equates s n (instance_at 0 (nameless_free x ty) b) (instance_at 0 (nameless_free x ty) b)
