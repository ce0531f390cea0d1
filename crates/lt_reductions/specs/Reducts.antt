-- Beta reduction of terms without binder names, by leftmost outermost steps, and its limits.
-- Source: the lambda calculus; a step over indices, and the place that is worked on, are this project's own.
use Rattle.std.specs.Prelude.{◌≡◌, ℕ, zero, suc, ◌+◌, ◌*◌, ◌<◌, ◌≤◌, List, [], ◌∷◌, length, Bool, true, false, if◌then◌else◌, nat_eq, nat_lt, Option, Some, None, Result, Ok, Err, option_map}
use Rattle.lt_definitions.specs.Types.{Chars, TypeTree, type_nodes, types_nodes, row}
use Rattle.lt_nameless.specs.Nameless.{Nameless, nameless_free, nameless_bound, nameless_loose, nameless_constant, nameless_application, nameless_abstraction, IsWhole}
use Rattle.lt_nameless.specs.NamelessRules.{abstracted}

-- each index that belongs to none of d binders is one greater
abbrev pub lifted : ℕ → Nameless → Nameless
lifted d (nameless_free x ty) = nameless_free x ty
lifted d (nameless_bound i) = if nat_lt i d then nameless_bound i else nameless_bound (suc i)
lifted d (nameless_loose x) = nameless_loose x
lifted d (nameless_constant c ts) = nameless_constant c ts
lifted d (nameless_application f a) = nameless_application (lifted d f) (lifted d a)
lifted d (nameless_abstraction ty b) = nameless_abstraction ty (lifted (suc d) b)

abbrev pub before : ℕ → ℕ
before zero = zero
before (suc i) = i

-- an index behind d binders, of which the outermost goes
abbrev pub put_index : ℕ → Nameless → ℕ → Nameless
put_index d by i = if nat_lt i d then nameless_bound i else if nat_eq i d then by else nameless_bound (before i)

-- any term put for index d, whose binder goes
abbrev pub put : ℕ → Nameless → Nameless → Nameless
put d by (nameless_free x ty) = nameless_free x ty
put d by (nameless_bound i) = put_index d by i
put d by (nameless_loose x) = nameless_loose x
put d by (nameless_constant c ts) = nameless_constant c ts
put d by (nameless_application f a) = nameless_application (put d by f) (put d by a)
put d by (nameless_abstraction ty b) = nameless_abstraction ty (put (suc d) (lifted 0 by) b)

-- whether a term is an abstraction
abbrev pub is_abstraction : Nameless → Bool
is_abstraction (nameless_abstraction ty b) = true
is_abstraction _ = false

-- one step in the head, or else in the argument
abbrev pub in_parts : Nameless → Nameless → Option Nameless → Option Nameless → Option Nameless
in_parts f a (Some g) c = Some (nameless_application g a)
in_parts f a None c = option_map (nameless_application f) c

-- One leftmost outermost step: the redex itself where the term is one, else in the head, else in the argument; in the body of a binder.
abbrev pub reduct : Nameless → Option Nameless
reduct (nameless_application (nameless_abstraction ty b) a) = Some (put 0 a b)
reduct (nameless_application f a) = in_parts f a (reduct f) (reduct a)
reduct (nameless_abstraction ty b) = option_map (nameless_abstraction ty) (reduct b)
reduct _ = None

-- how many nodes a term has, those of its types counted
abbrev pub nodes : Nameless → ℕ
nodes (nameless_free x ty) = 1 + type_nodes ty
nodes (nameless_bound i) = 1
nodes (nameless_loose x) = 1
nodes (nameless_constant c ts) = 1 + types_nodes (row ts)
nodes (nameless_application f a) = 1 + (nodes f + nodes a)
nodes (nameless_abstraction ty b) = 1 + (type_nodes ty + nodes b)

-- The same where free variables whose names are longer than a floor stand for bound names, whose binders are open.
abbrev pub nodes_over : ℕ → Nameless → ℕ
nodes_over floor (nameless_free x ty) = if nat_lt floor (length x) then 1 else 1 + type_nodes ty
nodes_over floor (nameless_bound i) = 1
nodes_over floor (nameless_loose x) = 1
nodes_over floor (nameless_constant c ts) = 1 + types_nodes (row ts)
nodes_over floor (nameless_application f a) = 1 + (nodes_over floor f + nodes_over floor a)
nodes_over floor (nameless_abstraction ty b) = 1 + (type_nodes ty + nodes_over floor b)

-- The names of a term's free variables are no longer than that.
abbrev pub IsShort : ℕ → Nameless → Type 0
IsShort n (nameless_free x ty) = length x ≤ n
IsShort n (nameless_application f a) = IsShort n f × IsShort n a
IsShort n (nameless_abstraction ty b) = IsShort n b
IsShort n _ = Unit {0}

-- what the term after k steps tells: too many nodes, a normal form, or how it goes on
abbrev pub checked : Bool → ℕ → Nameless → Option Nameless → (Nameless → Result Nameless ℕ) → Result Nameless ℕ
checked true k t o on = Err k
checked false k t None on = Ok t
checked false k t (Some u) on = on u

-- The normal form, or the first step k at which a limit is passed: the term after k steps has more than `most` nodes,
-- or it isn't normal and no step is left. The number of steps that are left comes first.
abbrev pub normal_from : (Nameless → ℕ) → ℕ → ℕ → ℕ → Nameless → Result Nameless ℕ
normal_from size zero most k t = checked (nat_lt most (size t)) k t (reduct t) (λ u. Err k)
normal_from size (suc left) most k t =
    checked (nat_lt most (size t)) k t (reduct t) (λ u. normal_from size left most (suc k) u)

-- The normal form within 10,000 steps and 65,536 nodes, or the first step at which a limit is passed.
unfoldable pub normal_form_of : Nameless → Result Nameless ℕ
normal_form_of t = normal_from nodes 10000 65536 0 t

-- What is around the place that is worked on, from the inside.
pub data Around : Type 0 where
  at_function : (argument : Nameless) → Around
  at_argument : (function : Nameless) → Around
  at_body : Chars → TypeTree → Around

-- the whole term
abbrev pub plug : List Around → Nameless → Nameless
plug [] t = t
plug (at_function a ∷ fs) t = plug fs (nameless_application t a)
plug (at_argument f ∷ fs) t = plug fs (nameless_application f t)
plug (at_body x ty ∷ fs) t = plug fs (nameless_abstraction ty (abstracted 0 x ty t))

-- a term that may stand there: where the place is a head, it is no abstraction
abbrev pub MayStand : List Around → Bool → Type 0
MayStand (at_function a ∷ fs) b = b ≡ false
MayStand _ b = Unit {0}

-- All before the place is normal, no redex is around it, and each open binder's variable has a name longer than the floor.
abbrev pub IsWay : ℕ → List Around → Type 0
IsWay floor [] = Unit {0}
IsWay floor (at_function a ∷ fs) = IsWhole 0 a × IsWay floor fs
IsWay floor (at_argument f ∷ fs) =
    IsWhole 0 f × (is_abstraction f ≡ false) × (reduct f ≡ None) × IsWay floor fs
IsWay floor (at_body x ty ∷ fs) = MayStand fs true × (floor < length x) × IsWay floor fs

-- what is left to be visited
abbrev pub weight : ℕ → List Around → ℕ
weight floor [] = 0
weight floor (at_function a ∷ fs) = 2 + 3 * nodes_over floor a + weight floor fs
weight floor (at_argument f ∷ fs) = 1 + weight floor fs
weight floor (at_body x ty ∷ fs) = 1 + weight floor fs
