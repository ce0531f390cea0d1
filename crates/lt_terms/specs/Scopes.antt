-- Open binders with a map of names, and the trees of a term that are still to come under them.
use Rattle.std.specs.Prelude.{◌≡◌, ℕ, List, [], ◌∷◌, length, drop, Option, Some, None, unwrap_or, if◌then◌else◌}
use Rattle.std.specs.Map.{lookup}
use Rattle.lt_definitions.specs.Types.{Chars, same_name}
use Rattle.lt_terms.specs.declared.bound_names.Binder.{Binder}
use Rattle.lt_terms.specs.declared.scope.Opening.{Opening}
use Rattle.lt_terms.specs.declared.scope.Entered.{Entered}
use Rattle.lt_terms.specs.declared.pending.Task.{Task}
use Rattle.lt_terms.specs.declared.pending.Task.TheVariants.{Tree, Close}
use Rattle.lt_terms.specs.declared.term.TermNode.{TermNode}
use Rattle.lt_terms.specs.declared.term.TermNode.TheVariants.{Bound, App, Lam}
use Rattle.lt_terms.specs.BoundNames.{Places, binder_of}

-- the innermost binder of a name, as it was opened
abbrev pub opening_of : Chars → Places → Option Opening
opening_of x [] = None
opening_of x (b ∷ bs) = if same_name x b.0 then Some (record { place = b.1; depth = length bs }) else opening_of x bs

-- open binders, the last one first, before further ones
abbrev pub places_of : List Entered → Places → Places
places_of [] bs = bs
places_of (e ∷ entered) bs = places_of entered ((e.name, e.place) ∷ bs)

-- each open binder has with it the binder that its name has outside
abbrev pub AreSaved : List Entered → Places → Type 0
AreSaved [] bs = Unit {0}
AreSaved (e ∷ entered) bs = (e.outside ≡ opening_of e.name bs) × AreSaved entered ((e.name, e.place) ∷ bs)

-- a name's innermost binder in a map
abbrev pub opening_in : List (Chars × Option Opening) → Chars → Option Opening
opening_in entries x = unwrap_or (lookup (same_name x) entries) None

-- the map has the innermost binder of every name
pub record IsKept (entered : List Entered) (entries : List (Chars × Option Opening)) : Type 0 where
  pub saved : AreSaved entered []
  pub kept : (x : Chars) → opening_in entries x ≡ opening_of x (places_of entered [])

-- the binder of a node, if it is a bound name that has one
abbrev pub binder_at : Places → TermNode → Option Binder
binder_at around (Bound x) = binder_of x around
binder_at around _ = None

-- the binders around each tree that is still to come
abbrev pub scopes_of : Places → List Task → List Places
scopes_of around [] = []
scopes_of around (Tree ∷ tasks) = around ∷ scopes_of around tasks
scopes_of around (Close ∷ tasks) = scopes_of (drop 1 around) tasks

-- the binders around the parts of a node that stands at a place, the last part first
abbrev pub within : ℕ → TermNode → Places → List Places → List Places
within at (App f a) around later = around ∷ around ∷ later
within at (Lam x t b) around later = ((x, at) ∷ around) ∷ later
within at _ around later = later
