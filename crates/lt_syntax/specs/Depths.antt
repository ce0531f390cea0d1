-- The depths of binders, and a stack of open binders with a map of names.
use Rattle.std.specs.Prelude.{◌≡◌, ℕ, List, [], ◌∷◌, length, Option, Some, None, unwrap_or, if◌then◌else◌}
use Rattle.std.specs.Map.{lookup}
use Rattle.lt_definitions.specs.Types.{Chars, same_name}

-- the depth of the innermost binder with a name, where binders stand with the innermost first
abbrev pub depth_of : Chars → List Chars → Option ℕ
depth_of x [] = None
depth_of x (b ∷ bs) = if same_name x b then Some (length bs) else depth_of x bs

-- a name with the depth that it has without its innermost binder
abbrev pub Opened : Type 0
Opened = Chars × Option ℕ

-- the names of open binders, the last one first, before further ones
abbrev pub names_of : List Opened → List Chars → List Chars
names_of [] bs = bs
names_of (o ∷ entered) bs = names_of entered (o.0 ∷ bs)

-- each open binder has with it the depth that its name has outside
abbrev pub AreSaved : List Opened → List Chars → Type 0
AreSaved [] bs = Unit {0}
AreSaved (o ∷ entered) bs = (o.1 ≡ depth_of o.0 bs) × AreSaved entered (o.0 ∷ bs)

-- a name's depth in a map
abbrev pub depth_in : List Opened → Chars → Option ℕ
depth_in entries x = unwrap_or (lookup (same_name x) entries) None

-- the map has the depth of every name
pub record IsKept (entered entries : List Opened) : Type 0 where
  pub saved : AreSaved entered []
  pub kept : (x : Chars) → depth_in entries x ≡ depth_of x (names_of entered [])
