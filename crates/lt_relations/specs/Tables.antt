-- Things under names of their own, as the registry lists them.
use Rattle.std.specs.Prelude.{◌≡◌, List, [], ◌∷◌, map}
use Rattle.lt_definitions.specs.Types.{Chars}

-- the things of a table, as they are told
abbrev pub things_told : {A B : Type 0} → (A → B) → List (Chars × A) → List B
things_told told entries = map (λ e. told e.1) entries

-- Each thing stands under the name that is its key.
abbrev pub AreKeyed : {A : Type 0} → (A → Chars) → List (Chars × A) → Type 0
AreKeyed key [] = Unit {0}
AreKeyed key (e ∷ entries) = (e.0 ≡ key e.1) × AreKeyed key entries
