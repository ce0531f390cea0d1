-- The parts of terms that have a shape.
use Rattle.std.specs.Prelude.{ℕ, List, [], ◌∷◌, Option, Some, None, Bool, true, false, if◌then◌else◌, codes}
use Rattle.lt_definitions.specs.Types.{Chars, TypeTree, same_name}
use Rattle.lt_nameless.specs.Nameless.{Nameless, nameless_constant, nameless_application}
use Rattle.std.specs.List.{list_all}
use Rattle.std.specs.Char.{is_ascii_alphabetic}

-- the only one of some types
abbrev pub only_type : List TypeTree → Option TypeTree
only_type (ty ∷ []) = Some ty
only_type _ = None

-- the type argument of a constant of that name with one type argument
abbrev pub type_argument : Chars → Nameless → Option TypeTree
type_argument w (nameless_constant c ts) = if same_name c w then only_type ts else None
type_argument w _ = None

-- whether a term is the constant of implication
abbrev pub is_imp : Nameless → Bool
is_imp (nameless_constant c []) = same_name c (codes "imp")
is_imp _ = false

-- whether a term is an application, and whether it is a constant
abbrev pub is_application : Nameless → Bool
is_application (nameless_application f a) = true
is_application _ = false

abbrev pub is_constant : Nameless → Bool
is_constant (nameless_constant c ts) = true
is_constant _ = false

-- whether a text is a word of letters
abbrev pub is_word : List ℕ → Bool
is_word [] = false
is_word (c ∷ cs) = list_all is_ascii_alphabetic (c ∷ cs)
