-- What steps of building make of the terms so far, the last one first, and words of letters.
use Rattle.std.specs.Prelude.{ℕ, List, [], ◌∷◌, Bool, false}
use Rattle.std.specs.List.{list_all}
use Rattle.std.specs.Char.{is_ascii_alphabetic}
use Rattle.lt_definitions.specs.Types.{Chars, TypeTree}
use Rattle.lt_definitions.specs.Terms.{TermTree, application, abstraction}

-- all x. b, from the quantifier and b
abbrev pub closed_up : Chars → TypeTree → List TermTree → List TermTree
closed_up x ty (b ∷ all ∷ []) = application all (abstraction x ty b) ∷ []
closed_up x ty _ = []

-- whether a text is a word of ASCII letters
abbrev pub is_word : List ℕ → Bool
is_word [] = false
is_word (c ∷ w) = list_all is_ascii_alphabetic (c ∷ w)
