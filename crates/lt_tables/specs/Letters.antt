-- What a letter of a text stands for.
-- Source: this project's own.
use Rattle.std.specs.Prelude.{ℕ, List, [], ◌∷◌, Bool, false, ◌&&◌, ◌||◌, ◌==◌, if◌then◌else◌, nat_eq, nat_lt, codes}
use Rattle.std.specs.List.{list_all}
use Rattle.std.specs.Char.{is_ascii_alphabetic, is_ascii_alphanumeric}
use Rattle.lt_definitions.specs.Types.{Chars, TypeTree, type_variable, bool}

-- whether a text is a letter or an underscore, and then letters, digits and underscores of ASCII
abbrev pub is_plain : List ℕ → Bool
is_plain [] = false
is_plain (c ∷ cs) =
    list_all (λ d. nat_lt d 128) (c ∷ cs)
    && ((is_ascii_alphabetic c || (c == 95)) && list_all (λ d. is_ascii_alphanumeric d || (d == 95)) cs)

-- the name of one letter; of what is no letter, x
abbrev pub letter_name : ℕ → Chars
letter_name l = if is_ascii_alphabetic l then l ∷ [] else codes "x"

-- the name of a variable: a letter, or for the digits 1 to 8 the names of two quotients
abbrev pub variable_name : ℕ → Chars
variable_name l =
    if nat_eq l 49 then codes "R1" else if nat_eq l 50 then codes "A1"
    else if nat_eq l 51 then codes "B1" else if nat_eq l 52 then codes "T1"
    else if nat_eq l 53 then codes "R2" else if nat_eq l 54 then codes "A2"
    else if nat_eq l 55 then codes "B2" else if nat_eq l 56 then codes "T2"
    else letter_name l

-- the properties of relations
abbrev pub property_constant : ℕ → Chars
property_constant l =
    if nat_eq l 108 then codes "left_total" else if nat_eq l 114 then codes "right_total"
    else if nat_eq l 117 then codes "left_unique" else if nat_eq l 118 then codes "right_unique"
    else if nat_eq l 116 then codes "bi_total" else if nat_eq l 98 then codes "bi_unique"
    else codes "eq"

-- the other constants of the laws
abbrev pub relation_constant : ℕ → Chars
relation_constant l =
    if nat_eq l 109 then codes "map_fun" else if nat_eq l 70 then codes "rel_fun"
    else if nat_eq l 82 then codes "relcompp" else if nat_eq l 86 then codes "conversep"
    else if nat_eq l 79 then codes "eq_onp" else if nat_eq l 68 then codes "Domainp"
    else if nat_eq l 112 then codes "part_equivp" else if nat_eq l 81 then codes "Quotient"
    else property_constant l

-- the name of a constant: e i a s are eq imp all eps, the built-in ones
abbrev pub constant_name : ℕ → Chars
constant_name l =
    if nat_eq l 101 then codes "eq" else if nat_eq l 105 then codes "imp"
    else if nat_eq l 97 then codes "all" else if nat_eq l 115 then codes "eps"
    else if nat_eq l 110 then codes "and" else if nat_eq l 120 then codes "ex"
    else if nat_eq l 73 then codes "id" else if nat_eq l 67 then codes "comp"
    else relation_constant l

-- the type of a letter that isn't declared: o is bool, and each other letter is a type variable
abbrev pub letter_type : ℕ → TypeTree
letter_type l =
    if nat_eq l 111 then bool else if is_ascii_alphabetic l then type_variable (l ∷ []) else bool
