-- What the letters and signs of a text make, one after another. What has no sense changes nothing
-- but the stack that it looked at.
-- Source: this project's own.
use Rattle.std.specs.Prelude.{ℕ, List, [], ◌∷◌, reverse, if◌then◌else◌, nat_eq, find, Option, Some, None, option_map, unwrap_or, codes}
use Rattle.lt_definitions.specs.Types.{Chars, TypeTree, fun, bool}
use Rattle.lt_definitions.specs.Terms.{TermTree, free_variable, bound_name, constant, application, abstraction}
use Rattle.lt_tables.specs.Letters.{variable_name, constant_name, letter_type}

-- The last letter; the letters that are declared with their types; types and terms that were made.
-- All lists have the newest first.
pub record Stacks : Type 0 where
  pub last : ℕ
  pub declared : List (ℕ × TypeTree)
  pub types : List TypeTree
  pub terms : List TermTree

-- nothing yet
abbrev pub nothing : Stacks
nothing = record { last = 0; declared = []; types = []; terms = [] }

-- the type of a letter
abbrev pub type_of : List (ℕ × TypeTree) → ℕ → TypeTree
type_of ds l = unwrap_or (option_map (λ d. d.1) (find (λ d. nat_eq d.0 l) ds)) (letter_type l)

-- the last two types become that of functions
abbrev pub functions : List TypeTree → List TypeTree
functions [] = []
functions (t ∷ []) = []
functions (t ∷ s ∷ ts) = fun s t ∷ ts

-- .. or that of relations
abbrev pub relations : List TypeTree → List TypeTree
relations [] = []
relations (t ∷ []) = []
relations (t ∷ s ∷ ts) = fun s (fun t bool) ∷ ts

-- the last letter is declared with the last type
abbrev pub declare : List TypeTree → Stacks → Stacks
declare [] s = s
declare (t ∷ ts) s = record s { types = ts; declared = (s.last, t) ∷ s.declared }

-- a constant with all types as its type arguments
abbrev pub constant_of : Stacks → Stacks
constant_of s = record s {
  types = [];
  terms = constant (constant_name s.last) (reverse s.types) ∷ s.terms;
}

-- `all` over the last letter
abbrev pub all_over : Stacks → Stacks
all_over s = record s {
  terms = constant (codes "all") (type_of s.declared s.last ∷ []) ∷ s.terms;
}

-- the last letter as a bound name, and as a free variable
abbrev pub bound_of : Stacks → Stacks
bound_of s = record s { terms = bound_name (variable_name s.last) ∷ s.terms }

abbrev pub free_of : Stacks → Stacks
free_of s = record s {
  terms = free_variable (variable_name s.last) (type_of s.declared s.last) ∷ s.terms;
}

-- the last term becomes the body of an abstraction
abbrev pub abstracted : Chars → TypeTree → List TermTree → List TermTree
abstracted x ty [] = []
abstracted x ty (b ∷ ts) = abstraction x ty b ∷ ts

abbrev pub abstraction_of : Stacks → Stacks
abstraction_of s = record s {
  terms = abstracted (variable_name s.last) (type_of s.declared s.last) s.terms;
}

-- the last two terms become function and argument
abbrev pub applied : List TermTree → List TermTree
applied [] = []
applied (a ∷ []) = a ∷ []
applied (a ∷ f ∷ ts) = application f a ∷ ts

-- what a letter or sign makes: : a type, > and ~ the type of functions and of relations, = a
-- declaration, # a constant, ! the constant all, % a bound name, $ a free variable, ^ an
-- abstraction, . an application; each other one becomes the last letter
abbrev pub term_sign : ℕ → Stacks → Stacks
term_sign b s =
    if nat_eq b 35 then constant_of s else if nat_eq b 33 then all_over s
    else if nat_eq b 37 then bound_of s else if nat_eq b 36 then free_of s
    else if nat_eq b 94 then abstraction_of s
    else if nat_eq b 46 then record s { terms = applied s.terms } else record s { last = b }

abbrev pub put_sign : ℕ → Stacks → Stacks
put_sign b s =
    if nat_eq b 58 then record s { types = type_of s.declared s.last ∷ s.types }
    else if nat_eq b 62 then record s { types = functions s.types }
    else if nat_eq b 126 then record s { types = relations s.types }
    else if nat_eq b 61 then declare s.types s
    else term_sign b s

-- .. one after another
abbrev pub signs : List ℕ → Stacks → Stacks
signs [] s = s
signs (b ∷ bs) s = signs bs (put_sign b s)

-- the one term that was made
abbrev pub only_term : List TermTree → Option TermTree
only_term (t ∷ []) = Some t
only_term _ = None

-- the term of a text
abbrev pub term_of : List ℕ → Option TermTree
term_of text = only_term (signs text nothing).terms

-- .. and where another text declares the letters
abbrev pub term_with : List ℕ → List ℕ → Option TermTree
term_with types text = only_term (signs text (signs types nothing)).terms

-- the type with which a text declares a letter
abbrev pub type_with : List ℕ → ℕ → TypeTree
type_with types l = type_of (signs types nothing).declared l
