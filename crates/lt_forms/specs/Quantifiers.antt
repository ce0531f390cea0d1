-- Quantifiers, implications, constants and properties at the root of a term.
use Rattle.std.specs.Prelude.{List, [], ◌∷◌, Bool, false, Option, None, codes}
use Rattle.lt_definitions.specs.Types.{Chars, same_name, TypeTree}
use Rattle.lt_definitions.specs.Terms.{TermTree, constant, application, abstraction}
use Rattle.lt_transport_definitions.specs.Answers.{only_where}

-- whether a term is a constant of this name
abbrev pub is_named : Chars → TermTree → Bool
is_named x (constant c ts) = same_name c x
is_named x t = false

-- the binder of a quantifier over an abstraction, with its type, and the body
abbrev pub quantifier : TermTree → Option (Chars × (TypeTree × TermTree))
quantifier (application (constant c ts) (abstraction x ty b)) = only_where (same_name c (codes "all")) (x, (ty, b))
quantifier t = None

-- the two sides of an implication
abbrev pub implication : TermTree → Option (TermTree × TermTree)
implication (application (application (constant c ts) p) q) = only_where (same_name c (codes "imp")) (p, q)
implication t = None
