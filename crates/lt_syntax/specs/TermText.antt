-- What a node of a term shows before its parts, and the pieces that it leaves to show.
use Rattle.std.specs.Prelude.{ℕ, List, [], ◌∷◌, ◌++◌, Bool, true, false, codes, length}
use Rattle.std.specs.Fmt.{decimal}
use Rattle.lt_definitions.specs.Types.{Chars}
use Rattle.lt_definitions.specs.Printing.{printed_type, printed_bound, printed_constant}
use Rattle.lt_terms.specs.declared.term.TermNode.{TermNode}
use Rattle.lt_terms.specs.declared.term.TermNode.TheVariants.{Free, Bound, Const, App, Lam}
use Rattle.lt_syntax.specs.declared.pieces.Piece.{Piece}
use Rattle.lt_syntax.specs.declared.pieces.Piece.TheVariants.{Head, Argument, Bracket, End}

-- An application that is no head has a bracket.
abbrev pub application_front : (is_head : Bool) → Chars
application_front true = []
application_front false = codes "("

-- what comes behind it, the last one first
abbrev pub application_pieces : (is_head : Bool) → ℕ → ℕ → List Piece
application_pieces true f a = Argument a ∷ Head f ∷ []
application_pieces false f a = Bracket ∷ Argument a ∷ Head f ∷ []

-- under binders, the innermost first
abbrev pub term_front : (is_head : Bool) → List Chars → TermNode → Chars
term_front is_head bs (Free x ty) = codes "($" ++ (x ++ (codes " " ++ (printed_type ty ++ codes ")")))
term_front is_head bs (Bound x) = codes "%" ++ printed_bound x bs
term_front is_head bs (Const c ts) = printed_constant c ts
term_front is_head bs (App f a) = application_front is_head
term_front is_head bs (Lam x ty b) = codes "(\\x" ++ (decimal (length bs) ++ (codes " " ++ printed_type ty))

abbrev pub later_pieces : (is_head : Bool) → TermNode → List Piece
later_pieces is_head (App f a) = application_pieces is_head f a
later_pieces is_head (Lam x ty b) = End ∷ Argument b ∷ []
later_pieces is_head node = []

-- the binders of a node's parts
abbrev pub binders_within : List Chars → TermNode → List Chars
binders_within bs (Lam x ty b) = x ∷ bs
binders_within bs node = bs
