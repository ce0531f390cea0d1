-- The function of an application.
use Rattle.std.specs.Prelude.{◌≡◌, ℕ, Option, Some, None}
use Rattle.lt_definitions.specs.Terms.{TermTree, application}
use Rattle.lt_terms.specs.Layout.{under}

abbrev pub function_of : TermTree → Option TermTree
function_of (application f a) = Some f
function_of _ = None

-- the place is that of the function's root
abbrev pub IsFrontPlace : TermTree → ℕ → Type 0
IsFrontPlace (application f a) place = place ≡ under f
IsFrontPlace _ place = ⊥
