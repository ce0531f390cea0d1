-- Numbers of lines.
use Rattle.std.specs.Prelude.{◌≡◌, ℕ, List, [], ◌∷◌, is_some, true, None}
use Rattle.lt_definitions.specs.Rules.{line_at}
use Rattle.lt_nameless.specs.Nameless.{NamelessSequent}

-- each number is a line's
abbrev pub AreKnown : List NamelessSequent → List ℕ → Type 0
AreKnown done [] = Unit {0}
AreKnown done (n ∷ ns) = (is_some (line_at done n) ≡ true) × AreKnown done ns

-- the first number, if there is one, isn't a line's
abbrev pub IsMissing : List NamelessSequent → List ℕ → Type 0
IsMissing done [] = Unit {0}
IsMissing done (n ∷ ns) = line_at done n ≡ None
