-- Hypotheses behind the first.
use Rattle.std.specs.Prelude.{List, [], ◌++◌, codes}
use Rattle.std.specs.List.{flat_map}
use Rattle.lt_definitions.specs.Types.{Chars}
use Rattle.lt_definitions.specs.Terms.{TermTree}
use Rattle.lt_definitions.specs.Printing.{printed_term}

-- each behind a comma and a space
abbrev pub later_hyps : List TermTree → Chars
later_hyps hyps = flat_map (λ h. codes ", " ++ printed_term [] h) hyps
