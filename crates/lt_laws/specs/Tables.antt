-- The table of the laws, as code has it.
-- Source: this project's own.
use Rattle.std.specs.Prelude.{ℕ, List, Bool, Option, map, nat_lt}
use Rattle.std.specs.Borrow.{Bor}
use Rattle.std.specs.List.{list_all}
use Rattle.lt_definitions.specs.Types.{Chars, found}
use Rattle.lt_laws.specs.declared.table.TheConstants.{LAWS}

-- laws by their names, each with the text of its statement
abbrev pub texts : List (Bor (List ℕ) × Bor (List ℕ)) → List (Chars × List ℕ)
texts laws = map (λ law. (law.0.now, law.1.now)) laws

-- whether each name is of ASCII characters
abbrev pub are_ascii : List (Bor (List ℕ) × Bor (List ℕ)) → Bool
are_ascii laws = list_all (λ law. list_all (λ c. nat_lt c 128) law.0.now) laws

-- the laws in order, each with the text of its statement
abbrev pub law_texts : List (Chars × List ℕ)
law_texts = map (λ law. (law.0.now, law.1.now)) LAWS

-- the text of a law's statement
abbrev pub text_of : Chars → Option (List ℕ)
text_of w = found w law_texts
