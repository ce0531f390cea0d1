-- Signs and words of the text's own.
use Rattle.std.specs.Prelude.{ℕ, List, Bool, nat_lt}
use Rattle.std.specs.List.{list_all}

-- whether all characters are ASCII
abbrev pub are_ascii : List ℕ → Bool
are_ascii cs = list_all (λ c. nat_lt c 128) cs
