-- Characters several times over.
use Rattle.std.specs.Prelude.{ℕ, zero, suc, [], ◌++◌}
use Rattle.lt_definitions.specs.Types.{Chars}

-- the characters, so many times
abbrev pub repeated : ℕ → Chars → Chars
repeated zero cs = []
repeated (suc n) cs = cs ++ repeated n cs
