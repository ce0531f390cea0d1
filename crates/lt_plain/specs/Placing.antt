-- What kept a text from being read on, with its place.
use Rattle.std.specs.Prelude.{◌≡◌}
use Rattle.lt_script.specs.declared.read_error.ReadError.{ReadError}
use Rattle.lt_script.specs.declared.read_error.ReadError.TheVariants.{Memory as NoMemory}
use Rattle.lt_script.specs.Promises.{as_wrong}
use Rattle.lt_commands.specs.declared.refusal.Refusal.TheVariants.{Memory}
use Rattle.lt_commands.specs.declared.refusal.Placed.{Placed}
use Rattle.lt_plain.specs.Telling.{as_placed}

-- want of memory, or what is wrong at its place
abbrev pub IsPlacedError : ReadError → Placed → Type 0
IsPlacedError NoMemory p = p.refusal ≡ Memory
IsPlacedError e p = p ≡ as_placed (as_wrong e)
