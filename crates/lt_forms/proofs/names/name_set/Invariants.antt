use Rattle.std.proofs.Common.{◌≡◌, ◌||◌, drop}
use Rattle.lt_definitions.specs.Types.{Chars, has_name}
use Rattle.lt_forms.proofs.names.name_set.Given as goal

abbrev pub invariant-loop-name : goal.invariant-loop-name
invariant-loop-name l =
    (x : Chars) → (has_name x l.set.keys || has_name x (drop l.name-index l.names)) ≡ has_name x l.names
