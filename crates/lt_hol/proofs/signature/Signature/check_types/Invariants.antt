use Rattle.std.proofs.Common.{◌≡◌, drop}
use Rattle.lt_definitions.specs.Types.{row}
use Rattle.lt_definitions.specs.Typing.{types_fault}
use Rattle.lt_hol.proofs.signature.Signature.check_types.Given as goal

abbrev pub invariant-loop-ty : goal.invariant-loop-ty
invariant-loop-ty l = types_fault l.self (row l.types) ≡ types_fault l.self (row (drop l.ty-index l.types))
