use Rattle.std.proofs.Common.{◌≡◌, take, map}
use Rattle.lt_definitions.specs.Types.{type_instance}
use Rattle.lt_store.proofs.image.types_at.Given as goal

abbrev pub invariant-loop-ty : goal.invariant-loop-ty
invariant-loop-ty l = l.made ≡ map (type_instance l.by) (take l.ty-index l.types)
