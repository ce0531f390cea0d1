use Rattle.std.proofs.Common.{◌≡◌, take, map}
use Rattle.lt_definitions.specs.Types.{type_instance}
use Rattle.lt_terms.proofs.term_instances.type_instances.Given as goal

abbrev pub invariant-loop-ty : goal.invariant-loop-ty
invariant-loop-ty l = l.instances ≡ map (type_instance l.by) (take l.ty-index l.ty-items)
