use Rattle.std.proofs.Common.{◌≡◌, ◌+◌, ◌-◌, ◌^◌, ◌≤◌, min, drop}
use Rattle.lt_definitions.specs.Types.{types_nodes, row}
use Rattle.lt_conv.proofs.counting.types_count.Given as goal

abbrev pub invariant-loop-ty : goal.invariant-loop-ty
invariant-loop-ty l = record {
  left : min (l.count + types_nodes (row (drop l.ty-index l.types))) (2 ^ 64 - 1) ≡ min (types_nodes (row l.types)) (2 ^ 64 - 1);
  fits : l.count ≤ 2 ^ 64 - 1;
}
