use Rattle.std.proofs.Common.{◌+◌, ◌-◌, ◌^◌, min}
use Rattle.lt_definitions.specs.Types.{types_nodes, row}
use Rattle.lt_terms.proofs.NodeCounts.{next-types, last-types, capped}
use Rattle.lt_conv.proofs.counting.types_count.Goals as goal

pub loop-ty-preserved : goal.loop-ty-preserved
loop-ty-preserved c = record {
  left = next-types (2 ^ 64 - 1) (min (types_nodes (row c.args.types.now)) (2 ^ 64 - 1)) c.loop-ty.count c.len.result c.saturating_add-count.result c.args.types.now c.loop-ty.ty-index c.ty-item.result
      c.loop-ty-test.true c.ty-item.is c.len.ensures c.saturating_add-count.ensures c.loop-ty.invariant.left;
  fits = capped (2 ^ 64 - 1) (c.loop-ty.count + c.len.result) c.saturating_add-count.result c.saturating_add-count.ensures;
}

pub returns : goal.returns
returns c =
    last-types (2 ^ 64 - 1) (min (types_nodes (row c.args.types.now)) (2 ^ 64 - 1)) c.loop-ty.count c.args.types.now c.loop-ty.ty-index c.loop-ty-test.false c.loop-ty.invariant.fits c.loop-ty.invariant.left
