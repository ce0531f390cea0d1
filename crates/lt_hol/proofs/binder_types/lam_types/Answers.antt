use Rattle.lt_hol.proofs.DistinctTypes.{extends-then}
use Rattle.lt_hol.proofs.TypingSteps.{hints-next}
use Rattle.lt_hol.proofs.binder_types.lam_types.Goals as goal

pub loop-node-preserved : goal.loop-node-preserved
loop-node-preserved c = record {
  hints = hints-next c.loop-node.table c.binder_type.new.table c.loop-node.types.items c.push.new.self.items c.args.nodes.now c.loop-node.node-index c.node-item.result c.in_ok-ty.ty c.in_ok-ty.ensures.grows
      c.loop-node.invariant.hints c.in_ok-ty.ensures.hint c.in_ok-push.ensures.items c.loop-node-test.true c.node-item.is;
  grows = extends-then c.args.table.now c.loop-node.table c.binder_type.new.table c.loop-node.invariant.grows c.in_ok-ty.ensures.grows;
}
