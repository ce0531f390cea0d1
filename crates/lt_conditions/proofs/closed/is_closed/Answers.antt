use Rattle.lt_conditions.proofs.ClosedTerms.{closed-first}
use Rattle.lt_conditions.proofs.closed.is_closed.Goals as goal

pub loop-node-init : goal.loop-node-init
loop-node-init c = closed-first c.args.t.now c.nodes-node-items.result.now c.nodes-node-items.ensures
