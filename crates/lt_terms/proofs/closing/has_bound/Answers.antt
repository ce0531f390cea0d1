use Rattle.lt_terms.proofs.NewNames.{first-nodes}
use Rattle.lt_terms.proofs.closing.has_bound.Goals as goal

pub loop-node-init : goal.loop-node-init
loop-node-init c = first-nodes c.args.name.now c.args.t.now _ c.nodes-node-items.ensures
