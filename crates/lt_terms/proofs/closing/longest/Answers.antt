use Rattle.lt_terms.proofs.BinderLengths.{greatest-first}
use Rattle.lt_terms.proofs.closing.longest.Goals as goal

pub loop-node-init : goal.loop-node-init
loop-node-init c = greatest-first c.args.t.now _ c.nodes-node-items.ensures
