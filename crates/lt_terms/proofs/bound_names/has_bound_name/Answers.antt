use Rattle.lt_terms.proofs.NoBinders.{any-bound}
use Rattle.lt_terms.proofs.bound_names.has_bound_name.Goals as goal

pub loop-node-init : goal.loop-node-init
loop-node-init c = any-bound c.args.t.now _ c.nodes-node-items.ensures
