use Rattle.std.proofs.Common.{arith}
use Rattle.lt_store.specs.Trees.{tree_at}
use Rattle.lt_conv.proofs.NodeTotals.{many-nodes}
use Rattle.lt_conv.proofs.counting.is_too_large.Goals as goal

pub count-requires-clause-most : goal.count-requires-clause-most
count-requires-clause-most g c = omega arith

pub returns-in-None : goal.returns-in-None
returns-in-None g c = λ e. many-nodes 65536 (tree_at (g.S.TermStore.nodes c.args.store.now) c.args.t) c.in_ok-counted.counted c.in_ok-counted.ensures c.in-None.is
