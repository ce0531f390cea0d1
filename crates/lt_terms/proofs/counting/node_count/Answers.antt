use Rattle.std.proofs.Common.{◌-◌, ◌^◌, ap}
use Rattle.lt_terms.specs.Counts.{node_count}
use Rattle.lt_terms.proofs.NodeCounts.{one-type}
use Rattle.lt_terms.proofs.counting.node_count.Goals as goal

pub returns-in-Free : goal.returns-in-Free
returns-in-Free c = one-type (2 ^ 64 - 1) c.len.result c.saturating_add.result c.args.node.now c.in-Free.ty (ap node_count c.in-Free.is) c.len.ensures c.saturating_add.ensures

pub returns-in-Lam : goal.returns-in-Lam
returns-in-Lam c = one-type (2 ^ 64 - 1) c.len-in-Lam.result c.saturating_add-in-Lam.result c.args.node.now c.in-Lam.ty (ap node_count c.in-Lam.is) c.len-in-Lam.ensures c.saturating_add-in-Lam.ensures
