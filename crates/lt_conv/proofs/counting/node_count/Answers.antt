use Rattle.std.proofs.Common.{◌-◌, ◌^◌, ap}
use Rattle.lt_store.specs.Views.{node_of}
use Rattle.lt_conv.specs.Conversions.{node_count}
use Rattle.lt_conv.proofs.NodeTotals.{one-type}
use Rattle.lt_conv.proofs.counting.node_count.Goals as goal

pub returns-in-Lam : goal.returns-in-Lam
returns-in-Lam c =
    one-type (2 ^ 64 - 1) c.len.result c.saturating_add-in-Lam.result (node_count c.args.floor (node_of c.args.view)) c.in-Lam.ty.now
    (ap (λ v. node_count c.args.floor (node_of v)) c.in-Lam.is) c.len.ensures c.saturating_add-in-Lam.ensures
