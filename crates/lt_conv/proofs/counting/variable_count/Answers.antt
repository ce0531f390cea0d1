use Rattle.std.proofs.Common.{◌-◌, ◌^◌, arith}
use Rattle.lt_conv.specs.Conversions.{variable_count}
use Rattle.lt_conv.proofs.NodeTotals.{one-type, not-long}
use Rattle.lt_conv.proofs.counting.variable_count.Goals as goal

pub returns : goal.returns
returns c =
    one-type (2 ^ 64 - 1) c.len-2.result c.saturating_add.result (variable_count c.args.floor c.args.name.now c.args.ty.now) c.args.ty.now
    (not-long c.args.floor c.args.name.now c.args.ty.now (omega (arith, c.len.ensures, c.if-floor-len.false))) c.len-2.ensures c.saturating_add.ensures
