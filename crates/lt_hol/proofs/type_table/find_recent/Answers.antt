use Rattle.std.proofs.Common.{◌∙◌, sym}
use Rattle.lt_definitions.proofs.SameNames.{type-true}
use Rattle.lt_hol.proofs.RecentTypes.{recent-found}
use Rattle.lt_hol.proofs.type_table.find_recent.Goals as goal

pub returns-then-eq : goal.returns-then-eq
returns-then-eq c types kept =
    recent-found types c.args.recent.now c.loop-one.one-index c.one-item.result c.args.ty.now kept c.loop-one-test.true c.one-item.is
    (type-true c.one-item.result.ty c.args.ty.now (sym c.eq.ensures ∙ c.if-eq.true))
