use Rattle.std.proofs.Common.{◌-◌, arith, sym, subst}
use Rattle.lt_forms.proofs.NameLists.{IsTold, told-next, told-end}
use Rattle.lt_forms.proofs.names.are_distinct.Goals as goal

pub loop-at-preserved : goal.loop-at-preserved
loop-at-preserved c =
    subst (IsTold c.args.names.now c.insert.new.self.keys (c.loop-at.at - 1)) (sym c.both-distinct.ensures)
    (told-next c.args.names.now c.loop-at.later.keys c.insert.new.self.keys c.loop-at.at (c.loop-at.at - 1) c.index-names-at.result c.in_ok-copy.field-0 c.in_ok-new.new c.loop-at.distinct
    (omega (arith, c.loop-at-test.true)) c.index-names-at.is c.in_ok-copy.ensures c.in_ok-new.ensures.added c.in_ok-new.ensures.keys c.loop-at.invariant)

pub returns : goal.returns
returns c = told-end c.args.names.now c.loop-at.later.keys c.loop-at.at c.loop-at.distinct (omega (arith, c.loop-at-test.false)) c.loop-at.invariant
