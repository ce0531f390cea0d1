use Rattle.std.proofs.Common.{arith, refl}
use Rattle.lt_rules.proofs.BaseLemmas.{back-init, back-next, back-done}
use Rattle.lt_rules.proofs.rule_base.RuleBase.back.Goals as goal

pub loop-init : goal.loop-init
loop-init c = back-init c.args.mark c.args.self.now

pub loop-preserved : goal.loop-preserved
loop-preserved c =
    back-next c.args.mark c.args.self.now c.loop.self c.drop_last.new.self c.loop.counter _ c.loop.invariant (omega (arith, c.rule_count-end.ensures, c.loop-test.true)) refl c.drop_last.ensures

pub returns : goal.returns
returns c = back-done c.args.mark c.args.self.now c.loop.self c.loop.counter c.loop.invariant (omega (arith, c.rule_count-end.ensures, c.loop-test.false))
