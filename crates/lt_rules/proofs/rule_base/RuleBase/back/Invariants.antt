use Rattle.lt_rules.proofs.BaseLemmas.{IsGoingBack}
use Rattle.lt_rules.proofs.rule_base.RuleBase.back.Given as goal

abbrev pub invariant-loop : goal.invariant-loop
invariant-loop l = IsGoingBack l.mark l.fn.self l.self l.counter
