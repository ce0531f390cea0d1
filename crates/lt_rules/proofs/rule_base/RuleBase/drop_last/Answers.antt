use Rattle.std.proofs.Common.{ap}
use Rattle.lt_transport_definitions.specs.RuleForm.{TransferRule}
use Rattle.lt_rules.proofs.BaseLemmas.{last-kept}
use Rattle.lt_rules.proofs.rule_base.RuleBase.drop_last.Goals as goal

pub invariant_of-self : goal.invariant_of-self
invariant_of-self c =
    last-kept c.self.inside.rules.entries c.pop.new.self.entries c.self.inside.by_constant c.drop_last.new.self _ _ c.in-Some.rule
    c.self.invariant c.in-Some.ensures.entries (ap (λ (r : TransferRule). r.constant) c.rule-in-Some.ensures) c.drop_last.ensures
