use Rattle.std.proofs.Common.{reverse, sym, subst}
use Rattle.lt_terms.specs.declared.term.TermNode.{TermNode}
use Rattle.lt_hol.specs.Outcomes.{AreOutcomes, typed_step}
use Rattle.lt_hol.proofs.TypingSteps.{one-more}
use Rattle.lt_hol.proofs.signature.Signature.visit.Goals as goal

pub returns-in_ok-one_more-in-Free-clause-outcomes : goal.returns-in_ok-one_more-in-Free-clause-outcomes
returns-in_ok-one_more-in-Free-clause-outcomes c rs bound h k =
    subst (λ (n : TermNode). AreOutcomes c.of_type.new.table (reverse c.in_ok-one_more-in-Free.field-0.items) (typed_step c.args.self.now rs n bound)) (sym c.in-Free.is)
    (one-more c.args.table.now c.of_type.new.table c.args.outcomes.items c.in_ok-one_more-in-Free.field-0.items c.in_ok-outcome-in-Free.outcome _ rs c.in_ok-outcome-in-Free.ensures.grows c.in_ok-one_more-in-Free.ensures
    c.in_ok-outcome-in-Free.ensures.outcome h)

pub returns-in_ok-one_more-in-Const-clause-outcomes : goal.returns-in_ok-one_more-in-Const-clause-outcomes
returns-in_ok-one_more-in-Const-clause-outcomes c rs bound h k =
    subst (λ (n : TermNode). AreOutcomes c.of_constant.new.table (reverse c.in_ok-one_more-in-Const.field-0.items) (typed_step c.args.self.now rs n bound)) (sym c.in-Const.is)
    (one-more c.args.table.now c.of_constant.new.table c.args.outcomes.items c.in_ok-one_more-in-Const.field-0.items c.in_ok-outcome-in-Const.outcome _ rs c.in_ok-outcome-in-Const.ensures.grows c.in_ok-one_more-in-Const.ensures
    c.in_ok-outcome-in-Const.ensures.outcome h)
