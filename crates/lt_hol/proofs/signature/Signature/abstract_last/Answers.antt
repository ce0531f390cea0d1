use Rattle.std.proofs.Common.{List, reverse}
use Rattle.lt_hol.specs.Outcomes.{Typed, AreOutcomes, abstracted_outcomes}
use Rattle.lt_hol.proofs.TypingSteps.{with-last, one-more}
use Rattle.lt_hol.proofs.signature.Signature.abstract_last.Goals as goal

pub returns-clause-outcomes : goal.returns-clause-outcomes
returns-clause-outcomes c rs h =
    with-last (λ (ss : List Typed). AreOutcomes c.abstracted.new.table (reverse c.in_ok-one_more.field-0.items) (abstracted_outcomes c.args.self.now c.args.ty.now ss))
    c.args.table.now c.args.outcomes.items c.pop.new.self.items c.in-Some.body rs c.in-Some.ensures.items h
    (λ r ss o os. one-more c.args.table.now c.abstracted.new.table c.pop.new.self.items c.in_ok-one_more.field-0.items c.in_ok-outcome.outcome _ ss c.in_ok-outcome.ensures.grows c.in_ok-one_more.ensures
    (c.in_ok-outcome.ensures.outcome r o) os)
