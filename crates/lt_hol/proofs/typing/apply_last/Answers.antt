use Rattle.std.proofs.Common.{List, reverse}
use Rattle.lt_hol.specs.Outcomes.{Typed, AreOutcomes, applied_outcomes}
use Rattle.lt_hol.proofs.TypingSteps.{with-last}
use Rattle.lt_hol.proofs.typing.apply_last.Goals as goal

pub returns : goal.returns
returns c rs h =
    with-last (λ (ss : List Typed). AreOutcomes c.args.table.now (reverse c.in_ok-apply_to.field-0.items) (applied_outcomes ss))
    c.args.table.now c.args.outcomes.items c.pop.new.self.items c.in-Some.argument rs c.in-Some.ensures.items h
    (λ r ss o os. c.in_ok-apply_to.ensures r ss o os)
