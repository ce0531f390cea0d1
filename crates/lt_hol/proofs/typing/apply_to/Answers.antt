use Rattle.std.proofs.Common.{◌∷◌, List, reverse}
use Rattle.lt_hol.specs.Outcomes.{Typed, AreOutcomes, applied_outcomes}
use Rattle.lt_hol.proofs.DistinctTypes.{extends-refl}
use Rattle.lt_hol.proofs.TypingSteps.{with-last, one-more}
use Rattle.lt_hol.proofs.typing.apply_to.Goals as goal

pub returns : goal.returns
returns c s rs a h =
    with-last (λ (ss : List Typed). AreOutcomes c.args.table.now (reverse c.in_ok-one_more.field-0.items) (applied_outcomes (s ∷ ss)))
    c.args.table.now c.args.outcomes.items c.pop.new.self.items c.in-Some.function rs c.in-Some.ensures.items h
    (λ r ss o os. one-more c.args.table.now c.args.table.now c.pop.new.self.items c.in_ok-one_more.field-0.items c.applied.result _ ss (extends-refl c.args.table.now) c.in_ok-one_more.ensures
    (c.applied.ensures r s o a) os)
