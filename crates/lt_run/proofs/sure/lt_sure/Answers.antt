-- A text has one end, so one that is accepted isn't refused, nor the other way round.
use Rattle.std.proofs.Common.{rules, ◌≡◌, ◌⊎◌, refl}
use Rattle.lt_extend.specs.Theories.{items_of}
use Rattle.lt_walks.specs.Walks.{accepted}
use Rattle.lt_run.proofs.Sures.{two_alone, written_alone, runs_all, runs_stop, accepts_all, refuses_wrong}
use Rattle.lt_run.proofs.sure.lt_sure.Goals as goal

pub returns-clause-other : goal.returns-clause-other
returns-clause-other c = λ none.
    let known : (c.lt.result.status ≡ 0) ⊎ (c.lt.result.status ≡ 1) ⊎ (c.lt.result.status ≡ 2) ⊎ (c.lt.result.status ≡ 5) = search rules in
    two_alone c.lt.result.status (c.lt.ensures.other none) known

pub returns-clause-written : goal.returns-clause-written
returns-clause-written c = λ call asked none.
    let known : (c.lt.result.status ≡ 0) ⊎ (c.lt.result.status ≡ 1) ⊎ (c.lt.result.status ≡ 2) ⊎ (c.lt.result.status ≡ 5) = search rules in
    written_alone c.args.words.now c.lt.result.status _ (items_of c.lt.result.items) _ _ _ _
    (record { known = known; good = c.lt.ensures.accepted; bad = c.lt.ensures.refused; none = λ two. (c.lt.ensures.words two).0 }) call asked none

pub returns-clause-runs : goal.returns-clause-runs
returns-clause-runs c = λ call held blocks asked mode has walk.
    let known : (c.lt.result.status ≡ 0) ⊎ (c.lt.result.status ≡ 1) ⊎ (c.lt.result.status ≡ 2) ⊎ (c.lt.result.status ≡ 5) = search rules in
    runs_all c.args.words.now c.lt.result.status _ (items_of c.lt.result.items) _ _ _ _
    (record { known = known; good = c.lt.ensures.accepted; bad = c.lt.ensures.refused; none = λ two. (c.lt.ensures.words two).0 }) call asked _ held c.lt.ensures.same
    (c.lt.ensures.told call asked) has mode blocks accepted walk refl

pub returns-clause-stopping : goal.returns-clause-stopping
returns-clause-stopping c = λ call held blocks end asked mode has walk wrong.
    let known : (c.lt.result.status ≡ 0) ⊎ (c.lt.result.status ≡ 1) ⊎ (c.lt.result.status ≡ 2) ⊎ (c.lt.result.status ≡ 5) = search rules in
    runs_stop c.args.words.now c.lt.result.status _ (items_of c.lt.result.items) _ _ _ _
    (record { known = known; good = c.lt.ensures.accepted; bad = c.lt.ensures.refused; none = λ two. (c.lt.ensures.words two).0 }) call asked _ held c.lt.ensures.same
    (c.lt.ensures.told call asked) has mode blocks end walk wrong

pub returns-clause-complete : goal.returns-clause-complete
returns-clause-complete c = λ call held items asked mode has walk.
    let known : (c.lt.result.status ≡ 0) ⊎ (c.lt.result.status ≡ 1) ⊎ (c.lt.result.status ≡ 2) ⊎ (c.lt.result.status ≡ 5) = search rules in
    accepts_all c.args.words.now c.lt.result.status _ (items_of c.lt.result.items) _ _ _ _
    (record { known = known; good = c.lt.ensures.accepted; bad = c.lt.ensures.refused; none = λ two. (c.lt.ensures.words two).0 }) call asked _ held c.lt.ensures.same
    (c.lt.ensures.told call asked) has mode items accepted walk refl

pub returns-clause-refusing : goal.returns-clause-refusing
returns-clause-refusing c = λ call held items end asked mode has walk wrong.
    let known : (c.lt.result.status ≡ 0) ⊎ (c.lt.result.status ≡ 1) ⊎ (c.lt.result.status ≡ 2) ⊎ (c.lt.result.status ≡ 5) = search rules in
    refuses_wrong c.args.words.now c.lt.result.status _ (items_of c.lt.result.items) _ _ _ _
    (record { known = known; good = c.lt.ensures.accepted; bad = c.lt.ensures.refused; none = λ two. (c.lt.ensures.words two).0 }) call asked _ held c.lt.ensures.same
    (c.lt.ensures.told call asked) has mode items end walk wrong
