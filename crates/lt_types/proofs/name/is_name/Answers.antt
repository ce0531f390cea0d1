use Rattle.std.proofs.Common.{◌∙◌, sym}
use Rattle.lt_types.proofs.NameLemmas.{left-never, left-next, left-end, name_end}
use Rattle.lt_types.proofs.name.is_name.Goals as goal

pub returns-then-not-may_stand : goal.returns-then-not-may_stand
returns-then-not-may_stand c =
    sym (left-never _ _ _ c.loop-c.first c.in-Some.c c.loop-c.invariant c.in-Some.ensures.steps.0 (sym c.may_stand.ensures ∙ c.if-not-may_stand.true))

pub loop-c-preserved : goal.loop-c-preserved
loop-c-preserved c =
    left-next _ _ _ c.loop-c.first c.in-Some.c c.loop-c.invariant c.in-Some.ensures.steps.0 (sym c.may_stand.ensures ∙ c.if-not-may_stand.false)

pub returns : goal.returns
returns c =
    name_end c.loop-c.first ∙ sym (left-end _ _ _ c.loop-c.invariant c.in-None.ensures.steps.0.0)
