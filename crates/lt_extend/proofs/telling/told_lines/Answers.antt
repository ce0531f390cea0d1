use Rattle.lt_extend.specs.Telling.{rules_in}
use Rattle.lt_extend.proofs.ToldLines.{good-placed, rules-next}
use Rattle.lt_extend.proofs.telling.told_lines.Goals as goal

pub add_told-requires : goal.add_told-requires
add_told-requires g c =
    good-placed c.args.proof.now (g.S.TermStore.nodes c.store.result.now) c.steps-steps.result.now c.loop-i.i c.step_at.result.now c.steps-steps.ensures.derived c.store.ensures c.steps-steps.ensures.is c.step_at.ensures

pub loop-i-preserved : goal.loop-i-preserved
loop-i-preserved g c =
    rules-next c.args.proof.now (g.S.TermStore.nodes c.store.result.now) c.steps-steps.result.now c.loop-i.i c.step_at.result.now (rules_in c.loop-i.lines) (rules_in c.add_told.new.lines)
    c.store.ensures c.steps-steps.ensures.is c.step_at.ensures c.loop-i.invariant c.in_ok-add_told.ensures
