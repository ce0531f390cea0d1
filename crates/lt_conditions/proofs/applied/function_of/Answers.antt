use Rattle.std.proofs.Common.{◌≡◌, ◌∙◌, ◌+◌, ◌-◌, Some, ap, sym, arith}
use Rattle.lt_terms.specs.Layout.{term_size, under}
use Rattle.lt_conditions.proofs.Fronts.{front-place, no-front}
use Rattle.lt_conditions.proofs.applied.function_of.Goals as goal

pub term_to-requires : goal.term_to-requires
term_to-requires c = front-place c.args.t.now _ c.in-App.function c.in-App.field-1 (c.node.ensures ∙ ap Some c.in-App.is) (omega (arith, c.len.ensures))

pub returns-in_default : goal.returns-in_default
returns-in_default c = sym (no-front c.args.t.now _ c.node.result.now c.node.ensures (omega (arith, c.len.ensures)) c.in_default.not-App)
