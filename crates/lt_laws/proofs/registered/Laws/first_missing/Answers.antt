use Rattle.std.proofs.Common.{◌∙◌, sym}
use Rattle.lt_laws.proofs.RegisteringLemmas.{missing-here, missing-later}
use Rattle.lt_laws.proofs.registered.Laws.first_missing.Goals as goal

pub returns-then-not-is_registered : goal.returns-then-not-is_registered
returns-then-not-is_registered c = sym (c.loop-i.invariant ∙ missing-here c.args.wanted.now c.args.self.now c.loop-i.i c.at-name.result.now c.at-name.ensures (sym c.is_registered.ensures ∙ c.if-not-is_registered.true))

pub loop-i-preserved : goal.loop-i-preserved
loop-i-preserved c = c.loop-i.invariant ∙ missing-later c.args.wanted.now c.args.self.now c.loop-i.i c.at-name.result.now c.at-name.ensures (sym c.is_registered.ensures ∙ c.if-not-is_registered.false)
