use Rattle.lt_conv.proofs.Stepping.{function-sound, self-equates}
use Rattle.lt_conv.proofs.steps.function.Goals as goal

pub refl-requires : goal.refl-requires
refl-requires g c = function-sound c.args.proof.now c.args.i c.parts-f.result.0 c.requires (c.parts-f.ensures.function c.requires)

pub returns-clause-line : goal.returns-clause-line
returns-clause-line g c = λ q. self-equates c.args.proof.now c.refl.new.proof c.parts-f.result.0 c.in_ok-line.line q.f (c.parts-f.ensures.function q) c.in_ok-line.ensures.line
