use Rattle.lt_conv.proofs.Stepping.{argument-sound, self-equates}
use Rattle.lt_conv.proofs.steps.argument.Goals as goal

pub refl-requires : goal.refl-requires
refl-requires g c = argument-sound c.args.proof.now c.args.i c.parts-a.result.1 c.requires (c.parts-a.ensures.argument c.requires)

pub returns-clause-line : goal.returns-clause-line
returns-clause-line g c = λ q. self-equates c.args.proof.now c.refl.new.proof c.parts-a.result.1 c.in_ok-line.line q.a (c.parts-a.ensures.argument q) c.in_ok-line.ensures.line
