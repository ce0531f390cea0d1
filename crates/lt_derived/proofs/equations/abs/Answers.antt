use Rattle.lt_derived.proofs.EquationLemmas.{abs-sure, abs-equates}
use Rattle.lt_derived.proofs.equations.abs.Goals as goal

pub abs-requires-clause-sure : goal.abs-requires-clause-sure
abs-requires-clause-sure g c = abs-sure c.args.proof.now c.args.x.now c.args.ty.now c.args.i c.requires.line

pub returns-clause-line : goal.returns-clause-line
returns-clause-line g c = λ q. abs-equates c.args.proof.now c.abs.new.proof c.in_ok-line.line c.args.x.now c.args.ty.now c.args.i c.abs.ensures.carries c.requires.ty q c.in_ok-line.ensures.line
