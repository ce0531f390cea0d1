use Rattle.lt_derived.proofs.Replaced.{puts-sure, puts-one}
use Rattle.lt_derived.proofs.putting.put_one.Goals as goal

pub tinst-requires-clause-sure : goal.tinst-requires-clause-sure
tinst-requires-clause-sure g c = puts-sure c.args.proof.now c.args.a.now c.args.ty.now c.args.i c.requires.there

pub returns-clause-line : goal.returns-clause-line
returns-clause-line g c = puts-one c.args.proof.now c.tinst.new.proof c.args.a.now c.args.ty.now c.args.i c.in_ok-line.line c.requires.there c.in_ok-line.ensures.line
