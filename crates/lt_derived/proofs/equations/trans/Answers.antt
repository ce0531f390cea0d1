use Rattle.lt_derived.proofs.EquationLemmas.{trans-sure, trans-equates}
use Rattle.lt_derived.proofs.equations.trans.Goals as goal

pub trans-requires : goal.trans-requires
trans-requires g c = trans-sure c.args.proof.now c.args.i c.args.j c.requires

pub returns-clause-line : goal.returns-clause-line
returns-clause-line g c = λ q. trans-equates c.args.proof.now c.trans.new.proof c.in_ok-line.line c.args.i c.args.j c.trans.ensures.carries q c.in_ok-line.ensures.line
