use Rattle.lt_derived.proofs.EquationLemmas.{sym-sure, sym-equates}
use Rattle.lt_derived.proofs.equations.sym.Goals as goal

pub sym-requires : goal.sym-requires
sym-requires g c = sym-sure c.args.proof.now c.args.i c.requires

pub returns-clause-line : goal.returns-clause-line
returns-clause-line g c = λ q. sym-equates c.args.proof.now c.sym.new.proof c.in_ok-line.line c.args.i c.sym.ensures.carries q c.in_ok-line.ensures.line
