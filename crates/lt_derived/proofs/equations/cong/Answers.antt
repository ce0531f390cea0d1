use Rattle.lt_derived.proofs.EquationLemmas.{cong-sure, cong-equates}
use Rattle.lt_derived.proofs.equations.cong.Goals as goal

pub cong-requires : goal.cong-requires
cong-requires g c = cong-sure c.args.proof.now c.args.i c.args.j c.requires

pub returns-clause-line : goal.returns-clause-line
returns-clause-line g c = λ q. cong-equates c.args.proof.now c.cong.new.proof c.in_ok-line.line c.args.i c.args.j c.cong.ensures.carries q c.in_ok-line.ensures.line
