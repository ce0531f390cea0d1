use Rattle.std.proofs.Common.{ap}
use Rattle.lt_store.specs.Trees.{tree_at}
use Rattle.lt_formulas.specs.Shapes.{is_application}
use Rattle.lt_derived.proofs.EquationLemmas.{equation-there, equation-concl, right-stands}
use Rattle.lt_derived.proofs.equations.right.Goals as goal

pub conclusion-concl-requires : goal.conclusion-concl-requires
conclusion-concl-requires g c = equation-there c.args.proof.now c.args.i c.requires

pub application-to-requires-clause-form : goal.application-to-requires-clause-form
application-to-requires-clause-form g c =
    ap is_application (equation-concl c.args.proof.now c.args.i c.requires (tree_at c.args.proof.now.nodes c.conclusion-concl.result) c.conclusion-concl.ensures.is)

pub returns : goal.returns
returns g c = λ q. right-stands c.args.proof.now c.args.i c.conclusion-concl.result c.application-to.result.0 c.application-to.result.1 q c.conclusion-concl.ensures.is
    c.application-to.ensures.argument c.application-to.ensures.is
