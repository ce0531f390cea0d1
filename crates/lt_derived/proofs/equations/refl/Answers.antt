use Rattle.lt_store.specs.Trees.{tree_at}
use Rattle.lt_derived.proofs.EquationLemmas.{refl-equates}
use Rattle.lt_derived.proofs.equations.refl.Goals as goal

pub returns-clause-line : goal.returns-clause-line
returns-clause-line g c = refl-equates c.args.proof.now c.refl.new.proof c.in_ok-line.line (tree_at c.args.proof.now.nodes c.args.t) c.refl.ensures.carries c.requires.typed c.in_ok-line.ensures.line
