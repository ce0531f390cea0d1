use Rattle.lt_store.specs.Trees.{tree_at}
use Rattle.lt_derived.proofs.EquationLemmas.{beta-sure, beta-equates}
use Rattle.lt_derived.proofs.equations.beta.Goals as goal

pub beta-requires-clause-sure : goal.beta-requires-clause-sure
beta-requires-clause-sure g c = beta-sure c.args.proof.now (tree_at c.args.proof.now.nodes c.args.t) c.requires.t.typed c.requires.redex

pub returns-clause-line : goal.returns-clause-line
returns-clause-line g c = λ r e. beta-equates c.args.proof.now c.beta.new.proof c.in_ok-line.line (tree_at c.args.proof.now.nodes c.args.t) r c.beta.ensures.carries c.requires.t.typed e c.in_ok-line.ensures.line
