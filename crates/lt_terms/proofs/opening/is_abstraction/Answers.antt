use Rattle.std.proofs.Common.{◌∙◌, refl}
use Rattle.lt_terms.proofs.OpenNodes.{root-kind}
use Rattle.lt_terms.proofs.opening.is_abstraction.Goals as goal

pub returns : goal.returns
returns c = c.is_lambda.ensures ∙ root-kind c.args.t.now c.len.result _ c.node.result.now c.len.ensures refl c.node.ensures
