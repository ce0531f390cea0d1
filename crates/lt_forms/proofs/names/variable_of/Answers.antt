use Rattle.std.proofs.Common.{◌∙◌, refl}
use Rattle.lt_forms.proofs.TypeRoots.{root-variable}
use Rattle.lt_forms.proofs.names.variable_of.Goals as goal

pub returns : goal.returns
returns c = c.variable_at.ensures ∙ root-variable c.args.ty.now c.len.result _ c.node.result.now c.len.ensures refl c.node.ensures
