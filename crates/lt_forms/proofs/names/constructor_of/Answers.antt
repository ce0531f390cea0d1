use Rattle.std.proofs.Common.{◌∙◌, refl}
use Rattle.lt_forms.proofs.TypeRoots.{root-constructor}
use Rattle.lt_forms.proofs.names.constructor_of.Goals as goal

pub returns : goal.returns
returns c =
    c.constructor_at.ensures ∙ root-constructor c.args.ty.now c.len.result _ c.node.result.now c.len.ensures refl c.node.ensures
