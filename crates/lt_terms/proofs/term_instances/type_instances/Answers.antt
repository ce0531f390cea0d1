use Rattle.std.proofs.Common.{◌∙◌, ◌++◌, ◌∷◌, []}
use Rattle.lt_terms.proofs.NodeInstances.{map-next, map-whole}
use Rattle.lt_terms.proofs.term_instances.type_instances.Goals as goal

pub loop-ty-preserved : goal.loop-ty-preserved
loop-ty-preserved c =
    c.in_ok-push.ensures.ok ∙ (λ i. c.loop-ty.invariant i ++ c.in_ok-tsub.ensures i ∷ []) ∙ map-next c.args.by.now _ c.loop-ty.ty-index c.ty-item.result c.loop-ty-test.true c.ty-item.is

pub returns : goal.returns
returns c =
    c.loop-ty.invariant ∙ map-whole c.args.by.now _ c.args.types.now c.loop-ty.ty-index c.as_slice-ty-items.ensures c.loop-ty.auto.ty-index-end c.loop-ty-test.false
