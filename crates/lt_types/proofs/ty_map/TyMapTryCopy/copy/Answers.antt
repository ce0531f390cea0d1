use Rattle.std.proofs.Common.{◌∙◌}
use Rattle.lt_types.specs.Maps.{with_pair}
use Rattle.lt_types.proofs.MapLemmas.{copied-next}
use Rattle.lt_types.proofs.ty_map.TyMapTryCopy.copy.Goals as goal

pub loop-i-preserved : goal.loop-i-preserved
loop-i-preserved c =
    c.in_ok-put.ensures.ok ∙ (λ i. with_pair (c.in_ok-copy.ensures i) (c.in_ok-copy-2.ensures i) (c.loop-i.invariant i))
    ∙ copied-next c.args.self.now c.loop-i.i c.at.result.0.now c.at.result.1.now c.len-i-end.ensures.unique c.at.ensures.pair
