use Rattle.std.proofs.Common.{◌++◌, ◌∷◌, [], ◌∙◌, sym}
use Rattle.lt_types.proofs.LongNames.{long-more}
use Rattle.lt_types.proofs.type_variables.long_names.Goals as goal

pub loop-k-preserved : goal.loop-k-preserved
loop-k-preserved c = c.in_ok-push.ensures.items ∙ (λ i. c.loop-k.invariant i ++ c.in_ok-repeated.ensures i ∷ []) ∙ sym (long-more c.args.length c.loop-k.k)
