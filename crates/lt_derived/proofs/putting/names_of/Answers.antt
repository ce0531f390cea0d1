use Rattle.std.proofs.Common.{◌++◌, ◌∷◌, [], sym, ◌∙◌}
use Rattle.lt_definitions.specs.Types.{Chars, TypeTree}
use Rattle.lt_derived.proofs.Replaced.{mapped-more}
use Rattle.lt_derived.proofs.putting.names_of.Goals as goal

pub loop-i-preserved : goal.loop-i-preserved
loop-i-preserved c =
    c.in_ok-push.ensures.ok ∙ (λ i. c.loop-i.invariant i ++ c.in_ok-copy.ensures i ∷ [])
    ∙ sym (mapped-more (λ (p : Chars × TypeTree). p.0) c.args.pairs.now c.loop-i.i (c.at.result.0.now, c.at.result.1.now) c.at.ensures.pair)
