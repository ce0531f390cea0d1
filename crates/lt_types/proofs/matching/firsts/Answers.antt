use Rattle.std.proofs.Common.{◌∙◌, ap, sym, is_some}
use Rattle.lt_types.specs.Maps.{with_pair}
use Rattle.lt_types.proofs.MatchingLemmas.{firsts-new, firsts-old, copied-some}
use Rattle.lt_types.proofs.matching.firsts.Goals as goal

pub loop-pair-preserved-then-is_some : goal.loop-pair-preserved-then-is_some
loop-pair-preserved-then-is_some c =
    c.loop-pair.invariant ∙ firsts-old c.loop-pair.map c.args.pairs.now c.loop-pair.pair-index c.pair-item.result c.loop-pair-test.true c.pair-item.is
    (ap is_some (sym c.get.ensures) ∙ copied-some c.get.result ∙ sym c.is_some.ensures ∙ c.if-is_some.true)

pub loop-pair-preserved : goal.loop-pair-preserved
loop-pair-preserved c =
    c.loop-pair.invariant ∙ firsts-new c.loop-pair.map c.args.pairs.now c.put.new.self c.loop-pair.pair-index c.pair-item.result c.loop-pair-test.true c.pair-item.is
    (ap is_some (sym c.get.ensures) ∙ copied-some c.get.result ∙ sym c.is_some.ensures ∙ c.if-is_some.false)
    (c.in_ok-put.ensures.ok ∙ (λ i. with_pair (c.in_ok-copy.ensures i) (c.in_ok-copy-2.ensures i) c.loop-pair.map))
