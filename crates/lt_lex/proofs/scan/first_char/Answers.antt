use Rattle.std.proofs.Common.{◌∙◌, arith}
use Rattle.lt_lex.proofs.Steps.{gap_past_line}
use Rattle.lt_lex.proofs.scan.first_char.Goals as goal

pub gap-preserved : goal.gap-preserved
gap-preserved c = record {
  same = gap_past_line _ _ _ _ c.in-Some.ensures.chars c.if-c-eq35.true c.past_line-at.ensures.chars ∙ c.gap.invariant.same;
  place = c.past_line-at.ensures.place;
  later = omega (arith, c.gap.invariant.later, c.in-Some.ensures.place, c.past_line-at.ensures.later);
}
