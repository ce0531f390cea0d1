use Rattle.lt_formulas.proofs.constants.mk_constant_at.Goals as goal

pub returns : goal.returns
returns g c = record {
  kept = c.in_ok-made.ensures.kept;
  made = c.in_ok-made.ensures.made;
  is = cc (c.in_ok-made.ensures.is, c.in_ok-types.ensures);
}
