use Rattle.std.proofs.Common.{sym}
use Rattle.lt_formulas.proofs.Hypotheses.{same-test}
use Rattle.lt_formulas.proofs.hyps.are_same.Goals as goal

pub returns : goal.returns
returns g c = sym (same-test _ _ _ c.in_ok-same.ensures)
