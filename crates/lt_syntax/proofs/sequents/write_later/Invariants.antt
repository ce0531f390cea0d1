use Rattle.std.proofs.Common.{◌≡◌, ◌++◌, take}
use Rattle.lt_syntax.specs.SequentText.{later_hyps}
use Rattle.lt_syntax.proofs.sequents.write_later.Given as goal

abbrev pub invariant-loop-hyp : goal.invariant-loop-hyp
invariant-loop-hyp l = l.text ≡ l.initial.text ++ later_hyps (take l.hyp-index l.hyps)
