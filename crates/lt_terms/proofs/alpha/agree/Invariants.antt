use Rattle.std.proofs.Common.{◌≡◌, drop}
use Rattle.lt_terms.specs.AlikeNodes.{agree}
use Rattle.lt_terms.proofs.alpha.agree.Given as goal

abbrev pub invariant-loop-at : goal.invariant-loop-at
invariant-loop-at l =
    agree l.left l.left_binders l.right l.right_binders ≡ agree (drop l.at l.left) (drop l.at l.left_binders) (drop l.at l.right) (drop l.at l.right_binders)
