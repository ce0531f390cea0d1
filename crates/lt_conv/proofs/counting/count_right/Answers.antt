use Rattle.std.proofs.Common.{ap, subst, ℕ}
use Rattle.lt_reductions.specs.Reducts.{nodes_over}
use Rattle.lt_conv.specs.Conversions.{Counts}
use Rattle.lt_conv.proofs.counting.count_right.Goals as goal

pub count-requires-clause-t : goal.count-requires-clause-t
count-requires-clause-t g c = (c.right-t.ensures c.requires.line).within

pub returns : goal.returns
returns g c = λ q. subst (λ (n : ℕ). Counts c.args.most n c.in_ok-counted.counted) (ap (nodes_over c.args.floor) (c.right-t.ensures q).is) c.in_ok-counted.ensures
