use Rattle.lt_relation_lines.proofs.SideLemmas.{side-is}
use Rattle.lt_relation_lines.proofs.laws.sides_are_derived.Goals as goal

pub returns : goal.returns
returns g = λ ground asked r p h rules a x w s. side-is ground h asked rules r p a x w s
