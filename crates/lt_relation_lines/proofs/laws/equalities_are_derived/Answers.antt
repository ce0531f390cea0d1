use Rattle.lt_relation_lines.proofs.EqualityLemmas.{equality-is}
use Rattle.lt_relation_lines.proofs.laws.equalities_are_derived.Goals as goal

pub returns : goal.returns
returns g = λ ground r h e x w. equality-is ground h r e x w
