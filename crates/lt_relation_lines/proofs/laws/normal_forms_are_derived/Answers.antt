use Rattle.lt_relation_lines.proofs.NormalLemmas.{normal-are}
use Rattle.lt_relation_lines.proofs.laws.normal_forms_are_derived.Goals as goal

pub returns : goal.returns
returns g = λ ground r h ok x. normal-are ground h ok r x
