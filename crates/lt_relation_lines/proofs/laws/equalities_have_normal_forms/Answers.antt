use Rattle.lt_relation_lines.proofs.NormalLemmas.{normal-equal}
use Rattle.lt_relation_lines.proofs.laws.equalities_have_normal_forms.Goals as goal

pub returns : goal.returns
returns g = λ ground t h ok w. normal-equal ground h ok t w
