use Rattle.lt_relating.proofs.PlanLemmas.{plan-walked}
use Rattle.lt_relating.proofs.laws.correspondences_are_derived.Goals as goal

pub returns : goal.returns
returns g = λ sig laws done t e sound relator app abs h. plan-walked sig laws done sound relator app abs t e h
