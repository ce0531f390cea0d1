use Rattle.lt_reductions.proofs.NamedLimits.{normal-named, limit-named}
use Rattle.lt_reductions.proofs.laws.limits_are_those_of_steps.Goals as goal

pub returns-clause-normal : goal.returns-clause-normal
returns-clause-normal c = normal-named

pub returns-clause-limit : goal.returns-clause-limit
returns-clause-limit c = limit-named
