use Rattle.lt_conv.proofs.Matched.{instance-test, test-instance}
use Rattle.lt_conv.proofs.laws.instances_are_unfolded.Goals as goal

pub returns : goal.returns
returns c = λ d ps t. (test-instance d ps t, λ h. instance-test d ps t h.0 h.1)
