use Rattle.std.specs.Prelude.{[]}
use Rattle.lt_transport_laws.proofs.ReductionLemmas.{printed-alike}
use Rattle.lt_transport_laws.proofs.reduction_laws.printed_names_are_one.Goals as goal

pub returns : goal.returns
returns c = printed-alike []
