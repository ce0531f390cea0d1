use Rattle.lt_transport_laws.proofs.SearchExamples.{least-solution}
use Rattle.lt_transport_laws.proofs.search_examples.least_is_equality.Goals as goal

pub returns : goal.returns
returns c = record { least = least-solution }
