use Rattle.lt_transport_laws.proofs.SearchExamples.{solution}
use Rattle.lt_transport_laws.proofs.search_examples.a_solution.Goals as goal

pub returns : goal.returns
returns c = record { solution = solution }
