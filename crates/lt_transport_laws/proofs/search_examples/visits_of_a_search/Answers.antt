use Rattle.std.proofs.Common.{refl, arith}
use Rattle.lt_transport_laws.proofs.SearchExamples.{three, visits-are, visits-listed, different}
use Rattle.lt_transport_laws.proofs.search_examples.visits_of_a_search.Goals as goal

pub returns-clause-three : goal.returns-clause-three
returns-clause-three c = (three, refl, different, λ prefix. (visits-are prefix, visits-listed prefix))

pub returns-clause-limit : goal.returns-clause-limit
returns-clause-limit c = (omega arith, (three, omega arith, different, visits-are))
