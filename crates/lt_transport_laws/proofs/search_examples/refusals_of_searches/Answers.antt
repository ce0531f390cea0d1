use Rattle.std.proofs.Common.{refl, inl, inr, arith}
use Rattle.std.specs.Prelude.{[], ◌∷◌, codes}
use Rattle.std.specs.Fmt.{digits}
use Rattle.lt_definitions.specs.Samples.{implication}
use Rattle.lt_texts.specs.Commands.{rule_command}
use Rattle.lt_transport_definitions.specs.Samples.{session_over}
use Rattle.lt_transport_definitions.proofs.Reached.{on, over-reached}
use Rattle.lt_transport_laws.specs.SearchSamples.{over_implied}
use Rattle.lt_transport_laws.proofs.SearchExamples.{three, visits-are, different}
use Rattle.lt_transport_laws.proofs.NoTransport.{no-image}
use Rattle.lt_transport_laws.proofs.search_examples.refusals_of_searches.Goals as goal

pub returns-clause-reached : goal.returns-clause-reached
unfolding digits
returns-clause-reached c = on (session_over implication) over_implied (rule_command (codes "pq") ∷ []) (over-reached implication refl) (_, refl, refl)

pub returns-clause-limit : goal.returns-clause-limit
unfolding digits
returns-clause-limit c = inl ((three, omega arith, different, visits-are), refl)

pub returns-clause-none : goal.returns-clause-none
unfolding digits
returns-clause-none c = inr (inl (no-image, refl))

pub returns-clause-large : goal.returns-clause-large
unfolding digits
returns-clause-large c = refl
