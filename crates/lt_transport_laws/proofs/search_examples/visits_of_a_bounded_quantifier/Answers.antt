use Rattle.std.proofs.Common.{refl}
use Rattle.std.specs.Prelude.{[], ◌∷◌, codes}
use Rattle.std.specs.Fmt.{digits}
use Rattle.lt_definitions.specs.Types.{bool}
use Rattle.lt_definitions.specs.Samples.{con}
use Rattle.lt_transport_definitions.specs.Notation.{◌⇒◌}
use Rattle.lt_texts.specs.Commands.{lifting_typedef_command, lift_command, rule_command}
use Rattle.lt_transport_definitions.specs.Samples.{session_over}
use Rattle.lt_transport_definitions.proofs.Reached.{on, over-reached}
use Rattle.lt_transport_laws.specs.BoundedSamples.{t, bounded_items, over_bounded, predicate_quotient}
use Rattle.lt_transport_laws.proofs.BoundedSearch.{six, visits-are, visits-listed, different, least, answer}
use Rattle.lt_transport_laws.proofs.search_examples.visits_of_a_bounded_quantifier.Goals as goal

pub returns-clause-reached : goal.returns-clause-reached
unfolding digits
returns-clause-reached c = on (session_over bounded_items) over_bounded
    (lifting_typedef_command (codes "t") ∷ lift_command (codes "k") (t ⇒ bool) (con "h") (codes "k_resp")
    ∷ rule_command (codes "all_transfer") ∷ rule_command (codes "all_implies") ∷ rule_command (codes "all_bounded") ∷ [])
    (over-reached bounded_items refl)
    (_, refl, (_, (predicate_quotient, (refl, refl, (refl, ((refl, refl), tt))), refl), (_, refl, (_, refl, (_, refl, refl)))))

pub returns-clause-asked : goal.returns-clause-asked
unfolding digits
returns-clause-asked c = refl

pub returns-clause-six : goal.returns-clause-six
returns-clause-six c = (six, refl, different, λ prefix. (visits-are prefix, visits-listed prefix))

pub returns-clause-answer : goal.returns-clause-answer
returns-clause-answer c = (least.0, answer)
