use Rattle.std.proofs.Common.{refl, inl, inr}
use Rattle.std.specs.Prelude.{[], ◌∷◌, codes}
use Rattle.std.specs.Fmt.{digits}
use Rattle.lt_texts.specs.Commands.{rule_command}
use Rattle.lt_transport_definitions.specs.Sessions.{signature_of}
use Rattle.lt_transport_definitions.specs.Samples.{session_over}
use Rattle.lt_transport_definitions.proofs.Reached.{on, over-reached}
use Rattle.lt_transport_laws.specs.SearchSamples.{given_items, over_given, nots, redex}
use Rattle.lt_transport_laws.proofs.GivenImages.{finds-image, passes-limit}
use Rattle.lt_transport_laws.proofs.search_examples.refusals_of_images.Goals as goal

pub returns-clause-reached : goal.returns-clause-reached
unfolding digits
returns-clause-reached c = on (session_over (given_items (nots 2048))) (over_given (nots 2048)) (rule_command (codes "bq") ∷ [])
    (over-reached (given_items (nots 2048)) refl) (_, refl, refl)

pub returns-clause-reached_redex : goal.returns-clause-reached_redex
unfolding digits
returns-clause-reached_redex c = on (session_over (given_items redex)) (over_given redex) (rule_command (codes "bq") ∷ []) (over-reached (given_items redex) refl) (_, refl, refl)

pub returns-clause-large : goal.returns-clause-large
unfolding digits
returns-clause-large c = inr (inr (_, finds-image (signature_of (over_given (nots 2048))) (nots 2048), refl))

pub returns-clause-limit : goal.returns-clause-limit
unfolding digits
returns-clause-limit c = inr (inr (_, finds-image (signature_of (over_given redex)) redex, inl (1, passes-limit, refl)))
