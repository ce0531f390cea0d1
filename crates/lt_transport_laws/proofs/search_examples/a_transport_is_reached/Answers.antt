use Rattle.std.proofs.Common.{refl, inr}
use Rattle.std.specs.Prelude.{[], ◌∷◌, codes}
use Rattle.std.specs.Fmt.{digits}
use Rattle.lt_definitions.specs.Samples.{con}
use Rattle.lt_texts.specs.Commands.{rule_command, equiv_command}
use Rattle.lt_transport_definitions.specs.Sessions.{signature_of}
use Rattle.lt_transport_definitions.specs.Samples.{session_over}
use Rattle.lt_transport_definitions.specs.RefusalSamples.{true_items, over_true, over_transport}
use Rattle.lt_transport_definitions.proofs.Reached.{on, over-reached}
use Rattle.lt_transport_laws.proofs.GivenImages.{finds-image, normal-true}
use Rattle.lt_transport_laws.proofs.search_examples.a_transport_is_reached.Goals as goal

pub returns : goal.returns
unfolding digits
returns c = on over_true over_transport (equiv_command (codes "same") (con "q") ∷ [])
    (on (session_over true_items) over_true (rule_command (codes "bq") ∷ []) (over-reached true_items refl) (_, refl, refl))
    (_, inr (inr (_, finds-image (signature_of over_true) (con "true"), inr (con "true", normal-true, refl))), refl)
