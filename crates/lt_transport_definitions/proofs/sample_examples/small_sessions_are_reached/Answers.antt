use Rattle.std.proofs.Common.{refl}
use Rattle.std.specs.Prelude.{[], ◌∷◌, codes}
use Rattle.std.specs.Fmt.{digits}
use Rattle.lt_texts.specs.Commands.{corr_command, rule_command}
use Rattle.lt_transport_definitions.specs.OtherSamples.{bare_items}
use Rattle.lt_transport_definitions.specs.Samples.{behind_laws, session_over, typedef_items, related_items, over_related}
use Rattle.lt_transport_definitions.proofs.Reached.{behind-reached, on, on-items, over-reached}
use Rattle.lt_transport_definitions.proofs.sample_examples.small_sessions_are_reached.Goals as goal

pub returns-clause-typedef : goal.returns-clause-typedef
unfolding digits
returns-clause-typedef c = over-reached typedef_items refl

pub returns-clause-without_laws : goal.returns-clause-without_laws
unfolding digits
returns-clause-without_laws c = on-items behind_laws typedef_items behind-reached refl

pub returns-clause-related : goal.returns-clause-related
unfolding digits
returns-clause-related c = on (session_over related_items) over_related
    (corr_command (codes "r") ∷ rule_command (codes "az") ∷ rule_command (codes "ps") ∷ [])
    (over-reached related_items refl) (_, refl, (_, refl, (_, refl, refl)))

pub returns-clause-bare : goal.returns-clause-bare
unfolding digits
returns-clause-bare c = over-reached bare_items refl
