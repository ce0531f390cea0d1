use Rattle.std.proofs.Common.{refl}
use Rattle.std.specs.Prelude.{[], ◌∷◌}
use Rattle.std.specs.Fmt.{digits}
use Rattle.lt_transport_definitions.specs.Sessions.{new_session}
use Rattle.lt_transport_definitions.specs.Samples.{list_relator, relator_by}
use Rattle.lt_transport_definitions.specs.RefusalSamples.{list_items, over_lists, over_relator}
use Rattle.lt_transport_definitions.specs.OtherSamples.{rel_fun_items}
use Rattle.lt_transport_definitions.proofs.Reached.{new-reached, on, on-items, over-reached}
use Rattle.lt_transport_definitions.proofs.sample_examples.list_sessions_are_reached.Goals as goal

pub returns-clause-lists : goal.returns-clause-lists
unfolding digits
returns-clause-lists c = over-reached list_items refl

pub returns-clause-relator : goal.returns-clause-relator
unfolding digits
returns-clause-relator c = on over_lists over_relator (relator_by list_relator ∷ []) (returns-clause-lists c) (_, refl, refl)

pub returns-clause-other_rel_fun : goal.returns-clause-other_rel_fun
unfolding digits
returns-clause-other_rel_fun c = on-items (new_session 100) rel_fun_items new-reached refl
