-- The sessions of the examples come of texts.
use Rattle.std.specs.Prelude.{◌≡◌, List, [], ◌++◌, None, map}
use Rattle.std.proofs.Common.{refl}
use Rattle.std.specs.Fmt.{digits}
use Rattle.lt_definitions.specs.Items.{Item}
use Rattle.lt_definitions.specs.Theory.{checked}
use Rattle.lt_transport_definitions.specs.LawTable.{laws}
use Rattle.lt_transport_definitions.specs.Sessions.{Session, new_session}
use Rattle.lt_texts.specs.Commands.{Command, item_command, law_command}
use Rattle.lt_transport_definitions.specs.Samples.{LeadTo, IsReached, behind_items, with_laws, law_items, behind_laws, session_over}
use Rattle.lt_transport_definitions.proofs.SampleLemmas.{valid, items-lead, lead-on}

-- a session that is reached, and further commands
pub on : (s t : Session) (ds : List Command) → IsReached s → LeadTo s ds t → IsReached t
on s t ds h k = (h.0 ++ ds, lead-on (new_session 100) s t h.0 ds h.1 k)

-- a session that is reached, and further items of which none is refused
pub on-items : (s : Session) (items : List Item) → IsReached s → (checked s.context items).1 ≡ None → IsReached (behind_items s items)
on-items s items h e = on s (behind_items s items) (map item_command items) h (items-lead s items (valid s.context items e))

-- the session before the first command
pub new-reached : IsReached (new_session 100)
new-reached = ([], refl)

-- the session behind the laws' items
pub behind-reached : IsReached behind_laws
unfolding digits
behind-reached = on-items (new_session 100) law_items new-reached refl

laws-lead : LeadTo behind_laws (map (λ w. law_command w w) (map (λ p. p.0) laws)) (with_laws behind_laws (map (λ p. p.0) laws))
unfolding digits
laws-lead = (_, refl, (_, refl, (_, refl, (_, refl, (_, refl, (_, refl, (_, refl, (_, refl, (_, refl, (_, refl, (_, refl, (_, refl, (_, refl, (_, refl, (_, refl, (_, refl, (_, refl, (_, refl, (_, refl, (_, refl, (_, refl, (_, refl, (_, refl, (_, refl, (_, refl, (_, refl, (_, refl, (_, refl, (_, refl, (_, refl, (_, refl, (_, refl, refl))))))))))))))))))))))))))))))))

-- the session with all laws and further items
pub over-reached : (items : List Item) → (checked (with_laws behind_laws (map (λ p. p.0) laws)).context items).1 ≡ None → IsReached (session_over items)
over-reached items e = on-items (with_laws behind_laws (map (λ p. p.0) laws)) items
    (on behind_laws (with_laws behind_laws (map (λ p. p.0) laws)) (map (λ w. law_command w w) (map (λ p. p.0) laws)) behind-reached laws-lead) e
