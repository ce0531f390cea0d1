-- A walk through a text has one end.
use Rattle.std.specs.Prelude.{◌≡◌, ℕ, ◌<◌, ◌≤◌, List, [], ◌∷◌, Ok, Err, length}
use Rattle.std.proofs.Common.{sym, ap, ◌∙◌, subst, inl, inr, arith}
use Rattle.lt_definitions.specs.Items.{Item}
use Rattle.lt_texts.specs.Texts.{Left, left_of}
use Rattle.lt_texts.specs.Commands.{Command}
use Rattle.lt_texts.specs.Forms.{theory_text}
use Rattle.lt_texts.specs.WrongPlaces.{Wrong, AtEnd, FailsAt}
use Rattle.lt_texts.specs.CommandPlaces.{NextPlaced}
use Rattle.lt_walks.specs.Walks.{End, wrong_header, unread, refused, place_of, EndsThere, WalksOn, WalksText, Walks}
use Rattle.lt_grammar.proofs.Alone.{header_no_fault, one_header, one_header_fault}
use Rattle.lt_grammar.proofs.FirstWrong.{one_fault, fault_no_command, fault_no_end, command_no_end}
use Rattle.lt_grammar.proofs.Placed.{placed_is_next, one_placed}
use Rattle.lt_transport_definitions.specs.Sessions.{Session, new_session}
use Rattle.lt_transport_definitions.specs.Commands.{CommandRefusal}
use Rattle.lt_transport_definitions.specs.Blocks.{ComesOf, Gives}
use Rattle.lt_transport_definitions.specs.TheoryWalks.{line_of, theory_limit, theory_commands}
use Rattle.lt_transport_laws.specs.KeptStatements.{IsKeptSession, WalksAreOne, RunsHaveOneEnd}
use Rattle.lt_transport_laws.proofs.KeptSessions.{new-kept, stay-kept, kept-scoped}
use Rattle.lt_transport_laws.proofs.OneTransport.{each-one}
use Rattle.lt_transport_laws.proofs.OneWalk.{session-one, same-refusal, not-both}

-- a command that stands next
pub record Next (at : Left) : Type 0 where
  command : Command
  place : ℕ
  lines : List ℕ
  to : ℕ
  behind : Left
  stands : NextPlaced theory_text at command place lines to behind

same-next : (at : Left) (c d : Next at) → (c.command ≡ d.command) × (c.place ≡ d.place) × (c.lines ≡ d.lines) × (c.to ≡ d.to) × (c.behind ≡ d.behind)
same-next at c d = one_placed theory_text at c.command c.place c.lines c.to c.behind d.command d.place d.lines d.to d.behind c.stands d.stands

next-no-end : (at : Left) → Next at → AtEnd theory_text at → ⊥
next-no-end at c h = command_no_end theory_text at c.command c.behind (placed_is_next theory_text at c.command c.place c.lines c.to c.behind c.stands) h

next-no-fault : (at : Left) (e : Wrong) → Next at → FailsAt theory_text at e → ⊥
next-no-fault at e c h =
    fault_no_command theory_text at e c.command c.behind h (placed_is_next theory_text at c.command c.place c.lines c.to c.behind c.stands)

-- a command isn't both refused and accepted
refused-given : (s : Session) (at : Left) (c d : Next at) (r : CommandRefusal) (items : List Item) (later : Session) → IsKeptSession s
    → ComesOf s c.command (Err r) → Gives s d.command items later → ⊥
refused-given s at c d r items later k h g =
    not-both r g.0 (each-one s d.command (Err r) (Ok g.0) (kept-scoped s k)
    (subst (λ (x : Command). ComesOf s x (Err r)) (same-next at c d).0 h) g.1)

refused-one : (s : Session) (at : Left) (c d : Next at) (r q : CommandRefusal) → IsKeptSession s
    → ComesOf s c.command (Err r) → ComesOf s d.command (Err q) → r ≡ q
refused-one s at c d r q k h g =
    same-refusal r q (each-one s d.command (Err r) (Err q) (kept-scoped s k)
    (subst (λ (x : Command). ComesOf s x (Err r)) (same-next at c d).0 h) g)

-- a command that stands next, by its parts
unfoldable pub next-of : (at : Left) (c : Command) (from : ℕ) (lines : List ℕ) (to : ℕ) (behind : Left) → NextPlaced theory_text at c from lines to behind → Next at
next-of at c from lines to behind p = record { command = c; place = from; lines = lines; to = to; behind = behind; stands = p }

-- a walk that adds nothing ends in one way
ends-one : (limit : ℕ) (s : Session) (at : Left) (end other : End CommandRefusal) → IsKeptSession s → EndsThere (theory_commands limit) s at end
    → EndsThere (theory_commands limit) s at other → end ≡ other
unfolding next-of
ends-one limit s at end other k (inl a) (inl b) = a.1 ∙ sym b.1
ends-one limit s at end other k (inl a) (inr (inl b)) = absurd (fault_no_end theory_text at b.0 b.1 a.0)
ends-one limit s at end other k (inl a) (inr (inr (c, from, lines, to, behind, p, r, f, e))) = absurd (next-no-end at (next-of at c from lines to behind p) a.0)
ends-one limit s at end other k (inr (inl a)) (inl b) = absurd (fault_no_end theory_text at a.0 a.1 b.0)
ends-one limit s at end other k (inr (inl a)) (inr (inl b)) = a.2 ∙ (ap unread (one_fault theory_text at a.0 b.0 a.1 b.1) ∙ sym b.2)
ends-one limit s at end other k (inr (inl a)) (inr (inr (c, from, lines, to, behind, p, r, f, e))) =
    absurd (next-no-fault at a.0 (next-of at c from lines to behind p) a.1)
ends-one limit s at end other k (inr (inr (c, from, lines, to, behind, p, r, f, e))) (inl b) = absurd (next-no-end at (next-of at c from lines to behind p) b.0)
ends-one limit s at end other k (inr (inr (c, from, lines, to, behind, p, r, f, e))) (inr (inl b)) =
    absurd (next-no-fault at b.0 (next-of at c from lines to behind p) b.1)
ends-one limit s at end other k (inr (inr (c, from, lines, to, behind, p, r, f, e))) (inr (inr (d, begin, marks, last, rest, q, u, g, h))) =
    let x : Next at = next-of at c from lines to behind p in
    let y : Next at = next-of at d begin marks last rest q in
    let n = same-next at x y in
    let same : r ≡ u = refused-one s at x y r u k f g in
    e ∙ ((λ i. refused (same i) (place_of (n.1 i) (n.2 i) (line_of (same i)))) ∙ sym h)

-- where it ends no command gives anything
pub ends-none : (limit : ℕ) (s : Session) (at : Left) (end : End CommandRefusal) (d : Next at) (items : List Item) (later : Session) → IsKeptSession s
    → EndsThere (theory_commands limit) s at end → Gives s d.command items later → ⊥
unfolding next-of
ends-none limit s at end d items later k (inl a) g = next-no-end at d a.0
ends-none limit s at end d items later k (inr (inl a)) g = next-no-fault at a.0 d a.1
ends-none limit s at end d items later k (inr (inr (c, from, lines, to, behind, p, r, f, e))) g =
    refused-given s at (next-of at c from lines to behind p) d r items later k f g

pub walk-one : WalksAreOne
unfolding next-of
walk-one limit s at [] [] end other k a b = ends-one limit s at end other k a b
walk-one limit s at [] (y ∷ ys) end other k a (d, begin, marks, last, rest, q, after, h, v) =
    absurd (ends-none limit s at end (next-of at d begin marks last rest q) y after k a h)
walk-one limit s at (x ∷ xs) [] end other k (c, from, lines, to, behind, p, later, g, w) b =
    absurd (ends-none limit s at other (next-of at c from lines to behind p) x later k b g)
walk-one limit s at (x ∷ xs) (y ∷ ys) end other k (c, from, lines, to, behind, p, later, g, w) (d, begin, marks, last, rest, q, after, h, v) =
    let n = one_placed theory_text at c from lines to behind d begin marks last rest p q in
    let g' : Gives s d x later = subst (λ (z : Command). Gives s z x later) n.0 g in
    let e : later ≡ after = session-one s d x y later after (kept-scoped s k) g' h in
    let w' : WalksOn (theory_commands limit) after rest xs end =
    subst (λ (z : Left). WalksOn (theory_commands limit) after z xs end) n.4
    (subst (λ (t : Session). WalksOn (theory_commands limit) t behind xs end) e w) in
    walk-one limit after rest xs ys end other (stay-kept s d y after k h) w' v

pub not-longer : (n m : ℕ) → n < m → m ≤ n → ⊥
not-longer n m h k = omega arith

pub runs-one : RunsHaveOneEnd
unfolding Walks WalksText
runs-one limit text xs ys end other (inl a) (inl b) = a.2 ∙ sym b.2
runs-one limit text xs ys end other (inl a) (inr b) = absurd (not-longer theory_limit (length text) a.0 b.0)
runs-one limit text xs ys end other (inr a) (inl b) = absurd (not-longer theory_limit (length text) b.0 a.0)
runs-one limit text xs ys end other (inr (h, inl a)) (inr (k, inl b)) =
    a.3 ∙ (ap wrong_header (one_header_fault theory_text (left_of text) a.0 b.0 a.1 b.1) ∙ sym b.3)
runs-one limit text xs ys end other (inr (h, inl a)) (inr (k, inr b)) = absurd (header_no_fault theory_text (left_of text) b.0 a.0 b.1 a.1)
runs-one limit text xs ys end other (inr (h, inr a)) (inr (k, inl b)) = absurd (header_no_fault theory_text (left_of text) a.0 b.0 a.1 b.1)
runs-one limit text xs ys end other (inr (h, inr a)) (inr (k, inr b)) =
    walk-one limit (new_session limit) b.0 xs ys end other (new-kept limit)
    (subst (λ (z : Left). WalksOn (theory_commands limit) (new_session limit) z xs end) (one_header theory_text (left_of text) a.0 b.0 a.1 b.1) a.2) b.2
