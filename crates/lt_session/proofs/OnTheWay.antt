-- A walk through a theory text on its way: its begin, its next command, its end, and that it has one.
use Rattle.std.proofs.Common.{ℕ, List, [], ◌∷◌, ◌++◌, refl, sym, subst, append_assoc, append-nil, inl, inr}
use Rattle.lt_definitions.specs.Items.{Item}
use Rattle.lt_texts.specs.Texts.{Left, left_of}
use Rattle.lt_texts.specs.Commands.{Command}
use Rattle.lt_texts.specs.Forms.{theory_text, header_text}
use Rattle.lt_texts.specs.WrongPlaces.{Wrong, Stands, HeaderFailsAt}
use Rattle.lt_texts.specs.CommandPlaces.{NextPlaced}
use Rattle.lt_walks.specs.Walks.{Meanings, End, too_long, wrong_header, EndsThere, WalksOn, WalksText}
use Rattle.lt_walks.proofs.EachWalk.{each_on}
use Rattle.lt_transport_definitions.specs.Sessions.{Session, new_session}
use Rattle.lt_session.specs.Walks.{RunRefusal, GivesBuilt, built_commands}
use Rattle.lt_session.proofs.Totals.{built_total}

-- how a walk ends behind its header
abbrev pub IsBehind : {R : Type 0} → End R → Type 0
IsBehind too_long = ⊥
IsBehind (wrong_header e) = ⊥
IsBehind end = Unit {0}

pub on-end : {S R : Type 0} (M : Meanings S R) (s : S) (at : Left) (blocks : List (List Item)) (end : End R) → WalksOn M s at blocks end → IsBehind end
on-end {S} {R} M s at [] end (inl (k, e)) = subst (λ (z : End R). IsBehind z) (sym e) tt
on-end {S} {R} M s at [] end (inr (inl (w, f, e))) = subst (λ (z : End R). IsBehind z) (sym e) tt
on-end {S} {R} M s at [] end (inr (inr (c, from, lines, to, b, n, r, f, e))) = subst (λ (z : End R). IsBehind z) (sym e) tt
on-end M s at (items ∷ blocks) end (c, from, lines, to, b, n, later, adds, w) = on-end M later b blocks end w

-- From a text's begin these blocks were added, and the walk comes to this place in this session: what it adds from here on is added
-- behind them, and it ends as it ends from here on.
unfoldable pub ComesTo : ℕ → List ℕ → List (List Item) → Session → Left → Type 0
ComesTo limit text blocks s at = (more : List (List Item)) (end : End RunRefusal) → WalksOn (built_commands limit) s at more end
    → WalksText (built_commands limit) text (blocks ++ more) end

pub begun : (limit : ℕ) (text : List ℕ) (at : Left) → Stands (left_of text) (header_text theory_text) at → ComesTo limit text [] (new_session limit) at
unfolding ComesTo WalksText
begun limit text at h = λ more end w. inr (at, h, w)

pub goes_on : (limit : ℕ) (text : List ℕ) (blocks : List (List Item)) (s later : Session) (at : Left) (c : Command) (items : List Item) (from : ℕ) (lines : List ℕ) (to : ℕ) (b : Left)
    → ComesTo limit text blocks s at → NextPlaced theory_text at c from lines to b → GivesBuilt s c items later → ComesTo limit text (blocks ++ items ∷ []) later b
unfolding ComesTo
goes_on limit text blocks s later at c items from lines to b h n g = λ more end w.
    subst (λ (xs : List (List Item)). WalksText (built_commands limit) text xs end) (sym (append_assoc blocks (items ∷ []) more))
    (h (items ∷ more) end (c, from, lines, to, b, n, later, g, w))

pub ends : (limit : ℕ) (text : List ℕ) (blocks : List (List Item)) (s : Session) (at : Left) (end : End RunRefusal) → ComesTo limit text blocks s at
    → EndsThere (built_commands limit) s at end → WalksText (built_commands limit) text blocks end
unfolding ComesTo
ends limit text blocks s at end h w = subst (λ (xs : List (List Item)). WalksText (built_commands limit) text xs end) (append-nil blocks) (h [] end w)

pub header_ends : (limit : ℕ) (text : List ℕ) (e : Wrong) → HeaderFailsAt theory_text (left_of text) e → WalksText (built_commands limit) text [] (wrong_header e)
unfolding WalksText
header_ends limit text e h = inl (e, h, refl, refl)

-- a walk on its way has an end
pub has_end : (limit : ℕ) (text : List ℕ) (blocks : List (List Item)) (s : Session) (at : Left) → ComesTo limit text blocks s at
    → (more : List (List Item)) × (end : End RunRefusal) × WalksText (built_commands limit) text (blocks ++ more) end × IsBehind end
unfolding ComesTo
has_end limit text blocks s at h =
    let w = each_on (built_commands limit) (built_total limit) s at in (w.0, w.1, h w.0 w.1 w.2, on-end (built_commands limit) s at w.0 w.1 w.2)
