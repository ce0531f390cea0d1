-- The walk through a text: its commands one after another, each read and then run, up to the text's
-- end or the first thing that is refused. What a command does is left open.
-- Source: this project's own.
use Rattle.std.specs.Prelude.{◌≡◌, ◌⊎◌, ℕ, ◌<◌, ◌≤◌, List, [], ◌∷◌, Option, Some, None, length, unwrap_or}
use Rattle.lt_definitions.specs.Rules.{line_at}
use Rattle.lt_definitions.specs.Items.{Item}
use Rattle.lt_texts.specs.Texts.{Left, left_of}
use Rattle.lt_texts.specs.Commands.{Command}
use Rattle.lt_texts.specs.Forms.{Form, a_command, header_text, IsAllowed}
use Rattle.lt_texts.specs.WrongPlaces.{Wrong, Stands, AtEnd, FailsAt, HeaderFailsAt}
use Rattle.lt_texts.specs.CommandPlaces.{NextPlaced}

-- What the commands of a kind of text do over the states of what was run before them: which items
-- each adds, and what the state is then, or why it is refused, and in which line of a lemma.
pub record Meanings (S R : Type 0) : Type 1 where
  pub form : Form
  pub most : ℕ
  pub start : S
  pub Adds : S → Command → List Item → S → Type 0
  pub Refuses : S → Command → R → Type 0
  pub line : R → Option ℕ

-- How a walk ends: all is accepted; the text is too long; its header is wrong; it can't be read on;
-- or a command is refused, at a place.
pub data End (R : Type 0) : Type 0 where
  accepted : End R
  too_long : End R
  wrong_header : Wrong → End R
  unread : Wrong → End R
  refused : R → ℕ → End R

-- the place of a refusal: the first token of its line, or else of its command
abbrev pub place_of : ℕ → List ℕ → Option ℕ → ℕ
place_of from lines None = from
place_of from lines (Some n) = unwrap_or (line_at lines n) from

-- From a place on and in a state the walk adds nothing, and ends so.
abbrev pub EndsThere : {S R : Type 0} → Meanings S R → S → Left → End R → Type 0
EndsThere {S} {R} M s at end = (AtEnd M.form at × (end ≡ accepted))
    ⊎ ((e : Wrong) × FailsAt M.form at e × (end ≡ unread e))
    ⊎ ((c : Command) × (from : ℕ) × (lines : List ℕ) × (to : ℕ) × (behind : Left)
    × NextPlaced M.form at c from lines to behind × (r : R) × M.Refuses s c r
    × (end ≡ refused r (place_of from lines (M.line r))))

-- From a place on and in a state the walk adds these blocks of items, one a command, and ends so.
abbrev pub WalksOn : {S R : Type 0} → Meanings S R → S → Left → List (List Item) → End R → Type 0
WalksOn M s at [] end = EndsThere M s at end
WalksOn {S} {R} M s at (items ∷ blocks) end = (c : Command) × (from : ℕ) × (lines : List ℕ)
    × (to : ℕ) × (behind : Left) × NextPlaced M.form at c from lines to behind
    × (later : S) × M.Adds s c items later × WalksOn M later behind blocks end

-- The walk through a text behind its header.
abbrev pub WalksBehind : {S R : Type 0} → Meanings S R → List ℕ → List (List Item) → End R → Type 0
WalksBehind M text blocks end = (at : Left) × Stands (left_of text) (header_text M.form) at
    × WalksOn M M.start at blocks end

-- The walk through a text, however long it is, adds these blocks of items, and ends so.
unfoldable pub WalksText : {S R : Type 0} → Meanings S R → List ℕ → List (List Item) → End R → Type 0
WalksText M text blocks end =
    ((e : Wrong) × HeaderFailsAt M.form (left_of text) e × (blocks ≡ []) × (end ≡ wrong_header e))
    ⊎ WalksBehind M text blocks end

-- The same of a text that may have no more than so many bytes.
unfoldable pub Walks : {S R : Type 0} → Meanings S R → List ℕ → List (List Item) → End R → Type 0
Walks M text blocks end = ((M.most < length text) × (blocks ≡ []) × (end ≡ too_long))
    ⊎ ((length text ≤ M.most) × WalksText M text blocks end)

-- A command that may stand adds something or is refused.
abbrev pub AreTotal : {S R : Type 0} → Meanings S R → Type 0
AreTotal {S} {R} M = (s : S) (c : Command) → IsAllowed M.form (a_command c)
    → ((items : List Item) × (later : S) × M.Adds s c items later) ⊎ ((r : R) × M.Refuses s c r)

-- A command adds one thing, or is refused for one reason, and not both.
pub record AreOne {S R : Type 0} (M : Meanings S R) : Type 0 where
  pub adds : (s : S) (c : Command) (xs ys : List Item) (a b : S) → M.Adds s c xs a
      → M.Adds s c ys b → (xs ≡ ys) × (a ≡ b)
  pub refuses : (s : S) (c : Command) (r q : R) → M.Refuses s c r → M.Refuses s c q → r ≡ q
  pub apart : (s : S) (c : Command) (xs : List Item) (a : S) (r : R) → M.Adds s c xs a
      → M.Refuses s c r → ⊥
