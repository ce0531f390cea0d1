-- A walk through a plain text on its way: its begin, its next item, its end, and that it has one.
use Rattle.std.proofs.Common.{◌≡◌, ℕ, List, [], ◌∷◌, ◌++◌, None, refl, sym, subst, append_assoc, append-nil, inl, inr}
use Rattle.lt_definitions.specs.Items.{Item, Context, empty, with_item, context_of}
use Rattle.lt_definitions.specs.Theory.{Refusal, refusal, AreValid}
use Rattle.lt_nameless.proofs.Refusals.{refusal-extension}
use Rattle.lt_texts.specs.Texts.{Left, left_of}
use Rattle.lt_texts.specs.Commands.{item_command}
use Rattle.lt_texts.specs.Forms.{plain_text, header_text}
use Rattle.lt_texts.specs.WrongPlaces.{Wrong, Stands, HeaderFailsAt}
use Rattle.lt_texts.specs.CommandPlaces.{NextPlaced}
use Rattle.lt_walks.specs.Walks.{End, wrong_header, EndsThere, WalksOn, WalksText}
use Rattle.lt_walks.specs.PlainWalks.{plain_items, items_in, ChecksText}
use Rattle.lt_walks.proofs.EachWalk.{each_on}
use Rattle.lt_walks.proofs.PlainWalkLemmas.{plain_total}

pub context_more : (ctx : Context) (items : List Item) (i : Item) → context_of ctx (items ++ i ∷ []) ≡ with_item (context_of ctx items) i
context_more ctx [] i = refl
context_more ctx (x ∷ items) i = context_more (with_item ctx x) items i

pub valid_more : (ctx : Context) (items : List Item) (i : Item) → AreValid ctx items → refusal (context_of ctx items) i ≡ None → AreValid ctx (items ++ i ∷ [])
valid_more ctx [] i v e = (e, tt)
valid_more ctx (x ∷ items) i v e = (v.0, valid_more (with_item ctx x) items i v.1 e)

-- From a text's begin these items are accepted, and the walk comes to this place: what it adds from here on is added behind them, and
-- it ends as it ends from here on.
unfoldable pub ComesTo : List ℕ → List Item → Left → Type 0
ComesTo text items at = (more : List (List Item)) (end : End Refusal) → WalksOn plain_items (context_of empty items) at more end
    → ChecksText text (items ++ items_in more) end

pub begun : (text : List ℕ) (at : Left) → Stands (left_of text) (header_text plain_text) at → ComesTo text [] at
unfolding ComesTo ChecksText WalksText
begun text at h = λ more end w. (more, inr (at, h, w), refl)

pub goes_on : (text : List ℕ) (items : List Item) (at : Left) (i : Item) (from : ℕ) (lines : List ℕ) (to : ℕ) (b : Left) → ComesTo text items at
    → NextPlaced plain_text at (item_command i) from lines to b → refusal (context_of empty items) i ≡ None → ComesTo text (items ++ i ∷ []) b
unfolding ComesTo
goes_on text items at i from lines to b h n e = λ more end w.
    let next : WalksOn plain_items (with_item (context_of empty items) i) b more end = subst (λ (c : Context). WalksOn plain_items c b more end) (context_more empty items i) w in
    let whole = h ((i ∷ []) ∷ more) end (item_command i, from, lines, to, b, n, with_item (context_of empty items) i, (refusal-extension (context_of empty items) i e, refl, refl), next) in
    subst (λ (xs : List Item). ChecksText text xs end) (sym (append_assoc items (i ∷ []) (items_in more))) whole

pub ends : (text : List ℕ) (items : List Item) (at : Left) (end : End Refusal) → ComesTo text items at → EndsThere plain_items (context_of empty items) at end → ChecksText text items end
unfolding ComesTo
ends text items at end h w = subst (λ (xs : List Item). ChecksText text xs end) (append-nil items) (h [] end w)

pub header_ends : (text : List ℕ) (e : Wrong) → HeaderFailsAt plain_text (left_of text) e → ChecksText text [] (wrong_header e)
unfolding ChecksText WalksText
header_ends text e h = ([], inl (e, h, refl, refl), refl)

-- a walk on its way has an end
pub has_end : (text : List ℕ) (items : List Item) (at : Left) → ComesTo text items at → (more : List Item) × (end : End Refusal) × ChecksText text (items ++ more) end
unfolding ComesTo
has_end text items at h = let w = each_on plain_items plain_total (context_of empty items) at in (items_in w.0, w.1, h w.0 w.1 w.2)
