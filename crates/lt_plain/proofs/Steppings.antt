-- Steps of the walk through a plain text.
use Rattle.std.proofs.Common.{◌≡◌, ◌⊎◌, inl, inr, ℕ, List, [], ◌∷◌, ◌++◌, Ok, Err, refl, sym, ◌∙◌, ap, subst, chars, codes}
use Rattle.std.proofs.lemmas.List.{map-append}
use Rattle.lt_definitions.specs.Items as theory
use Rattle.lt_definitions.specs.Items.{Context}
use Rattle.lt_definitions.specs.Theory as refusals
use Rattle.lt_definitions.specs.Theory.{IsPlainTheory}
use Rattle.lt_hol.specs.declared.item.Item.{Item}
use Rattle.lt_hol.specs.Items.{item_of}
use Rattle.lt_texts.specs.Texts.{Left, left_of}
use Rattle.lt_texts.specs.Commands.{Command, item_command}
use Rattle.lt_texts.specs.Forms.{Form, plain_text, header_text, item_words, a_command, IsAllowed, HasPlainItems}
use Rattle.lt_texts.specs.WrongPlaces.{Stands, AtEnd}
use Rattle.lt_texts.specs.CommandPlaces.{NextPlaced}
use Rattle.lt_commands.specs.Views.{command_of}
use Rattle.lt_script.specs.Scripts.{Begun, begun_of, form_in, headed}
use Rattle.lt_script.specs.Openings.{allowed_words}
use Rattle.lt_script.specs.Promises.{Refuses, RefusesHeader}
use Rattle.lt_script.specs.declared.form.Allowed.TheVariants as kinds
use Rattle.lt_script.specs.declared.read_error.ReadError.{ReadError}
use Rattle.lt_script.specs.declared.read_error.ReadError.TheVariants as errors
use Rattle.lt_script.specs.declared.spanned.Spanned.{Spanned}
use Rattle.lt_extend.specs.Theories.{items_of, context_behind}
use Rattle.lt_syntax.proofs.Ascii.{chars-ascii, ascii}
use Rattle.lt_walks.specs.Walks.{End, accepted, unread, refused, wrong_header, place_of}
use Rattle.lt_walks.specs.PlainWalks.{line_of, ChecksText}
use Rattle.lt_walks.proofs.OnTheWay.{ComesTo, begun, goes_on, ends, header_ends, has_end}
use Rattle.lt_walks.proofs.PlainWalkLemmas.{accepted_text, texts_accept, each_text_check}
use Rattle.lt_commands.specs.declared.refusal.Refusal.TheVariants.{Memory}
use Rattle.lt_commands.specs.declared.refusal.Placed.{Placed}
use Rattle.lt_plain.specs.Telling.{TellsEnd, IsChecked}
use Rattle.lt_plain.specs.Placing.{IsPlacedError}
use Rattle.lt_plain.specs.Stepping as steps
use Rattle.lt_plain.specs.Stepping.{IsPlain, RefusesItem, AddsSpanned, IsNext, Steps, StopsAt}

-- behind the header of plain texts the form is theirs
pub form_is : (s : Begun) → IsPlain s → form_in s (allowed_words kinds.Items) ≡ plain_text
form_is s h = λ i. headed (h.word i) (h.number i) item_words

pub next_allowed : (f : Form) (s : Left) (c : Command) (from : ℕ) (lines : List ℕ) (to : ℕ) (b : Left) → NextPlaced f s c from lines to b → IsAllowed f (a_command c)
next_allowed f s c from lines to b (xs, hs, a, m, r, q, t, u) = a

-- what is wrong where a command may begin
pub stops_unread : (ctx : Context) (s : Left) (e : ReadError) (p : Placed) → IsPlacedError e p → Refuses plain_text s e → StopsAt ctx s p
stops_unread ctx s errors.Memory p is h = inl is
stops_unread ctx s (errors.BadHeader n) p is h = inr (unread _, inr (inl (_, h, refl)), is)
stops_unread ctx s (errors.BadCommand n) p is h = inr (unread _, inr (inl (_, h, refl)), is)
stops_unread ctx s (errors.Syntax n) p is h = inr (unread _, inr (inl (_, h, refl)), is)
stops_unread ctx s (errors.BadByte n) p is h = inr (unread _, inr (inl (_, h, refl)), is)
stops_unread ctx s (errors.BadChar n) p is h = inr (unread _, inr (inl (_, h, refl)), is)

-- what is wrong in the header
pub refuses_header : (s : Left) (e : ReadError) (p : Placed) → IsPlacedError e p → RefusesHeader plain_text s e → steps.RefusesHeader s p
refuses_header s errors.Memory p is h = inl is
refuses_header s (errors.BadHeader n) p is h = inr (_, h, is)
refuses_header s (errors.BadCommand n) p is h = inr (_, h, is)
refuses_header s (errors.Syntax n) p is h = inr (_, h, is)
refuses_header s (errors.BadByte n) p is h = inr (_, h, is)
refuses_header s (errors.BadChar n) p is h = inr (_, h, is)

-- what was read was added
pub steps_on : (s : Left) (d : Spanned) (old : List Item) (s' : Left) (new : List Item) → NextPlaced plain_text s (command_of d.command) d.from d.lines d.to s'
    → AddsSpanned d old new (Ok tt) → IsNext s old s' new
steps_on s d old s' new n (item, is, ok, grew) =
    record { item = item; from = d.from; lines = d.lines; to = d.to; next = subst (λ (c : Command). NextPlaced plain_text s c d.from d.lines d.to s') is n; accepted = ok; items = grew }

stops_by : (ctx : Context) (s : Left) (d : Spanned) (s' : Left) (item : Item) (p : Placed) → NextPlaced plain_text s (item_command (item_of item)) d.from d.lines d.to s'
    → RefusesItem ctx item d.from d.lines p → StopsAt ctx s p
stops_by ctx s d s' item p n (inl m) = inl m
stops_by ctx s d s' item p n (inr (r, is, tells, at)) =
    inr (refused r (place_of d.from d.lines (line_of r)), inr (inr (item_command (item_of item), d.from, d.lines, d.to, s', n, r, is, refl)), (at, tells))

-- what was read is refused
pub steps_end : (s : Left) (d : Spanned) (old : List Item) (s' : Left) (new : List Item) (p : Placed) → NextPlaced plain_text s (command_of d.command) d.from d.lines d.to s'
    → AddsSpanned d old new (Err p) → StopsAt (context_behind old) s p × (new ≡ old)
steps_end s d old s' new p n (item, is, why, same) =
    (stops_by (context_behind old) s d s' item p (subst (λ (c : Command). NextPlaced plain_text s c d.from d.lines d.to s') is n) why, same)

-- ---- a walk on its way

items_more : (old new : List Item) (item : Item) → new ≡ old ++ item ∷ [] → items_of new ≡ items_of old ++ item_of item ∷ []
items_more old new item e = ap items_of e ∙ map-append item_of old (item ∷ [])

pub on_by : (text : List ℕ) (s : Left) (old : List Item) (s' : Left) (new : List Item) → ComesTo text (items_of old) s → IsNext s old s' new → ComesTo text (items_of new) s'
on_by text s old s' new h n =
    subst (λ (items : List theory.Item). ComesTo text items s') (sym (items_more old new n.item n.items))
    (goes_on text (items_of old) s (item_of n.item) n.from n.lines n.to s' h n.next n.accepted)

pub at_end : (text : List ℕ) (s : Left) (items : List Item) → ComesTo text (items_of items) s → AtEnd plain_text s → ChecksText text (items_of items) accepted
at_end text s items h k = ends text (items_of items) s accepted h (inl (k, refl))

pub at_stop : (text : List ℕ) (s : Left) (items : List Item) (p : Placed) → ComesTo text (items_of items) s → StopsAt (context_behind items) s p
    → (p.refusal ≡ Memory) ⊎ ((end : End refusals.Refusal) × ChecksText text (items_of items) end × TellsEnd end p)
at_stop text s items p h (inl m) = inl m
at_stop text s items p h (inr (end, stop, tells)) = inr (end, ends text (items_of items) s end h stop, tells)

pub in_header : (text : List ℕ) (p : Placed) → steps.RefusesHeader (left_of text) p
    → (p.refusal ≡ Memory) ⊎ ((end : End refusals.Refusal) × ChecksText text [] end × TellsEnd end p)
in_header text p (inl m) = inl m
in_header text p (inr (e, h, is)) = inr (wrong_header e, header_ends text e h, is)

pub checked_all : (text : List ℕ) (s : Left) (items new : List Item) → ComesTo text (items_of items) s → AtEnd plain_text s → new ≡ items → IsChecked text (items_of new) (Ok tt)
unfolding IsChecked
checked_all text s items new h k e =
    let w = at_end text s items h k in
    subst (λ (xs : List Item). HasPlainItems text (items_of xs) × IsPlainTheory (items_of xs)) (sym e) (accepted_text text (items_of items) w, texts_accept text (items_of items) accepted w)

checked_some : (text : List ℕ) (items : List theory.Item) (p : Placed) → ((more : List theory.Item) × (end : End refusals.Refusal) × ChecksText text (items ++ more) end)
    → (p.refusal ≡ Memory) ⊎ ((end : End refusals.Refusal) × ChecksText text items end × TellsEnd end p) → IsChecked text items (Err p)
unfolding IsChecked
checked_some text items p w (inl m) = inr (m, w.0, w.1, w.2)
checked_some text items p w (inr h) = inl h

pub checked_part : (text : List ℕ) (s : Left) (items new : List Item) (p : Placed) → ComesTo text (items_of items) s → StopsAt (context_behind items) s p → new ≡ items → IsChecked text (items_of new) (Err p)
checked_part text s items new p h k e =
    subst (λ (xs : List Item). IsChecked text (items_of xs) (Err p)) (sym e) (checked_some text (items_of items) p (has_end text (items_of items) s h) (at_stop text s items p h k))

pub checked_none : (text : List ℕ) (items : List Item) (p : Placed) → items ≡ [] → steps.RefusesHeader (left_of text) p → IsChecked text (items_of items) (Err p)
checked_none text items p e h = subst (λ (xs : List Item). IsChecked text (items_of xs) (Err p)) (sym e) (checked_some text [] p (each_text_check text) (in_header text p h))

pub comes_first : (text : List ℕ) (items : List Item) (s : Left) → items ≡ [] → Stands (left_of text) (header_text plain_text) s → ComesTo text (items_of items) s
comes_first text items s e h = subst (λ (xs : List Item). ComesTo text (items_of xs) s) (sym e) (begun text s h)

-- ---- the header

pub plain_chars : chars (codes "plain") ≡ codes "plain"
plain_chars = chars-ascii (codes "plain") (ascii (codes "plain") refl)

pub stands_behind : (s : Begun) (text w : List ℕ) (s' : Left) → s ≡ begun_of text → w ≡ codes "plain" → ((commands : List (List ℕ)) → Stands s.left (header_text (headed w 1 commands)) s')
    → Stands (left_of text) (header_text plain_text) s'
stands_behind s text w s' e k h =
    subst (λ (z : Begun). Stands z.left (header_text plain_text) s') e (subst (λ (z : List ℕ). Stands s.left (header_text (headed z 1 item_words)) s') k (h item_words))

pub refuses_behind : (s : Begun) (text w : List ℕ) (e : ReadError) (p : Placed) → s ≡ begun_of text → w ≡ codes "plain" → IsPlacedError e p
    → ((commands : List (List ℕ)) → RefusesHeader (headed w 1 commands) s.left e) → steps.RefusesHeader (left_of text) p
refuses_behind s text w e p same k is h =
    refuses_header (left_of text) e p is
    (subst (λ (z : Begun). RefusesHeader plain_text z.left e) same (subst (λ (z : List ℕ). RefusesHeader (headed z 1 item_words) s.left e) k (h item_words)))

pub refuses_plain : (s : Begun) (e : ReadError) → IsPlain s → Refuses (form_in s (allowed_words kinds.Items)) s.left e → Refuses plain_text s.left e
refuses_plain s e h r = subst (λ (f : Form). Refuses f s.left e) (form_is s h) r

pub next_plain : (s : Begun) (c : Command) (from : ℕ) (lines : List ℕ) (to : ℕ) (b : Left) → IsPlain s → NextPlaced (form_in s (allowed_words kinds.Items)) s.left c from lines to b
    → NextPlaced plain_text s.left c from lines to b
next_plain s c from lines to b h n = subst (λ (f : Form). NextPlaced f s.left c from lines to b) (form_is s h) n

pub end_plain : (s : Begun) → IsPlain s → AtEnd (form_in s (allowed_words kinds.Items)) s.left → AtEnd plain_text s.left
end_plain s h e = subst (λ (f : Form). AtEnd f s.left) (form_is s h) e
