-- A walk that writes, on its way: its begin, its next item, and each way in which it stops.
use Rattle.std.proofs.Common.{◌≡◌, ◌⊎◌, inl, inr, ℕ, ◌-◌, List, [], ◌∷◌, ◌++◌, length, slice_get, length-append, arith, Option, Some, None, Result, Ok, Err, refl, sym, ◌∙◌, ap, subst, append-nil}
use Rattle.std.specs.Prelude.{encode_utf8_all, OnOk, OnErr}
use Rattle.std.proofs.lemmas.List.{map-append}
use Rattle.lt_definitions.specs.Items as theory
use Rattle.lt_definitions.specs.Theory.{Refusal}
use Rattle.lt_definitions.specs.Printing.{summary_line, count_line}
use Rattle.lt_hol.specs.declared.item.Item.{Item}
use Rattle.lt_hol.specs.Items.{item_of}
use Rattle.lt_texts.specs.Texts.{Left, left_of}
use Rattle.lt_texts.specs.Forms.{plain_text}
use Rattle.lt_texts.specs.WrongPlaces.{AtEnd}
use Rattle.lt_io.specs.Written.{Grew, GrewByFront}
use Rattle.lt_io.proofs.WriteLemmas.{Grew-append}
use Rattle.lt_extend.specs.Theories.{items_of, context_behind}
use Rattle.lt_walks.specs.Walks.{End, accepted, too_long, wrong_header, unread, refused}
use Rattle.lt_walks.specs.PlainWalks.{ChecksText}
use Rattle.lt_walks.specs.Outputs.{summary_of}
use Rattle.lt_walks.proofs.OnTheWay.{ComesTo, has_end}
use Rattle.lt_walks.proofs.PlainWalkLemmas.{each_text_check}
use Rattle.lt_commands.specs.declared.refusal.Refusal.TheVariants.{Memory as NoMemory}
use Rattle.lt_commands.specs.declared.refusal.Placed.{Placed}
use Rattle.lt_plain.specs.Telling.{TellsEnd}
use Rattle.lt_plain.specs.Stepping.{IsNext, StopsAt, RefusesHeader}
use Rattle.lt_plain.proofs.Steppings.{on_by, at_end, at_stop, in_header}
use Rattle.lt_session.specs.declared.running.Stop.{Stop}
use Rattle.lt_session.specs.declared.running.Stop.TheVariants as stops
use Rattle.lt_session.specs.Running.{IsNoRefusal, IsStop}
use Rattle.lt_run.specs.Walked.{IsCut, IsEnd, IsWalked}
use Rattle.lt_session.proofs.Fronts.{Grew-none, front_all, front_behind, front_none}
use Rattle.lt_run.proofs.Summaries.{lines_of, lines_more, summary_accepted, summary_refused, IsNotAccepted, front_of_lines}

-- These items were accepted, what is left of the text is this, and their lines were written.
pub record IsOnWay (text : List ℕ) (items : List Item) (s : Left) (before now : Option (List ℕ)) : Type 0 where
  pub comes : ComesTo text (items_of items) s
  pub grew : Grew before now (lines_of (items_of items))

pub way_begins : (text : List ℕ) (items : List Item) (s : Left) (a : Option (List ℕ)) → items ≡ [] → ComesTo text (items_of items) s → IsOnWay text items s a a
way_begins text items s a e h = record { comes = h; grew = subst (λ (xs : List Item). Grew a a (lines_of (items_of xs))) (sym e) (Grew-none a) }

items_more : (old new : List Item) (item : Item) → new ≡ old ++ item ∷ [] → items_of new ≡ items_of old ++ item_of item ∷ []
items_more old new item e = ap items_of e ∙ map-append item_of old (item ∷ [])

pub way_goes_on : (text : List ℕ) (old new : List Item) (s s' : Left) (a b c : Option (List ℕ)) → IsOnWay text old s a b → (n : IsNext s old s' new) → Grew b c (encode_utf8_all (summary_line (item_of n.item)))
    → IsOnWay text new s' a c
way_goes_on text old new s s' a b c h n line = record {
  comes = on_by text s old s' new h.comes n;
  grew = subst (λ (z : List ℕ). Grew a c z) (sym (ap lines_of (items_more old new n.item n.items) ∙ lines_more (items_of old) (item_of n.item)))
      (Grew-append a b c (lines_of (items_of old)) (encode_utf8_all (summary_line (item_of n.item))) h.grew line);
}

cut : (text : List ℕ) (items : List Item) (s : Left) (a b : Option (List ℕ)) → ComesTo text (items_of items) s → GrewByFront a b (lines_of (items_of items)) → IsCut text (items_of items) a b
unfolding IsCut
cut text items s a b h front =
    let w = has_end text (items_of items) s h in
    (w.0, w.1, w.2, front_of_lines (items_of items) w.0 w.1 a b front)

-- cut between two items
pub way_cut : (text : List ℕ) (items : List Item) (s : Left) (a b : Option (List ℕ)) → IsOnWay text items s a b → IsCut text (items_of items) a b
way_cut text items s a b h = cut text items s a b h.comes (front_all a b (lines_of (items_of items)) h.grew)

-- cut in an item's line
pub way_cut_in_line : (text : List ℕ) (old new : List Item) (s s' : Left) (a b c : Option (List ℕ)) → IsOnWay text old s a b → (n : IsNext s old s' new)
    → GrewByFront b c (encode_utf8_all (summary_line (item_of n.item))) → IsCut text (items_of new) a c
way_cut_in_line text old new s s' a b c h n front =
    cut text new s' a c (on_by text s old s' new h.comes n)
    (subst (λ (z : List ℕ). GrewByFront a c z) (sym (ap lines_of (items_more old new n.item n.items) ∙ lines_more (items_of old) (item_of n.item)))
    (front_behind a b c (lines_of (items_of old)) (encode_utf8_all (summary_line (item_of n.item))) h.grew front))

-- nothing was read yet
pub none_cut : (text : List ℕ) (items : List Item) (a : Option (List ℕ)) → items ≡ [] → IsCut text (items_of items) a a
unfolding IsCut
none_cut text items a e =
    let w = each_text_check text in
    subst (λ (xs : List Item). (more : List theory.Item) × (end : End Refusal) × ChecksText text (items_of xs ++ more) end × GrewByFront a a (summary_of (items_of xs ++ more) end)) (sym e)
    (w.0, w.1, w.2, front_none a a (summary_of w.0 w.1) (Grew-none a))

-- all was accepted, and the line of counts written, or a front of it
pub way_ends : (text : List ℕ) (items new : List Item) (s : Left) (a b c : Option (List ℕ)) → IsOnWay text items s a b → AtEnd plain_text s → new ≡ items
    → Grew b c (encode_utf8_all (count_line (items_of new))) → IsEnd text (items_of new) accepted a c
unfolding IsEnd
way_ends text items new s a b c h k e line =
    subst (λ (xs : List Item). Grew b c (encode_utf8_all (count_line (items_of xs))) → ChecksText text (items_of xs) accepted × Grew a c (summary_of {R = Refusal} (items_of xs) accepted)) (sym e)
    (λ counts. (
      at_end text s items h.comes k,
      subst (λ (z : List ℕ). Grew a c z) (sym (summary_accepted (items_of items)))
          (Grew-append a b c (lines_of (items_of items)) (encode_utf8_all (count_line (items_of items))) h.grew counts),
    )) line

pub way_cut_in_counts : (text : List ℕ) (items new : List Item) (s : Left) (a b c : Option (List ℕ)) → IsOnWay text items s a b → AtEnd plain_text s → new ≡ items
    → GrewByFront b c (encode_utf8_all (count_line (items_of new))) → IsCut text (items_of new) a c
unfolding IsCut
way_cut_in_counts text items new s a b c h k e front =
    subst (λ (xs : List Item). GrewByFront b c (encode_utf8_all (count_line (items_of xs)))
    → (more : List theory.Item) × (end : End Refusal) × ChecksText text (items_of xs ++ more) end × GrewByFront a c (summary_of (items_of xs ++ more) end)) (sym e)
    (λ counts. (
      [],
      accepted,
      subst (λ (z : List theory.Item). ChecksText text z accepted) (sym (append-nil (items_of items))) (at_end text s items h.comes k),
      subst (λ (z : List theory.Item). GrewByFront a c (summary_of {R = Refusal} z accepted)) (sym (append-nil (items_of items)))
          (subst (λ (z : List ℕ). GrewByFront a c z) (sym (summary_accepted (items_of items)))
          (front_behind a b c (lines_of (items_of items)) (encode_utf8_all (count_line (items_of items))) h.grew counts)),
    )) front

-- ---- what is refused

not-accepted : (end : End Refusal) (p : Placed) → TellsEnd end p → IsNotAccepted end
not-accepted accepted p h = h
not-accepted too_long p h = tt
not-accepted (wrong_header e) p h = tt
not-accepted (unread e) p h = tt
not-accepted (refused r place) p h = tt

told-end : (text : List ℕ) (items : List theory.Item) (a b : Option (List ℕ)) (p : Placed) → Grew a b (lines_of items) → IsCut text items a b
    → (p.refusal ≡ NoMemory) ⊎ ((end : End Refusal) × ChecksText text items end × TellsEnd end p) → (stop : Stop) → IsStop p stop → IsWalked text items a b (Err stop)
unfolding IsEnd
told-end text items a b p grew short (inl m) (stops.Refused q) (is, no-memory) = absurd (no-memory m)
told-end text items a b p grew short (inr (end, w, tells)) (stops.Refused q) (is, no-memory) =
    (end, (w, subst (λ (z : List ℕ). Grew a b z) (sym (summary_refused items end (not-accepted end p tells))) grew), subst (TellsEnd end) (sym is) tells)
told-end text items a b p grew short h stops.Fault is = absurd is
told-end text items a b p grew short h stops.Memory is = short

-- the walk stops at what the next step tells
pub way_stops : (text : List ℕ) (items new : List Item) (s : Left) (a b : Option (List ℕ)) (p : Placed) (stop : Stop) → IsOnWay text items s a b → StopsAt (context_behind items) s p → new ≡ items
    → IsStop p stop → IsWalked text (items_of new) a b (Err stop)
way_stops text items new s a b p stop h k e is =
    subst (λ (xs : List Item). IsWalked text (items_of xs) a b (Err stop)) (sym e)
    (told-end text (items_of items) a b p h.grew (way_cut text items s a b h) (at_stop text s items p h.comes k) stop is)

-- or at its header
pub header_stops : (text : List ℕ) (items : List Item) (a : Option (List ℕ)) (p : Placed) (stop : Stop) → items ≡ [] → RefusesHeader (left_of text) p → IsStop p stop
    → IsWalked text (items_of items) a a (Err stop)
header_stops text items a p stop e k is =
    subst (λ (xs : List Item). IsWalked text (items_of xs) a a (Err stop)) (sym e) (told-end text [] a a p (Grew-none a) (none_cut text [] a refl) (in_header text p k) stop is)

-- ---- what a step that writes answers

pub cut_stops : (text : List ℕ) (items : List theory.Item) (a b : Option (List ℕ)) (stop : Stop) → IsNoRefusal (Err stop) → IsCut text items a b → IsWalked text items a b (Err stop)
cut_stops text items a b (stops.Refused p) h k = absurd h
cut_stops text items a b stops.Fault h k = k
cut_stops text items a b stops.Memory h k = k

pub way_finishes : (text : List ℕ) (items new all : List Item) (s : Left) (a b c : Option (List ℕ)) (r : Result (Unit {0}) Stop) → IsOnWay text items s a b → AtEnd plain_text s → new ≡ items → all ≡ new
    → IsNoRefusal r → OnOk r (Grew b c (encode_utf8_all (count_line (items_of all)))) → OnErr r (GrewByFront b c (encode_utf8_all (count_line (items_of all)))) → IsWalked text (items_of new) a c r
way_finishes text items new all s a b c (Ok u) h k e same clear grew front =
    way_ends text items new s a b c h k e (subst (λ (xs : List Item). Grew b c (encode_utf8_all (count_line (items_of xs)))) same grew)
way_finishes text items new all s a b c (Err stop) h k e same clear grew front =
    cut_stops text (items_of new) a c stop clear
    (way_cut_in_counts text items new s a b c h k e (subst (λ (xs : List Item). GrewByFront b c (encode_utf8_all (count_line (items_of xs)))) same front))

-- ---- the last item

last-seam : (before : List Item) (item : Item) → slice_get (before ++ item ∷ []) (length (before ++ item ∷ []) - 1) ≡ Some item
last-seam before item =
    let size = length-append before (item ∷ []) in
    let number : length (before ++ item ∷ []) - 1 ≡ length before = omega (arith, size) in
    ap (slice_get (before ++ item ∷ [])) number ∙ seam before
  where
    seam : (xs : List Item) → slice_get (xs ++ item ∷ []) (length xs) ≡ Some item
    seam [] = refl
    seam (x ∷ xs) = seam xs

pub last_is : (items before : List Item) (x y : Item) → Some x ≡ slice_get items (length items - 1) → items ≡ before ++ y ∷ [] → x ≡ y
last_is items before x y e h =
    let same : Some x ≡ Some y = e ∙ ap (λ (z : List Item). slice_get z (length z - 1)) h ∙ last-seam before y in
    cc same

pub no_last : (items before : List Item) (y : Item) → None ≡ slice_get items (length items - 1) → items ≡ before ++ y ∷ [] → ⊥
no_last items before y e h =
    let no : None ≡ Some y = e ∙ ap (λ (z : List Item). slice_get z (length z - 1)) h ∙ last-seam before y in
    cc no

pub all_reported : {A : Type 0} (items : List Item) (x : Item) (a b : Option (List ℕ)) (r : Result A Stop) → Some x ≡ slice_get items (length items - 1)
    → OnOk r (Grew a b (encode_utf8_all (summary_line (item_of x))))
    → OnOk r ((before : List Item) (item : Item) → items ≡ before ++ item ∷ [] → Grew a b (encode_utf8_all (summary_line (item_of item))))
all_reported items x a b (Ok u) e h = λ before item is. subst (λ (z : Item). Grew a b (encode_utf8_all (summary_line (item_of z)))) (last_is items before x item e is) h
all_reported items x a b (Err stop) e h = tt

pub front_reported : {A : Type 0} (items : List Item) (x : Item) (a b : Option (List ℕ)) (r : Result A Stop) → Some x ≡ slice_get items (length items - 1)
    → OnErr r (GrewByFront a b (encode_utf8_all (summary_line (item_of x))))
    → OnErr r ((before : List Item) (item : Item) → items ≡ before ++ item ∷ [] → GrewByFront a b (encode_utf8_all (summary_line (item_of item))))
front_reported items x a b (Ok u) e h = tt
front_reported items x a b (Err stop) e h = λ before item is. subst (λ (z : Item). GrewByFront a b (encode_utf8_all (summary_line (item_of z)))) (last_is items before x item e is) h
