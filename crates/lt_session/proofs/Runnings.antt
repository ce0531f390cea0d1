-- A walk that writes, on its way: its begin, its next command, and each way in which it stops.
use Rattle.std.proofs.Common.{◌≡◌, ◌≢◌, ◌⊎◌, inl, inr, ℕ, List, [], ◌∷◌, ◌++◌, length, drop, Bool, true, false, Option, Result, Ok, Err, refl, sym, ◌∙◌, ap, subst, append_assoc, append-nil, codes}
use Rattle.std.specs.Prelude.{encode_utf8_all, OnOk, OnErr}
use Rattle.std.specs.List.{flat_map}
use Rattle.std.proofs.lemmas.Str.{encodes-append}
use Rattle.std.proofs.lemmas.Grind.{flat_map-append}
use Rattle.std.proofs.lemmas.List.{map-append}
use Rattle.lt_definitions.specs.Types.{Chars}
use Rattle.lt_definitions.specs.Items.{Item}
use Rattle.lt_definitions.specs.Printing.{summary_lines, printed_item, count_line, report}
use Rattle.lt_hol.specs.declared.item.Item.{Item as ItemData}
use Rattle.lt_hol.specs.Items.{item_of}
use Rattle.lt_texts.specs.Texts.{Left, left_of}
use Rattle.lt_texts.specs.Forms.{theory_text, header_text}
use Rattle.lt_texts.specs.WrongPlaces.{Stands, AtEnd}
use Rattle.lt_io.specs.Written.{Grew, GrewByFront}
use Rattle.lt_io.proofs.WriteLemmas.{Grew-append}
use Rattle.lt_extend.specs.Theories.{items_of}
use Rattle.lt_walks.specs.Walks.{End, accepted, too_long, wrong_header, unread, refused, EndsThere, WalksText}
use Rattle.lt_walks.specs.Outputs.{summary_of}
use Rattle.lt_commands.specs.declared.refusal.Refusal.TheVariants.{Memory as NoMemory}
use Rattle.lt_commands.specs.declared.refusal.Placed.{Placed}
use Rattle.lt_transport_definitions.specs.Sessions.{Session, new_session}
use Rattle.lt_transport_definitions.specs.TheoryWalks.{items_of_blocks}
use Rattle.lt_transport_definitions.specs.Reports.{written_of}
use Rattle.lt_session.specs.declared.running.Stop.{Stop}
use Rattle.lt_session.specs.declared.running.Stop.TheVariants as stops
use Rattle.lt_session.specs.declared.session.Block.{Block}
use Rattle.lt_session.specs.Sessions.{Holding, new_holding, session_of}
use Rattle.lt_session.specs.Walks.{RunRefusal, built_commands}
use Rattle.lt_session.specs.Stepping.{TellsEnd, RefusesHeader, StopsAt, IsNext}
use Rattle.lt_session.specs.Running.{written_first, written_items, written_so_far, written_last, IsNoRefusal, IsStop, IsEnd, IsCut, IsRun}
use Rattle.lt_session.proofs.WrittenItems.{items-both}
use Rattle.lt_session.proofs.Fronts.{Grew-none, front_all, front_behind, front_longer, front_none}
use Rattle.lt_walks.proofs.EachWalk.{each_text}
use Rattle.lt_session.proofs.Totals.{built_total}
use Rattle.lt_session.proofs.OnTheWay.{IsBehind, on-end, ComesTo, begun, goes_on, ends, header_ends, has_end}

-- ---- what is written

so-far-more : (summary : Bool) (items more : List Item) → written_so_far summary (items ++ more) ≡ written_so_far summary items ++ written_items summary more
so-far-more summary items more =
    ap (λ (z : List ℕ). encode_utf8_all (written_first summary) ++ z) (items-both summary items more)
    ∙ sym (append_assoc (encode_utf8_all (written_first summary)) (written_items summary items) (written_items summary more))

-- what stands behind the items, by how the walk ends
abbrev last-of : Bool → List Item → End RunRefusal → Chars
last-of summary items accepted = written_last summary items
last-of summary items end = []

reported : (items : List Item) → encode_utf8_all (report items) ≡ written_so_far false items ++ encode_utf8_all []
reported items = encodes-append (codes "plain 1;\n") (flat_map printed_item items) ∙ sym (append-nil (written_so_far false items))

written-end : (summary : Bool) (items : List Item) (end : End RunRefusal) → IsBehind end → written_of summary items end ≡ written_so_far summary items ++ encode_utf8_all (last-of summary items end)
unfolding summary_of
written-end true items accepted h = encodes-append (summary_lines items) (count_line items)
written-end true items too_long h = absurd h
written-end true items (wrong_header e) h = absurd h
written-end true items (unread e) h = sym (append-nil (written_so_far true items))
written-end true items (refused r place) h = sym (append-nil (written_so_far true items))
written-end false items accepted h = reported items
written-end false items too_long h = absurd h
written-end false items (wrong_header e) h = absurd h
written-end false items (unread e) h = reported items
written-end false items (refused r place) h = reported items

-- what was written so far is a front of what is written
front-so-far : (summary : Bool) (items more : List Item) (end : End RunRefusal) (a b : Option (List ℕ)) → IsBehind end → GrewByFront a b (written_so_far summary items)
    → GrewByFront a b (written_of summary (items ++ more) end)
front-so-far summary items more end a b h front =
    let rest : List ℕ = written_items summary more ++ encode_utf8_all (last-of summary (items ++ more) end) in
    let is : written_of summary (items ++ more) end ≡ written_so_far summary items ++ rest =
    written-end summary (items ++ more) end h ∙ ap (λ (z : List ℕ). z ++ encode_utf8_all (last-of summary (items ++ more) end)) (so-far-more summary items more)
    ∙ append_assoc (written_so_far summary items) (written_items summary more) (encode_utf8_all (last-of summary (items ++ more) end)) in
    subst (λ (z : List ℕ). GrewByFront a b z) (sym is) (front_longer a b (written_so_far summary items) rest front)

-- ---- a walk on its way

blocks-both : (blocks more : List (List Item)) → items_of_blocks (blocks ++ more) ≡ items_of_blocks blocks ++ items_of_blocks more
blocks-both blocks more = flat_map-append (λ (items : List Item). items) blocks more

one-block : (items : List Item) → items_of_blocks (items ∷ []) ≡ items
one-block items = append-nil items

-- These items were added, what is left of the text is this, and what there is of them was written.
pub record IsOnWay (limit : ℕ) (summary : Bool) (text : List ℕ) (h : Holding) (at : Left) (before now : Option (List ℕ)) : Type 0 where
  pub same : h.limit ≡ limit
  pub blocks : List (List Item)
  pub comes : ComesTo limit text blocks (session_of h) at
  pub items : items_of h.items ≡ items_of_blocks blocks
  pub grew : Grew before now (written_so_far summary (items_of h.items))

session-begins : (h : Holding) → h ≡ new_holding h.limit → session_of h ≡ new_session h.limit
session-begins h e = ap session_of e

no-items : (h : Holding) → h ≡ new_holding h.limit → h.items ≡ []
no-items h e = ap (λ (z : Holding). z.items) e

comes-first : (text : List ℕ) (h : Holding) (at : Left) → h ≡ new_holding h.limit → Stands (left_of text) (header_text theory_text) at → ComesTo h.limit text [] (session_of h) at
comes-first text h at e s = subst (λ (z : Session). ComesTo h.limit text [] z at) (sym (session-begins h e)) (begun h.limit text at s)

pub way_begins : (summary : Bool) (text : List ℕ) (h : Holding) (at : Left) (a b : Option (List ℕ)) → h ≡ new_holding h.limit → Stands (left_of text) (header_text theory_text) at
    → Grew a b (encode_utf8_all (written_first summary)) → IsOnWay h.limit summary text h at a b
way_begins summary text h at a b e s grew = record {
  same = refl;
  blocks = [];
  comes = comes-first text h at e s;
  items = ap items_of (no-items h e);
  grew = subst (λ (xs : List ItemData). Grew a b (written_so_far summary (items_of xs))) (sym (no-items h e))
      (subst (λ (z : List ℕ). Grew a b z) (sym (append-nil (encode_utf8_all (written_first summary)))) grew);
}

items-more : (old new : Holding) (added : List ItemData) → new.items ≡ old.items ++ added → items_of new.items ≡ items_of old.items ++ items_of added
items-more old new added e = ap items_of e ∙ map-append item_of old.items added

blocks-more : (old new : Holding) (added : List ItemData) (blocks : List (List Item)) → new.items ≡ old.items ++ added → items_of old.items ≡ items_of_blocks blocks
    → items_of new.items ≡ items_of_blocks (blocks ++ items_of added ∷ [])
blocks-more old new added blocks e is =
    items-more old new added e ∙ (λ i. is i ++ sym (one-block (items_of added)) i) ∙ sym (blocks-both blocks (items_of added ∷ []))

comes-next : (limit : ℕ) (text : List ℕ) (old new : Holding) (at at' : Left) (block : Block) (blocks : List (List Item)) → ComesTo limit text blocks (session_of old) at
    → (n : IsNext at old at' new block) → ComesTo limit text (blocks ++ items_of n.taken.added ∷ []) (session_of new) at'
comes-next limit text old new at at' block blocks h n =
    goes_on limit text blocks (session_of old) (session_of new) at n.command (items_of n.taken.added) n.from n.lines n.to at' h n.next (n.taken.command, n.taken.gives)

-- a taken block's items are the session's from its number on
block-items : (old new : Holding) (block : Block) (added : List ItemData) → block.from ≡ length old.items → new.items ≡ old.items ++ added → drop block.from new.items ≡ added
block-items old new block added f e = (λ i. drop (f i) (e i)) ∙ behind old.items
  where
    behind : (xs : List ItemData) → drop (length xs) (xs ++ added) ≡ added
    behind [] = refl
    behind (x ∷ xs) = behind xs

-- what is written behind what was written
written-next : (summary : Bool) (at at' : Left) (old new : Holding) (block : Block) → IsNext at old at' new block
    → written_so_far summary (items_of new.items) ≡ written_so_far summary (items_of old.items) ++ written_items summary (items_of (drop block.from new.items))
written-next summary at at' old new block n =
    ap (written_so_far summary) (items-more old new n.taken.added n.taken.items)
    ∙ so-far-more summary (items_of old.items) (items_of n.taken.added)
    ∙ sym (ap (λ (xs : List ItemData). written_so_far summary (items_of old.items) ++ written_items summary (items_of xs)) (block-items old new block n.taken.added n.taken.from n.taken.items))

way_goes_on : (limit : ℕ) (summary : Bool) (text : List ℕ) (old new : Holding) (at at' : Left) (block : Block) (a b c : Option (List ℕ)) → IsOnWay limit summary text old at a b
    → IsNext at old at' new block → Grew b c (written_items summary (items_of (drop block.from new.items))) → IsOnWay limit summary text new at' a c
way_goes_on limit summary text old new at at' block a b c h n grew = record {
  same = n.taken.limit ∙ h.same;
  blocks = h.blocks ++ items_of n.taken.added ∷ [];
  comes = comes-next limit text old new at at' block h.blocks h.comes n;
  items = blocks-more old new n.taken.added h.blocks n.taken.items h.items;
  grew = subst (λ (z : List ℕ). Grew a c z) (sym (written-next summary at at' old new block n))
      (Grew-append a b c (written_so_far summary (items_of old.items)) (written_items summary (items_of (drop block.from new.items))) h.grew grew);
}

cut : (limit : ℕ) (summary : Bool) (text : List ℕ) (items : List Item) (blocks : List (List Item)) (s : Session) (at : Left) (a b : Option (List ℕ)) → ComesTo limit text blocks s at
    → items ≡ items_of_blocks blocks → GrewByFront a b (written_so_far summary items) → IsCut limit summary text items a b
unfolding IsCut
cut limit summary text items blocks s at a b h is front =
    let w = has_end limit text blocks s at h in
    let grew = front-so-far summary items (items_of_blocks w.0) w.1 a b w.3 front in (
      blocks,
      w.0,
      w.1,
      w.2,
      is,
      subst (λ (z : List Item). GrewByFront a b (written_of summary z w.1)) (ap (λ (z : List Item). z ++ items_of_blocks w.0) is ∙ sym (blocks-both blocks w.0)) grew,
      inl front,
    )

way_cut : (limit : ℕ) (summary : Bool) (text : List ℕ) (h : Holding) (at : Left) (a b : Option (List ℕ)) → IsOnWay limit summary text h at a b → IsCut limit summary text (items_of h.items) a b
way_cut limit summary text h at a b w =
    cut limit summary text (items_of h.items) w.blocks (session_of h) at a b w.comes w.items (front_all a b (written_so_far summary (items_of h.items)) w.grew)

-- cut in a block's items
way_cut_in_block : (limit : ℕ) (summary : Bool) (text : List ℕ) (old new : Holding) (at at' : Left) (block : Block) (a b c : Option (List ℕ)) → IsOnWay limit summary text old at a b
    → IsNext at old at' new block → GrewByFront b c (written_items summary (items_of (drop block.from new.items))) → IsCut limit summary text (items_of new.items) a c
way_cut_in_block limit summary text old new at at' block a b c h n front =
    cut limit summary text (items_of new.items) (h.blocks ++ items_of n.taken.added ∷ []) (session_of new) at' a c (comes-next limit text old new at at' block h.blocks h.comes n)
    (blocks-more old new n.taken.added h.blocks n.taken.items h.items)
    (subst (λ (z : List ℕ). GrewByFront a c z) (sym (written-next summary at at' old new block n))
    (front_behind a b c (written_so_far summary (items_of old.items)) (written_items summary (items_of (drop block.from new.items))) h.grew front))

-- cut before the first item
pub first_cut : (summary : Bool) (text : List ℕ) (h : Holding) (at : Left) (a b : Option (List ℕ)) → h ≡ new_holding h.limit → Stands (left_of text) (header_text theory_text) at
    → GrewByFront a b (encode_utf8_all (written_first summary)) → IsCut h.limit summary text (items_of h.items) a b
first_cut summary text h at a b e s front =
    cut h.limit summary text (items_of h.items) [] (session_of h) at a b (comes-first text h at e s) (ap items_of (no-items h e))
    (subst (λ (xs : List ItemData). GrewByFront a b (written_so_far summary (items_of xs))) (sym (no-items h e))
    (subst (λ (z : List ℕ). GrewByFront a b z) (sym (append-nil (encode_utf8_all (written_first summary)))) front))

-- ---- its end

ended : (limit : ℕ) (summary : Bool) (text : List ℕ) (h : Holding) (at : Left) (a b : Option (List ℕ)) → (w : IsOnWay limit summary text h at a b) → AtEnd theory_text at
    → WalksText (built_commands limit) text w.blocks accepted
ended limit summary text h at a b w k = ends limit text w.blocks (session_of h) at accepted w.comes (inl (k, refl))

way_ends : (limit : ℕ) (summary : Bool) (text : List ℕ) (h : Holding) (at : Left) (a b c : Option (List ℕ)) → IsOnWay limit summary text h at a b → AtEnd theory_text at
    → Grew b c (encode_utf8_all (written_last summary (items_of h.items))) → IsEnd limit summary text (items_of h.items) accepted a c
unfolding IsEnd
way_ends limit summary text h at a b c w k grew = (
  w.blocks,
  ended limit summary text h at a b w k,
  w.items,
  subst (λ (z : List ℕ). Grew a c z) (sym (written-end summary (items_of h.items) accepted tt))
      (Grew-append a b c (written_so_far summary (items_of h.items)) (encode_utf8_all (written_last summary (items_of h.items))) w.grew grew),
)

way_cut_at_end : (limit : ℕ) (summary : Bool) (text : List ℕ) (h : Holding) (at : Left) (a b c : Option (List ℕ)) → IsOnWay limit summary text h at a b → AtEnd theory_text at
    → GrewByFront b c (encode_utf8_all (written_last summary (items_of h.items))) → IsCut limit summary text (items_of h.items) a c
unfolding IsCut
way_cut_at_end limit summary text h at a b c w k front = (
  w.blocks,
  [],
  accepted,
  subst (λ (z : List (List Item)). WalksText (built_commands limit) text z accepted) (sym (append-nil w.blocks)) (ended limit summary text h at a b w k),
  w.items,
  subst (λ (z : List Item). GrewByFront a c (written_of {R = RunRefusal} summary z accepted)) (w.items ∙ sym (ap items_of_blocks (append-nil w.blocks)))
      (subst (λ (z : List ℕ). GrewByFront a c z) (sym (written-end summary (items_of h.items) accepted tt))
      (front_behind a b c (written_so_far summary (items_of h.items)) (encode_utf8_all (written_last summary (items_of h.items))) w.grew front)),
  inr (refl, refl),
)

-- ---- what is refused

told-end : (limit : ℕ) (summary : Bool) (text : List ℕ) (items : List Item) (a b : Option (List ℕ)) (p : Placed) → IsCut limit summary text items a b
    → (p.refusal ≡ NoMemory) ⊎ ((end : End RunRefusal) × IsEnd limit summary text items end a b × TellsEnd end p) → (stop : Stop) → IsStop p stop
    → IsRun limit summary text items a b (Err stop)
told-end limit summary text items a b p short (inl m) (stops.Refused q) (is, no-memory) = absurd (no-memory m)
told-end limit summary text items a b p short (inr (end, w, tells)) (stops.Refused q) (is, no-memory) = (end, w, subst (TellsEnd end) (sym is) tells)
told-end limit summary text items a b p short h stops.Fault is = absurd is
told-end limit summary text items a b p short h stops.Memory is = short

there-behind : (limit : ℕ) (s : Session) (at : Left) (end : End RunRefusal) → EndsThere (built_commands limit) s at end → IsBehind end
there-behind limit s at end w = on-end (built_commands limit) s at [] end w

stopped : (limit : ℕ) (summary : Bool) (text : List ℕ) (h : Holding) (at : Left) (a b : Option (List ℕ)) (p : Placed) → IsOnWay limit summary text h at a b → StopsAt (session_of h) at p
    → (p.refusal ≡ NoMemory) ⊎ ((end : End RunRefusal) × IsEnd limit summary text (items_of h.items) end a b × TellsEnd end p)
unfolding IsEnd
stopped limit summary text h at a b p w (inl m) = inl m
stopped limit summary text h at a b p w (inr (end, stop, tells)) =
    let here : EndsThere (built_commands limit) (session_of h) at end = subst (λ (n : ℕ). EndsThere (built_commands n) (session_of h) at end) w.same stop in
    inr (
      end,
      (
        w.blocks,
        ends limit text w.blocks (session_of h) at end w.comes here,
        w.items,
        subst (λ (z : List ℕ). Grew a b z) (sym (written-end summary (items_of h.items) end (there-behind limit (session_of h) at end here) ∙ refused-last end (told-not-accepted end p tells))) w.grew,
      ),
      tells,
    )
  where
    refused-last : (e : End RunRefusal) → e ≢ accepted → written_so_far summary (items_of h.items) ++ encode_utf8_all (last-of summary (items_of h.items) e) ≡ written_so_far summary (items_of h.items)
    refused-last accepted other = absurd (other refl)
    refused-last too_long other = append-nil (written_so_far summary (items_of h.items))
    refused-last (wrong_header e) other = append-nil (written_so_far summary (items_of h.items))
    refused-last (unread e) other = append-nil (written_so_far summary (items_of h.items))
    refused-last (refused r place) other = append-nil (written_so_far summary (items_of h.items))

    told-not-accepted : (e : End RunRefusal) (q : Placed) → TellsEnd e q → e ≡ accepted → ⊥
    told-not-accepted accepted q k = absurd k
    told-not-accepted too_long q k = absurd k
    told-not-accepted (wrong_header e) q k = λ same. cc same
    told-not-accepted (unread e) q k = λ same. cc same
    told-not-accepted (refused r place) q k = λ same. cc same

-- the walk stops at what the next step tells
way_stops : (limit : ℕ) (summary : Bool) (text : List ℕ) (h : Holding) (at : Left) (a b : Option (List ℕ)) (p : Placed) (stop : Stop) → IsOnWay limit summary text h at a b
    → StopsAt (session_of h) at p → IsStop p stop → IsRun limit summary text (items_of h.items) a b (Err stop)
way_stops limit summary text h at a b p stop w k is =
    told-end limit summary text (items_of h.items) a b p (way_cut limit summary text h at a b w) (stopped limit summary text h at a b p w k) stop is

header-end : (limit : ℕ) (summary : Bool) (text : List ℕ) (a : Option (List ℕ)) (p : Placed) → RefusesHeader (left_of text) p
    → (p.refusal ≡ NoMemory) ⊎ ((end : End RunRefusal) × IsEnd limit summary text [] end a a × TellsEnd end p)
unfolding IsEnd summary_of
header-end limit summary text a p (inl m) = inl m
header-end limit true text a p (inr (e, h, is)) = inr (wrong_header e, ([], header_ends limit text e h, refl, Grew-none a), is)
header-end limit false text a p (inr (e, h, is)) = inr (wrong_header e, ([], header_ends limit text e h, refl, Grew-none a), is)

none-cut : (limit : ℕ) (summary : Bool) (text : List ℕ) (a : Option (List ℕ)) → IsCut limit summary text [] a a
unfolding IsCut
none-cut limit summary text a =
    let w = each_text (built_commands limit) (built_total limit) text in ([], w.0, w.1, w.2, refl, front_none a a (written_of summary (items_of_blocks w.0) w.1) (Grew-none a), inl (front_none a a (written_so_far summary []) (Grew-none a)))

-- or at its header
pub header_stops : (summary : Bool) (text : List ℕ) (h : Holding) (a : Option (List ℕ)) (p : Placed) (stop : Stop) → h ≡ new_holding h.limit → RefusesHeader (left_of text) p → IsStop p stop
    → IsRun h.limit summary text (items_of h.items) a a (Err stop)
header_stops summary text h a p stop e k is =
    subst (λ (xs : List ItemData). IsRun h.limit summary text (items_of xs) a a (Err stop)) (sym (no-items h e))
    (told-end h.limit summary text [] a a p (none-cut h.limit summary text a) (header-end h.limit summary text a p k) stop is)

-- ---- what a step that writes answers

pub cut_stops : (limit : ℕ) (summary : Bool) (text : List ℕ) (items : List Item) (a b : Option (List ℕ)) (stop : Stop) → IsNoRefusal (Err stop) → IsCut limit summary text items a b
    → IsRun limit summary text items a b (Err stop)
cut_stops limit summary text items a b (stops.Refused p) h k = absurd h
cut_stops limit summary text items a b stops.Fault h k = k
cut_stops limit summary text items a b stops.Memory h k = k

way_finishes : (limit : ℕ) (summary : Bool) (text : List ℕ) (h : Holding) (at : Left) (a b c : Option (List ℕ)) (r : Result (Unit {0}) Stop) → IsOnWay limit summary text h at a b
    → AtEnd theory_text at → IsNoRefusal r → OnOk r (Grew b c (encode_utf8_all (written_last summary (items_of h.items))))
    → OnErr r (GrewByFront b c (encode_utf8_all (written_last summary (items_of h.items)))) → IsRun limit summary text (items_of h.items) a c r
way_finishes limit summary text h at a b c (Ok u) w k clear grew front = way_ends limit summary text h at a b c w k grew
way_finishes limit summary text h at a b c (Err stop) w k clear grew front =
    cut_stops limit summary text (items_of h.items) a c stop clear (way_cut_at_end limit summary text h at a b c w k front)

-- ---- what the next step answers

-- the text is at its end
pub step_finishes : (limit : ℕ) (summary : Bool) (text : List ℕ) (old new : Holding) (at : Left) (items : List ItemData) (a b c : Option (List ℕ)) (r : Result (Unit {0}) Stop)
    → IsOnWay limit summary text old at a b → AtEnd theory_text at × (new ≡ old) → items ≡ new.items → IsNoRefusal r → OnOk r (Grew b c (encode_utf8_all (written_last summary (items_of items))))
    → OnErr r (GrewByFront b c (encode_utf8_all (written_last summary (items_of items)))) → IsRun limit summary text (items_of new.items) a c r
step_finishes limit summary text old new at items a b c r w (k, same) is clear grew front =
    let e : items ≡ old.items = is ∙ ap (λ (h : Holding). h.items) same in
    subst (λ (h : Holding). IsRun limit summary text (items_of h.items) a c r) (sym same)
    (way_finishes limit summary text old at a b c r w k clear
    (subst (λ (xs : List ItemData). OnOk r (Grew b c (encode_utf8_all (written_last summary (items_of xs))))) e grew)
    (subst (λ (xs : List ItemData). OnErr r (GrewByFront b c (encode_utf8_all (written_last summary (items_of xs))))) e front))

-- nothing more was taken
pub step_stops : (limit : ℕ) (summary : Bool) (text : List ℕ) (old new : Holding) (at : Left) (a b : Option (List ℕ)) (p : Placed) (stop : Stop) → IsOnWay limit summary text old at a b
    → StopsAt (session_of old) at p × (new ≡ old) → IsStop p stop → IsRun limit summary text (items_of new.items) a b (Err stop)
step_stops limit summary text old new at a b p stop w (k, same) is =
    subst (λ (h : Holding). IsRun limit summary text (items_of h.items) a b (Err stop)) (sym same) (way_stops limit summary text old at a b p stop w k is)

-- a command was taken, and its block written
pub step_goes_on : (limit : ℕ) (summary : Bool) (text : List ℕ) (old new : Holding) (at at' : Left) (block : Block) (items : List ItemData) (a b c : Option (List ℕ))
    → IsOnWay limit summary text old at a b → IsNext at old at' new block → items ≡ drop block.from new.items → Grew b c (written_items summary (items_of items))
    → IsOnWay limit summary text new at' a c
step_goes_on limit summary text old new at at' block items a b c w n is grew =
    way_goes_on limit summary text old new at at' block a b c w n (subst (λ (xs : List ItemData). Grew b c (written_items summary (items_of xs))) is grew)

-- or cut in its block
pub step_cut : (limit : ℕ) (summary : Bool) (text : List ℕ) (old new : Holding) (at at' : Left) (block : Block) (items : List ItemData) (a b c : Option (List ℕ)) (stop : Stop)
    → IsOnWay limit summary text old at a b → IsNext at old at' new block → items ≡ drop block.from new.items → IsNoRefusal (Err stop) → GrewByFront b c (written_items summary (items_of items))
    → IsRun limit summary text (items_of new.items) a c (Err stop)
step_cut limit summary text old new at at' block items a b c stop w n is clear front =
    cut_stops limit summary text (items_of new.items) a c stop clear
    (way_cut_in_block limit summary text old new at at' block a b c w n (subst (λ (xs : List ItemData). GrewByFront b c (written_items summary (items_of xs))) is front))
