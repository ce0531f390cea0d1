-- A run over a text has one summary.
use Rattle.std.specs.Prelude.{◌≡◌, ℕ, ◌+◌, suc, List, [], ◌∷◌, ◌++◌, Bool, cond, codes, Ok, length, fold, encode_utf8_all}
use Rattle.std.specs.List.{count_by}
use Rattle.std.specs.Fmt.{decimal}
use Rattle.std.proofs.Common.{refl, sym, ap, ◌∙◌, subst, inl, inr}
use Rattle.lt_definitions.specs.Items.{Item}
use Rattle.lt_definitions.specs.Printing.{words, printed_head, summary_lines, is_axiom, is_lemma, count_line}
use Rattle.lt_texts.specs.Texts.{Left, left_of}
use Rattle.lt_texts.specs.Commands.{Command}
use Rattle.lt_texts.specs.Forms.{theory_text}
use Rattle.lt_walks.specs.Walks.{End, accepted, too_long, wrong_header, unread, refused, WalksOn, WalksText, Walks}
use Rattle.lt_walks.specs.Outputs.{summary_of}
use Rattle.lt_grammar.proofs.Alone.{header_no_fault, one_header}
use Rattle.lt_grammar.proofs.Placed.{one_placed}
use Rattle.lt_transport_definitions.specs.Sessions.{Session, new_session}
use Rattle.lt_transport_definitions.specs.Commands.{CommandRefusal, Addition, this_item, a_lemma, Block}
use Rattle.lt_transport_definitions.specs.Blocks.{IsItemOf, AreItemsOf, Gives}
use Rattle.lt_transport_definitions.specs.TheoryWalks.{theory_limit, theory_commands, items_of_blocks}
use Rattle.lt_transport_laws.specs.KeptStatements.{IsKeptSession, RunsHaveOneSummary}
use Rattle.lt_transport_laws.proofs.KeptSessions.{new-kept, stay-kept, kept-scoped}
use Rattle.lt_transport_laws.proofs.OneTransport.{each-one}
use Rattle.lt_transport_laws.proofs.OneWalk.{session-one, same-block}
use Rattle.lt_transport_laws.proofs.OneEnd.{next-of, ends-none, not-longer, runs-one}

-- items that differ in their lines alone

abbrev IsSame : Item → Item → Type 0
IsSame i j = (printed_head i ≡ printed_head j) × (is_axiom i ≡ is_axiom j) × (is_lemma i ≡ is_lemma j)

abbrev AreSame : List Item → List Item → Type 0
AreSame [] [] = Unit {0}
AreSame (i ∷ items) (j ∷ others) = IsSame i j × AreSame items others
AreSame _ _ = ⊥

item-same : (a : Addition) (i j : Item) → IsItemOf a i → IsItemOf a j → IsSame i j
item-same (this_item k) i j h g = let e : i ≡ j = h ∙ sym g in (ap printed_head e, ap is_axiom e, ap is_lemma e)
item-same (a_lemma l t) i j h g =
    (ap printed_head h.1 ∙ sym (ap printed_head g.1), ap is_axiom h.1 ∙ sym (ap is_axiom g.1), ap is_lemma h.1 ∙ sym (ap is_lemma g.1))

items-same : (additions : List Addition) (xs ys : List Item) → AreItemsOf additions xs → AreItemsOf additions ys → AreSame xs ys
items-same [] [] [] h g = tt
items-same [] (x ∷ xs) ys h g = absurd h
items-same [] [] (y ∷ ys) h g = absurd g
items-same (a ∷ additions) [] ys h g = absurd h
items-same (a ∷ additions) (x ∷ xs) [] h g = absurd g
items-same (a ∷ additions) (x ∷ xs) (y ∷ ys) h g = (item-same a x y h.0 g.0, items-same additions xs ys h.1 g.1)

same-on : (xs ys us vs : List Item) → AreSame xs ys → AreSame us vs → AreSame (xs ++ us) (ys ++ vs)
same-on [] [] us vs h g = g
same-on [] (y ∷ ys) us vs h g = absurd h
same-on (x ∷ xs) [] us vs h g = absurd h
same-on (x ∷ xs) (y ∷ ys) us vs h g = (h.0, same-on xs ys us vs h.1 g)

-- two walks give such items

given-same : (s : Session) (c : Command) (xs ys : List Item) (later after : Session) → IsKeptSession s → Gives s c xs later → Gives s c ys after → AreSame xs ys
given-same s c xs ys later after k g h =
    let e : g.0 ≡ h.0 = same-block g.0 h.0 (each-one s c (Ok g.0) (Ok h.0) (kept-scoped s k) g.1 h.1) in
    items-same h.0.additions xs ys (subst (λ (b : Block). AreItemsOf b.additions xs) e g.2) h.2

walk-same : (limit : ℕ) (s : Session) (at : Left) (blocks others : List (List Item)) (end other : End CommandRefusal) → IsKeptSession s
    → WalksOn (theory_commands limit) s at blocks end → WalksOn (theory_commands limit) s at others other → AreSame (items_of_blocks blocks) (items_of_blocks others)
unfolding next-of
walk-same limit s at [] [] end other k a b = tt
walk-same limit s at [] (y ∷ ys) end other k a (d, begin, marks, last, rest, q, after, h, v) =
    absurd (ends-none limit s at end (next-of at d begin marks last rest q) y after k a h)
walk-same limit s at (x ∷ xs) [] end other k (c, from, lines, to, behind, p, later, g, w) b =
    absurd (ends-none limit s at other (next-of at c from lines to behind p) x later k b g)
walk-same limit s at (x ∷ xs) (y ∷ ys) end other k (c, from, lines, to, behind, p, later, g, w) (d, begin, marks, last, rest, q, after, h, v) =
    let n = one_placed theory_text at c from lines to behind d begin marks last rest p q in
    let g' : Gives s d x later = subst (λ (z : Command). Gives s z x later) n.0 g in
    let e : later ≡ after = session-one s d x y later after (kept-scoped s k) g' h in
    let w' : WalksOn (theory_commands limit) after rest xs end =
    subst (λ (z : Left). WalksOn (theory_commands limit) after z xs end) n.4
    (subst (λ (t : Session). WalksOn (theory_commands limit) t behind xs end) e w) in
    same-on x y (items_of_blocks xs) (items_of_blocks ys) (given-same s d x y later after k g' h)
    (walk-same limit after rest xs ys end other (stay-kept s d y after k h) w' v)

none-same : (xs ys : List (List Item)) → xs ≡ [] → ys ≡ [] → AreSame (items_of_blocks xs) (items_of_blocks ys)
none-same xs ys d e = subst (λ (us : List (List Item)). AreSame (items_of_blocks us) (items_of_blocks ys)) (sym d)
    (subst (λ (vs : List (List Item)). AreSame [] (items_of_blocks vs)) (sym e) tt)

run-same : (limit : ℕ) (text : List ℕ) (xs ys : List (List Item)) (end other : End CommandRefusal) → Walks (theory_commands limit) text xs end
    → Walks (theory_commands limit) text ys other → AreSame (items_of_blocks xs) (items_of_blocks ys)
unfolding Walks WalksText
run-same limit text xs ys end other (inl a) (inl b) = none-same xs ys a.1 b.1
run-same limit text xs ys end other (inl a) (inr b) = absurd (not-longer theory_limit (length text) a.0 b.0)
run-same limit text xs ys end other (inr a) (inl b) = absurd (not-longer theory_limit (length text) b.0 a.0)
run-same limit text xs ys end other (inr (h, inl a)) (inr (k, inl b)) = none-same xs ys a.2 b.2
run-same limit text xs ys end other (inr (h, inl a)) (inr (k, inr b)) = absurd (header_no_fault theory_text (left_of text) b.0 a.0 b.1 a.1)
run-same limit text xs ys end other (inr (h, inr a)) (inr (k, inl b)) = absurd (header_no_fault theory_text (left_of text) a.0 b.0 a.1 b.1)
run-same limit text xs ys end other (inr (h, inr a)) (inr (k, inr b)) =
    walk-same limit (new_session limit) b.0 xs ys end other (new-kept limit)
    (subst (λ (z : Left). WalksOn (theory_commands limit) (new_session limit) z xs end) (one_header theory_text (left_of text) a.0 b.0 a.1 b.1) a.2) b.2

-- so they have one summary

counted : (Item → Bool) → ℕ → List Item → ℕ
counted p n items = fold (λ (a : ℕ) (x : Item). a + cond (p x) 1 0) n items

SumsAgree : List Item → List Item → Type 0
SumsAgree items others = (summary_lines items ≡ summary_lines others) × (length items ≡ length others)
    × ((n m : ℕ) → n ≡ m → counted is_axiom n items ≡ counted is_axiom m others)
    × ((n m : ℕ) → n ≡ m → counted is_lemma n items ≡ counted is_lemma m others)

sums-agree : (items others : List Item) → AreSame items others → SumsAgree items others
unfolding SumsAgree counted
sums-agree [] [] h = (refl, refl, λ n m e. e, λ n m e. e)
sums-agree [] (j ∷ others) h = absurd h
sums-agree (i ∷ items) [] h = absurd h
sums-agree (i ∷ items) (j ∷ others) h =
    let a = h.0 in
    let r = sums-agree items others h.1 in (
      λ k. (a.0 k ++ codes "\n") ++ r.0 k,
      ap suc r.1,
      λ n m e. r.2 (n + cond (is_axiom i) 1 0) (m + cond (is_axiom j) 1 0) (λ k. e k + cond (a.1 k) 1 0),
      λ n m e. r.3 (n + cond (is_lemma i) 1 0) (m + cond (is_lemma j) 1 0) (λ k. e k + cond (a.2 k) 1 0),
    )

count-same : (items others : List Item) → SumsAgree items others → count_line items ≡ count_line others
unfolding SumsAgree counted
count-same items others a =
    let axioms : count_by is_axiom items ≡ count_by is_axiom others = a.2 0 0 refl in
    let lemmas : count_by is_lemma items ≡ count_by is_lemma others = a.3 0 0 refl in
    λ k. words (codes "items" ∷ decimal (a.1 k) ∷ codes "axioms" ∷ decimal (axioms k) ∷ codes "lemmas" ∷ decimal (lemmas k) ∷ []) ++ codes "\n"

summary-same : (items others : List Item) (end : End CommandRefusal) → SumsAgree items others → summary_of items end ≡ summary_of others end
unfolding summary_of SumsAgree
summary-same items others accepted a = let c = count-same items others a in λ k. encode_utf8_all (a.0 k ++ c k)
summary-same items others too_long a = λ k. encode_utf8_all (a.0 k)
summary-same items others (wrong_header e) a = λ k. encode_utf8_all (a.0 k)
summary-same items others (unread e) a = λ k. encode_utf8_all (a.0 k)
summary-same items others (refused r place) a = λ k. encode_utf8_all (a.0 k)

pub summary-one : RunsHaveOneSummary
summary-one limit text xs ys end other a b =
    let e : end ≡ other = runs-one limit text xs ys end other a b in
    summary-same (items_of_blocks xs) (items_of_blocks ys) end (sums-agree (items_of_blocks xs) (items_of_blocks ys) (run-same limit text xs ys end other a b))
    ∙ ap (summary_of (items_of_blocks ys)) e
