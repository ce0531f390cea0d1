-- The items that a walk of `check` accepts are readable.
use Rattle.std.proofs.Common.{◌≡◌, ◌⊎◌, inl, inr, ℕ, ◌<◌, ◌≤◌, ◌∙◌, ap, sym, refl, subst, List, [], ◌∷◌, ◌++◌, length, arith}
use Rattle.std.specs.Prelude.{◌^◌, encode_utf8_all}
use Rattle.std.proofs.lemmas.Bool.{ltb-true}
use Rattle.lt_definitions.specs.Items.{Item, Context, empty}
use Rattle.lt_definitions.specs.Printing.{report}
use Rattle.lt_definitions.specs.Theory.{Refusal}
use Rattle.lt_texts.specs.Commands.{Command, item_command}
use Rattle.lt_texts.specs.Forms.{plain_text, a_command, header_text, sentences_text, sentence_text}
use Rattle.lt_texts.specs.Named.{IsReadablePiece, AreReadable, AreReadableItems, AreAlikeItems}
use Rattle.lt_texts.specs.Pieces.{Piece, word_piece, sign_piece, name_piece, number_piece, variable_piece, type_piece, statement_piece, term_piece, semicolon, item_text}
use Rattle.lt_texts.specs.Texts.{Left, left_of}
use Rattle.lt_texts.specs.Walks.{plain_limit}
use Rattle.lt_texts.specs.WrongPlaces.{Stands, NextCommand}
use Rattle.lt_grammar.proofs.Placed.{placed_is_next}
use Rattle.lt_grammar.proofs.PrintedItems.{printed_items_are_read}
use Rattle.lt_grammar.proofs.Scalars.{AreScalars}
use Rattle.lt_walks.specs.Walks.{End, WalksOn, WalksText, accepted, too_long}
use Rattle.lt_walks.specs.PlainWalks.{AddsItem, plain_items, items_in, ChecksText, Checks}
use Rattle.lt_walks.proofs.PlainWalkLemmas.{allowed_item, check_parts, checks_accept, valid_text}
use Rattle.lt_plain.proofs.AlikeValid.{alike_valid}
use Rattle.lt_plain.proofs.ReadLexemes.{left_scalars, few_characters, are_read, IsNamedPiece, AreNamedPieces, pieces_named}
use Rattle.lt_plain.proofs.ScopedItems.{IsScopedPiece, AreScopedPieces, item_scoped}

-- ---- pieces

piece-readable : (n : ℕ) (p : Piece) → n < 2 ^ 64 → IsNamedPiece n p → IsScopedPiece p
    → IsReadablePiece p
piece-readable n (word_piece w) m h s = tt
piece-readable n (sign_piece k) m h s = tt
piece-readable n (name_piece c) m h s = h
piece-readable n (number_piece k) m h s = h
piece-readable n (variable_piece a) m h s = h
piece-readable n (type_piece ty) m h s = h
piece-readable n (statement_piece t) m h s = let few = h.1 in (s, h.0, omega (arith, m, few))
piece-readable n (term_piece t) m h s = let few = h.1 in (s, h.0, omega (arith, m, few))

pieces-readable : (n : ℕ) (ps more : List Piece) → n < 2 ^ 64 → AreNamedPieces n (ps ++ more)
    → AreScopedPieces ps → AreReadable ps
pieces-readable n [] more m h s = tt
pieces-readable n (p ∷ ps) more m h s = (piece-readable n p m h.0 s.0, pieces-readable n ps more m h.1 s.1)

-- ---- what stands

-- characters, and no more than so many
abbrev IsWithin : ℕ → Left → Type 0
IsWithin n s = AreScalars s.ahead × (length s.ahead ≤ n)

stands-within : (n : ℕ) (s a : Left) (ps : List Piece) → IsWithin n s → Stands s ps a
    → IsWithin n a × AreNamedPieces n ps
stands-within n s a ps w (ws, written, r) =
    let k = are_read s a ws w.0 r in
    let least = w.1 in
    let count = k.count in
    ((k.scalars, omega (arith, least, count)), pieces_named n ps ws [] written k.bytes (omega (arith, least, count)))

next-within : (n : ℕ) (s a : Left) (c : Command) → IsWithin n s → NextCommand plain_text s c a
    → IsWithin n a × AreNamedPieces n (sentence_text plain_text (a_command c))
next-within n s a c w (xs, hs, allowed, m, before, stands) =
    stands-within n m a (sentence_text plain_text (a_command c)) (stands-within n s m (sentences_text plain_text xs) w before).0 stands

-- ---- walks

adds-readable : (n : ℕ) (ctx : Context) (i : Item) (xs : List Item) (later : Context) → n < 2 ^ 64
    → AreNamedPieces n (sentence_text plain_text (a_command (item_command i)))
    → AddsItem ctx (item_command i) xs later → AreReadableItems xs
adds-readable n ctx i xs later m h (e, p, q) = subst AreReadableItems (sym p) (pieces-readable n (item_text i) (semicolon ∷ []) m h (item_scoped ctx i e), tt)

readable-append : (xs ys : List Item) → AreReadableItems xs → AreReadableItems ys
    → AreReadableItems (xs ++ ys)
readable-append [] ys h k = k
readable-append (x ∷ xs) ys h k = (h.0, readable-append xs ys h.1 k)

walk-readable : (n : ℕ) (ctx : Context) (at : Left) (blocks : List (List Item)) (e : End Refusal)
    → n < 2 ^ 64 → IsWithin n at → WalksOn plain_items ctx at blocks e
    → AreReadableItems (items_in blocks)
walk-readable n ctx at [] e m w h = tt
walk-readable n ctx at (xs ∷ blocks) e m w (c, from, lines, to, b, next, later, adds, on) =
    let stands = placed_is_next plain_text at c from lines to b next in
    let k = next-within n at b c w stands in
    let i = allowed_item c stands.2 in
    readable-append xs (items_in blocks)
    (adds-readable n ctx i.0 xs later m (subst (λ (d : Command). AreNamedPieces n (sentence_text plain_text (a_command d))) i.1 k.1) (subst (λ (d : Command). AddsItem ctx d xs later) i.1 adds))
    (walk-readable n later b blocks e m k.0 on)

text-readable : (text : List ℕ) (items : List Item) (e : End Refusal)
    → length (left_of text).ahead < 2 ^ 64 → ChecksText text items e → AreReadableItems items
unfolding ChecksText WalksText
text-readable text items e m (blocks, inl (f, h, p, q), r) = subst AreReadableItems (sym (r ∙ ap items_in p)) tt
text-readable text items e m (blocks, inr (at, header, on), r) =
    let n = length (left_of text).ahead in
    let k = stands-within n (left_of text) at (header_text plain_text) (left_scalars text, omega arith) header in
    subst AreReadableItems (sym r) (walk-readable n empty at blocks e m k.0 on)

few-ahead : (text : List ℕ) → length text ≤ plain_limit → length (left_of text).ahead < 2 ^ 64
few-ahead text l =
    let few = few_characters text in
    let most : plain_limit < 2 ^ 64 = ltb-true plain_limit (2 ^ 64) refl in
    omega (arith, l, few, most)

parts-readable : (text : List ℕ) (items : List Item) (e : End Refusal)
    → ((plain_limit < length text) × (items ≡ []) × (e ≡ too_long)) ⊎ ((length text ≤ plain_limit) × ChecksText text items e)
    → AreReadableItems items
parts-readable text items e (inl (l, p, q)) = subst AreReadableItems (sym p) tt
parts-readable text items e (inr (l, w)) = text-readable text items e (few-ahead text l) w

pub accepted_are_readable : (text : List ℕ) (items : List Item) (e : End Refusal)
    → Checks text items e → AreReadableItems items
accepted_are_readable text items e w = parts-readable text items e (check_parts text items e w)

pub accepted_are_read : (text : List ℕ) (items : List Item) (e : End Refusal) → Checks text items e
    → (others : List Item) × AreAlikeItems others items × ChecksText (encode_utf8_all (report items)) others accepted
accepted_are_read text items e w =
    let k = printed_items_are_read items (accepted_are_readable text items e w) in
    (k.0, k.1, valid_text (encode_utf8_all (report items)) k.0 k.2 (alike_valid k.0 items k.1 (checks_accept text items e w)))
