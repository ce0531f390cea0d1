-- The items that a walk of `run` adds are readable.
use Rattle.std.proofs.Common.{◌≡◌, ◌⊎◌, inl, inr, ℕ, ◌+◌, ◌<◌, ◌≤◌, ◌∙◌, ap, sym, refl, subst, true, false, List, [], ◌∷◌, ◌++◌, length, None, arith}
use Rattle.std.specs.Prelude.{◌^◌, encode_utf8_all}
use Rattle.std.proofs.lemmas.Bool.{ltb-true}
use Rattle.lt_definitions.specs.Items.{Item, Context, empty, with_item}
use Rattle.lt_definitions.specs.Printing.{report}
use Rattle.lt_definitions.specs.Theory.{AreValid, IsPlainTheory}
use Rattle.lt_nameless.proofs.Refusals.{accepted_is_valid}
use Rattle.lt_texts.specs.Commands.{Command, item_command, law_command, corr_command}
use Rattle.lt_texts.specs.Forms.{theory_text, a_command, header_text, sentences_text, sentence_text}
use Rattle.lt_texts.specs.Named.{IsReadablePiece, AreReadable, AreReadableItems, AreAlikeItems}
use Rattle.lt_texts.specs.Pieces.{Piece, word_piece, sign_piece, name_piece, number_piece, variable_piece, type_piece, statement_piece, term_piece, semicolon, item_text}
use Rattle.lt_texts.specs.Texts.{Left, left_of}
use Rattle.lt_texts.specs.WrongPlaces.{Stands, NextCommand}
use Rattle.lt_grammar.proofs.Placed.{placed_is_next}
use Rattle.lt_grammar.proofs.PrintedItems.{printed_items_are_read}
use Rattle.lt_grammar.proofs.Scalars.{AreScalars}
use Rattle.lt_walks.specs.Walks.{End, WalksOn, WalksText, Walks}
use Rattle.lt_walks.proofs.PlainWalkLemmas.{valid_text}
use Rattle.lt_plain.proofs.AlikeValid.{alike_valid}
use Rattle.lt_plain.proofs.ReadLexemes.{left_scalars, few_characters, are_read, IsNamedPiece, AreNamedPieces, pieces_named}
use Rattle.lt_plain.proofs.ScopedItems.{IsScopedPiece, AreScopedPieces, item_scoped}
use Rattle.lt_transport_definitions.specs.Sessions.{Session, new_session}
use Rattle.lt_transport_definitions.specs.Answers.{first_wrong}
use Rattle.lt_transport_definitions.specs.Parts.{tests_before}
use Rattle.lt_transport_definitions.specs.Table.{row_of}
use Rattle.lt_transport_definitions.specs.Commands.{Addition, this_item, a_lemma, session_behind}
use Rattle.lt_transport_definitions.specs.Blocks.{ComesOfRow, AreItemsOf, Gives}
use Rattle.lt_transport_definitions.specs.TheoryWalks.{theory_limit, items_of_blocks}
use Rattle.lt_transport_laws.proofs.RowLemmas.{Each, comes-each, comes-unless}
use Rattle.lt_transport_laws.proofs.PlainWalks.{behind-same, valid-on}
use Rattle.lt_session.specs.Taking.{is_built}
use Rattle.lt_session.specs.Walks.{RunRefusal, GivesBuilt, built_commands}
use Rattle.lt_run.specs.Reports.{IsReadBack}

-- ---- pieces

piece-readable : (n : ℕ) (p : Piece) → n < 2 ^ 64 → IsNamedPiece n p → IsScopedPiece p → IsReadablePiece p
piece-readable n (word_piece w) m h s = tt
piece-readable n (sign_piece k) m h s = tt
piece-readable n (name_piece c) m h s = h
piece-readable n (number_piece k) m h s = h
piece-readable n (variable_piece a) m h s = h
piece-readable n (type_piece ty) m h s = h
piece-readable n (statement_piece t) m h s = let few = h.1 in (s, h.0, omega (arith, m, few))
piece-readable n (term_piece t) m h s = let few = h.1 in (s, h.0, omega (arith, m, few))

pieces-readable : (n : ℕ) (ps more : List Piece) → n < 2 ^ 64 → AreNamedPieces n (ps ++ more) → AreScopedPieces ps → AreReadable ps
pieces-readable n [] more m h s = tt
pieces-readable n (p ∷ ps) more m h s = (piece-readable n p m h.0 s.0, pieces-readable n ps more m h.1 s.1)

-- ---- what stands

-- characters, and no more than so many
abbrev IsWithin : ℕ → Left → Type 0
IsWithin n s = AreScalars s.ahead × (length s.ahead ≤ n)

stands-within : (n : ℕ) (s a : Left) (ps : List Piece) → IsWithin n s → Stands s ps a → IsWithin n a × AreNamedPieces n ps
stands-within n s a ps w (ws, written, r) =
    let k = are_read s a ws w.0 r in
    let least = w.1 in
    let count = k.count in
    ((k.scalars, omega (arith, least, count)), pieces_named n ps ws [] written k.bytes (omega (arith, least, count)))

next-within : (n : ℕ) (s a : Left) (c : Command) → IsWithin n s → NextCommand theory_text s c a → IsWithin n a × AreNamedPieces n (sentence_text theory_text (a_command c))
next-within n s a c w (xs, hs, allowed, m, before, stands) =
    stands-within n m a (sentence_text theory_text (a_command c)) (stands-within n s m (sentences_text theory_text xs) w before).0 stands

-- ---- blocks

-- items whose names are names, and whose numbers are such as a text has
abbrev AreNamedItems : ℕ → List Item → Type 0
AreNamedItems n [] = Unit {0}
AreNamedItems n (i ∷ items) = AreNamedPieces n (item_text i ++ semicolon ∷ []) × AreNamedItems n items

abbrev GivenNamed : ℕ → List Addition → Type 0
GivenNamed n [] = Unit {0}
GivenNamed n (this_item i ∷ additions) = AreNamedPieces n (item_text i ++ semicolon ∷ []) × GivenNamed n additions
GivenNamed n (a_lemma l t ∷ additions) = ⊥

given-items : (n : ℕ) (additions : List Addition) (items : List Item) → AreItemsOf additions items → GivenNamed n additions → AreNamedItems n items
given-items n [] [] h g = tt
given-items n [] (item ∷ items) h g = absurd h
given-items n (a ∷ additions) [] h g = absurd h
given-items n (this_item i ∷ additions) (item ∷ items) h g =
    (subst (λ (j : Item). AreNamedPieces n (item_text j ++ semicolon ∷ [])) (sym h.0) g.0, given-items n additions items h.1 g.1)
given-items n (a_lemma l t ∷ additions) (item ∷ items) h g = absurd g

built-rows : (n : ℕ) (s : Session) (c : Command) → is_built c ≡ true → AreNamedPieces n (sentence_text theory_text (a_command c)) → Each (GivenNamed n) (row_of s c)
built-rows n s (item_command i) e h = (h, tt)
built-rows n s (law_command w l) e h = λ t law. tt
built-rows n s (corr_command a) e h = λ d. tt
built-rows n s c e h = cc e

block-named : (n : ℕ) (s : Session) (c : Command) (items : List Item) (later : Session) → AreNamedPieces n (sentence_text theory_text (a_command c)) → GivesBuilt s c items later → AreNamedItems n items
block-named n s c items later h (built, g) =
    given-items n g.0.additions items g.2
    (comes-each (GivenNamed n) s (row_of s c) g.0 (built-rows n s c built h) (comes-unless (first_wrong (tests_before s c)) (ComesOfRow s (row_of s c)) g.0 g.1))

-- ---- walks

valid-readable : (n : ℕ) (ctx : Context) (items : List Item) → n < 2 ^ 64 → AreValid ctx items → AreNamedItems n items → AreReadableItems items
valid-readable n ctx [] m v h = tt
valid-readable n ctx (i ∷ items) m v h =
    (pieces-readable n (item_text i) (semicolon ∷ []) m h.0 (item_scoped ctx i ((accepted_is_valid ctx i).0 v.0)), valid-readable n (with_item ctx i) items m v.1 h.1)

named-on : (n : ℕ) (xs ys : List Item) → AreNamedItems n xs → AreNamedItems n ys → AreNamedItems n (xs ++ ys)
named-on n [] ys h k = k
named-on n (x ∷ xs) ys h k = (h.0, named-on n xs ys h.1 k)

walk-named : (n limit : ℕ) (s : Session) (at : Left) (blocks : List (List Item)) (end : End RunRefusal) → IsWithin n at → WalksOn (built_commands limit) s at blocks end
    → AreNamedItems n (items_of_blocks blocks)
walk-named n limit s at [] end w h = tt
walk-named n limit s at (items ∷ blocks) end w (c, from, lines, to, behind, next, later, adds, on) =
    let k = next-within n at behind c w (placed_is_next theory_text at c from lines to behind next) in
    named-on n items (items_of_blocks blocks) (block-named n s c items later k.1 adds) (walk-named n limit later behind blocks end k.0 on)

walk-valid : (limit : ℕ) (s : Session) (at : Left) (blocks : List (List Item)) (end : End RunRefusal) → WalksOn (built_commands limit) s at blocks end → AreValid s.context (items_of_blocks blocks)
walk-valid limit s at [] end h = tt
walk-valid limit s at (items ∷ blocks) end (c, from, lines, to, behind, next, later, (built, g), on) =
    let rest : AreValid (session_behind s g.0).context (items_of_blocks blocks) =
    subst (λ (t : Session). AreValid t.context (items_of_blocks blocks)) g.4 (walk-valid limit later behind blocks end on) in
    valid-on s.context items (items_of_blocks blocks) g.3
    (subst (λ (d : Context). AreValid d (items_of_blocks blocks)) (behind-same s g.0 items g.2) rest)

few-ahead : (text : List ℕ) → length text ≤ theory_limit → length (left_of text).ahead < 2 ^ 64
few-ahead text l =
    let few = few_characters text in
    let most : theory_limit < 2 ^ 64 = ltb-true theory_limit (2 ^ 64) refl in
    omega (arith, l, few, most)

read-back : (items : List Item) → IsPlainTheory items → AreReadableItems items → IsReadBack items
read-back items v r =
    let k = printed_items_are_read items r in
    (k.0, k.1, valid_text (encode_utf8_all (report items)) k.0 k.2 (alike_valid k.0 items k.1 v))

none-read : (blocks : List (List Item)) → blocks ≡ [] → IsReadBack (items_of_blocks blocks)
none-read blocks e = subst (λ (bs : List (List Item)). IsReadBack (items_of_blocks bs)) (sym e) (read-back [] tt tt)

pub runs_read_back : (limit : ℕ) (text : List ℕ) (blocks : List (List Item)) (end : End RunRefusal) → Walks (built_commands limit) text blocks end → IsReadBack (items_of_blocks blocks)
unfolding Walks WalksText
runs_read_back limit text blocks end (inl h) = none-read blocks h.1
runs_read_back limit text blocks end (inr (h, inl k)) = none-read blocks k.2
runs_read_back limit text blocks end (inr (h, inr (at, header, on))) =
    let n = length (left_of text).ahead in
    let within = (stands-within n (left_of text) at (header_text theory_text) (left_scalars text, omega arith) header).0 in
    let valid = walk-valid limit (new_session limit) at blocks end on in
    read-back (items_of_blocks blocks) valid
    (valid-readable n empty (items_of_blocks blocks) (few-ahead text h) valid (walk-named n limit (new_session limit) at blocks end within on))
