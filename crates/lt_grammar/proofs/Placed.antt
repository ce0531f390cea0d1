-- A command that stands somewhere has one place, and so has each of its lines.
use Rattle.std.proofs.Common.{◌≡◌, ℕ, ◌∙◌, ap, sym, refl, subst, inl, inr, List, [], ◌∷◌, ◌++◌, append_assoc}
use Rattle.std.specs.Prelude.{codes}
use Rattle.std.specs.List.{flat_map}
use Rattle.lt_texts.specs.declared.lexical.TokenKind.TheVariants.{OpenBrace, CloseBrace, Semicolon, Colon}
use Rattle.lt_definitions.specs.Types.{Chars}
use Rattle.lt_definitions.specs.Terms.{TermTree}
use Rattle.lt_definitions.specs.Rules.{Rule}
use Rattle.lt_definitions.specs.Items.{lemma_item}
use Rattle.lt_texts.specs.Texts.{Left, here, place_of, past_gap}
use Rattle.lt_texts.specs.Lexemes.{Lexeme, a_name, a_sign}
use Rattle.lt_texts.specs.Reading.{Reads}
use Rattle.lt_texts.specs.Writing.{type_lexemes, TermText, term_lexemes}
use Rattle.lt_texts.specs.Commands.{Command, item_command}
use Rattle.lt_texts.specs.Pieces.{Piece, word_piece, sign_piece, name_piece, number_piece, variable_piece, type_piece, statement_piece, term_piece, semicolon, line_text, head_text, IsWritten, AreWritten}
use Rattle.lt_texts.specs.Forms.{Form, Sentence, header_again, a_command, header_text, sentence_text, sentences_text, IsAllowed}
use Rattle.lt_texts.specs.WrongPlaces.{AreHeaders, Stands, NextCommand}
use Rattle.lt_texts.specs.CommandPlaces.{IsFirstPlace, LinesAt, CommandAt, NextPlaced}
use Rattle.lt_texts.proofs.GapLemmas.{gap_exact}
use Rattle.lt_texts.proofs.ReadingOrder.{reads_append, reads_split, GoesOn, reads_compare}
use Rattle.lt_grammar.specs.declared.words.RuleWord.{RuleWord}
use Rattle.lt_grammar.specs.Rows.{parts_lexemes}
use Rattle.lt_grammar.specs.Table.{rule_row}
use Rattle.lt_grammar.specs.Words.{rule_word}
use Rattle.lt_grammar.specs.RowTexts.{line}
use Rattle.lt_grammar.proofs.OneWay.{one_term, one_row}
use Rattle.lt_grammar.proofs.Splits.{type_splits, term_splits}
use Rattle.lt_grammar.proofs.Distinct.{one_rule}
use Rattle.lt_grammar.proofs.RowPieces.{join_written, split_written, lemma-tail, lemma-pieces, written-line}
use Rattle.lt_grammar.proofs.Sentences.{one_sentence, sentence_goes_on}
use Rattle.lt_grammar.proofs.FirstWrong.{one_command}
use Rattle.lt_grammar.proofs.Alone.{ended, one_header}

-- ---- pieces that are written, alone and with more behind them

piece_goes_on : (p : Piece) (ws rest more : List Lexeme) → IsWritten p ws rest → IsWritten p (ws ++ more) (rest ++ more)
piece_goes_on (word_piece w) ws rest more h = ap (λ (z : List Lexeme). z ++ more) h
piece_goes_on (sign_piece k) ws rest more h = ap (λ (z : List Lexeme). z ++ more) h
piece_goes_on (name_piece n) ws rest more h = ap (λ (z : List Lexeme). z ++ more) h
piece_goes_on (number_piece k) ws rest more h = ap (λ (z : List Lexeme). z ++ more) h
piece_goes_on (variable_piece a) ws rest more h = ap (λ (z : List Lexeme). z ++ more) h
piece_goes_on (type_piece ty) ws rest more h = ap (λ (z : List Lexeme). z ++ more) h ∙ sym (type_splits ty rest more)
piece_goes_on (statement_piece t) ws rest more (x, q, e) = (x, q, ap (λ (z : List Lexeme). z ++ more) e ∙ sym (term_splits x rest more))
piece_goes_on (term_piece t) ws rest more (x, q, e) = (x, q, ap (λ (z : List Lexeme). z ++ more) e ∙ sym (term_splits x rest more))

pub pieces_go_on : (ps : List Piece) (ws rest more : List Lexeme) → AreWritten ps ws rest → AreWritten ps (ws ++ more) (rest ++ more)
pieces_go_on [] ws rest more h = ap (λ (z : List Lexeme). z ++ more) h
pieces_go_on (p ∷ ps) ws rest more (mid, h, k) = (mid ++ more, piece_goes_on p ws mid more h, pieces_go_on ps mid rest more k)

-- its own lexemes, before the rest
piece_alone : (p : Piece) (ws rest : List Lexeme) → IsWritten p ws rest → (own : List Lexeme) × (ws ≡ own ++ rest) × IsWritten p own []
piece_alone (word_piece w) ws rest h = (_, h, refl)
piece_alone (sign_piece k) ws rest h = (_, h, refl)
piece_alone (name_piece n) ws rest h = (_, h, refl)
piece_alone (number_piece k) ws rest h = (_, h, refl)
piece_alone (variable_piece a) ws rest h = (_, h, refl)
piece_alone (type_piece ty) ws rest h = (type_lexemes ty [], h ∙ type_splits ty [] rest, refl)
piece_alone (statement_piece t) ws rest (x, q, e) = (term_lexemes x [], e ∙ term_splits x [] rest, (x, q, refl))
piece_alone (term_piece t) ws rest (x, q, e) = (term_lexemes x [], e ∙ term_splits x [] rest, (x, q, refl))

pub pieces_alone : (ps : List Piece) (ws rest : List Lexeme) → AreWritten ps ws rest → (own : List Lexeme) × (ws ≡ own ++ rest) × AreWritten ps own []
pieces_alone [] ws rest h = ([], h, refl)
pieces_alone (p ∷ ps) ws rest (mid, h, k) =
    let a = piece_alone p ws mid h in
    let r = pieces_alone ps mid rest k in
    (a.0 ++ r.0, a.1 ∙ ap (λ (z : List Lexeme). a.0 ++ z) r.1 ∙ sym (append_assoc a.0 r.0 rest), (r.0, piece_goes_on p a.0 [] r.0 a.2, r.2))

-- ---- pieces that stand one behind another

pub stands_join : (s m s' : Left) (ps qs : List Piece) → Stands s ps m → Stands m qs s' → Stands s (ps ++ qs) s'
stands_join s m s' ps qs (ws, w, r) (vs, v, q) = (ws ++ vs, join_written ps qs (ws ++ vs) vs [] (pieces_go_on ps ws [] vs w) v, reads_append s m s' ws vs r q)

pub stands_split : (s s' : Left) (ps qs : List Piece) → Stands s (ps ++ qs) s' → (m : Left) × Stands s ps m × Stands m qs s'
stands_split s s' ps qs (ws, w, r) =
    let k = split_written ps qs ws [] w in
    let a = pieces_alone ps ws k.0 k.1 in
    let d = reads_split s s' a.0 k.0 (subst (λ (z : List Lexeme). Reads s z s') a.1 r) in
    (d.0, (a.0, a.2, d.1), (k.0, k.2, d.2))

-- where nothing stands the place is one
pub nothing_stands : (s s' : Left) → Stands s [] s' → s ≡ s'
nothing_stands s s' (ws, e, r) = ended s s' ws e r

-- pieces whose lexemes end in one way end at one place
abbrev EndsOnce : List Piece → Type 0
EndsOnce ps = (ws a b : List Lexeme) → AreWritten ps ws a → AreWritten ps ws b → a ≡ b

one_end_of : (ps : List Piece) → EndsOnce ps → (s a b : Left) → Stands s ps a → Stands s ps b → a ≡ b
one_end_of ps once s a b (ws, w, r) (vs, v, q) = by (reads_compare s a b ws vs r q)
  where
    by : GoesOn a b ws vs → a ≡ b
    by (inl (more, e, g)) =
        ended a b more (once vs more [] (subst (λ (z : List Lexeme). AreWritten ps z more) (sym e) (pieces_go_on ps ws [] more w)) v) g
    by (inr (u, more, e, g)) =
        let clash : u ∷ more ≡ [] = once ws (u ∷ more) [] (subst (λ (z : List Lexeme). AreWritten ps z (u ∷ more)) (sym e) (pieces_go_on ps vs [] (u ∷ more) v)) w in
        absurd (cc clash)

-- ---- lines

line-once : (r : Rule TermTree) → EndsOnce (line_text r)
line-once r ws a b h k =
    let x = written-line r ws a h in
    let y = written-line r ws b k in
    let both : a_name (rule_word x.0) ∷ parts_lexemes (rule_row x.0).parts x.1 (a_sign Semicolon ∷ a) ≡ a_name (rule_word y.0) ∷ parts_lexemes (rule_row y.0).parts y.1 (a_sign Semicolon ∷ b) = sym x.3 ∙ y.3 in
    let words : rule_word x.0 ≡ rule_word y.0 = cc both in
    let tail : parts_lexemes (rule_row x.0).parts x.1 (a_sign Semicolon ∷ a) ≡ parts_lexemes (rule_row y.0).parts y.1 (a_sign Semicolon ∷ b) = cc both in
    let p = one_row (λ (v : RuleWord). (rule_row v).parts) line x.0 y.0 (one_rule x.0 y.0 words) x.1 y.1 (a_sign Semicolon ∷ a) (a_sign Semicolon ∷ b) tt tt tail in
    let rest = p.1 in
    cc rest

first_place : (s : Left) → (at : ℕ) × IsFirstPlace s at
first_place s = (place_of s (past_gap s), (past_gap s, (gap_exact s.ahead (past_gap s)).1 refl, refl))

one_first_place : (s : Left) (a b : ℕ) → IsFirstPlace s a → IsFirstPlace s b → a ≡ b
one_first_place s a b (cs, p, e) (ds, q, d) = e ∙ ap (place_of s) (sym ((gap_exact s.ahead cs).0 p) ∙ (gap_exact s.ahead ds).0 q) ∙ sym d

lines-stand : (s : Left) (rules : List (Rule TermTree)) (places : List ℕ) (s' : Left) → LinesAt s rules places s' → Stands s (flat_map line_text rules) s'
lines-stand s [] [] s' e = ([], refl, e)
lines-stand s [] (at ∷ places) s' h = absurd h
lines-stand s (r ∷ rules) [] s' h = absurd h
lines-stand s (r ∷ rules) (at ∷ places) s' (f, m, h, k) = stands_join s m s' (line_text r) (flat_map line_text rules) h (lines-stand m rules places s' k)

lines-placed : (s : Left) (rules : List (Rule TermTree)) (s' : Left) → Stands s (flat_map line_text rules) s' → (places : List ℕ) × LinesAt s rules places s'
lines-placed s [] s' h = ([], sym (nothing_stands s s' h))
lines-placed s (r ∷ rules) s' h =
    let k = stands_split s s' (line_text r) (flat_map line_text rules) h in
    let first = first_place s in
    let later = lines-placed k.0 rules s' k.2 in
    (first.0 ∷ later.0, (first.1, k.0, k.1, later.1))

one-lines : (s : Left) (rules : List (Rule TermTree)) (places marks : List ℕ) (a b : Left) → LinesAt s rules places a → LinesAt s rules marks b → places ≡ marks
one-lines s [] [] [] a b h k = refl
one-lines s [] [] (at ∷ marks) a b h k = absurd k
one-lines s [] (at ∷ places) marks a b h k = absurd h
one-lines s (r ∷ rules) [] marks a b h k = absurd h
one-lines s (r ∷ rules) (at ∷ places) [] a b h k = absurd k
one-lines s (r ∷ rules) (at ∷ places) (mark ∷ marks) a b (f, m, h, k) (g, n, i, j) =
    let same : m ≡ n = one_end_of (line_text r) (line-once r) s m n h i in
    let first : at ≡ mark = one_first_place s at mark f g in
    let later : places ≡ marks = one-lines m rules places marks a b k (subst (λ (z : Left). LinesAt z rules marks b) (sym same) j) in
    λ i. first i ∷ later i

-- ---- a command

abbrev opening : Chars → TermTree → List (Rule TermTree) → List Piece
opening l t rules = head_text (lemma_item l t rules) ++ sign_piece OpenBrace ∷ []

abbrev closing : List Piece
closing = sign_piece CloseBrace ∷ semicolon ∷ []

-- the lexemes of a lemma before its lines
opened : (l : Chars) (t : TermTree) (rules : List (Rule TermTree)) (ws rest : List Lexeme) → AreWritten (opening l t rules) ws rest
    → (x : TermText) × (ws ≡ a_name (codes "lemma") ∷ a_name l ∷ a_sign Colon ∷ term_lexemes x (a_sign OpenBrace ∷ rest))
opened l t rules ws rest (m, e, (n, f, (o, g, (p, (x, y, h), (q, i, j))))) = (
  x,
  e ∙ ap (λ (z : List Lexeme). a_name (codes "lemma") ∷ z) (f ∙ ap (λ (z : List Lexeme). a_name l ∷ z) (g ∙ ap (λ (z : List Lexeme). a_sign Colon ∷ z)
      (h ∙ ap (term_lexemes x) (i ∙ ap (λ (z : List Lexeme). a_sign OpenBrace ∷ z) j)))),
)

opening-once : (l : Chars) (t : TermTree) (rules : List (Rule TermTree)) → EndsOnce (opening l t rules)
opening-once l t rules ws a b h k =
    let x = opened l t rules ws a h in
    let y = opened l t rules ws b k in
    let both : a_name (codes "lemma") ∷ a_name l ∷ a_sign Colon ∷ term_lexemes x.0 (a_sign OpenBrace ∷ a) ≡ a_name (codes "lemma") ∷ a_name l ∷ a_sign Colon ∷ term_lexemes y.0 (a_sign OpenBrace ∷ b) = sym x.1 ∙ y.1 in
    let terms : term_lexemes x.0 (a_sign OpenBrace ∷ a) ≡ term_lexemes y.0 (a_sign OpenBrace ∷ b) = cc both in
    let p = one_term x.0 y.0 (a_sign OpenBrace ∷ a) (a_sign OpenBrace ∷ b) tt tt terms in
    let rest = p.1 in
    cc rest

command-stands : (f : Form) (s : Left) (c : Command) (places : List ℕ) (s' : Left) → CommandAt f s c places s' → Stands s (sentence_text f (a_command c)) s'
command-stands f s (item_command (lemma_item l t rules)) places s' (a, h, b, k, z) =
    subst (λ (ps : List Piece). Stands s ps s') (sym (lemma-pieces l t rules))
    (stands_join s a s' (opening l t rules) (lemma-tail rules) h (stands_join a b s' (flat_map line_text rules) closing (lines-stand a rules places b k) z))
command-stands f s c places s' h = h.1

command-placed : (f : Form) (s : Left) (c : Command) (s' : Left) → Stands s (sentence_text f (a_command c)) s' → (places : List ℕ) × CommandAt f s c places s'
command-placed f s (item_command (lemma_item l t rules)) s' h =
    let k = stands_split s s' (opening l t rules) (lemma-tail rules) (subst (λ (ps : List Piece). Stands s ps s') (lemma-pieces l t rules) h) in
    let d = stands_split k.0 s' (flat_map line_text rules) closing k.2 in
    let lines = lines-placed k.0 rules d.0 d.1 in
    (lines.0, (k.0, k.1, d.0, lines.1, d.2))
command-placed f s c s' h = ([], (refl, h))

one-command-at : (f : Form) (s : Left) (c : Command) (places marks : List ℕ) (a b : Left) → CommandAt f s c places a → CommandAt f s c marks b → places ≡ marks
one-command-at f s (item_command (lemma_item l t rules)) places marks a b (m, h, n, k, z) (o, i, p, j, y) =
    let same : m ≡ o = one_end_of (opening l t rules) (opening-once l t rules) s m o h i in
    one-lines m rules places marks n p k (subst (λ (v : Left). LinesAt v rules marks p) (sym same) j)
one-command-at f s c places marks a b h k = h.0 ∙ sym k.0

-- ---- a command behind headers

pub placed_is_next : (f : Form) (s : Left) (c : Command) (from : ℕ) (places : List ℕ) (to : ℕ) (s' : Left) → NextPlaced f s c from places to s' → NextCommand f s c s'
placed_is_next f s c from places to s' (xs, a, i, m, h, p, k, e) = (xs, a, i, m, h, command-stands f m c places s' k)

pub next_is_placed : (f : Form) (s : Left) (c : Command) (s' : Left) → NextCommand f s c s' → (from : ℕ) × (places : List ℕ) × (to : ℕ) × NextPlaced f s c from places to s'
next_is_placed f s c s' (xs, a, i, m, h, k) =
    let p = first_place m in
    let r = command-placed f m c s' k in
    (p.0, r.0, here s', (xs, a, i, m, h, p.1, r.1, refl))

-- a header and a command don't stand at one place
no-header : (f : Form) (s a b : Left) (c : Command) → IsAllowed f (a_command c) → Stands s (header_text f) a → Stands s (sentence_text f (a_command c)) b → ⊥
no-header f s a b c i (ws, w, r) (vs, v, q) = by (reads_compare s a b ws vs r q)
  where
    by : GoesOn a b ws vs → ⊥
    by (inl (more, e, g)) =
        let one = one_sentence f header_again (a_command c) vs more [] tt i
        (subst (λ (z : List Lexeme). AreWritten (header_text f) z more) (sym e) (sentence_goes_on f header_again ws [] more w)) v in
        let clash : header_again ≡ a_command c = one.0 in
        absurd (cc clash)
    by (inr (u, more, e, g)) =
        let one = one_sentence f header_again (a_command c) ws [] (u ∷ more) tt i w
        (subst (λ (z : List Lexeme). AreWritten (sentence_text f (a_command c)) z (u ∷ more)) (sym e) (sentence_goes_on f (a_command c) vs [] (u ∷ more) v)) in
        let clash : header_again ≡ a_command c = one.0 in
        absurd (cc clash)

-- headers before a command end at one place
one-begin : (f : Form) (s : Left) (xs ys : List Sentence) (m n a b : Left) (c d : Command) → AreHeaders xs → AreHeaders ys → Stands s (sentences_text f xs) m → Stands s (sentences_text f ys) n
    → IsAllowed f (a_command c) → IsAllowed f (a_command d) → Stands m (sentence_text f (a_command c)) a → Stands n (sentence_text f (a_command d)) b → m ≡ n
one-begin f s [] [] m n a b c d x y h k i j p q = sym (nothing_stands s m h) ∙ nothing_stands s n k
one-begin f s [] (header_again ∷ ys) m n a b c d x y h k i j p q =
    let r = stands_split s n (header_text f) (sentences_text f ys) k in
    absurd (no-header f s r.0 a c i r.1 (subst (λ (z : Left). Stands z (sentence_text f (a_command c)) a) (sym (nothing_stands s m h)) p))
one-begin f s (header_again ∷ xs) [] m n a b c d x y h k i j p q =
    let r = stands_split s m (header_text f) (sentences_text f xs) h in
    absurd (no-header f s r.0 b d j r.1 (subst (λ (z : Left). Stands z (sentence_text f (a_command d)) b) (sym (nothing_stands s n k)) q))
one-begin f s (header_again ∷ xs) (header_again ∷ ys) m n a b c d x y h k i j p q =
    let r = stands_split s m (header_text f) (sentences_text f xs) h in
    let t = stands_split s n (header_text f) (sentences_text f ys) k in
    let same : r.0 ≡ t.0 = one_header f s r.0 t.0 r.1 t.1 in
    one-begin f r.0 xs ys m n a b c d x.1 y.1 r.2 (subst (λ (z : Left). Stands z (sentences_text f ys) n) (sym same) t.2) i j p q
one-begin f s [] (a_command v ∷ ys) m n a b c d x y h k i j p q = let clash = y.0 in absurd (cc clash)
one-begin f s (a_command v ∷ xs) ys m n a b c d x y h k i j p q = let clash = x.0 in absurd (cc clash)
one-begin f s (header_again ∷ xs) (a_command v ∷ ys) m n a b c d x y h k i j p q = let clash = y.0 in absurd (cc clash)

pub one_placed : (f : Form) (s : Left) (c : Command) (from : ℕ) (places : List ℕ) (to : ℕ) (s' : Left) (d : Command) (begin : ℕ) (marks : List ℕ) (end : ℕ) (z : Left)
    → NextPlaced f s c from places to s' → NextPlaced f s d begin marks end z → (c ≡ d) × (from ≡ begin) × (places ≡ marks) × (to ≡ end) × (s' ≡ z)
one_placed f s c from places to s' d begin marks end z h k =
    let one = one_command f s c s' d z (placed_is_next f s c from places to s' h) (placed_is_next f s d begin marks end z k) in
    by one.0 one.1 h k
  where
    by : c ≡ d → s' ≡ z → NextPlaced f s c from places to s' → NextPlaced f s d begin marks end z → (c ≡ d) × (from ≡ begin) × (places ≡ marks) × (to ≡ end) × (s' ≡ z)
    by same last (xs, a, i, m, g, p, r, e) (ys, b, j, n, l, q, t, u) =
        let start : m ≡ n = one-begin f s xs ys m n s' z c d a b g l i j (command-stands f m c places s' r) (command-stands f n d marks z t) in
        let there : CommandAt f m c marks z = subst (λ (v : Command). CommandAt f m v marks z) (sym same) (subst (λ (v : Left). CommandAt f v d marks z) (sym start) t) in (
          same,
          one_first_place m from begin p (subst (λ (v : Left). IsFirstPlace v begin) (sym start) q),
          one-command-at f m c places marks s' z r there,
          e ∙ ap here last ∙ sym u,
          last,
        )
