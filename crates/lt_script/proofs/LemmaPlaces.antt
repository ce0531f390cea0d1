-- Where a command stands, and where each line of a lemma begins.
use Rattle.std.proofs.Common.{◌≡◌, ℕ, ◌∙◌, ap, sym, refl, subst, List, [], ◌∷◌, ◌++◌, Option, Some, None, append-nil}
use Rattle.std.specs.Prelude.{map, codes}
use Rattle.lt_texts.specs.declared.lexical.TokenKind.TheVariants as kinds
use Rattle.lt_definitions.specs.Types.{Chars}
use Rattle.lt_definitions.specs.Terms.{TermTree}
use Rattle.lt_definitions.specs.Rules.{Rule}
use Rattle.lt_texts.specs.Texts.{Left, lexed, after}
use Rattle.lt_texts.specs.Lexemes.{Lexeme, a_name, a_sign, IsNextLexeme, Spans}
use Rattle.lt_texts.specs.Writing.{TermText, term_of_text}
use Rattle.lt_texts.specs.Commands.{item_command}
use Rattle.lt_texts.specs.Pieces.{Piece, line_text, AreWritten}
use Rattle.lt_texts.specs.Forms.{Form, sentence_text}
use Rattle.lt_texts.specs.WrongPlaces.{Stands}
use Rattle.lt_texts.specs.CommandPlaces.{IsFirstPlace, LinesAt, LemmaAt, CommandAt}
use Rattle.lt_texts.proofs.Readings.{spans_reads}
use Rattle.lt_grammar.specs.declared.words.Part.TheVariants.{Fixed as Exactly}
use Rattle.lt_grammar.specs.declared.words.Fixed.TheVariants as signs
use Rattle.lt_grammar.specs.declared.words.RuleWord.{RuleWord}
use Rattle.lt_grammar.specs.declared.words.ItemWord.{ItemWord}
use Rattle.lt_grammar.specs.declared.words.ItemWord.TheVariants.{TypeItem, Const, Axiom, Def, Typedef}
use Rattle.lt_grammar.specs.declared.words.CommandWord.{CommandWord}
use Rattle.lt_grammar.specs.declared.words.CommandWord.TheVariants.{Law, Corr, Relator, Property, Domain, Rule as ARule, Lifting, LiftingTypedef, QuotientType, Lift, Parametric, ParamRule, Equiv, Implies, Carry, AbsEq, RepEq}
use Rattle.lt_grammar.specs.declared.words.Head.TheVariants.{Lemma}
use Rattle.lt_grammar.specs.Rows.{Texts, parts_lexemes}
use Rattle.lt_grammar.specs.Table.{rule_row, item_row, lemma_parts, command_row}
use Rattle.lt_grammar.specs.RowTexts.{row_lexemes, row_meaning, LineText, line, lines_lexemes, rule_of_text, item, lemma, command, text_lexemes, sentence_of}
use Rattle.lt_grammar.specs.Words.{rule_word}
use Rattle.lt_grammar.proofs.Distinct.{rule_found}
use Rattle.lt_grammar.proofs.RowPieces.{lines_written}
use Rattle.lt_grammar.proofs.Splits.{parts_splits}
use Rattle.lt_commands.specs.declared.note.Note.TheVariants.{BeginLine as begin_line, EndLine as end_line}
use Rattle.lt_commands.specs.Notes.{parts_notes}
use Rattle.lt_script.specs.declared.symbol.Symbol.{Symbol}
use Rattle.lt_script.specs.declared.symbol.Symbol.TheVariants.{Part as APartOf, Lines, EndLine}
use Rattle.lt_script.specs.Machine.{Move, under, line_move, expected, or_pass, step_on, state, run}
use Rattle.lt_script.specs.Machine as machine
use Rattle.lt_script.specs.Marks.{begins_by, marked, token_place, stack_by, marks}
use Rattle.lt_script.proofs.Taken.{takes_line, takes_parts, row_behind}
use Rattle.lt_script.proofs.Marking.{marks_append}
use Rattle.lt_script.proofs.Counting.{none_marked, parts_begun}
use Rattle.lt_script.proofs.ToPieces.{token_there}

spans-split : (s s' : Left) (xs ys : List Lexeme) → Spans s (xs ++ ys) s' → (m : Left) × Spans s xs m × Spans m ys s'
spans-split s s' [] ys e = (s, refl, e)
spans-split s s' (x ∷ xs) ys (n, e) = let r = spans-split (after s) s' xs ys e in (r.0, (n, r.1), r.2)

-- the place of the token that stands next
pub first_place : (s : Left) (w : Lexeme) → IsNextLexeme s w → IsFirstPlace s (token_place (lexed s))
first_place s w n =
    let t = token_there s n.placed n.found in
    let k = t.1 in
    (k.found, k.past, ap token_place n.found ∙ t.2)

-- ---- lines

-- what is written of one line
one-written : (w : RuleWord) (ts : Texts (rule_row w).parts) → AreWritten (line_text (rule_of_text (line w ts))) (row_lexemes (rule_row w) ts []) []
one-written w ts =
    subst (λ (q : List Piece). AreWritten q (row_lexemes (rule_row w) ts []) []) (append-nil (line_text (rule_of_text (line w ts)) ++ []) ∙ append-nil (line_text (rule_of_text (line w ts))))
    (lines_written (line w ts ∷ []) [] [] [] refl)

row-splits : (w : RuleWord) (ts : Texts (rule_row w).parts) (rest : List Lexeme) → row_lexemes (rule_row w) ts rest ≡ row_lexemes (rule_row w) ts [] ++ rest
row-splits w ts rest = ap (λ (z : List Lexeme). a_name (rule_row w).word ∷ z) (parts_splits (rule_row w).parts ts (a_sign kinds.Semicolon ∷ []) rest)

-- a line begins with its word, and no other within it
line-marks : (w : RuleWord) (ts : Texts (rule_row w).parts) (st : List Symbol) (s : Left)
    → marks (Lines ∷ st) s (row_lexemes (rule_row w) ts []) ≡ token_place (lexed s) ∷ []
line-marks w ts st s =
    ap (λ (o : Option RuleWord). marked (begins_by (or_pass (under st [] (line_move o)) None (step_on st (a_name (rule_word w))))) (token_place (lexed s))
    ++ marks (stack_by (or_pass (under st [] (line_move o)) None (step_on st (a_name (rule_word w))))) (after s) (parts_lexemes (rule_row w).parts ts (a_sign kinds.Semicolon ∷ []))) (rule_found w)
    ∙ ap (λ (z : List ℕ). token_place (lexed s) ∷ z)
    (none_marked (parts_lexemes (rule_row w).parts ts (a_sign kinds.Semicolon ∷ [])) ((map APartOf (rule_row w).parts ++ EndLine w ∷ Lines ∷ []) ++ st) [] (after s)
    (state (Lines ∷ st) (end_line w ∷ parts_notes (rule_row w).parts ts []))
    (row_behind (rule_row w).parts ts (EndLine w ∷ Lines ∷ []) st [] (a_sign kinds.Semicolon ∷ []) tt) (parts_begun (rule_row w).parts ts []))

-- From one place to another stand lines, and they begin where it is marked.
abbrev Found : List (Rule TermTree) → List Symbol → List Lexeme → List Lexeme → Left → Left → Type 0
Found rules st ws rest s s' =
    (places : List ℕ) × (m : Left) × LinesAt s rules places m × Spans m rest s' × (marks (Lines ∷ st) s ws ≡ places ++ marks (Lines ∷ st) m rest)

lines-found : (lines : List LineText) (st : List Symbol) (rest : List Lexeme) (s s' : Left) → Spans s (lines_lexemes lines rest) s'
    → Found (map rule_of_text lines) st (lines_lexemes lines rest) rest s s'
lines-found [] st rest s s' e = ([], s, refl, e, refl)
lines-found (line w ts ∷ lines) st rest s s' e =
    let more : List Lexeme = lines_lexemes lines rest in
    let split = row-splits w ts more in
    let q = spans-split s s' (row_lexemes (rule_row w) ts []) more (subst (λ (z : List Lexeme). Spans s z s') split e) in
    let one = q.1 in
    let later = lines-found lines st rest q.0 s' q.2 in (
      token_place (lexed s) ∷ later.0,
      later.1,
      (
        first_place s (a_name (rule_row w).word) one.0,
        q.0,
        (row_lexemes (rule_row w) ts [], one-written w ts, spans_reads s (row_lexemes (rule_row w) ts []) q.0 one),
        later.2,
      ),
      later.3,
      ap (marks (Lines ∷ st) s) split
          ∙ marks_append (row_lexemes (rule_row w) ts []) more (Lines ∷ st) (Lines ∷ st) [] (end_line w ∷ parts_notes (rule_row w).parts ts (begin_line w ∷ [])) s q.0 one (takes_line w ts st [] [])
          ∙ ap (λ (z : List ℕ). z ++ marks (Lines ∷ st) q.0 more) (line-marks w ts st s)
          ∙ ap (λ (z : List ℕ). token_place (lexed s) ∷ z) later.4,
    )

-- ---- commands

module _ (h : Form) where
  abbrev head-lexemes : Chars → TermText → List Lexeme
  head-lexemes l p = parts_lexemes lemma_parts (l, (tt, (p, tt))) (a_sign kinds.OpenBrace ∷ [])

  abbrev tail-lexemes : List LineText → List Lexeme
  tail-lexemes lines = lines_lexemes lines (a_sign kinds.CloseBrace ∷ a_sign kinds.Semicolon ∷ [])

  lemma-splits : (l : Chars) (p : TermText) (lines : List LineText)
      → parts_lexemes lemma_parts (l, (tt, (p, tt))) (a_sign kinds.OpenBrace ∷ tail-lexemes lines) ≡ head-lexemes l p ++ tail-lexemes lines
  lemma-splits l p lines = parts_splits lemma_parts (l, (tt, (p, tt))) (a_sign kinds.OpenBrace ∷ []) (tail-lexemes lines)

  -- what was read behind the word of a lemma, with the places that were marked
  pub lemma_at : (l : Chars) (p : TermText) (lines : List LineText) (s s' : Left) (ws : List Lexeme) (places : List ℕ) (c : Chars) → Spans s (text_lexemes h (lemma l p lines) []) s'
      → a_name c ∷ ws ≡ text_lexemes h (lemma l p lines) [] → places ≡ marks (expected h.number Lemma) (after s) ws
      → LemmaAt s l (term_of_text p) (map rule_of_text lines) places s'
  lemma_at l p lines s s' ws places c e q f =
      let split = lemma-splits l p lines in
      let all : Spans s ((a_name (codes "lemma") ∷ head-lexemes l p) ++ tail-lexemes lines) s' = subst (λ (z : List Lexeme). Spans s (a_name (codes "lemma") ∷ z) s') split e in
      let g = spans-split s s' (a_name (codes "lemma") ∷ head-lexemes l p) (tail-lexemes lines) all in
      let first = g.1 in
      let found = lines-found lines (machine.semicolon ∷ []) (a_sign kinds.CloseBrace ∷ a_sign kinds.Semicolon ∷ []) g.0 s' g.2 in
      let same : ws ≡ parts_lexemes lemma_parts (l, (tt, (p, tt))) (a_sign kinds.OpenBrace ∷ tail-lexemes lines) = cc q in
      let there : places ≡ found.0 =
      f ∙ ap (marks (expected h.number Lemma) (after s)) (same ∙ split)
      ∙ marks_append (head-lexemes l p) (tail-lexemes lines) (expected h.number Lemma) (Lines ∷ machine.semicolon ∷ []) [] (parts_notes lemma_parts (l, (tt, (p, tt))) []) (after s) g.0 first.1 (head-run l p)
      ∙ ap (λ (z : List ℕ). z ++ marks (Lines ∷ machine.semicolon ∷ []) g.0 (tail-lexemes lines))
      (none_marked (head-lexemes l p) (expected h.number Lemma) [] (after s) (state (Lines ∷ machine.semicolon ∷ []) (parts_notes lemma_parts (l, (tt, (p, tt))) [])) (head-run l p)
      (parts_begun lemma_parts (l, (tt, (p, tt))) []))
      ∙ found.4 ∙ append-nil found.0 in (
        g.0,
        (
          a_name (codes "lemma") ∷ head-lexemes l p,
          (_, refl, (_, refl, (_, refl, (_, (p, refl, refl), (_, refl, refl))))),
          spans_reads s (a_name (codes "lemma") ∷ head-lexemes l p) g.0 first,
        ),
        found.1,
        subst (λ (z : List ℕ). LinesAt g.0 (map rule_of_text lines) z found.1) (sym there) found.2,
        (
          a_sign kinds.CloseBrace ∷ a_sign kinds.Semicolon ∷ [],
          (_, refl, (_, refl, refl)),
          spans_reads found.1 (a_sign kinds.CloseBrace ∷ a_sign kinds.Semicolon ∷ []) s' found.3,
        ),
      )
    where
      head-run : (l : Chars) (p : TermText) → run (expected h.number Lemma) [] (head-lexemes l p) ≡ Some (state (Lines ∷ machine.semicolon ∷ []) (parts_notes lemma_parts (l, (tt, (p, tt))) []))
      head-run l p = takes_parts lemma_parts (l, (tt, (p, tt))) (APartOf (Exactly signs.OpenBrace) ∷ Lines ∷ machine.semicolon ∷ []) [] (a_sign kinds.OpenBrace ∷ []) tt

  -- any other command stands as its sentence does
  pub item_at : (w : ItemWord) (ts : Texts (item_row w).parts) (s s' : Left) (places : List ℕ) → places ≡ []
      → Stands s (sentence_text h (sentence_of (item w ts))) s' → CommandAt h s (item_command (row_meaning (item_row w) ts)) places s'
  item_at TypeItem ts s s' places e f = (e, f)
  item_at Const ts s s' places e f = (e, f)
  item_at Axiom ts s s' places e f = (e, f)
  item_at Def ts s s' places e f = (e, f)
  item_at Typedef ts s s' places e f = (e, f)

  pub further_at : (w : CommandWord) (ts : Texts (command_row w).parts) (s s' : Left) (places : List ℕ) → places ≡ []
      → Stands s (sentence_text h (sentence_of (command w ts))) s' → CommandAt h s (row_meaning (command_row w) ts) places s'
  further_at Law ts s s' places e f = (e, f)
  further_at Corr ts s s' places e f = (e, f)
  further_at Relator ts s s' places e f = (e, f)
  further_at Property ts s s' places e f = (e, f)
  further_at Domain ts s s' places e f = (e, f)
  further_at ARule ts s s' places e f = (e, f)
  further_at Lifting ts s s' places e f = (e, f)
  further_at LiftingTypedef ts s s' places e f = (e, f)
  further_at QuotientType ts s s' places e f = (e, f)
  further_at Lift ts s s' places e f = (e, f)
  further_at Parametric ts s s' places e f = (e, f)
  further_at ParamRule ts s s' places e f = (e, f)
  further_at Equiv ts s s' places e f = (e, f)
  further_at Implies ts s s' places e f = (e, f)
  further_at Carry ts s s' places e f = (e, f)
  further_at AbsEq ts s s' places e f = (e, f)
  further_at RepEq ts s s' places e f = (e, f)
