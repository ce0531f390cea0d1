-- What is printed of items is read back as items alike.
use Rattle.std.proofs.Common.{◌≡◌, ℕ, ◌∙◌, ap, sym, refl, subst, inl, inr, Bool, true, Some, List, [], ◌∷◌, ◌++◌, length, codes, append_assoc, eq-eqb}
use Rattle.std.specs.Prelude.{◌⊎◌, if◌then◌else◌, map, encode_utf8_all, IsUtf8}
use Rattle.std.specs.List.{flat_map}
use Rattle.std.specs.Str.{all_scalars}
use Rattle.std.proofs.lemmas.Str.{utf8_valid_len-IsUtf8}
use Rattle.lt_texts.specs.declared.lexical.TokenKind.TheVariants.{Number, OpenBrace, CloseBrace, Semicolon}
use Rattle.lt_texts.specs.declared.lexical.Lexed.TheVariants.{End, BadByte}
use Rattle.lt_definitions.specs.Types.{Chars}
use Rattle.lt_definitions.specs.Terms.{TermTree}
use Rattle.lt_definitions.specs.Rules.{Rule}
use Rattle.lt_definitions.specs.Items.{Item, type_item, const_item, axiom_item, def_item, typedef_item, lemma_item}
use Rattle.lt_definitions.specs.Printing.{words, printed_rule, printed_head, printed_lines, printed_item, report}
use Rattle.lt_texts.specs.Texts.{Left, left_of, end_of, lexed}
use Rattle.lt_texts.specs.Lexemes.{Lexeme, a_number, a_sign, Spans}
use Rattle.lt_texts.specs.Commands.{Command, item_command}
use Rattle.lt_texts.specs.Pieces.{AreWritten, Piece, sign_piece, name_piece, statement_piece, semicolon, colon, rule_text, line_text, head_text, item_text, printed_piece}
use Rattle.lt_texts.specs.Writing.{term_of_text}
use Rattle.lt_texts.specs.Forms.{Form, plain_text, header_again, a_command, sentence_text, sentences_text, IsAllowed, AreAllowed, commands_of, HasPlainItems}
use Rattle.lt_texts.specs.Named.{AreReadable, IsReadableItem, AreReadableItems, AreAlike, AreAlikeItems}
use Rattle.lt_texts.proofs.Readings.{lexemes_read}
use Rattle.lt_texts.proofs.NextTokens.{all_ahead}
use Rattle.lt_grammar.specs.declared.words.RuleWord.{RuleWord}
use Rattle.lt_grammar.specs.declared.words.RuleWord.TheVariants.{Assume, Weaken, Refl, Sym, Trans, Cong, Abs, Beta, Eta, Eqmp, ImpI, Mp, AllI, AllE, Iff, Inst, Tinst, Select, Ccontr, Thm}
use Rattle.lt_grammar.specs.declared.words.ItemWord.{ItemWord}
use Rattle.lt_grammar.specs.declared.words.ItemWord.TheVariants.{TypeItem, Const, Axiom, Def, Typedef}
use Rattle.lt_grammar.specs.Rows.{Texts, parts_lexemes, Meanings}
use Rattle.lt_grammar.specs.Table.{rule_row, item_row, lemma_parts}
use Rattle.lt_grammar.specs.RowTexts.{row_lexemes, row_meaning, LineText, line, lines_lexemes, rule_of_text, PartText, header, item, lemma, text_lexemes, texts_lexemes, sentence_of}
use Rattle.lt_grammar.proofs.OneWay.{IsClear}
use Rattle.lt_grammar.proofs.RowPieces.{meanings, parts_pieces, row_pieces, made_of, meaning-made, rule-text, rule-row, RowOfRule, item-text, join_written, sentence_written}
use Rattle.lt_grammar.proofs.Cuts.{Cuts, cut_name, cut-sign, spaced, nothing_cut, cuts_spans, space-stops}
use Rattle.lt_grammar.proofs.PieceCuts.{is_ascii_name, ascii_name, open_brace, close_brace, semicolon_sign, fed, space_ends, spaced_text, parts_cut, words_spaced, row_cut}
use Rattle.lt_grammar.proofs.PieceScalars.{report_scalars}
use Rattle.lt_grammar.proofs.PrintedPieces.{printed_rule_pieces, printed_head_pieces}

pub rule-name : (w : RuleWord) → is_ascii_name (rule_row w).word ≡ true
rule-name Assume = refl
rule-name Weaken = refl
rule-name Refl = refl
rule-name Sym = refl
rule-name Trans = refl
rule-name Cong = refl
rule-name Abs = refl
rule-name Beta = refl
rule-name Eta = refl
rule-name Eqmp = refl
rule-name ImpI = refl
rule-name Mp = refl
rule-name AllI = refl
rule-name AllE = refl
rule-name Iff = refl
rule-name Inst = refl
rule-name Tinst = refl
rule-name Select = refl
rule-name Ccontr = refl
rule-name Thm = refl

pub item-name : (w : ItemWord) → is_ascii_name (item_row w).word ≡ true
item-name TypeItem = refl
item-name Const = refl
item-name Axiom = refl
item-name Def = refl
item-name Typedef = refl

item-head : (w : ItemWord) (vs : Meanings (item_row w).parts) → head_text (made_of (item_row w) vs) ≡ row_pieces (item_row w) vs
item-head TypeItem vs = refl
item-head Const vs = refl
item-head Axiom vs = refl
item-head Def vs = refl
item-head Typedef vs = refl

item-printed : (w : ItemWord) (vs : Meanings (item_row w).parts) → printed_item (made_of (item_row w) vs) ≡ printed_head (made_of (item_row w) vs) ++ codes ";\n"
item-printed TypeItem vs = refl
item-printed Const vs = refl
item-printed Axiom vs = refl
item-printed Def vs = refl
item-printed Typedef vs = refl

-- ---- pieces that are alike

pub alike_append : (ps qs ms ns : List Piece) → AreAlike ps qs → AreAlike ms ns → AreAlike (ps ++ ms) (qs ++ ns)
alike_append [] [] ms ns h k = k
alike_append [] (q ∷ qs) ms ns h k = absurd h
alike_append (p ∷ ps) [] ms ns h k = absurd h
alike_append (p ∷ ps) (q ∷ qs) ms ns h k = (h.0, alike_append ps qs ms ns h.1 k)

readable-first : (ps qs : List Piece) → AreReadable (ps ++ qs) → AreReadable ps
readable-first [] qs r = tt
readable-first (p ∷ ps) qs r = (r.0, readable-first ps qs r.1)

readable-last : (ps qs : List Piece) → AreReadable (ps ++ qs) → AreReadable qs
readable-last [] qs r = r
readable-last (p ∷ ps) qs r = readable-last ps qs r.1

-- ---- lines

-- a way to write a line alike that is cut so
abbrev LineCut : Rule TermTree → Type 0
LineCut r = (w : RuleWord) × (ts : Texts (rule_row w).parts) × AreAlike (line_text (rule_of_text (line w ts))) (line_text r)
    × ((cs : List ℕ) (ws : List Lexeme) (rest : List ℕ) → Cuts cs ws rest → Cuts (printed_rule r ++ 59 ∷ cs) (row_lexemes (rule_row w) ts ws) rest)

line-by-row : (w : RuleWord) (vs : Meanings (rule_row w).parts) → AreReadable (line_text (made_of (rule_row w) vs)) → LineCut (made_of (rule_row w) vs)
line-by-row w vs r =
    let row = rule_row w in
    let pieces : AreReadable (row_pieces row vs) = readable-first (row_pieces row vs) (semicolon ∷ []) (subst (λ (q : List Piece). AreReadable (q ++ semicolon ∷ [])) (rule-text w vs) r) in
    let k = row_cut row vs (rule-name w) pieces.1 in
    let mine : rule_text (rule_of_text (line w k.0)) ≡ row_pieces row (meanings row.parts k.0) = ap rule_text (meaning-made row k.0) ∙ rule-text w (meanings row.parts k.0) in (
      w,
      k.0,
      alike_append (rule_text (rule_of_text (line w k.0))) (rule_text (made_of row vs)) (semicolon ∷ []) (semicolon ∷ [])
          (subst (λ (q : List Piece). AreAlike q (rule_text (made_of row vs))) (sym mine) (subst (AreAlike (row_pieces row (meanings row.parts k.0))) (sym (rule-text w vs)) k.1)) (refl, tt),
      λ cs ws rest l. subst (λ (z : List ℕ). Cuts (z ++ 59 ∷ cs) (row_lexemes row k.0 ws) rest)
          (sym (printed_rule_pieces (made_of row vs) ∙ ap (λ (q : List Piece). words (map printed_piece q)) (rule-text w vs))) (k.2 cs ws rest l),
    )

line-cut : (r : Rule TermTree) → AreReadable (line_text r) → LineCut r
line-cut r h =
    let row : RowOfRule r = rule-row r in
    subst (λ (q : Rule TermTree). AreReadable (line_text q) → LineCut q) row.2 (line-by-row row.0 row.1) h

-- ways to write lines alike that are cut so
abbrev LinesCut : List (Rule TermTree) → Type 0
LinesCut rules = (lines : List LineText) × AreAlike (flat_map line_text (map rule_of_text lines)) (flat_map line_text rules)
    × ((cs : List ℕ) (ws : List Lexeme) (rest : List ℕ) → IsClear ws → Cuts cs ws rest → Cuts (10 ∷ (printed_lines rules ++ cs)) (lines_lexemes lines ws) rest)

lines-cut : (rules : List (Rule TermTree)) → AreReadable (flat_map line_text rules) → LinesCut rules
lines-cut [] h = ([], tt, λ cs ws rest n l. fed cs ws rest n l)
lines-cut (r ∷ rules) h =
    let first = line-cut r (readable-first (line_text r) (flat_map line_text rules) h) in
    let later = lines-cut rules (readable-last (line_text r) (flat_map line_text rules) h) in
    let w = first.0 in (
      line w first.1 ∷ later.0,
      alike_append (line_text (rule_of_text (line w first.1))) (line_text r) (flat_map line_text (map rule_of_text later.0)) (flat_map line_text rules) first.2 later.1,
      λ cs ws rest n l.
          let tail : Cuts (10 ∷ (printed_lines rules ++ cs)) (lines_lexemes later.0 ws) rest = later.2 cs ws rest n l in
          let here : Cuts (printed_rule r ++ 59 ∷ (10 ∷ (printed_lines rules ++ cs))) (row_lexemes (rule_row w) first.1 (lines_lexemes later.0 ws)) rest = first.3 _ _ rest tail in
          subst (λ (z : List ℕ). Cuts (10 ∷ z) (row_lexemes (rule_row w) first.1 (lines_lexemes later.0 ws)) rest)
          (sym (append_assoc (codes "  " ++ (printed_rule r ++ codes ";\n")) (printed_lines rules) cs
          ∙ ap (λ (z : List ℕ). 32 ∷ 32 ∷ z) (append_assoc (printed_rule r) (codes ";\n") (printed_lines rules ++ cs))))
          (fed (32 ∷ 32 ∷ (printed_rule r ++ 59 ∷ (10 ∷ (printed_lines rules ++ cs)))) _ rest tt (spaced (32 ∷ (printed_rule r ++ 59 ∷ (10 ∷ (printed_lines rules ++ cs)))) _ rest tt
          (spaced (printed_rule r ++ 59 ∷ (10 ∷ (printed_lines rules ++ cs))) _ rest tt here))),
    )

-- ---- items

-- A way to write an item alike that is cut so, behind a line feed, with the line feed at its end still ahead.
abbrev ItemCut : Item → Type 0
ItemCut i = (p : PartText) × (j : Item) × (sentence_of p ≡ a_command (item_command j)) × AreAlike (item_text j) (item_text i) × IsAllowed plain_text (sentence_of p)
    × ((cs : List ℕ) (ws : List Lexeme) (rest : List ℕ) → Cuts (10 ∷ cs) ws rest → Cuts (10 ∷ (printed_item i ++ cs)) (text_lexemes plain_text p ws) rest)

item-allowed : (w : ItemWord) (ts : Texts (item_row w).parts) → IsAllowed plain_text (sentence_of (item w ts))
item-allowed TypeItem ts = refl
item-allowed Const ts = refl
item-allowed Axiom ts = refl
item-allowed Def ts = refl
item-allowed Typedef ts = refl

item-by-row : (w : ItemWord) (vs : Meanings (item_row w).parts) → AreReadable (item_text (made_of (item_row w) vs)) → ItemCut (made_of (item_row w) vs)
item-by-row w vs r =
    let row = item_row w in
    let i : Item = made_of row vs in
    let pieces : AreReadable (row_pieces row vs) = subst AreReadable (item-text w vs) r in
    let k = row_cut row vs (item-name w) pieces.1 in
    let mine : item_text (row_meaning row k.0) ≡ row_pieces row (meanings row.parts k.0) = ap item_text (meaning-made row k.0) ∙ item-text w (meanings row.parts k.0) in (
      item w k.0,
      row_meaning row k.0,
      refl,
      subst (λ (q : List Piece). AreAlike q (item_text i)) (sym mine) (subst (AreAlike (row_pieces row (meanings row.parts k.0))) (sym (item-text w vs)) k.1),
      item-allowed w k.0,
      λ cs ws rest l.
          let text : List ℕ = words (map printed_piece (row_pieces row vs)) in
          let shape : printed_item i ++ cs ≡ text ++ 59 ∷ (10 ∷ cs) =
          ap (λ (z : List ℕ). z ++ cs) (item-printed w vs ∙ ap (λ (z : List ℕ). z ++ codes ";\n") (printed_head_pieces i ∙ ap (λ (q : List Piece). words (map printed_piece q)) (item-head w vs)))
          ∙ append_assoc text (codes ";\n") cs in
          subst (λ (z : List ℕ). Cuts (10 ∷ z) (row_lexemes row k.0 ws) rest) (sym shape) (fed (text ++ 59 ∷ (10 ∷ cs)) (row_lexemes row k.0 ws) rest tt (k.2 (10 ∷ cs) ws rest l)),
    )

-- a lemma as it is printed
shape : (l : Chars) (t : TermTree) (rules : List (Rule TermTree)) (cs : List ℕ) → printed_item (lemma_item l t rules) ++ cs
    ≡ codes "lemma" ++ (spaced_text (name_piece l ∷ colon ∷ statement_piece t ∷ []) ++ 32 ∷ 123 ∷ (10 ∷ (printed_lines rules ++ (125 ∷ 59 ∷ (10 ∷ cs)))))
shape l t rules cs =
    let later : List Piece = name_piece l ∷ colon ∷ statement_piece t ∷ [] in
    let lines : List ℕ = printed_lines rules in
    ap (λ (z : List ℕ). (z ++ (32 ∷ 123 ∷ 10 ∷ (lines ++ codes "};\n"))) ++ cs) (printed_head_pieces (lemma_item l t rules) ∙ words_spaced (codes "lemma") later)
    ∙ append_assoc (codes "lemma" ++ spaced_text later) (32 ∷ 123 ∷ 10 ∷ (lines ++ codes "};\n")) cs
    ∙ ap (λ (z : List ℕ). (codes "lemma" ++ spaced_text later) ++ 32 ∷ 123 ∷ 10 ∷ z) (append_assoc lines (codes "};\n") cs)
    ∙ append_assoc (codes "lemma") (spaced_text later) (32 ∷ 123 ∷ (10 ∷ (lines ++ (125 ∷ 59 ∷ (10 ∷ cs)))))

lemma-cut : (l : Chars) (t : TermTree) (rules : List (Rule TermTree)) → AreReadable (item_text (lemma_item l t rules)) → ItemCut (lemma_item l t rules)
lemma-cut l t rules r =
    let lines = lines-cut rules (let a = r.1 in let b = a.1 in let c = b.1 in let d = c.1 in readable-first (flat_map line_text rules) (sign_piece CloseBrace ∷ []) d.1) in
    let parts = parts_cut lemma_parts (l, (tt, (t, tt))) (let a = r.1 in let b = a.1 in let c = b.1 in (a.0, (b.0, (c.0, tt)))) in
    let ts = parts.0 in
    let heads = parts.1 in let second = heads.1 in let third = second.1 in
    let p : PartText = lemma ts.0 ts.1.1.0 lines.0 in (
      p,
      lemma_item ts.0 (term_of_text ts.1.1.0) (map rule_of_text lines.0),
      refl,
      (refl, (heads.0, (second.0, (third.0, (refl, alike_append (flat_map line_text (map rule_of_text lines.0)) (flat_map line_text rules) (sign_piece CloseBrace ∷ []) (sign_piece CloseBrace ∷ []) lines.1 (refl, tt)))))),
      refl,
      λ cs ws rest h.
          let closed : Cuts (59 ∷ (10 ∷ cs)) (a_sign Semicolon ∷ ws) rest = cut-sign Semicolon 59 semicolon_sign (10 ∷ cs) ws rest h in
          let brace : Cuts (125 ∷ 59 ∷ (10 ∷ cs)) (a_sign CloseBrace ∷ a_sign Semicolon ∷ ws) rest = cut-sign CloseBrace 125 close_brace _ _ rest closed in
          let body : Cuts (10 ∷ (printed_lines rules ++ (125 ∷ 59 ∷ (10 ∷ cs)))) (lines_lexemes lines.0 (a_sign CloseBrace ∷ a_sign Semicolon ∷ ws)) rest = lines.2 _ _ rest tt brace in
          let opened : Cuts (123 ∷ (10 ∷ (printed_lines rules ++ (125 ∷ 59 ∷ (10 ∷ cs))))) (a_sign OpenBrace ∷ lines_lexemes lines.0 (a_sign CloseBrace ∷ a_sign Semicolon ∷ ws)) rest =
          cut-sign OpenBrace 123 open_brace _ _ rest body in
          let apart : Cuts (32 ∷ 123 ∷ (10 ∷ (printed_lines rules ++ (125 ∷ 59 ∷ (10 ∷ cs))))) (a_sign OpenBrace ∷ lines_lexemes lines.0 (a_sign CloseBrace ∷ a_sign Semicolon ∷ ws)) rest =
          spaced _ _ rest tt opened in
          let later : List Piece = parts_pieces lemma_parts (l, (tt, (t, tt))) [] in
          let head : Cuts (spaced_text later ++ 32 ∷ 123 ∷ (10 ∷ (printed_lines rules ++ (125 ∷ 59 ∷ (10 ∷ cs)))))
          (parts_lexemes lemma_parts ts (a_sign OpenBrace ∷ lines_lexemes lines.0 (a_sign CloseBrace ∷ a_sign Semicolon ∷ ws))) rest = parts.2 _ _ rest (space_ends _) tt apart in
          let whole : Cuts (codes "lemma" ++ (spaced_text later ++ 32 ∷ 123 ∷ (10 ∷ (printed_lines rules ++ (125 ∷ 59 ∷ (10 ∷ cs)))))) (text_lexemes plain_text p ws) rest =
          cut_name (codes "lemma") _ _ rest (ascii_name (codes "lemma") refl) (space-stops []) head in
          subst (λ (z : List ℕ). Cuts (10 ∷ z) (text_lexemes plain_text p ws) rest) (sym (shape l t rules cs)) (fed _ (text_lexemes plain_text p ws) rest tt whole),
    )

-- an item by its row, or a lemma
abbrev RowOfItem : Item → Type 0
RowOfItem i = ((w : ItemWord) × (vs : Meanings (item_row w).parts) × (made_of (item_row w) vs ≡ i)) ⊎ ((l : Chars) × (t : TermTree) × (lines : List (Rule TermTree)) × (lemma_item l t lines ≡ i))

item-rows : (i : Item) → RowOfItem i
item-rows (type_item n k) = inl (TypeItem, (n, (k, tt)), refl)
item-rows (const_item n ty) = inl (Const, (n, (tt, (ty, tt))), refl)
item-rows (axiom_item l t) = inl (Axiom, (l, (tt, (t, tt))), refl)
item-rows (def_item n ty t) = inl (Def, (n, (tt, (ty, (tt, (t, tt))))), refl)
item-rows (typedef_item n params t l a b) = inl (Typedef, (n, (params, (t, (tt, (l, (tt, (a, (tt, (b, tt))))))))), refl)
item-rows (lemma_item l t lines) = inr (l, t, lines, refl)

item-cut : (i : Item) → IsReadableItem i → ItemCut i
item-cut i r = elim (item-rows i) [
  | inl row ↦ subst (λ (j : Item). AreReadable (item_text j) → ItemCut j) row.2 (item-by-row row.0 row.1) r
  | inr row ↦ subst (λ (j : Item). AreReadable (item_text j) → ItemCut j) row.3 (lemma-cut row.0 row.1 row.2) r
]

-- ---- reports

-- the header's number
digit-cut : (cs : List ℕ) (ws : List Lexeme) (rest : List ℕ) → Cuts (59 ∷ cs) ws rest → Cuts (49 ∷ 59 ∷ cs) (a_number (Some 1) ∷ ws) rest
unfolding Cuts
digit-cut cs ws rest l = (59 ∷ cs, record { kind = Number; word = 49 ∷ []; gap = refl; spelt = refl; stops = refl; same = refl }, l)

items-cut : (items : List Item) → AreReadableItems items → (ps : List PartText) × (others : List Item) × (map sentence_of ps ≡ map (λ j. a_command (item_command j)) others)
    × AreAlikeItems others items × AreAllowed plain_text (map sentence_of ps) × Cuts (10 ∷ flat_map printed_item items) (texts_lexemes plain_text ps []) (10 ∷ [])
items-cut [] r = ([], [], refl, tt, tt, nothing_cut (10 ∷ []))
items-cut (i ∷ items) r =
    let first = item-cut i r.0 in
    let later = items-cut items r.1 in (
      first.0 ∷ later.0,
      first.1 ∷ later.1,
      (λ k. first.2 k ∷ later.2 k),
      (first.3, later.3),
      (first.4, later.4),
      first.5 (flat_map printed_item items) (texts_lexemes plain_text later.0 []) (10 ∷ []) later.5,
    )

-- sentences that are written one behind another
all-written : (f : Form) (ps : List PartText) → AreWritten (sentences_text f (map sentence_of ps)) (texts_lexemes f ps []) []
all-written f [] = refl
all-written f (p ∷ ps) = join_written (sentence_text f (sentence_of p)) (sentences_text f (map sentence_of ps)) _ (texts_lexemes f ps []) [] (sentence_written f p (texts_lexemes f ps [])) (all-written f ps)

items-of : (others : List Item) → commands_of (map (λ j. a_command (item_command j)) others) ≡ map item_command others
items-of [] = refl
items-of (j ∷ others) = ap (λ (z : List Command). item_command j ∷ z) (items-of others)

pub printed_items_are_read : (items : List Item) → AreReadableItems items → (others : List Item) × AreAlikeItems others items × HasPlainItems (encode_utf8_all (report items)) others
printed_items_are_read items r =
    let k = items-cut items r in
    let cs : List ℕ = report items in
    let text : List ℕ = encode_utf8_all cs in
    let scalars : all_scalars cs ≡ true = report_scalars items r in
    let s : Left = record { source = text; ahead = cs } in
    let ws : List Lexeme = text_lexemes plain_text header (texts_lexemes plain_text k.0 []) in
    let closed : Cuts (59 ∷ (10 ∷ flat_map printed_item items)) (a_sign Semicolon ∷ texts_lexemes plain_text k.0 []) (10 ∷ []) = cut-sign Semicolon 59 semicolon_sign _ _ (10 ∷ []) k.5 in
    let one : Cuts (49 ∷ 59 ∷ (10 ∷ flat_map printed_item items)) (a_number (Some 1) ∷ a_sign Semicolon ∷ texts_lexemes plain_text k.0 []) (10 ∷ []) = digit-cut _ _ (10 ∷ []) closed in
    let cut : Cuts cs ws (10 ∷ []) = cut_name (codes "plain") _ _ (10 ∷ []) (ascii_name (codes "plain") refl) (space-stops []) (spaced _ _ (10 ∷ []) tt one) in
    let spans : Spans (left_of text) ws (record s { ahead = 10 ∷ [] }) = subst (λ (x : Left). Spans x ws (record s { ahead = 10 ∷ [] })) (sym (all_ahead cs scalars)) (cuts_spans s ws (10 ∷ []) cut) in
    let utf8 : IsUtf8 text = (cs, (scalars, refl)) in
    let ends : end_of s ≡ length text = utf8_valid_len-IsUtf8 text utf8 in
    let end : lexed (record s { ahead = 10 ∷ [] }) ≡ End = ap (λ (y : Bool). if y then End else BadByte (end_of s)) (eq-eqb (end_of s) (length text) ends) in (
      k.1,
      k.3,
      (
        ws,
        lexemes_read text ws (record s { ahead = 10 ∷ [] }, spans, end),
        (
          map sentence_of k.0,
          k.4,
          join_written (sentence_text plain_text header_again) (sentences_text plain_text (map sentence_of k.0)) ws (texts_lexemes plain_text k.0 []) []
              (sentence_written plain_text header (texts_lexemes plain_text k.0 [])) (all-written plain_text k.0),
          sym (ap commands_of k.2 ∙ items-of k.1),
        ),
      ),
    )
