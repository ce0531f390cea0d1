-- Lines that some text has, and that the lines of a run's lemmas are such.
use Rattle.std.proofs.Common.{◌≡◌, ℕ, zero, suc, ap, sym, refl, subst, Bool, true, false, List, [], ◌∷◌, ◌++◌, length, take, Some, None, Result, Ok, Err, inl, inr}
use Rattle.std.specs.Prelude.{◌^◌, ◌&&◌, ◌==◌, if◌then◌else◌, nat_lt, IsUtf8}
use Rattle.std.specs.List.{flat_map}
use Rattle.std.specs.Result.{result_err}
use Rattle.std.specs.Str.{all_scalars, is_utf8}
use Rattle.std.specs.Str.Lossy.{utf8_valid_len, valid_len_up_to}
use Rattle.std.proofs.lemmas.Bool.{and_parts, ltb-true}
use Rattle.std.proofs.lemmas.Str.{scalars-chars, IsUtf8-from_is_utf8}
use Rattle.lt_texts.specs.declared.lexical.TokenKind.{TokenKind}
use Rattle.lt_texts.specs.declared.lexical.TokenKind.TheVariants.{Name, TypeVariable, Number, CloseSquare, Close, OpenBrace, CloseBrace, Semicolon}
use Rattle.lt_definitions.specs.Types.{Chars, TypeTree, TypeTrees, type_variable, type_constructor, no_types, type_and, row}
use Rattle.lt_definitions.specs.Terms.{TermTree, free_variable, bound_name, constant, application, abstraction, HasNoLooseNames}
use Rattle.lt_definitions.specs.Characters.{is_name, is_numeral, more_digits}
use Rattle.lt_definitions.specs.Typing.{Signature, Fault, type_fault, typed}
use Rattle.lt_definitions.specs.Derivations.{term_fault, rule_fault, Derives}
use Rattle.lt_definitions.specs.Extensions.{Proves}
use Rattle.lt_definitions.specs.Theory.{refusal, AreValid}
use Rattle.lt_definitions.proofs.TypingLemmas.{both-none}
use Rattle.lt_nameless.proofs.Refusals.{accepted_is_valid}
use Rattle.lt_nameless.proofs.TypeLaws.{typed_terms_have_no_loose_names}
use Rattle.lt_nameless.proofs.Typings.{typed-has}
use Rattle.lt_definitions.specs.Rules.{Sequent, Rule, by_assume, by_weaken, by_refl, by_sym, by_trans, by_cong, by_abs, by_beta, by_eta, by_eqmp, by_impI, by_mp, by_allI, by_allE, by_iff, by_inst, by_tinst, by_select, by_ccontr, by_thm}
use Rattle.lt_definitions.specs.Items.{Context, empty, with_item, Item, type_item, const_item, axiom_item, def_item, typedef_item, lemma_item}
use Rattle.lt_texts.specs.Gaps.{Blank, white, comment, with_gap}
use Rattle.lt_texts.specs.Spelling.{is_spelt}
use Rattle.lt_texts.specs.Texts.{Left, left_of}
use Rattle.lt_texts.specs.Lexemes.{Lexeme, a_name, a_variable, a_number, a_sign, lexeme}
use Rattle.lt_texts.specs.Reading.{Reads}
use Rattle.lt_texts.specs.Writing.{TermText, word, bound, free, lambda, applied, TermTexts, no_more_terms, more_terms, type_lexemes, types_lexemes, arguments_lexemes, term_lexemes, terms_lexemes, term_of_text, applied_to}
use Rattle.lt_texts.specs.Named.{IsTypeNamed, AreTypesNamed, IsNamed, IsReadablePiece, AreReadable, IsReadableItem, AreReadableItems}
use Rattle.lt_texts.specs.Commands.{Command, item_command, law_command, corr_command, relator_command, property_command, domain_command, rule_command, lifting_command, lifting_typedef_command, quotient_type_command, lift_command, parametric_command, param_rule_command, equiv_command, implies_command, carry_command, abs_eq_command, rep_eq_command}
use Rattle.lt_texts.specs.Pieces.{Piece, word_piece, sign_piece, name_piece, number_piece, variable_piece, type_piece, statement_piece, term_piece, rule_text, line_text, head_text, semicolon, IsWritten, AreWritten}
use Rattle.lt_texts.specs.Forms.{Form, theory_text}
use Rattle.lt_texts.specs.CommandPlaces.{LinesAt, CommandAt, NextPlaced}
use Rattle.lt_grammar.proofs.Scalars.{AreScalars}
use Rattle.lt_grammar.proofs.PieceCuts.{is_ascii_name}
use Rattle.lt_grammar.proofs.PrintedItems.{printed_items_are_read}
use Rattle.lt_grammar.proofs.Repaired.{HasBytes, HaveBytes, ascii_is_name}
use Rattle.lt_grammar.proofs.RowPieces.{join_written}
use Rattle.lt_grammar.proofs.WithBytes.{lexemes_have_a_text}
use Rattle.lt_walks.specs.Walks.{End, WalksOn, WalksText, Walks}
use Rattle.lt_transport_definitions.specs.Sessions.{Session, new_session}
use Rattle.lt_transport_definitions.specs.Commands.{CommandRefusal, Addition, this_item, a_lemma}
use Rattle.lt_transport_definitions.specs.Blocks.{IsOfText, AreOfText, AreItemsOf, ComesOfRow, Gives}
use Rattle.lt_transport_definitions.specs.Answers.{first_wrong}
use Rattle.lt_transport_definitions.specs.Parts.{tests_before}
use Rattle.lt_transport_definitions.specs.Table.{row_of}
use Rattle.lt_transport_definitions.specs.TheoryWalks.{theory_commands, items_of_blocks}
use Rattle.lt_transport_laws.proofs.PlainWalks.{runs-plain}
use Rattle.lt_transport_laws.proofs.RowLemmas.{Each, comes-each, comes-unless}
use Rattle.lt_transport_laws.specs.LineStatements.{IsCounted, AreCounted, AreSmall, LinesAreReadable, IsSpelled, IsSpelledPiece, AreSpelled, NamedLinesAreOfText, HasLinesOfText, HaveLinesOfText, RunsHaveLinesOfText, IsReadableHead, HaveReadableHeads, RunsAreReadBack}

-- ---- what is read has bytes

front-utf8 : (bs : List ℕ) (n : ℕ) → IsUtf8 (take (valid_len_up_to bs n) bs)
front-utf8 bs zero = ([], (refl, refl))
front-utf8 bs (suc n) = by (is_utf8 (take (suc n) bs)) refl (front-utf8 bs n)
  where
    by : (y : Bool) → is_utf8 (take (suc n) bs) ≡ y → IsUtf8 (take (valid_len_up_to bs n) bs) → IsUtf8 (take (if y then suc n else valid_len_up_to bs n) bs)
    by true e h = IsUtf8-from_is_utf8 (take (suc n) bs) e
    by false e h = h

left-scalars : (text : List ℕ) → AreScalars (left_of text).ahead
unfolding utf8_valid_len
left-scalars text = scalars-chars (take (utf8_valid_len text) text) (front-utf8 text (length text))

scalars-split : (xs ys : List ℕ) → AreScalars (xs ++ ys) → AreScalars xs × AreScalars ys
scalars-split [] ys p = (refl, p)
scalars-split (x ∷ xs) ys p =
    let both = and_parts _ (all_scalars (xs ++ ys)) p in
    let r = scalars-split xs ys both.1 in
    ((λ i. both.0 i && r.0 i), r.1)

gap-scalars : (gap : List Blank) (rest : List ℕ) → AreScalars (with_gap gap rest) → AreScalars rest
gap-scalars [] rest p = p
gap-scalars (white c ∷ parts) rest p = gap-scalars parts rest (scalars-split (c ∷ []) (with_gap parts rest) p).1
gap-scalars (comment cs ∷ parts) rest p = gap-scalars parts rest (scalars-split (35 ∷ cs) (with_gap parts rest) p).1

number-has : (v : ℕ) (y z : Bool) → nat_lt v (2 ^ 32) ≡ z → HasBytes (a_number (if y && z then Some v else None))
number-has v true true e = ltb-true v (2 ^ 32) e
number-has v true false e = tt
number-has v false z e = tt

token-has : (k : TokenKind) (cs : List ℕ) → is_spelt k cs ≡ true → AreScalars cs → HasBytes (lexeme k cs)
token-has Name cs h a = (h, a)
token-has TypeVariable [] h a = absurd (cc h)
token-has TypeVariable (c ∷ cs) h a = ((and_parts (c == 39) (is_name cs) h).1, (scalars-split (c ∷ []) cs a).1)
token-has Number cs h a = number-has (more_digits 0 cs) (is_numeral cs) (nat_lt (more_digits 0 cs) (2 ^ 32)) refl
token-has k cs h a = tt

reads-both : (s a : Left) (ws : List Lexeme) → AreScalars s.ahead → Reads s ws a → HaveBytes ws × AreScalars a.ahead
reads-both s a [] p r = (tt, subst (λ (x : Left). AreScalars x.ahead) (sym r) p)
reads-both s a (w ∷ ws) p (t, n, q, r) =
    let found : AreScalars n.found = gap-scalars n.past.gap n.found (subst AreScalars n.past.text_is p) in
    let both = scalars-split t.spelling t.rest (subst AreScalars n.longest.front found) in
    let later = reads-both (record s { ahead = t.rest }) a ws both.1 r in
    ((subst HasBytes (sym q) (token-has t.kind t.spelling n.longest.spelt both.0), later.0), later.1)

reads-scalars : (s a : Left) (ws : List Lexeme) → Reads s ws a → AreScalars s.ahead → AreScalars a.ahead
reads-scalars s a ws r p = (reads-both s a ws p r).1

-- ---- what is written by lexemes with bytes is named

mutual
  type-named : (t : TypeTree) (rest : List Lexeme) → HaveBytes (type_lexemes t rest) → IsTypeNamed t × HaveBytes rest
  type-named (type_variable a) rest h = (h.0, h.1)
  type-named (type_constructor c no_types) rest h = ((h.0, tt), h.1)
  type-named (type_constructor c (type_and t ts)) rest h =
      let k = type-named t (types_lexemes ts (a_sign Close ∷ rest)) h.1.1 in
      let l = types-named ts (a_sign Close ∷ rest) k.1 in
      ((h.1.0, (k.0, l.0)), l.1.1)

  types-named : (ts : TypeTrees) (rest : List Lexeme) → HaveBytes (types_lexemes ts rest) → AreTypesNamed ts × HaveBytes rest
  types-named no_types rest h = (tt, h)
  types-named (type_and t ts) rest h =
      let k = type-named t (types_lexemes ts rest) h in
      let l = types-named ts rest k.1 in
      ((k.0, l.0), l.1)

arguments-named : (ts : List TypeTree) (rest : List Lexeme) → HaveBytes (arguments_lexemes ts rest) → AreTypesNamed (row ts) × HaveBytes rest
arguments-named [] rest h = (tt, h)
arguments-named (t ∷ ts) rest h =
    let k = type-named t (types_lexemes (row ts) (a_sign CloseSquare ∷ rest)) h.1 in
    let l = types-named (row ts) (a_sign CloseSquare ∷ rest) k.1 in
    ((k.0, l.0), l.1.1)

mutual
  text-named : (x : TermText) (rest : List Lexeme) → HaveBytes (term_lexemes x rest) → IsNamed (term_of_text x) × HaveBytes rest
  text-named (word c ts) rest h = let k = arguments-named ts rest h.1 in ((h.0, k.0), k.1)
  text-named (bound x) rest h = (tt, h.1.1)
  text-named (free x ty) rest h = let k = type-named ty (a_sign Close ∷ rest) h.1.1.1 in ((h.1.1.0, k.0), k.1.1)
  text-named (lambda x ty b) rest h =
      let k = type-named ty (term_lexemes b (a_sign Close ∷ rest)) h.1.1.1 in
      let l = text-named b (a_sign Close ∷ rest) k.1 in
      ((k.0, l.0), l.1.1)
  text-named (applied f a more) rest h =
      let k = text-named f (term_lexemes a (terms_lexemes more (a_sign Close ∷ rest))) h.1 in
      let l = text-named a (terms_lexemes more (a_sign Close ∷ rest)) k.1 in
      let m = texts-named more (application (term_of_text f) (term_of_text a)) (a_sign Close ∷ rest) (k.0, l.0) l.1 in
      (m.0, m.1.1)

  texts-named : (more : TermTexts) (f : TermTree) (rest : List Lexeme) → IsNamed f → HaveBytes (terms_lexemes more rest) → IsNamed (applied_to f more) × HaveBytes rest
  texts-named no_more_terms f rest n h = (n, h)
  texts-named (more_terms a more) f rest n h =
      let k = text-named a (terms_lexemes more rest) h in
      texts-named more (application f (term_of_text a)) rest (n, k.0) k.1

piece-readable : (p : Piece) (ws rest : List Lexeme) → IsWritten p ws rest → HaveBytes ws → IsCounted p → IsReadablePiece p × HaveBytes rest
piece-readable (word_piece w) ws rest e h c = (tt, (subst HaveBytes e h).1)
piece-readable (sign_piece k) ws rest e h c = (tt, (subst HaveBytes e h).1)
piece-readable (name_piece n) ws rest e h c = let k = subst HaveBytes e h in (k.0, k.1)
piece-readable (number_piece n) ws rest e h c = let k = subst HaveBytes e h in (k.0, k.1)
piece-readable (variable_piece a) ws rest e h c = let k = subst HaveBytes e h in (k.0, k.1)
piece-readable (type_piece ty) ws rest e h c = type-named ty rest (subst HaveBytes e h)
piece-readable (statement_piece t) ws rest (x, d, e) h c =
    let k = text-named x rest (subst HaveBytes e h) in ((c.0, subst IsNamed d k.0, c.1), k.1)
piece-readable (term_piece t) ws rest (x, d, e) h c =
    let k = text-named x rest (subst HaveBytes e h) in ((c.0, subst IsNamed d k.0, c.1), k.1)

pieces-readable : (ps : List Piece) (ws rest : List Lexeme) → AreWritten ps ws rest → HaveBytes ws → AreCounted ps → AreReadable ps
pieces-readable [] ws rest e h c = tt
pieces-readable (p ∷ ps) ws rest (mid, w, v) h c =
    let k = piece-readable p ws mid w h c.0 in (k.0, pieces-readable ps mid rest v k.1 c.1)

pub lines-readable : LinesAreReadable
lines-readable r (text, behind, (ws, w, reads)) c =
    pieces-readable (line_text r) ws [] w (reads-both (left_of text) behind ws (left-scalars text) reads).0 c

-- ---- what is named is written by lexemes with bytes

mutual
  type-bytes : (t : TypeTree) (rest : List Lexeme) → IsTypeNamed t → HaveBytes rest → HaveBytes (type_lexemes t rest)
  type-bytes (type_variable a) rest n h = (n, h)
  type-bytes (type_constructor c no_types) rest n h = (n.0, h)
  type-bytes (type_constructor c (type_and t ts)) rest n h =
      (tt, (n.0, type-bytes t (types_lexemes ts (a_sign Close ∷ rest)) n.1.0 (types-bytes ts (a_sign Close ∷ rest) n.1.1 (tt, h))))

  types-bytes : (ts : TypeTrees) (rest : List Lexeme) → AreTypesNamed ts → HaveBytes rest → HaveBytes (types_lexemes ts rest)
  types-bytes no_types rest n h = h
  types-bytes (type_and t ts) rest n h = type-bytes t (types_lexemes ts rest) n.0 (types-bytes ts rest n.1 h)

arguments-bytes : (ts : List TypeTree) (rest : List Lexeme) → AreTypesNamed (row ts) → HaveBytes rest → HaveBytes (arguments_lexemes ts rest)
arguments-bytes [] rest n h = h
arguments-bytes (t ∷ ts) rest n h =
    (tt, type-bytes t (types_lexemes (row ts) (a_sign CloseSquare ∷ rest)) n.0 (types-bytes (row ts) (a_sign CloseSquare ∷ rest) n.1 (tt, h)))

-- one way to write a term
abbrev text-of : TermTree → TermText
text-of (free_variable x ty) = free x ty
text-of (bound_name x) = bound x
text-of (constant c ts) = word c ts
text-of (application f a) = applied (text-of f) (text-of a) no_more_terms
text-of (abstraction x ty b) = lambda x ty (text-of b)

text-is : (t : TermTree) → term_of_text (text-of t) ≡ t
text-is (free_variable x ty) = refl
text-is (bound_name x) = refl
text-is (constant c ts) = refl
text-is (application f a) = λ i. application (text-is f i) (text-is a i)
text-is (abstraction x ty b) = ap (abstraction x ty) (text-is b)

text-bytes : (t : TermTree) (rest : List Lexeme) → IsSpelled t → HaveBytes rest → HaveBytes (term_lexemes (text-of t) rest)
text-bytes (free_variable x ty) rest n h = (tt, (tt, (n.0, type-bytes ty (a_sign Close ∷ rest) n.1 (tt, h))))
text-bytes (bound_name x) rest n h = (tt, (n, h))
text-bytes (constant c ts) rest n h = (n.0, arguments-bytes ts rest n.1 h)
text-bytes (application f a) rest n h =
    (tt, text-bytes f (term_lexemes (text-of a) (a_sign Close ∷ rest)) n.0 (text-bytes a (a_sign Close ∷ rest) n.1 (tt, h)))
text-bytes (abstraction x ty b) rest n h =
    (tt, (tt, (n.0, type-bytes ty (term_lexemes (text-of b) (a_sign Close ∷ rest)) n.1 (text-bytes b (a_sign Close ∷ rest) n.2 (tt, h)))))

-- whether a piece is a word of letters, or no word and no sign
abbrev is_plain : Piece → Bool
is_plain (word_piece w) = is_ascii_name w
is_plain (sign_piece k) = false
is_plain _ = true

abbrev are_plain : List Piece → Bool
are_plain [] = true
are_plain (p ∷ ps) = is_plain p && are_plain ps

piece-lexemes : (p : Piece) (rest : List Lexeme) → is_plain p ≡ true → IsSpelledPiece p → HaveBytes rest → (ws : List Lexeme) × IsWritten p ws rest × HaveBytes ws
piece-lexemes (word_piece w) rest e n h = (a_name w ∷ rest, refl, (ascii_is_name w e, h))
piece-lexemes (sign_piece k) rest e n h = absurd (cc e)
piece-lexemes (name_piece c) rest e n h = (a_name c ∷ rest, refl, (n, h))
piece-lexemes (number_piece k) rest e n h = (a_number (Some k) ∷ rest, refl, (n, h))
piece-lexemes (variable_piece a) rest e n h = (a_variable a ∷ rest, refl, (n, h))
piece-lexemes (type_piece ty) rest e n h = (type_lexemes ty rest, refl, type-bytes ty rest n h)
piece-lexemes (statement_piece t) rest e n h = (term_lexemes (text-of t) rest, (text-of t, text-is t, refl), text-bytes t rest n h)
piece-lexemes (term_piece t) rest e n h = (term_lexemes (text-of t) rest, (text-of t, text-is t, refl), text-bytes t rest n h)

pieces-lexemes : (ps : List Piece) (rest : List Lexeme) → are_plain ps ≡ true → AreSpelled ps → HaveBytes rest → (ws : List Lexeme) × AreWritten ps ws rest × HaveBytes ws
pieces-lexemes [] rest e n h = (rest, refl, h)
pieces-lexemes (p ∷ ps) rest e n h =
    let both = and_parts (is_plain p) (are_plain ps) e in
    let later = pieces-lexemes ps rest both.1 n.1 h in
    let first = piece-lexemes p later.0 both.0 n.0 later.2 in
    (first.0, (later.0, first.1, later.1), first.2)

rule-plain : (r : Rule TermTree) → are_plain (rule_text r) ≡ true
rule-plain (by_assume p) = refl
rule-plain (by_weaken p i) = refl
rule-plain (by_refl t) = refl
rule-plain (by_sym i) = refl
rule-plain (by_trans i j) = refl
rule-plain (by_cong i j) = refl
rule-plain (by_abs x ty i) = refl
rule-plain (by_beta t) = refl
rule-plain (by_eta t) = refl
rule-plain (by_eqmp i j) = refl
rule-plain (by_impI p i) = refl
rule-plain (by_mp i j) = refl
rule-plain (by_allI x ty i) = refl
rule-plain (by_allE t i) = refl
rule-plain (by_iff i j) = refl
rule-plain (by_inst x ty t i) = refl
rule-plain (by_tinst a ty i) = refl
rule-plain (by_select p) = refl
rule-plain (by_ccontr p) = refl
rule-plain (by_thm l) = refl

-- lexemes that have bytes and are a line stand in some text
written-line : (r : Rule TermTree) (ws : List Lexeme) → AreWritten (line_text r) ws [] → HaveBytes ws → IsOfText r
written-line r ws w h = let k = lexemes_have_a_text ws h in (k.0, k.1.0, (ws, w, k.1.1))

pub named-lines : NamedLinesAreOfText
named-lines r n =
    let k = pieces-lexemes (rule_text r) (a_sign Semicolon ∷ []) (rule-plain r) n (tt, tt) in
    written-line r k.0 (join_written (rule_text r) (semicolon ∷ []) k.0 (a_sign Semicolon ∷ []) [] k.1 ([], refl, refl)) k.2

-- ---- the lines of a run

lines-of : (s b : Left) (lines : List (Rule TermTree)) (places : List ℕ) → LinesAt s lines places b → AreScalars s.ahead → AreOfText lines × AreScalars b.ahead
lines-of s b [] [] h p = (tt, subst (λ (x : Left). AreScalars x.ahead) (sym h) p)
lines-of s b [] (at ∷ places) h p = absurd h
lines-of s b (r ∷ lines) [] h p = absurd h
lines-of s b (r ∷ lines) (at ∷ places) (first, m, (ws, w, reads), more) p =
    let both = reads-both s m ws p reads in
    let later = lines-of m b lines places more both.1 in
    ((written-line r ws w both.0, later.0), later.1)

-- a command of a text, with a lemma's lines
abbrev CommandLines : Command → Type 0
CommandLines (item_command i) = HasLinesOfText i
CommandLines _ = Unit {0}

command-of : (f : Form) (m b : Left) (c : Command) (places : List ℕ) → CommandAt f m c places b → AreScalars m.ahead → CommandLines c × AreScalars b.ahead
command-of f m b (item_command (lemma_item l t lines)) places (a, h, d, k, j) p =
    let lines_there = lines-of a d lines places k (reads-scalars m a h.0 h.2 p) in
    (lines_there.0, reads-scalars d b j.0 j.2 lines_there.1)
command-of f m b (item_command (type_item n k)) places h p = (tt, reads-scalars m b h.1.0 h.1.2 p)
command-of f m b (item_command (const_item n ty)) places h p = (tt, reads-scalars m b h.1.0 h.1.2 p)
command-of f m b (item_command (axiom_item l t)) places h p = (tt, reads-scalars m b h.1.0 h.1.2 p)
command-of f m b (item_command (def_item n ty t)) places h p = (tt, reads-scalars m b h.1.0 h.1.2 p)
command-of f m b (item_command (typedef_item n xs t l a r)) places h p = (tt, reads-scalars m b h.1.0 h.1.2 p)
command-of f m b (law_command w l) places h p = (tt, reads-scalars m b h.1.0 h.1.2 p)
command-of f m b (corr_command c) places h p = (tt, reads-scalars m b h.1.0 h.1.2 p)
command-of f m b (relator_command K R M E Q O) places h p = (tt, reads-scalars m b h.1.0 h.1.2 p)
command-of f m b (property_command l) places h p = (tt, reads-scalars m b h.1.0 h.1.2 p)
command-of f m b (domain_command l) places h p = (tt, reads-scalars m b h.1.0 h.1.2 p)
command-of f m b (rule_command l) places h p = (tt, reads-scalars m b h.1.0 h.1.2 p)
command-of f m b (lifting_command l) places h p = (tt, reads-scalars m b h.1.0 h.1.2 p)
command-of f m b (lifting_typedef_command q) places h p = (tt, reads-scalars m b h.1.0 h.1.2 p)
command-of f m b (quotient_type_command q xs r l) places h p = (tt, reads-scalars m b h.1.0 h.1.2 p)
command-of f m b (lift_command n ty t l) places h p = (tt, reads-scalars m b h.1.0 h.1.2 p)
command-of f m b (parametric_command q) places h p = (tt, reads-scalars m b h.1.0 h.1.2 p)
command-of f m b (param_rule_command n l k) places h p = (tt, reads-scalars m b h.1.0 h.1.2 p)
command-of f m b (equiv_command n t) places h p = (tt, reads-scalars m b h.1.0 h.1.2 p)
command-of f m b (implies_command n t) places h p = (tt, reads-scalars m b h.1.0 h.1.2 p)
command-of f m b (carry_command n e l) places h p = (tt, reads-scalars m b h.1.0 h.1.2 p)
command-of f m b (abs_eq_command c) places h p = (tt, reads-scalars m b h.1.0 h.1.2 p)
command-of f m b (rep_eq_command c) places h p = (tt, reads-scalars m b h.1.0 h.1.2 p)

placed-of : (f : Form) (s b : Left) (c : Command) (from : ℕ) (places : List ℕ) (to : ℕ) → NextPlaced f s c from places to b → AreScalars s.ahead → CommandLines c × AreScalars b.ahead
placed-of f s b c from places to (xs, headers, allowed, m, h, first, k, e) p = command-of f m b c places k (reads-scalars s m h.0 h.2 p)

-- the items among what is added have such lines
abbrev GivenLines : List Addition → Type 0
GivenLines [] = Unit {0}
GivenLines (this_item i ∷ additions) = HasLinesOfText i × GivenLines additions
GivenLines (a_lemma l t ∷ additions) = GivenLines additions

each-lines : (s : Session) (c : Command) → CommandLines c → Each GivenLines (row_of s c)
each-lines s (item_command i) h = (h, tt)
each-lines s (law_command w l) h = λ t law. tt
each-lines s (corr_command c) h = λ d. tt
each-lines s (relator_command K R M E Q O) h = λ eq quot comp r. tt
each-lines s (property_command l) h = λ t rule. tt
each-lines s (domain_command l) h = λ t rule. tt
each-lines s (rule_command l) h = λ t rule. tt
each-lines s (lifting_command l) h = λ t e d. tt
each-lines s (lifting_typedef_command q) h = λ t. (tt, tt)
each-lines s (quotient_type_command q params r l) h = λ t. (tt, (tt, (tt, (tt, tt))))
each-lines s (lift_command n ty t l) h = λ respects q. (tt, tt)
each-lines s (parametric_command q) h = λ e. (tt, tt)
each-lines s (param_rule_command n l m) h = λ t u rule. tt
each-lines s (equiv_command n t) h = λ image normal. tt
each-lines s (implies_command n t) h = λ image normal. tt
each-lines s (carry_command n e l) h = λ transport t. tt
each-lines s (abs_eq_command c) h = λ e q. tt
each-lines s (rep_eq_command c) h = λ e q. tt

items-lines : (additions : List Addition) (items : List Item) → AreItemsOf additions items → GivenLines additions → HaveLinesOfText items
items-lines [] [] h g = tt
items-lines [] (item ∷ items) h g = absurd h
items-lines (a ∷ additions) [] h g = absurd h
items-lines (this_item i ∷ additions) (item ∷ items) h g = (subst HasLinesOfText (sym h.0) g.0, items-lines additions items h.1 g.1)
items-lines (a_lemma l t ∷ additions) (item ∷ items) h g = (subst HasLinesOfText (sym h.0.1) h.0.2, items-lines additions items h.1 g)

block-lines : (s : Session) (c : Command) (items : List Item) (later : Session) → CommandLines c → Gives s c items later → HaveLinesOfText items
block-lines s c items later h g =
    items-lines g.0.additions items g.2
    (comes-each GivenLines s (row_of s c) g.0 (each-lines s c h) (comes-unless (first_wrong (tests_before s c)) (ComesOfRow s (row_of s c)) g.0 g.1))

lines-on : (xs ys : List Item) → HaveLinesOfText xs → HaveLinesOfText ys → HaveLinesOfText (xs ++ ys)
lines-on [] ys h k = k
lines-on (x ∷ xs) ys h k = (h.0, lines-on xs ys h.1 k)

walk-lines : (limit : ℕ) (s : Session) (at : Left) (blocks : List (List Item)) (end : End CommandRefusal) → AreScalars at.ahead
    → WalksOn (theory_commands limit) s at blocks end → HaveLinesOfText (items_of_blocks blocks)
walk-lines limit s at [] end a h = tt
walk-lines limit s at (items ∷ blocks) end a (c, from, lines, to, behind, p, later, g, w) =
    let k = placed-of theory_text at behind c from lines to p a in
    lines-on items (items_of_blocks blocks) (block-lines s c items later k.0 g) (walk-lines limit later behind blocks end k.1 w)

no-lines : (blocks : List (List Item)) → blocks ≡ [] → HaveLinesOfText (items_of_blocks blocks)
no-lines blocks e = subst (λ (bs : List (List Item)). HaveLinesOfText (items_of_blocks bs)) (sym e) tt

pub runs-lines : RunsHaveLinesOfText
unfolding Walks WalksText
runs-lines limit text blocks end (inl h) = no-lines blocks h.1
runs-lines limit text blocks end (inr (h, inl k)) = no-lines blocks k.2
runs-lines limit text blocks end (inr (h, inr k)) =
    walk-lines limit (new_session limit) k.0 blocks end (reads-scalars (left_of text) k.0 k.1.0 k.1.2 (left-scalars text)) k.2

-- ---- what is printed of a run is read back

readable-on : (ps qs : List Piece) → AreReadable ps → AreReadable qs → AreReadable (ps ++ qs)
readable-on [] qs h k = k
readable-on (p ∷ ps) qs h k = (h.0, readable-on ps qs h.1 k)

small-split : (ps qs : List Piece) → AreSmall (ps ++ qs) → AreSmall ps × AreSmall qs
small-split [] qs h = (tt, h)
small-split (p ∷ ps) qs h = let k = small-split ps qs h.1 in ((h.0, k.0), k.1)

-- a term without a fault has no loose name
none-loose : (sig : Signature) (t : TermTree) (r : Result TypeTree Fault) → typed sig [] t ≡ r → result_err r ≡ None → HasNoLooseNames t
none-loose sig t (Ok ty) e n = typed_terms_have_no_loose_names sig t ty (typed-has sig [] t ty e)
none-loose sig t (Err f) e n = absurd (cc)

loose : (sig : Signature) (t : TermTree) → term_fault sig t ≡ None → HasNoLooseNames t
loose sig t n = none-loose sig t (typed sig [] t) refl n

-- so a line without a fault has none
counted-line : (sig : Signature) (r : Rule TermTree) → rule_fault sig (term_fault sig) r ≡ None → AreSmall (line_text r) → AreCounted (line_text r)
counted-line sig (by_assume p) e s = (tt, ((loose sig p e, s.1.0), (tt, tt)))
counted-line sig (by_weaken p i) e s = (tt, ((loose sig p e, s.1.0), (tt, (tt, tt))))
counted-line sig (by_refl t) e s = (tt, ((loose sig t e, s.1.0), (tt, tt)))
counted-line sig (by_sym i) e s = (tt, (tt, (tt, tt)))
counted-line sig (by_trans i j) e s = (tt, (tt, (tt, (tt, tt))))
counted-line sig (by_cong i j) e s = (tt, (tt, (tt, (tt, tt))))
counted-line sig (by_abs x ty i) e s = (tt, (tt, (tt, (tt, (tt, tt)))))
counted-line sig (by_beta t) e s = (tt, ((loose sig t e, s.1.0), (tt, tt)))
counted-line sig (by_eta t) e s = (tt, ((loose sig t e, s.1.0), (tt, tt)))
counted-line sig (by_eqmp i j) e s = (tt, (tt, (tt, (tt, tt))))
counted-line sig (by_impI p i) e s = (tt, ((loose sig p e, s.1.0), (tt, (tt, tt))))
counted-line sig (by_mp i j) e s = (tt, (tt, (tt, (tt, tt))))
counted-line sig (by_allI x ty i) e s = (tt, (tt, (tt, (tt, (tt, tt)))))
counted-line sig (by_allE t i) e s = (tt, ((loose sig t e, s.1.0), (tt, (tt, tt))))
counted-line sig (by_iff i j) e s = (tt, (tt, (tt, (tt, tt))))
counted-line sig (by_inst x ty t i) e s =
    (tt, (tt, (tt, ((loose sig t (both-none (type_fault sig ty) (term_fault sig t) e).1, s.1.1.1.0), (tt, (tt, tt))))))
counted-line sig (by_tinst a ty i) e s = (tt, (tt, (tt, (tt, (tt, tt)))))
counted-line sig (by_select p) e s = (tt, ((loose sig p e, s.1.0), (tt, tt)))
counted-line sig (by_ccontr p) e s = (tt, ((loose sig p e, s.1.0), (tt, tt)))
counted-line sig (by_thm l) e s = (tt, (tt, (tt, tt)))

all-readable : (sig : Signature) (named : List (Chars × TermTree)) (done : List Sequent) (lines : List (Rule TermTree)) (ss : List Sequent)
    → Derives sig named done lines ss → AreOfText lines → AreSmall (flat_map line_text lines) → AreReadable (flat_map line_text lines)
all-readable sig named done [] ss d h c = tt
all-readable sig named done (r ∷ lines) [] d h c = absurd d
all-readable sig named done (r ∷ lines) (q ∷ ss) d h c =
    let k = small-split (line_text r) (flat_map line_text lines) c in
    readable-on (line_text r) (flat_map line_text lines) (lines-readable r h.0 (counted-line sig r d.0 k.0))
    (all-readable sig named (done ++ q ∷ []) lines ss d.2 h.1 k.1)

item-readable : (ctx : Context) (i : Item) → refusal ctx i ≡ None → HasLinesOfText i → IsReadableHead i → IsReadableItem i
item-readable ctx (lemma_item l t lines) v h k =
    let proves : Proves ctx lines t = ((accepted_is_valid ctx (lemma_item l t lines)).0 v).2 in
    readable-on (head_text (lemma_item l t lines)) (sign_piece OpenBrace ∷ (flat_map line_text lines ++ sign_piece CloseBrace ∷ [])) k.0 (
      tt,
      readable-on (flat_map line_text lines) (sign_piece CloseBrace ∷ [])
          (all-readable ctx.signature ctx.statements [] lines (proves.0 ++ proves.1 ∷ []) proves.2 h k.1) (tt, tt),
    )
item-readable ctx (type_item n k) v h r = r
item-readable ctx (const_item n ty) v h r = r
item-readable ctx (axiom_item l t) v h r = r
item-readable ctx (def_item n ty t) v h r = r
item-readable ctx (typedef_item n xs t l a b) v h r = r

items-readable : (ctx : Context) (items : List Item) → AreValid ctx items → HaveLinesOfText items → HaveReadableHeads items → AreReadableItems items
items-readable ctx [] v h r = tt
items-readable ctx (i ∷ items) v h r = (item-readable ctx i v.0 h.0 r.0, items-readable (with_item ctx i) items v.1 h.1 r.1)

pub runs-read : RunsAreReadBack
runs-read limit text blocks end h r =
    printed_items_are_read (items_of_blocks blocks)
    (items-readable empty (items_of_blocks blocks) (runs-plain limit text blocks end h) (runs-lines limit text blocks end h) r)
