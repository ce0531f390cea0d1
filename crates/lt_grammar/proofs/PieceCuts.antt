-- What is printed of pieces, with one space between, is cut into the lexemes of pieces alike.
use Rattle.std.proofs.Common.{lit<, ◌≡◌, ℕ, ◌+◌, ◌-◌, ◌*◌, ◌<◌, ◌∙◌, ap, sym, refl, subst, Bool, true, false, List, [], ◌∷◌, ◌++◌, length, codes, arith, append_assoc, append-nil, Option, Some, None}
use Rattle.std.specs.Prelude.{if◌then◌else◌, ◌&&◌, ◌||◌, ◌==◌, not, ◌^◌, map, nat_lt}
use Rattle.std.specs.List.{list_all}
use Rattle.std.specs.Fmt.{decimal}
use Rattle.std.specs.Char.{is_ascii_alphabetic, is_ascii_alphanumeric, is_ascii_digit, digit_value}
use Rattle.std.specs.Str.{all_scalars}
use Rattle.std.specs.Str.Parse.{AllDigits, digits_value_after}
use lib.Utf8.{low_scalar}
use Rattle.std.proofs.lemmas.Fmt.{decimal_is_IsNumeral}
use Rattle.std.proofs.lemmas.Str.{digit_value_digit}
use Rattle.std.proofs.lemmas.Str.Parse.{digit_from_value}
use Rattle.std.proofs.lemmas.Bool.{and_parts, and_from, ne_eqb, le-leb, ltb-true, lt-ltb}
use Rattle.unicode_ident.specs.Ident.{is_xid_continue}
use Rattle.unicode_ident.proofs.IdentLemmas.{is_xid_continue-ascii}
use Rattle.lt_texts.specs.declared.lexical.TokenKind.TheVariants.{Name, Number, Colon, Becomes, OpenBrace, CloseBrace, Semicolon}
use Rattle.lt_definitions.specs.Types.{Chars}
use Rattle.lt_definitions.specs.Terms.{TermTree}
use Rattle.lt_definitions.specs.Alpha.{IsAlphaEqual}
use Rattle.lt_definitions.specs.Characters.{starts_name, is_name, is_numeral, more_digits, number_of}
use Rattle.lt_definitions.specs.Printing.{words}
use Rattle.lt_texts.specs.Spelling.{stops}
use Rattle.lt_texts.specs.Gaps.{begins_none}
use Rattle.lt_texts.specs.Lexemes.{Lexeme, a_number, a_sign}
use Rattle.lt_texts.specs.Writing.{TermText, no_more_terms, term_lexemes, term_of_text}
use Rattle.lt_texts.specs.Pieces.{Piece, variable_piece, type_piece, term_piece, colon, printed_piece}
use Rattle.lt_texts.specs.Named.{IsReadable, AreReadable, IsAlikePiece, AreAlike}
use Rattle.lt_texts.proofs.CharacterRuns.{starts_name-ascii}
use Rattle.lt_grammar.specs.declared.words.Fixed.{Fixed}
use Rattle.lt_grammar.specs.declared.words.Fixed.TheVariants as signs
use Rattle.lt_grammar.specs.declared.words.Part.{Part}
use Rattle.lt_grammar.specs.declared.words.Part.TheVariants.{Label, Number as ANumber, Variable, Parameters, AType, AStatement, ATerm, Fixed as Exactly}
use Rattle.lt_grammar.specs.Rows.{Row, fixed, variables_lexemes, Texts, parts_lexemes, Meanings}
use Rattle.lt_grammar.specs.RowTexts.{row_lexemes}
use Rattle.lt_grammar.proofs.OneWay.{IsClear, fixed_clear, type_clear, term_clear}
use Rattle.lt_grammar.proofs.RowPieces.{meanings, fixed_piece, parts_pieces, row_pieces}
use Rattle.lt_grammar.proofs.Shown.{shown, none_loose, shown_is_alpha}
use Rattle.lt_grammar.proofs.Cuts.{Cuts, passed, cut_name, cut_variable, IsSign, cut-sign, spaced, stops-at, Stopped, cut_type, cut_term}

-- ---- what stands behind a piece

-- nothing that goes on a name, a number or a colon
pub record Ends (cs : List ℕ) : Type 0 where
  pub name : stops Name cs ≡ true
  pub number : stops Number cs ≡ true
  pub colon : stops Colon cs ≡ true

pub space_ends : (cs : List ℕ) → Ends (32 ∷ cs)
space_ends cs = record { name = stops-at 32 cs (lit< tt) refl; number = refl; colon = refl }

pub semicolon_ends : (cs : List ℕ) → Ends (59 ∷ cs)
semicolon_ends cs = record { name = stops-at 59 cs (lit< tt) refl; number = refl; colon = refl }

-- ---- words, numbers and signs

-- by ASCII letters, digits and low lines
abbrev goes-ascii : ℕ → Bool
goes-ascii c = nat_lt c 128 && (is_ascii_alphanumeric c || (c == 95))

abbrev pub is_ascii_name : List ℕ → Bool
is_ascii_name [] = false
is_ascii_name (c ∷ cs) = (nat_lt c 128 && (is_ascii_alphabetic c || (c == 95))) && list_all goes-ascii cs

ascii-goes-on : (cs : List ℕ) → list_all goes-ascii cs ≡ true → list_all is_xid_continue cs ≡ true
ascii-goes-on [] h = refl
ascii-goes-on (c ∷ cs) h =
    let both = and_parts (goes-ascii c) (list_all goes-ascii cs) h in
    let one = and_parts (nat_lt c 128) (is_ascii_alphanumeric c || (c == 95)) both.0 in
    and_from (is_xid_continue c) (list_all is_xid_continue cs) (is_xid_continue-ascii c (ltb-true c 128 one.0) ∙ one.1) (ascii-goes-on cs both.1)

pub ascii_name : (w : List ℕ) → is_ascii_name w ≡ true → is_name w ≡ true
ascii_name [] h = absurd (cc h)
ascii_name (c ∷ cs) h =
    let both = and_parts (nat_lt c 128 && (is_ascii_alphabetic c || (c == 95))) (list_all goes-ascii cs) h in
    let one = and_parts (nat_lt c 128) (is_ascii_alphabetic c || (c == 95)) both.0 in
    and_from (starts_name c) (list_all is_xid_continue cs) (starts_name-ascii c (ltb-true c 128 one.0) ∙ one.1) (ascii-goes-on cs both.1)

ascii-goes-scalars : (cs : List ℕ) → list_all goes-ascii cs ≡ true → all_scalars cs ≡ true
ascii-goes-scalars [] h = refl
ascii-goes-scalars (c ∷ cs) h =
    let both = and_parts (goes-ascii c) (list_all goes-ascii cs) h in
    let one = and_parts (nat_lt c 128) (is_ascii_alphanumeric c || (c == 95)) both.0 in
    let less = ltb-true c 128 one.0 in
    and_from _ (all_scalars cs) (low_scalar c (omega (arith, less))) (ascii-goes-scalars cs both.1)

pub ascii_scalars : (w : List ℕ) → is_ascii_name w ≡ true → all_scalars w ≡ true
ascii_scalars [] h = refl
ascii_scalars (c ∷ cs) h =
    let both = and_parts (nat_lt c 128 && (is_ascii_alphabetic c || (c == 95))) (list_all goes-ascii cs) h in
    let one = and_parts (nat_lt c 128) (is_ascii_alphabetic c || (c == 95)) both.0 in
    let less = ltb-true c 128 one.0 in
    and_from _ (all_scalars cs) (low_scalar c (omega (arith, less))) (ascii-goes-scalars cs both.1)

-- the digits of a number
digits-numeral : (ds : List ℕ) → AllDigits 10 ds → list_all is_ascii_digit ds ≡ true
digits-numeral [] a = refl
digits-numeral (c ∷ cs) a =
    let range = digit_from_value c a.0 in
    and_from (is_ascii_digit c) (list_all is_ascii_digit cs) (λ i. le-leb 48 c range.0 i && le-leb c 57 range.1 i) (digits-numeral cs a.1)

digits-value : (n : ℕ) (ds : List ℕ) → AllDigits 10 ds → more_digits n ds ≡ digits_value_after 10 n ds
digits-value n [] a = refl
digits-value n (c ∷ cs) a =
    let range = digit_from_value c a.0 in
    let sum = digit_value_digit c range in
    let same : c - 48 ≡ digit_value c = omega (arith, sum, range.0) in
    ap (λ (x : ℕ). more_digits (n * 10 + x) cs) same ∙ digits-value (n * 10 + digit_value c) cs a.1

numeral : (ds : List ℕ) → 0 < length ds → AllDigits 10 ds → is_numeral ds ≡ true
numeral [] h a = absurd (omega (arith, h))
numeral (c ∷ cs) h a = digits-numeral (c ∷ cs) a

told : (ds : List ℕ) (k : ℕ) → is_numeral ds ≡ true → more_digits 0 ds ≡ k → k < 2 ^ 32 → number_of ds ≡ Some k
told ds k h e l =
    (λ i. if h i && nat_lt (more_digits 0 ds) (2 ^ 32) then Some (more_digits 0 ds) else None)
    ∙ ap (λ (x : ℕ). let o : Option ℕ = if nat_lt x (2 ^ 32) then Some x else None in o) e
    ∙ ap (λ (y : Bool). let o : Option ℕ = if y then Some k else None in o) (lt-ltb k (2 ^ 32) l)

-- a digit begins no gap
digit-begins : (ds cs : List ℕ) → 0 < length ds → AllDigits 10 ds → begins_none (ds ++ cs) ≡ true
digit-begins [] cs h a = absurd (omega (arith, h))
digit-begins (d ∷ ds) cs h a =
    let range = digit_from_value d a.0 in
    λ i. not (ne_eqb d 35 (λ e. omega (arith, range.0, e)) i || (ne_eqb d 32 (λ e. omega (arith, range.0, e)) i
    || (ne_eqb d 9 (λ e. omega (arith, range.0, e)) i || (ne_eqb d 13 (λ e. omega (arith, range.0, e)) i || ne_eqb d 10 (λ e. omega (arith, range.0, e)) i))))

pub cut_number : (k : ℕ) (cs : List ℕ) (ws : List Lexeme) (rest : List ℕ) → k < 2 ^ 32 → stops Number cs ≡ true → Cuts cs ws rest → Cuts (decimal k ++ cs) (a_number (Some k) ∷ ws) rest
unfolding Cuts
cut_number k cs ws rest h s l =
    let d = decimal_is_IsNumeral k (omega (arith, h)) in
    let is : is_numeral (decimal k) ≡ true = numeral (decimal k) d.0.0 d.0.1 in (
      cs,
      record {
        kind = Number;
        word = decimal k;
        gap = passed (decimal k ++ cs) (digit-begins (decimal k) cs d.0.0 d.0.1);
        spelt = is;
        stops = s;
        same = ap a_number (sym (told (decimal k) k is (digits-value 0 (decimal k) d.0.1 ∙ d.1) h));
      },
      l,
    )

open-brace-stops : (cs : List ℕ) → stops OpenBrace cs ≡ true
open-brace-stops [] = refl
open-brace-stops (c ∷ cs) = refl

close-brace-stops : (cs : List ℕ) → stops CloseBrace cs ≡ true
close-brace-stops [] = refl
close-brace-stops (c ∷ cs) = refl

semicolon-stops : (cs : List ℕ) → stops Semicolon cs ≡ true
semicolon-stops [] = refl
semicolon-stops (c ∷ cs) = refl

becomes-stops : (cs : List ℕ) → stops Becomes cs ≡ true
becomes-stops [] = refl
becomes-stops (c ∷ cs) = refl

pub open_brace : IsSign OpenBrace 123
open_brace = (λ cs. refl, refl, open-brace-stops, refl)

pub close_brace : IsSign CloseBrace 125
close_brace = (λ cs. refl, refl, close-brace-stops, refl)

pub semicolon_sign : IsSign Semicolon 59
semicolon_sign = (λ cs. refl, refl, semicolon-stops, refl)

cut-colon : (cs : List ℕ) (ws : List Lexeme) (rest : List ℕ) → stops Colon cs ≡ true → Cuts cs ws rest → Cuts (58 ∷ cs) (a_sign Colon ∷ ws) rest
unfolding Cuts
cut-colon cs ws rest k l = (cs, record { kind = Colon; word = 58 ∷ []; gap = refl; spelt = refl; stops = k; same = refl }, l)

cut-becomes : (cs : List ℕ) (ws : List Lexeme) (rest : List ℕ) → Cuts cs ws rest → Cuts (58 ∷ 61 ∷ cs) (a_sign Becomes ∷ ws) rest
unfolding Cuts
cut-becomes cs ws rest l = (cs, record { kind = Becomes; word = 58 ∷ 61 ∷ []; gap = refl; spelt = refl; stops = becomes-stops cs; same = refl }, l)

-- a line feed before a lexeme
pub fed : (cs : List ℕ) (ws : List Lexeme) (rest : List ℕ) → IsClear ws → Cuts cs ws rest → Cuts (10 ∷ cs) ws rest
unfolding Cuts
fed cs [] rest n l = absurd n
fed cs (w ∷ ws) rest n (more, c, l) = (more, record { kind = c.kind; word = c.word; gap = c.gap; spelt = c.spelt; stops = c.stops; same = c.same }, l)

fixed-cut : (k : Fixed) (cs : List ℕ) (ws : List Lexeme) (rest : List ℕ) → Ends cs → Cuts cs ws rest → Cuts (printed_piece (fixed_piece k) ++ cs) (fixed k ∷ ws) rest
fixed-cut signs.Semicolon cs ws rest e l = cut-sign Semicolon 59 semicolon_sign cs ws rest l
fixed-cut signs.Colon cs ws rest e l = cut-colon cs ws rest e.colon l
fixed-cut signs.Becomes cs ws rest e l = cut-becomes cs ws rest l
fixed-cut signs.OpenBrace cs ws rest e l = cut-sign OpenBrace 123 open_brace cs ws rest l
fixed-cut signs.By cs ws rest e l = cut_name (codes "by") cs ws rest (ascii_name (codes "by") refl) e.name l
fixed-cut signs.Abs cs ws rest e l = cut_name (codes "abs") cs ws rest (ascii_name (codes "abs") refl) e.name l
fixed-cut signs.Rep cs ws rest e l = cut_name (codes "rep") cs ws rest (ascii_name (codes "rep") refl) e.name l

-- ---- pieces, each behind a space

abbrev pub spaced_text : List Piece → List ℕ
spaced_text [] = []
spaced_text (p ∷ ps) = 32 ∷ (printed_piece p ++ spaced_text ps)

tail-ends : (ps : List Piece) (cs : List ℕ) → Ends cs → Ends (spaced_text ps ++ cs)
tail-ends [] cs e = e
tail-ends (p ∷ ps) cs e = space_ends ((printed_piece p ++ spaced_text ps) ++ cs)

-- a text with more behind it, behind a space
behind-space : (text more cs : List ℕ) (ws : List Lexeme) (rest : List ℕ) → IsClear ws → Cuts (text ++ (more ++ cs)) ws rest → Cuts ((32 ∷ (text ++ more)) ++ cs) ws rest
behind-space text more cs ws rest n h = subst (λ (z : List ℕ). Cuts (32 ∷ z) ws rest) (sym (append_assoc text more cs)) (spaced (text ++ (more ++ cs)) ws rest n h)

-- what is printed so is cut into these lexemes
abbrev pub CutBehind : List ℕ → (List Lexeme → List Lexeme) → Type 0
CutBehind text f = (cs : List ℕ) (ws : List Lexeme) (rest : List ℕ) → Ends cs → IsClear ws → Cuts cs ws rest → Cuts (text ++ cs) (f ws) rest

variables-cut : (names : List Chars) (ps : List Piece) (f : List Lexeme → List Lexeme) → AreReadable (map variable_piece names ++ colon ∷ ps) → CutBehind (spaced_text ps) f
    → CutBehind (spaced_text (map variable_piece names ++ colon ∷ ps)) (λ ws. variables_lexemes names (a_sign Colon ∷ f ws))
variables-cut [] ps f r h cs ws rest e n l = behind-space (codes ":") (spaced_text ps) cs _ rest tt (cut-colon (spaced_text ps ++ cs) (f ws) rest (tail-ends ps cs e).colon (h cs ws rest e n l))
variables-cut (a ∷ names) ps f r h cs ws rest e n l =
    let later : List Piece = map variable_piece names ++ colon ∷ ps in
    behind-space (39 ∷ a) (spaced_text later) cs _ rest tt
    (cut_variable a (spaced_text later ++ cs) _ rest r.0.0 (tail-ends later cs e).name (variables-cut names ps f r.1 h cs ws rest e n l))

readable-behind : (names : List Chars) (ps : List Piece) → AreReadable (map variable_piece names ++ colon ∷ ps) → AreReadable ps
readable-behind [] ps r = r.1
readable-behind (a ∷ names) ps r = readable-behind names ps r.1

alike-behind : (names : List Chars) (ps qs : List Piece) → AreAlike ps qs → AreAlike (map variable_piece names ++ colon ∷ ps) (map variable_piece names ++ colon ∷ qs)
alike-behind [] ps qs h = (refl, h)
alike-behind (a ∷ names) ps qs h = (refl, alike-behind names ps qs h)

fixed-alike : (k : Fixed) → IsAlikePiece (fixed_piece k) (fixed_piece k)
fixed-alike signs.Semicolon = refl
fixed-alike signs.Colon = refl
fixed-alike signs.Becomes = refl
fixed-alike signs.OpenBrace = refl
fixed-alike signs.By = refl
fixed-alike signs.Abs = refl
fixed-alike signs.Rep = refl

-- the way of writing that is printed of a term
abbrev read-as : TermTree → TermText
read-as t = shown t [] no_more_terms

cut-readable : (t : TermTree) → IsReadable t → (cs : List ℕ) (ws : List Lexeme) (rest : List ℕ) → Stopped cs → Cuts cs ws rest
    → Cuts (printed_piece (term_piece t) ++ cs) (term_lexemes (read-as t) ws) rest
cut-readable t (l, n, m) = cut_term t [] (n, none_loose t l, omega (arith, m))

alike-readable : (t : TermTree) → IsReadable t → IsAlphaEqual (term_of_text (read-as t)) t
alike-readable t (l, n, m) = shown_is_alpha t l m

-- texts of parts that are alike, and cut so
abbrev PartsCut : (ps : List Part) → Meanings ps → Type 0
PartsCut ps vs = (ts : Texts ps) × AreAlike (parts_pieces ps (meanings ps ts) []) (parts_pieces ps vs []) × CutBehind (spaced_text (parts_pieces ps vs [])) (parts_lexemes ps ts)

pub parts_cut : (ps : List Part) (vs : Meanings ps) → AreReadable (parts_pieces ps vs []) → PartsCut ps vs
parts_cut [] vs r = (tt, tt, λ cs ws rest e n l. l)
parts_cut (Label ∷ ps) vs r =
    let k = parts_cut ps vs.1 r.1 in
    let later : List Piece = parts_pieces ps vs.1 [] in (
      (vs.0, k.0),
      (refl, k.1),
      λ cs ws rest e n l. behind-space vs.0 (spaced_text later) cs _ rest tt
          (cut_name vs.0 (spaced_text later ++ cs) _ rest r.0.0 (tail-ends later cs e).name (k.2 cs ws rest e n l)),
    )
parts_cut (ANumber ∷ ps) vs r =
    let k = parts_cut ps vs.1 r.1 in
    let later : List Piece = parts_pieces ps vs.1 [] in (
      (vs.0, k.0),
      (refl, k.1),
      λ cs ws rest e n l. behind-space (decimal vs.0) (spaced_text later) cs _ rest tt
          (cut_number vs.0 (spaced_text later ++ cs) _ rest r.0 (tail-ends later cs e).number (k.2 cs ws rest e n l)),
    )
parts_cut (Variable ∷ ps) vs r =
    let k = parts_cut ps vs.1 r.1 in
    let later : List Piece = parts_pieces ps vs.1 [] in (
      (vs.0, k.0),
      (refl, k.1),
      λ cs ws rest e n l. behind-space (39 ∷ vs.0) (spaced_text later) cs _ rest tt
          (cut_variable vs.0 (spaced_text later ++ cs) _ rest r.0.0 (tail-ends later cs e).name (k.2 cs ws rest e n l)),
    )
parts_cut (Parameters ∷ ps) vs r =
    let later : List Piece = parts_pieces ps vs.1 [] in
    let k = parts_cut ps vs.1 (readable-behind vs.0 later r) in
    ((vs.0, k.0), alike-behind vs.0 (parts_pieces ps (meanings ps k.0) []) later k.1, variables-cut vs.0 later (parts_lexemes ps k.0) r k.2)
parts_cut (AType ∷ ps) vs r =
    let k = parts_cut ps vs.1 r.1 in
    let later : List Piece = parts_pieces ps vs.1 [] in (
      (vs.0, k.0),
      (refl, k.1),
      λ cs ws rest e n l. behind-space (printed_piece (type_piece vs.0)) (spaced_text later) cs _ rest (type_clear vs.0 (parts_lexemes ps k.0 ws))
          (cut_type vs.0 r.0 (spaced_text later ++ cs) (parts_lexemes ps k.0 ws) rest (tail-ends later cs e).name (k.2 cs ws rest e n l)),
    )
parts_cut (AStatement ∷ ps) vs r =
    let k = parts_cut ps vs.1 r.1 in
    let later : List Piece = parts_pieces ps vs.1 [] in (
      (read-as vs.0, k.0),
      (alike-readable vs.0 r.0, k.1),
      λ cs ws rest e n l. behind-space (printed_piece (term_piece vs.0)) (spaced_text later) cs _ rest (term_clear (read-as vs.0) (parts_lexemes ps k.0 ws))
          (cut-readable vs.0 r.0 (spaced_text later ++ cs) (parts_lexemes ps k.0 ws) rest (tail-ends later cs e).name (k.2 cs ws rest e n l)),
    )
parts_cut (ATerm ∷ ps) vs r =
    let k = parts_cut ps vs.1 r.1 in
    let later : List Piece = parts_pieces ps vs.1 [] in (
      (read-as vs.0, k.0),
      (alike-readable vs.0 r.0, k.1),
      λ cs ws rest e n l. behind-space (printed_piece (term_piece vs.0)) (spaced_text later) cs _ rest (term_clear (read-as vs.0) (parts_lexemes ps k.0 ws))
          (cut-readable vs.0 r.0 (spaced_text later ++ cs) (parts_lexemes ps k.0 ws) rest (tail-ends later cs e).name (k.2 cs ws rest e n l)),
    )
parts_cut (Exactly j ∷ ps) vs r =
    let k = parts_cut ps vs.1 r.1 in
    let later : List Piece = parts_pieces ps vs.1 [] in (
      (vs.0, k.0),
      (fixed-alike j, k.1),
      λ cs ws rest e n l. behind-space (printed_piece (fixed_piece j)) (spaced_text later) cs _ rest (fixed_clear j (parts_lexemes ps k.0 ws))
          (fixed-cut j (spaced_text later ++ cs) (parts_lexemes ps k.0 ws) rest (tail-ends later cs e) (k.2 cs ws rest e n l)),
    )

-- ---- rows

-- words with a space between are the first, and each other behind a space
pub words_spaced : (w : Chars) (ps : List Piece) → words (w ∷ map printed_piece ps) ≡ w ++ spaced_text ps
words_spaced w [] = sym (append-nil w)
words_spaced w (p ∷ ps) = ap (λ (z : List ℕ). w ++ 32 ∷ z) (words_spaced (printed_piece p) ps)

-- a row as it is printed, before further text
pub row_cut : {C : Type 0} (r : Row C) (vs : Meanings r.parts) → is_ascii_name r.word ≡ true → AreReadable (parts_pieces r.parts vs [])
    → (ts : Texts r.parts) × AreAlike (row_pieces r (meanings r.parts ts)) (row_pieces r vs)
    × ((cs : List ℕ) (ws : List Lexeme) (rest : List ℕ) → Cuts cs ws rest → Cuts (words (map printed_piece (row_pieces r vs)) ++ 59 ∷ cs) (row_lexemes r ts ws) rest)
row_cut r vs h q =
    let k = parts_cut r.parts vs q in
    let later : List Piece = parts_pieces r.parts vs [] in (
      k.0,
      (refl, k.1),
      λ cs ws rest l.
          let closed : Cuts (59 ∷ cs) (a_sign Semicolon ∷ ws) rest = cut-sign Semicolon 59 semicolon_sign cs ws rest l in
          let inner : Cuts (spaced_text later ++ 59 ∷ cs) (parts_lexemes r.parts k.0 (a_sign Semicolon ∷ ws)) rest = k.2 (59 ∷ cs) (a_sign Semicolon ∷ ws) rest (semicolon_ends cs) tt closed in
          subst (λ (z : List ℕ). Cuts z (row_lexemes r k.0 ws) rest) (sym (ap (λ (z : List ℕ). z ++ 59 ∷ cs) (words_spaced r.word later) ∙ append_assoc r.word (spaced_text later) (59 ∷ cs)))
          (cut_name r.word (spaced_text later ++ 59 ∷ cs) (parts_lexemes r.parts k.0 (a_sign Semicolon ∷ ws)) rest (ascii_name r.word h) (tail-ends later (59 ∷ cs) (semicolon_ends cs)).name inner),
    )
