-- What is read of a text: its lexemes have bytes, and are no more than its characters; types, terms
-- and pieces that are written of such lexemes have names that are names and numbers that are read.
use Rattle.std.proofs.Common.{◌≡◌, ℕ, zero, suc, ◌+◌, ◌<◌, ◌≤◌, ap, sym, refl, subst, Bool, true, false, List, [], ◌∷◌, ◌++◌, length, take, arith, Some, None, length-append}
use Rattle.std.specs.Prelude.{◌^◌, ◌&&◌, ◌==◌, if◌then◌else◌, nat_lt, IsUtf8, encode_utf8_all}
use Rattle.std.specs.Str.{all_scalars, is_utf8, chars}
use Rattle.std.specs.Str.Lossy.{utf8_valid_len, valid_len_up_to}
use Rattle.std.proofs.lemmas.Bool.{and_parts, ltb-true}
use Rattle.std.proofs.lemmas.Str.{scalars-chars, IsUtf8-from_is_utf8, length-le-encodes, encodes-chars}
use Rattle.lt_texts.specs.declared.lexical.TokenKind.{TokenKind}
use Rattle.lt_texts.specs.declared.lexical.TokenKind.TheVariants.{Name, TypeVariable, Number, Close, CloseSquare}
use Rattle.lt_definitions.specs.Characters.{is_name, is_numeral, more_digits}
use Rattle.lt_definitions.specs.Types.{TypeTree, TypeTrees, type_variable, type_constructor, no_types, type_and, row}
use Rattle.lt_definitions.specs.Terms.{TermTree, application}
use Rattle.lt_texts.specs.Gaps.{Blank, white, comment, with_gap}
use Rattle.lt_texts.specs.Spelling.{is_spelt}
use Rattle.lt_texts.specs.Texts.{Left, left_of}
use Rattle.lt_texts.specs.Lexemes.{Lexeme, a_name, a_variable, a_number, a_sign, lexeme}
use Rattle.lt_texts.specs.Reading.{Reads}
use Rattle.lt_texts.specs.Named.{IsName, IsTypeNamed, AreTypesNamed, IsNamed, binder_count}
use Rattle.lt_texts.specs.Writing.{TermText, word, bound, free, lambda, applied, TermTexts, no_more_terms, more_terms, type_lexemes, types_lexemes, arguments_lexemes, term_lexemes, terms_lexemes, term_of_text, applied_to}
use Rattle.lt_texts.specs.Pieces.{Piece, word_piece, sign_piece, name_piece, number_piece, variable_piece, type_piece, statement_piece, term_piece, IsWritten, AreWritten}
use Rattle.lt_texts.proofs.TokenTexts.{spelt_some}
use Rattle.lt_grammar.proofs.Scalars.{AreScalars}
use Rattle.lt_grammar.proofs.Repaired.{HasBytes, HaveBytes}

-- ---- characters that are read

front-utf8 : (bs : List ℕ) (n : ℕ) → IsUtf8 (take (valid_len_up_to bs n) bs)
front-utf8 bs zero = ([], (refl, refl))
front-utf8 bs (suc n) = by (is_utf8 (take (suc n) bs)) refl (front-utf8 bs n)
  where
    by : (y : Bool) → is_utf8 (take (suc n) bs) ≡ y → IsUtf8 (take (valid_len_up_to bs n) bs)
        → IsUtf8 (take (if y then suc n else valid_len_up_to bs n) bs)
    by true e h = IsUtf8-from_is_utf8 (take (suc n) bs) e
    by false e h = h

pub left_scalars : (text : List ℕ) → AreScalars (left_of text).ahead
unfolding utf8_valid_len
left_scalars text = scalars-chars (take (utf8_valid_len text) text) (front-utf8 text (length text))

take-le : (n : ℕ) (bs : List ℕ) → length (take n bs) ≤ length bs
take-le zero bs = omega arith
take-le (suc n) [] = omega arith
take-le (suc n) (b ∷ bs) = let k = take-le n bs in omega (arith, k)

-- no more characters than bytes
pub few_characters : (text : List ℕ) → length (left_of text).ahead ≤ length text
unfolding utf8_valid_len
few_characters text =
    let front : List ℕ = take (utf8_valid_len text) text in
    let least = length-le-encodes (chars front) in
    let same : length (encode_utf8_all (chars front)) ≡ length front = ap length (encodes-chars front (front-utf8 text (length text))) in
    let less = take-le (utf8_valid_len text) text in
    omega (arith, least, same, less)

scalars-split : (xs ys : List ℕ) → AreScalars (xs ++ ys) → AreScalars xs × AreScalars ys
scalars-split [] ys p = (refl, p)
scalars-split (x ∷ xs) ys p =
    let both = and_parts _ (all_scalars (xs ++ ys)) p in
    let r = scalars-split xs ys both.1 in
    ((λ i. both.0 i && r.0 i), r.1)

-- what is behind a gap: characters still, and no more than before it
gap-behind : (gap : List Blank) (rest : List ℕ) → AreScalars (with_gap gap rest)
    → AreScalars rest × (length rest ≤ length (with_gap gap rest))
gap-behind [] rest p = (p, omega arith)
gap-behind (white c ∷ parts) rest p =
    let k = gap-behind parts rest (scalars-split (c ∷ []) (with_gap parts rest) p).1 in
    let less = k.1 in
    (k.0, omega (arith, less))
gap-behind (comment cs ∷ parts) rest p =
    let k = gap-behind parts rest (scalars-split (35 ∷ cs) (with_gap parts rest) p).1 in
    let less = k.1 in
    let more = length-append cs (with_gap parts rest) in
    (k.0, omega (arith, less, more))

number-has : (v : ℕ) (y z : Bool) → nat_lt v (2 ^ 32) ≡ z
    → HasBytes (a_number (if y && z then Some v else None))
number-has v true true e = ltb-true v (2 ^ 32) e
number-has v true false e = tt
number-has v false z e = tt

token-has : (k : TokenKind) (cs : List ℕ) → is_spelt k cs ≡ true → AreScalars cs
    → HasBytes (lexeme k cs)
token-has Name cs h a = (h, a)
token-has TypeVariable [] h a = absurd (cc h)
token-has TypeVariable (c ∷ cs) h a = ((and_parts (c == 39) (is_name cs) h).1, (scalars-split (c ∷ []) cs a).1)
token-has Number cs h a = number-has (more_digits 0 cs) (is_numeral cs) (nat_lt (more_digits 0 cs) (2 ^ 32)) refl
token-has k cs h a = tt

-- Lexemes that were read have bytes and are no more than the characters passed over; what is left
-- are characters.
pub record AreRead (s a : Left) (ws : List Lexeme) : Type 0 where
  pub bytes : HaveBytes ws
  pub scalars : AreScalars a.ahead
  pub count : length ws + length a.ahead ≤ length s.ahead

pub are_read : (s a : Left) (ws : List Lexeme) → AreScalars s.ahead → Reads s ws a → AreRead s a ws
are_read s a [] p r =
    let same : length a.ahead ≡ length s.ahead = ap (λ (z : Left). length z.ahead) r in
    record { bytes = tt; scalars = subst (λ (z : Left). AreScalars z.ahead) (sym r) p; count = omega (arith, same) }
are_read s a (w ∷ ws) p (t, n, q, r) =
    let gap = gap-behind n.past.gap n.found (subst AreScalars n.past.text_is p) in
    let both = scalars-split t.spelling t.rest (subst AreScalars n.longest.front gap.0) in
    let later = are_read (record s { ahead = t.rest }) a ws both.1 r in
    let some = spelt_some t.kind t.spelling n.longest.spelt in
    let whole : length (with_gap n.past.gap n.found) ≡ length s.ahead = ap length (sym n.past.text_is) in
    let front : length n.found ≡ length (t.spelling ++ t.rest) = ap length n.longest.front in
    let more = length-append t.spelling t.rest in
    let less = gap.1 in
    let count = later.count in
    record {
      bytes = (subst HasBytes (sym q) (token-has t.kind t.spelling n.longest.spelt both.0), later.bytes);
      scalars = later.scalars;
      count = omega (arith, less, whole, front, more, some, count);
    }

-- ---- types and terms of such lexemes

-- what is behind: lexemes that have bytes, no more than before
abbrev IsBehind : List Lexeme → List Lexeme → Type 0
IsBehind ws rest = HaveBytes rest × (length rest ≤ length ws)

mutual
  type-named : (t : TypeTree) (rest : List Lexeme) → HaveBytes (type_lexemes t rest)
      → IsTypeNamed t × IsBehind (type_lexemes t rest) rest
  type-named (type_variable a) rest h = (h.0, (h.1, omega arith))
  type-named (type_constructor c no_types) rest h = ((h.0, tt), (h.1, omega arith))
  type-named (type_constructor c (type_and t ts)) rest h =
      let first = type-named t (types_lexemes ts (a_sign Close ∷ rest)) h.1.1 in
      let later = types-named ts (a_sign Close ∷ rest) first.1.0 in
      ((h.1.0, (first.0, later.0)), (later.1.0.1, omega (arith, first.1.1, later.1.1)))

  types-named : (ts : TypeTrees) (rest : List Lexeme) → HaveBytes (types_lexemes ts rest)
      → AreTypesNamed ts × IsBehind (types_lexemes ts rest) rest
  types-named no_types rest h = (tt, (h, omega arith))
  types-named (type_and t ts) rest h =
      let first = type-named t (types_lexemes ts rest) h in
      let later = types-named ts rest first.1.0 in
      ((first.0, later.0), (later.1.0, omega (arith, first.1.1, later.1.1)))

arguments-named : (ts : List TypeTree) (rest : List Lexeme) → HaveBytes (arguments_lexemes ts rest)
    → AreTypesNamed (row ts) × IsBehind (arguments_lexemes ts rest) rest
arguments-named [] rest h = (tt, (h, omega arith))
arguments-named (t ∷ ts) rest h =
    let first = type-named t (types_lexemes (row ts) (a_sign CloseSquare ∷ rest)) h.1 in
    let later = types-named (row ts) (a_sign CloseSquare ∷ rest) first.1.0 in
    ((first.0, later.0), (later.1.0.1, omega (arith, first.1.1, later.1.1)))

-- a term whose names are names, with no more binders than so many
abbrev IsNamedWithin : ℕ → TermTree → Type 0
IsNamedWithin n t = IsNamed t × (binder_count t ≤ n)

mutual
  term-named : (x : TermText) (rest : List Lexeme) → HaveBytes (term_lexemes x rest)
      → IsNamed (term_of_text x) × HaveBytes rest × (binder_count (term_of_text x) + length rest ≤ length (term_lexemes x rest))
  term-named (word c ts) rest h = let k = arguments-named ts rest h.1 in ((h.0, k.0), k.1.0, omega (arith, k.1.1))
  term-named (bound x) rest h = (tt, h.1.1, omega arith)
  term-named (free x ty) rest h =
      let k = type-named ty (a_sign Close ∷ rest) h.1.1.1 in
      ((h.1.1.0, k.0), k.1.0.1, omega (arith, k.1.1))
  term-named (lambda x ty b) rest h =
      let k = type-named ty (term_lexemes b (a_sign Close ∷ rest)) h.1.1.1 in
      let body = term-named b (a_sign Close ∷ rest) k.1.0 in
      ((k.0, body.0), body.1.1, omega (arith, k.1.1, body.2))
  term-named (applied f a more) rest h =
      let head = term-named f (term_lexemes a (terms_lexemes more (a_sign Close ∷ rest))) h.1 in
      let first = term-named a (terms_lexemes more (a_sign Close ∷ rest)) head.1 in
      let whole = terms-named (application (term_of_text f) (term_of_text a)) more (a_sign Close ∷ rest) (head.0, first.0) first.1 in
      (whole.0, whole.1.1, omega (arith, head.2, first.2, whole.2))

  terms-named : (f : TermTree) (more : TermTexts) (rest : List Lexeme) → IsNamed f
      → HaveBytes (terms_lexemes more rest)
      → IsNamed (applied_to f more) × HaveBytes rest × (binder_count (applied_to f more) + length rest ≤ binder_count f + length (terms_lexemes more rest))
  terms-named f no_more_terms rest n h = (n, h, omega arith)
  terms-named f (more_terms a more) rest n h =
      let first = term-named a (terms_lexemes more rest) h in
      let whole = terms-named (application f (term_of_text a)) more rest (n, first.0) first.1 in
      (whole.0, whole.1, omega (arith, first.2, whole.2))

-- ---- pieces

-- a piece whose names are names, whose number is read, and whose term has no more binders than so many
abbrev pub IsNamedPiece : ℕ → Piece → Type 0
IsNamedPiece n (word_piece w) = Unit {0}
IsNamedPiece n (sign_piece k) = Unit {0}
IsNamedPiece n (name_piece c) = IsName c
IsNamedPiece n (number_piece k) = k < 2 ^ 32
IsNamedPiece n (variable_piece a) = IsName a
IsNamedPiece n (type_piece ty) = IsTypeNamed ty
IsNamedPiece n (statement_piece t) = IsNamedWithin n t
IsNamedPiece n (term_piece t) = IsNamedWithin n t

abbrev pub AreNamedPieces : ℕ → List Piece → Type 0
AreNamedPieces n [] = Unit {0}
AreNamedPieces n (p ∷ ps) = IsNamedPiece n p × AreNamedPieces n ps

text-named : (n : ℕ) (t : TermTree) (x : TermText) (ws rest : List Lexeme) → term_of_text x ≡ t
    → ws ≡ term_lexemes x rest → HaveBytes ws → length ws ≤ n
    → IsNamedWithin n t × IsBehind ws rest
text-named n t x ws rest e q h m =
    let k = term-named x rest (subst HaveBytes q h) in
    let size : length ws ≡ length (term_lexemes x rest) = ap length q in
    (subst (IsNamedWithin n) e (k.0, omega (arith, m, size, k.2)), (k.1, omega (arith, size, k.2)))

one-lexeme : (w : Lexeme) (ws rest : List Lexeme) → ws ≡ w ∷ rest → HaveBytes ws
    → HasBytes w × IsBehind ws rest
one-lexeme w ws rest q h =
    let k = subst HaveBytes q h in
    let size : length ws ≡ length (w ∷ rest) = ap length q in
    (k.0, (k.1, omega (arith, size)))

piece-named : (n : ℕ) (p : Piece) (ws rest : List Lexeme) → IsWritten p ws rest → HaveBytes ws
    → length ws ≤ n → IsNamedPiece n p × IsBehind ws rest
piece-named n (word_piece w) ws rest q h m = (tt, (one-lexeme (a_name w) ws rest q h).1)
piece-named n (sign_piece k) ws rest q h m = (tt, (one-lexeme (a_sign k) ws rest q h).1)
piece-named n (name_piece c) ws rest q h m = one-lexeme (a_name c) ws rest q h
piece-named n (number_piece k) ws rest q h m = one-lexeme (a_number (Some k)) ws rest q h
piece-named n (variable_piece a) ws rest q h m = one-lexeme (a_variable a) ws rest q h
piece-named n (type_piece ty) ws rest q h m =
    let k = type-named ty rest (subst HaveBytes q h) in
    let size : length ws ≡ length (type_lexemes ty rest) = ap length q in
    (k.0, (k.1.0, omega (arith, size, k.1.1)))
piece-named n (statement_piece t) ws rest (x, e, q) h m = text-named n t x ws rest e q h m
piece-named n (term_piece t) ws rest (x, e, q) h m = text-named n t x ws rest e q h m

pub pieces_named : (n : ℕ) (ps : List Piece) (ws rest : List Lexeme) → AreWritten ps ws rest
    → HaveBytes ws → length ws ≤ n → AreNamedPieces n ps
pieces_named n [] ws rest q h m = tt
pieces_named n (p ∷ ps) ws rest (mid, w, later) h m =
    let k = piece-named n p ws mid w h m in
    let less = k.1.1 in
    (k.0, pieces_named n ps mid rest later k.1.0 (omega (arith, m, less)))
