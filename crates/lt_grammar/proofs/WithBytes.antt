-- Where a text of a form goes on with lexemes that were read, one of bytes does.
use Rattle.std.proofs.Common.{◌≡◌, ℕ, zero, suc, ◌∙◌, ap, sym, refl, subst, Bool, true, false, List, [], ◌∷◌, ◌++◌, length, take, codes, arith, Some, None}
use Rattle.std.specs.Prelude.{◌^◌, ◌&&◌, ◌==◌, if◌then◌else◌, nat_lt, encode_utf8_all, IsUtf8}
use Rattle.std.specs.Fmt.{decimal}
use Rattle.std.specs.Str.{all_scalars, is_utf8}
use Rattle.std.specs.Str.Lossy.{utf8_valid_len, valid_len_up_to}
use Rattle.std.proofs.lemmas.Bool.{and_parts, ltb-true}
use Rattle.std.proofs.lemmas.List.{map-append}
use Rattle.std.proofs.lemmas.Str.{scalars-chars, IsUtf8-from_is_utf8}
use Rattle.lt_texts.specs.declared.lexical.TokenKind.{TokenKind}
use Rattle.lt_texts.specs.declared.lexical.TokenKind.TheVariants.{Name, TypeVariable, Number, Open, Close, OpenSquare, CloseSquare, OpenBrace, CloseBrace, Semicolon, Colon, Becomes, Dollar, Percent, Backslash}
use Rattle.lt_definitions.specs.Characters.{is_name, is_numeral, more_digits}
use Rattle.lt_texts.specs.Gaps.{Blank, white, comment, with_gap}
use Rattle.lt_texts.specs.Spelling.{is_spelt, stops}
use Rattle.lt_texts.specs.Texts.{Left, left_of}
use Rattle.lt_texts.specs.Lexemes.{Lexeme, a_name, a_variable, a_number, a_sign, lexeme}
use Rattle.lt_texts.specs.Reading.{Reads, IsRead}
use Rattle.lt_texts.specs.Commands.{Command}
use Rattle.lt_texts.specs.Pieces.{printed_sign}
use Rattle.lt_texts.specs.Forms.{Form, commands_of, HasCommands}
use Rattle.lt_texts.specs.WrongPlaces.{Language, IsWhole, IsViable, BeginsWithType, BeginsWithTerm}
use Rattle.lt_texts.proofs.Readings.{lexemes_read}
use Rattle.lt_grammar.proofs.Scalars.{AreScalars, scalars_append, decimal_scalars}
use Rattle.lt_grammar.proofs.PieceScalars.{sign-scalars}
use Rattle.lt_grammar.proofs.Cuts.{Cut, Cuts, nothing_cut, name-gap, space-stops}
use Rattle.lt_grammar.proofs.PieceCuts.{cut_number}
use Rattle.lt_grammar.proofs.ReadBack.{whole}
use Rattle.lt_grammar.proofs.Repaired.{HasBytes, HaveBytes, good, all-good, all_kept, good_have, have_append, IsSpelt, type_begins_good, term_begins_good, whole_good}

-- ---- what is read has bytes

front-utf8 : (bs : List ℕ) (n : ℕ) → IsUtf8 (take (valid_len_up_to bs n) bs)
front-utf8 bs zero = ([], (refl, refl))
front-utf8 bs (suc n) = by (is_utf8 (take (suc n) bs)) refl (front-utf8 bs n)
  where
    by : (y : Bool) → is_utf8 (take (suc n) bs) ≡ y → IsUtf8 (take (valid_len_up_to bs n) bs) → IsUtf8 (take (if y then suc n else valid_len_up_to bs n) bs)
    by true e h = IsUtf8-from_is_utf8 (take (suc n) bs) e
    by false e h = h

left-scalars : (text : List ℕ) → AreScalars (left_of text).ahead
unfolding utf8_valid_len
left-scalars text = scalars-chars (take (utf8_valid_len text) text) (front-utf8 text (length text))

scalars-split : (xs ys : List ℕ) → AreScalars (xs ++ ys) → AreScalars xs × AreScalars ys
scalars-split [] ys p = (refl, p)
scalars-split (x ∷ xs) ys p =
    let both = and_parts _ (all_scalars (xs ++ ys)) p in
    let r = scalars-split xs ys both.1 in
    ((λ i. both.0 i && r.0 i), r.1)

gap-scalars : (gap : List Blank) (rest : List ℕ) → AreScalars (with_gap gap rest) → AreScalars rest
gap-scalars [] rest p = p
gap-scalars (white c ∷ parts) rest p = gap-scalars parts rest (scalars-split (c ∷ []) (with_gap parts rest) p).1
gap-scalars (comment cs ∷ parts) rest p = gap-scalars parts rest (scalars-split (35 ∷ cs) (with_gap parts rest) p).1

number-has : (v : ℕ) (y z : Bool) → nat_lt v (2 ^ 32) ≡ z → HasBytes (a_number (if y && z then Some v else None))
number-has v true true e = ltb-true v (2 ^ 32) e
number-has v true false e = tt
number-has v false z e = tt

token-has : (k : TokenKind) (cs : List ℕ) → is_spelt k cs ≡ true → AreScalars cs → HasBytes (lexeme k cs)
token-has Name cs h a = (h, a)
token-has TypeVariable [] h a = absurd (cc h)
token-has TypeVariable (c ∷ cs) h a = ((and_parts (c == 39) (is_name cs) h).1, (scalars-split (c ∷ []) cs a).1)
token-has Number cs h a = number-has (more_digits 0 cs) (is_numeral cs) (nat_lt (more_digits 0 cs) (2 ^ 32)) refl
token-has k cs h a = tt

reads-have : (s a : Left) (ws : List Lexeme) → AreScalars s.ahead → Reads s ws a → HaveBytes ws
reads-have s a [] p r = tt
reads-have s a (w ∷ ws) p (t, n, q, r) =
    let found : AreScalars n.found = gap-scalars n.past.gap n.found (subst AreScalars n.past.text_is p) in
    let both = scalars-split t.spelling t.rest (subst AreScalars n.longest.front found) in
    (subst HasBytes (sym q) (token-has t.kind t.spelling n.longest.spelt both.0), reads-have (record s { ahead = t.rest }) a ws both.1 r)

-- ---- lexemes that have bytes are a text

abbrev spelling-of : Lexeme → List ℕ
spelling-of (a_name c) = c
spelling-of (a_variable a) = 39 ∷ a
spelling-of (a_number None) = codes "4294967296"
spelling-of (a_number (Some n)) = decimal n
spelling-of (a_sign k) = printed_sign k

-- each behind a space
abbrev spaced-out : List Lexeme → List ℕ
spaced-out [] = []
spaced-out (w ∷ ws) = 32 ∷ (spelling-of w ++ spaced-out ws)

stops-there : (k : TokenKind) (ws : List Lexeme) → stops k (spaced-out ws) ≡ true
stops-there k [] = refl
stops-there Name (w ∷ ws) = space-stops (spelling-of w ++ spaced-out ws)
stops-there TypeVariable (w ∷ ws) = space-stops (spelling-of w ++ spaced-out ws)
stops-there k (w ∷ ws) = refl

-- the same behind a space
space-cut : (cs : List ℕ) (w : Lexeme) (rest : List ℕ) → Cut cs w rest → Cut (32 ∷ cs) w rest
space-cut cs w rest c = record { kind = c.kind; word = c.word; gap = c.gap; spelt = c.spelt; stops = c.stops; same = c.same }

first-cut : (cs : List ℕ) (w : Lexeme) (rest : List ℕ) → Cuts cs (w ∷ []) rest → Cut cs w rest
unfolding Cuts
first-cut cs w rest (more, c, e) = subst (Cut cs w) e c

sign-cut : (k : TokenKind) → HasBytes (a_sign k) → (ws : List Lexeme) → Cut (32 ∷ (printed_sign k ++ spaced-out ws)) (a_sign k) (spaced-out ws)
sign-cut Name n ws = absurd n
sign-cut TypeVariable n ws = absurd n
sign-cut Number n ws = absurd n
sign-cut Open n ws = record { kind = Open; word = codes "("; gap = refl; spelt = refl; stops = stops-there Open ws; same = refl }
sign-cut Close n ws = record { kind = Close; word = codes ")"; gap = refl; spelt = refl; stops = stops-there Close ws; same = refl }
sign-cut OpenSquare n ws = record { kind = OpenSquare; word = codes "["; gap = refl; spelt = refl; stops = stops-there OpenSquare ws; same = refl }
sign-cut CloseSquare n ws = record { kind = CloseSquare; word = codes "]"; gap = refl; spelt = refl; stops = stops-there CloseSquare ws; same = refl }
sign-cut OpenBrace n ws = record { kind = OpenBrace; word = codes "{"; gap = refl; spelt = refl; stops = stops-there OpenBrace ws; same = refl }
sign-cut CloseBrace n ws = record { kind = CloseBrace; word = codes "}"; gap = refl; spelt = refl; stops = stops-there CloseBrace ws; same = refl }
sign-cut Semicolon n ws = record { kind = Semicolon; word = codes ";"; gap = refl; spelt = refl; stops = stops-there Semicolon ws; same = refl }
sign-cut Colon n ws = record { kind = Colon; word = codes ":"; gap = refl; spelt = refl; stops = stops-there Colon ws; same = refl }
sign-cut Becomes n ws = record { kind = Becomes; word = codes ":="; gap = refl; spelt = refl; stops = stops-there Becomes ws; same = refl }
sign-cut Dollar n ws = record { kind = Dollar; word = codes "$"; gap = refl; spelt = refl; stops = stops-there Dollar ws; same = refl }
sign-cut Percent n ws = record { kind = Percent; word = codes "%"; gap = refl; spelt = refl; stops = stops-there Percent ws; same = refl }
sign-cut Backslash n ws = record { kind = Backslash; word = codes "\\"; gap = refl; spelt = refl; stops = stops-there Backslash ws; same = refl }

cut-of : (w : Lexeme) → HasBytes w → (ws : List Lexeme) → Cut (32 ∷ (spelling-of w ++ spaced-out ws)) w (spaced-out ws)
cut-of (a_name c) n ws = record { kind = Name; word = c; gap = name-gap c (spaced-out ws) n.0; spelt = n.0; stops = stops-there Name ws; same = refl }
cut-of (a_variable a) n ws = record { kind = TypeVariable; word = 39 ∷ a; gap = refl; spelt = n.0; stops = stops-there TypeVariable ws; same = refl }
cut-of (a_number None) n ws = record { kind = Number; word = codes "4294967296"; gap = refl; spelt = refl; stops = stops-there Number ws; same = refl }
cut-of (a_number (Some k)) n ws =
    space-cut (decimal k ++ spaced-out ws) (a_number (Some k)) (spaced-out ws)
    (first-cut (decimal k ++ spaced-out ws) (a_number (Some k)) (spaced-out ws) (cut_number k (spaced-out ws) [] (spaced-out ws) n (stops-there Number ws) (nothing_cut (spaced-out ws))))
cut-of (a_sign k) n ws = sign-cut k n ws

cuts-of : (ws : List Lexeme) → HaveBytes ws → Cuts (spaced-out ws) ws []
unfolding Cuts
cuts-of [] h = refl
cuts-of (w ∷ ws) h = (spaced-out ws, cut-of w h.0 ws, cuts-of ws h.1)

spelling-scalars : (w : Lexeme) → HasBytes w → AreScalars (spelling-of w)
spelling-scalars (a_name c) n = n.1
spelling-scalars (a_variable a) n = scalars_append (39 ∷ []) a refl n.1
spelling-scalars (a_number None) n = refl
spelling-scalars (a_number (Some k)) n = decimal_scalars k (omega (arith, n))
spelling-scalars (a_sign k) n = sign-scalars k

scalars-of : (ws : List Lexeme) → HaveBytes ws → AreScalars (spaced-out ws)
scalars-of [] h = refl
scalars-of (w ∷ ws) h =
    scalars_append (32 ∷ []) (spelling-of w ++ spaced-out ws) refl (scalars_append (spelling-of w) (spaced-out ws) (spelling-scalars w h.0) (scalars-of ws h.1))

pub lexemes_have_a_text : (ws : List Lexeme) → HaveBytes ws → (text : List ℕ) × IsRead text ws
lexemes_have_a_text ws h = (encode_utf8_all (spaced-out ws), lexemes_read (encode_utf8_all (spaced-out ws)) ws (whole (spaced-out ws) ws (scalars-of ws h) (cuts-of ws h)))

-- ---- what goes on

-- what a language goes on with, where it has with other lexemes what it has
pub goes_on_good : (L : Language) → ((vs : List Lexeme) → L vs → L (all-good vs)) → (text : List ℕ) (ws : List Lexeme) (at : Left) → Reads (left_of text) ws at → IsViable L ws
    → (longer : List ℕ) × (more : List Lexeme) × IsRead longer (ws ++ more) × L (ws ++ more)
goes_on_good L repaired text ws at r (more, w) =
    let have : HaveBytes ws = reads-have (left_of text) at ws (left-scalars text) r in
    let same : all-good (ws ++ more) ≡ ws ++ all-good more = map-append good ws more ∙ ap (λ (z : List Lexeme). z ++ all-good more) (all_kept ws have) in
    let read = lexemes_have_a_text (ws ++ all-good more) (have_append ws (all-good more) have (good_have more)) in
    (read.0, all-good more, read.1, subst L same (repaired (ws ++ more) w))

pub what_goes_on : (f : Form) (text : List ℕ) (ws : List Lexeme) (at : Left) → IsSpelt f → Reads (left_of text) ws at → IsViable (IsWhole f) ws
    → (longer : List ℕ) × (more : List Lexeme) × IsRead longer (ws ++ more) × (cs : List Command) × HasCommands f longer cs
what_goes_on f text ws at s r v =
    let k = goes_on_good (IsWhole f) (whole_good f s) text ws at r v in
    let whole = k.3 in
    (k.0, k.1, k.2, commands_of whole.0, (ws ++ k.1, k.2, (whole.0, whole.1, whole.2, refl)))

pub type_goes_on : (text : List ℕ) (ws : List Lexeme) (at : Left) → Reads (left_of text) ws at → IsViable BeginsWithType ws
    → (longer : List ℕ) × (more : List Lexeme) × IsRead longer (ws ++ more) × BeginsWithType (ws ++ more)
type_goes_on = goes_on_good BeginsWithType type_begins_good

pub term_goes_on : (text : List ℕ) (ws : List Lexeme) (at : Left) → Reads (left_of text) ws at → IsViable BeginsWithTerm ws
    → (longer : List ℕ) × (more : List Lexeme) × IsRead longer (ws ++ more) × BeginsWithTerm (ws ++ more)
term_goes_on = goes_on_good BeginsWithTerm term_begins_good
