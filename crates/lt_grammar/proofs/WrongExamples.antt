-- Texts with a wrong place of each kind.
use Rattle.std.proofs.Common.{lit<, ◌≡◌, ℕ, ◌∙◌, ap, sym, refl, subst, inl, inr, Bool, true, List, [], ◌∷◌, ◌++◌, arith, codes, Option, Some, None}
use Rattle.std.specs.Prelude.{if◌then◌else◌, MatchOption}
use Rattle.std.specs.Str.{chars, is_utf8}
use Rattle.std.specs.Str.Lossy.{utf8_valid_len}
use Rattle.lt_texts.specs.declared.lexical.Token.{Token as Placed}
use Rattle.lt_texts.specs.declared.lexical.Lexed.TheVariants.{Token, End, BadByte, BadChar}
use Rattle.lt_texts.specs.declared.lexical.TokenKind.TheVariants.{Name, Number, OpenSquare, CloseSquare, Semicolon, Colon}
use Rattle.lt_texts.specs.Tokens.{Scanned, run_at, token_at}
use Rattle.lt_texts.specs.Spelling.{NoToken, IsLongest}
use Rattle.lt_texts.specs.Texts.{Left, left_of, place_of}
use Rattle.lt_texts.specs.Lexemes.{Lexeme, a_name, a_variable, a_number, a_sign, lexeme}
use Rattle.lt_texts.specs.Reading.{IsNextToken, Shows, Reads}
use Rattle.lt_texts.specs.Commands.{item_command}
use Rattle.lt_texts.specs.Forms.{plain_text, header_again, a_command, header_text, sentence_text}
use Rattle.lt_texts.specs.WrongPlaces.{Wrong, bad_header, bad_command, bad_syntax, bad_byte, bad_char, Language, IsWhole, IsRest, IsViable, IsFront, IsWrong, Begins, FailsAt, HeaderFailsAt, IsFirstWrong, BeginsWithTerm, EndsThere, TermFailsAt}
use Rattle.lt_definitions.specs.Types.{TypeTree, type_variable, type_constructor, no_types, type_and, row, bool}
use Rattle.lt_definitions.specs.Items.{const_item}
use Rattle.lt_texts.specs.Writing.{type_lexemes, types_lexemes, word, bound, free, lambda, applied}
use Rattle.unicode_ident.specs.Ident.{is_xid_continue}
use Rattle.lt_texts.proofs.CharacterRuns.{starts_name-ascii}
use Rattle.lt_texts.proofs.GapLemmas.{gap_exact}
use Rattle.lt_texts.proofs.NextTokens.{spelt_read}
use Rattle.lt_texts.proofs.TokenEnds.{longest_found}
use Rattle.lt_texts.proofs.Readings.{next_found, lexed_shown, spans_reads}
use Rattle.lt_grammar.specs.declared.words.Head.TheVariants.{Header, Item}
use Rattle.lt_grammar.specs.declared.words.ItemWord.TheVariants.{Const}
use Rattle.lt_grammar.proofs.Cuts.{Cut, Cuts, nothing_cut, cuts_spans, cut_name, cut-sign, spaced, space-stops}
use Rattle.lt_grammar.proofs.PieceCuts.{is_ascii_name, ascii_name, semicolon_sign, semicolon_ends}
use Rattle.lt_grammar.proofs.FirstWrong.{fault_is_first_wrong, header_is_first_wrong}
use Rattle.lt_grammar.proofs.TextLaws.{header_begins}
use Rattle.lt_grammar.proofs.EachPlace.{rest-word, rest-within, whole-within}

-- a place of a text, by the characters that are ahead
abbrev pub at : List ℕ → List ℕ → Left
at text cs = record { source = text; ahead = cs }

pub read-cuts : (text cs : List ℕ) (ws : List Lexeme) (rest : List ℕ) → Cuts cs ws rest → Reads (at text cs) ws (at text rest)
read-cuts text cs ws rest c = spans_reads (at text cs) ws (at text rest) (cuts_spans (at text cs) ws rest c)

-- one lexeme and those behind it
pub put : (text : List ℕ) (w : Lexeme) (more : List ℕ) (ws : List Lexeme) (rest : List ℕ) → Cut text w more → Cuts more ws rest → Cuts text (w ∷ ws) rest
unfolding Cuts
put text w more ws rest c l = (more, c, l)

-- the token that is cut next, and its place
next-cut : (s : Left) (w : Lexeme) (rest : List ℕ) (c : Cut s.ahead w rest)
    → (t : Scanned) × (n : IsNextToken s t) × (place_of s (c.word ++ rest) ≡ place_of s n.found) × (w ≡ lexeme t.kind t.spelling)
next-cut s w rest c =
    let r = spelt_read s c.kind c.word rest ((gap_exact s.ahead (c.word ++ rest)).1 c.gap) c.spelt c.stops in
    let p : Placed = record { kind = c.kind; from = place_of s (c.word ++ rest); to = place_of s rest } in
    let shown : Shows s (Token p) = subst (Shows s) r.token (lexed_shown s) in
    let t = shown.0 in let n = shown.1 in let is = shown.2 in
    let f = next_found s t n in
    let kinds : c.kind ≡ t.kind = ap (λ (z : Placed). z.kind) is in
    let spellings : c.word ≡ t.spelling = sym r.spelling ∙ f.spelling in
    (t, n, ap (λ (z : Placed). z.from) is, c.same ∙ (λ i. lexeme (kinds i) (spellings i)))

wrong-token : (L : Language) (call : ℕ → Wrong) (ws : List Lexeme) (s : Left) (w : Lexeme) (rest : List ℕ) (c : Cut s.ahead w rest) → (IsViable L (ws ++ w ∷ []) → ⊥)
    → IsWrong L call ws s (call (place_of s (c.word ++ rest)))
wrong-token L call ws s w rest c stops =
    let r = next-cut s w rest c in
    inr (inr (place_of s (c.word ++ rest), inl (r.0, r.1, r.2, λ v. stops (subst (λ (z : Lexeme). IsViable L (ws ++ z ∷ [])) (sym r.3) v)), refl))

-- ---- the header, and what is cut behind it

one-cut : (cs : List ℕ) (ws : List Lexeme) (rest : List ℕ) → Cuts cs ws rest → Cuts (49 ∷ 59 ∷ cs) (a_number (Some 1) ∷ a_sign Semicolon ∷ ws) rest
unfolding Cuts
one-cut cs ws rest l = (59 ∷ cs, record { kind = Number; word = 49 ∷ []; gap = refl; spelt = refl; stops = refl; same = refl }, cut-sign Semicolon 59 semicolon_sign cs ws rest l)

-- a word and a space
word-cut : (w cs : List ℕ) (ws : List Lexeme) (rest : List ℕ) → is_ascii_name w ≡ true → Cuts (32 ∷ cs) ws rest → Cuts (w ++ 32 ∷ cs) (a_name w ∷ ws) rest
word-cut w cs ws rest h l = cut_name w (32 ∷ cs) ws rest (ascii_name w h) (space-stops cs) l

header-cut : (cs : List ℕ) → Cuts (codes "plain 1;" ++ cs) (a_name (codes "plain") ∷ a_number (Some 1) ∷ a_sign Semicolon ∷ []) cs
header-cut cs = word-cut (codes "plain") (49 ∷ 59 ∷ cs) _ cs refl (spaced (49 ∷ 59 ∷ cs) _ cs tt (one-cut cs [] cs (nothing_cut cs)))

begins-plain : (text cs : List ℕ) → left_of text ≡ at text (codes "plain 1;" ++ cs) → Begins plain_text text [] (at text cs)
begins-plain text cs e =
    header_begins plain_text text (at text cs) (
      a_name (codes "plain") ∷ a_number (Some 1) ∷ a_sign Semicolon ∷ [],
      (_, refl, (_, refl, (_, refl, refl))),
      subst (λ (z : Left). Reads z (a_name (codes "plain") ∷ a_number (Some 1) ∷ a_sign Semicolon ∷ []) (at text cs)) (sym e)
          (read-cuts text (codes "plain 1;" ++ cs) _ cs (header-cut cs)),
    )

header-front : IsFront (header_text plain_text) []
header-front = (a_name (codes "plain"), a_number (Some 1) ∷ a_sign Semicolon ∷ [], (_, refl, (_, refl, (_, refl, refl))))

-- what stands behind the header begins nothing
wrong-behind : (text cs : List ℕ) (e : Wrong) → left_of text ≡ at text (codes "plain 1;" ++ cs) → IsWrong (IsRest plain_text) bad_command [] (at text cs) e → IsFirstWrong plain_text text e
wrong-behind text cs e l wrong =
    fault_is_first_wrong plain_text text [] (at text cs) e (begins-plain text cs l)
    ([], tt, at text cs, ([], refl, refl), header_again, tt, [], header-front, at text cs, refl, wrong)

-- ---- a word that begins no item

abbrev pub law-text : List ℕ
law-text = codes "plain 1; law a b;"

law-left : left_of law-text ≡ at law-text law-text
unfolding utf8_valid_len chars is_utf8 lib.Utf8.encode
law-left = refl

abbrev law-word : Cut (codes " law a b;") (a_name (codes "law")) (codes " a b;")
law-word = record { kind = Name; word = codes "law"; gap = refl; spelt = ascii_name (codes "law") refl; stops = space-stops (codes "a b;"); same = refl }

no-law : IsViable (IsRest plain_text) (a_name (codes "law") ∷ []) → ⊥
no-law (more, h) =
    let r = rest-word plain_text (codes "law") more h in
    let clash : None ≡ Some r.0 = r.1 in
    absurd (cc clash)

pub law_is_wrong : IsFirstWrong plain_text law-text (bad_command 9)
unfolding utf8_valid_len chars is_utf8 lib.Utf8.encode
law_is_wrong =
    wrong-behind law-text (codes " law a b;") (bad_command 9) law-left
    (wrong-token (IsRest plain_text) bad_command [] (at law-text (codes " law a b;")) (a_name (codes "law")) (codes " a b;") law-word no-law)

-- ---- a type where a colon is wanted, and a text that ends there

abbrev const-begun : List Lexeme
const-begun = a_name (codes "const") ∷ a_name (codes "p") ∷ []

const-front : IsFront (sentence_text plain_text (a_command (item_command (const_item (codes "p") bool)))) const-begun
const-front = (a_sign Colon, a_name (codes "bool") ∷ a_sign Semicolon ∷ [], (_, refl, (_, refl, (_, refl, (_, refl, (_, refl, refl))))))

-- behind them a colon stands
const-colon : (ws : List Lexeme) → IsRest plain_text (a_name (codes "const") ∷ a_name (codes "p") ∷ ws) → (more : List Lexeme) × (ws ≡ a_sign Colon ∷ more)
const-colon ws h =
    let r = rest-within plain_text (codes "const") (Item Const) (a_name (codes "p") ∷ ws) refl h in
    let a = r.1 in let name = a.1 in let b = a.2 in
    let named : a_name (codes "p") ∷ ws ≡ a_name name.0 ∷ a.0 = name.1 in
    let tail : ws ≡ a.0 = cc named in
    (b.0, tail ∙ b.1)

const-fails : (text cs rest : List ℕ) (e : Wrong) → left_of text ≡ at text (codes "plain 1;" ++ cs) → Cuts cs const-begun rest
    → IsWrong (IsRest plain_text) bad_syntax const-begun (at text rest) e → IsFirstWrong plain_text text e
const-fails text cs rest e l c wrong =
    fault_is_first_wrong plain_text text [] (at text cs) e (begins-plain text cs l)
    ([], tt, at text cs, ([], refl, refl), a_command (item_command (const_item (codes "p") bool)), refl, const-begun, const-front, at text rest, read-cuts text cs const-begun rest c, wrong)

abbrev pub const-text : List ℕ
const-text = codes "plain 1; const p bool;"

const-left : left_of const-text ≡ at const-text const-text
unfolding utf8_valid_len chars is_utf8 lib.Utf8.encode
const-left = refl

const-cuts : Cuts (codes " const p bool;") const-begun (codes " bool;")
const-cuts =
    spaced (codes "const p bool;") const-begun (codes " bool;") tt
    (word-cut (codes "const") (codes "p bool;") (a_name (codes "p") ∷ []) (codes " bool;") refl
    (spaced (codes "p bool;") (a_name (codes "p") ∷ []) (codes " bool;") tt (word-cut (codes "p") (codes "bool;") [] (codes " bool;") refl (nothing_cut (codes " bool;")))))

abbrev bool-word : Cut (codes " bool;") (a_name (codes "bool")) (codes ";")
bool-word = record { kind = Name; word = codes "bool"; gap = refl; spelt = ascii_name (codes "bool") refl; stops = (semicolon_ends []).name; same = refl }

no-bool : IsViable (IsRest plain_text) (a_name (codes "const") ∷ a_name (codes "p") ∷ a_name (codes "bool") ∷ []) → ⊥
no-bool (more, h) =
    let r = const-colon (a_name (codes "bool") ∷ more) h in
    let clash : a_name (codes "bool") ∷ more ≡ a_sign Colon ∷ r.0 = r.1 in
    absurd (cc clash)

pub bool_is_wrong : IsFirstWrong plain_text const-text (bad_syntax 17)
unfolding utf8_valid_len chars is_utf8 lib.Utf8.encode
bool_is_wrong =
    const-fails const-text (codes " const p bool;") (codes " bool;") (bad_syntax 17) const-left const-cuts
    (wrong-token (IsRest plain_text) bad_syntax const-begun (at const-text (codes " bool;")) (a_name (codes "bool")) (codes ";") bool-word no-bool)

abbrev pub cut-text : List ℕ
cut-text = codes "plain 1; const p"

cut-left : left_of cut-text ≡ at cut-text cut-text
unfolding utf8_valid_len chars is_utf8 lib.Utf8.encode
cut-left = refl

end-cuts : Cuts (codes " const p") const-begun []
end-cuts =
    spaced (codes "const p") const-begun [] tt
    (word-cut (codes "const") (codes "p") (a_name (codes "p") ∷ []) [] refl
    (spaced (codes "p") (a_name (codes "p") ∷ []) [] tt (cut_name (codes "p") [] [] [] (ascii_name (codes "p") refl) refl (nothing_cut []))))

end-shows : Shows (at cut-text []) End
unfolding utf8_valid_len chars is_utf8 lib.Utf8.encode
end-shows = ((gap_exact [] []).1 refl, refl)

no-end : IsRest plain_text const-begun → ⊥
no-end h =
    let r = const-colon [] h in
    let clash : [] ≡ a_sign Colon ∷ r.0 = r.1 in
    absurd (cc clash)

pub end_is_wrong : IsFirstWrong plain_text cut-text (bad_syntax 16)
end_is_wrong = const-fails cut-text (codes " const p") [] (bad_syntax 16) cut-left end-cuts (inr (inr (16, inr (end-shows, refl, no-end), refl)))

-- ---- another number in a header, and in one that stands again

same-number : (n k : ℕ) (x y : List Lexeme) → a_number (Some n) ∷ x ≡ a_number (Some k) ∷ y → n ≡ k
same-number n k x y e = cc e

abbrev two-cut : Cut (codes " 2;") (a_number (Some 2)) (codes ";")
two-cut = record { kind = Number; word = codes "2"; gap = refl; spelt = refl; stops = refl; same = refl }

plain-front : IsFront (header_text plain_text) (a_name (codes "plain") ∷ [])
plain-front = (a_number (Some 1), a_sign Semicolon ∷ [], (_, refl, (_, refl, (_, refl, refl))))

abbrev pub header-text : List ℕ
header-text = codes "plain 2;"

header-left : left_of header-text ≡ at header-text header-text
unfolding utf8_valid_len chars is_utf8 lib.Utf8.encode
header-left = refl

no-header : IsViable (IsWhole plain_text) (a_name (codes "plain") ∷ a_number (Some 2) ∷ []) → ⊥
no-header (more, h) =
    let r = whole-within plain_text (a_name (codes "plain") ∷ a_number (Some 2) ∷ more) h in
    let a = r.1 in let b = a.2 in
    let worded : a_name (codes "plain") ∷ a_number (Some 2) ∷ more ≡ a_name (codes "plain") ∷ a.0 = a.1 in
    let tail : a_number (Some 2) ∷ more ≡ a.0 = cc worded in
    let same = same-number 2 1 more b.0 (tail ∙ b.1) in
    omega (arith, same)

header-fails : HeaderFailsAt plain_text (at header-text header-text) (bad_header 6)
unfolding utf8_valid_len chars is_utf8 lib.Utf8.encode
header-fails = (
  a_name (codes "plain") ∷ [],
  plain-front,
  at header-text (codes " 2;"),
  read-cuts header-text header-text (a_name (codes "plain") ∷ []) (codes " 2;") (word-cut (codes "plain") (codes "2;") [] (codes " 2;") refl (nothing_cut (codes " 2;"))),
  wrong-token (IsWhole plain_text) bad_header (a_name (codes "plain") ∷ []) (at header-text (codes " 2;")) (a_number (Some 2)) (codes ";") two-cut no-header,
)

pub header_is_wrong : IsFirstWrong plain_text header-text (bad_header 6)
header_is_wrong = header_is_first_wrong plain_text header-text (bad_header 6) (subst (λ (z : Left). HeaderFailsAt plain_text z (bad_header 6)) (sym header-left) header-fails)

abbrev pub again-text : List ℕ
again-text = codes "plain 1; plain 2;"

again-left : left_of again-text ≡ at again-text again-text
unfolding utf8_valid_len chars is_utf8 lib.Utf8.encode
again-left = refl

no-header-again : IsViable (IsRest plain_text) (a_name (codes "plain") ∷ a_number (Some 2) ∷ []) → ⊥
no-header-again (more, h) =
    let r = rest-within plain_text (codes "plain") Header (a_number (Some 2) ∷ more) refl h in
    let a = r.1 in
    let same = same-number 2 1 more a.0 a.1 in
    omega (arith, same)

again-fails : FailsAt plain_text (at again-text (codes " plain 2;")) (bad_header 15)
unfolding utf8_valid_len chars is_utf8 lib.Utf8.encode
again-fails = (
  [],
  tt,
  at again-text (codes " plain 2;"),
  ([], refl, refl),
  header_again,
  tt,
  a_name (codes "plain") ∷ [],
  plain-front,
  at again-text (codes " 2;"),
  read-cuts again-text (codes " plain 2;") (a_name (codes "plain") ∷ []) (codes " 2;")
      (spaced (codes "plain 2;") (a_name (codes "plain") ∷ []) (codes " 2;") tt (word-cut (codes "plain") (codes "2;") [] (codes " 2;") refl (nothing_cut (codes " 2;")))),
  wrong-token (IsRest plain_text) bad_header (a_name (codes "plain") ∷ []) (at again-text (codes " 2;")) (a_number (Some 2)) (codes ";") two-cut no-header-again,
)

pub header_again_is_wrong : IsFirstWrong plain_text again-text (bad_header 15)
header_again_is_wrong =
    fault_is_first_wrong plain_text again-text [] (at again-text (codes " plain 2;")) (bad_header 15) (begins-plain again-text (codes " plain 2;") again-left) again-fails

-- ---- a character that begins no token, and a byte that is no UTF-8

abbrev pub char-text : List ℕ
char-text = codes "plain 1; @"

char-left : left_of char-text ≡ at char-text char-text
unfolding utf8_valid_len chars is_utf8 lib.Utf8.encode
char-left = refl

at-none : token_at (64 ∷ []) ≡ None
at-none = ap (λ (y : Bool). let o : Option Scanned = if y then Some (run_at Name (64 ∷ []) is_xid_continue []) else None in o) (starts_name-ascii 64 (lit< tt))

at-no-token : NoToken (64 ∷ [])
at-no-token = subst (λ (o : Option Scanned). MatchOption o (NoToken (64 ∷ [])) (λ u. IsLongest (64 ∷ []) u)) at-none (longest_found (64 ∷ []))

char-shows : Shows (at char-text (codes " @")) (BadChar 9)
unfolding utf8_valid_len chars is_utf8 lib.Utf8.encode
char-shows = (64, [], (gap_exact (codes " @") (64 ∷ [])).1 refl, at-no-token, refl)

pub char_is_wrong : IsFirstWrong plain_text char-text (bad_char 9)
char_is_wrong = wrong-behind char-text (codes " @") (bad_char 9) char-left (inr (inl (9, char-shows, refl)))

abbrev pub byte-text : List ℕ
byte-text = codes "plain 1; #" ++ 255 ∷ []

byte-left : left_of byte-text ≡ at byte-text (codes "plain 1; #")
unfolding utf8_valid_len chars is_utf8 lib.Utf8.encode
byte-left = refl

byte-shows : Shows (at byte-text (codes " #")) (BadByte 10)
unfolding utf8_valid_len chars is_utf8 lib.Utf8.encode
byte-shows = ((gap_exact (codes " #") []).1 refl, (λ e. let clash : 10 ≡ 11 = e in absurd (omega (arith, clash))), refl)

pub byte_is_wrong : IsFirstWrong plain_text byte-text (bad_byte 10)
byte_is_wrong = wrong-behind byte-text (codes " #") (bad_byte 10) byte-left (inl (10, byte-shows, refl))

-- ---- a term alone

abbrev pub term-text : List ℕ
term-text = codes "f ["

term-left : left_of term-text ≡ at term-text term-text
unfolding utf8_valid_len chars is_utf8 lib.Utf8.encode
term-left = refl

abbrev square-begun : List Lexeme
square-begun = a_name (codes "f") ∷ a_sign OpenSquare ∷ []

square-cuts : Cuts term-text square-begun []
square-cuts =
    put term-text (a_name (codes "f")) (codes " [") (a_sign OpenSquare ∷ []) []
    (record { kind = Name; word = codes "f"; gap = refl; spelt = ascii_name (codes "f") refl; stops = space-stops (codes "["); same = refl })
    (put (codes " [") (a_sign OpenSquare) [] [] [] (record { kind = OpenSquare; word = codes "["; gap = refl; spelt = refl; stops = refl; same = refl }) (nothing_cut []))

term-end : Shows (at term-text []) End
unfolding utf8_valid_len chars is_utf8 lib.Utf8.encode
term-end = ((gap_exact [] []).1 refl, refl)

nothing-typed : (t : TypeTree) (rest : List Lexeme) → [] ≡ type_lexemes t rest → ⊥
nothing-typed (type_variable a) rest e = absurd (cc e)
nothing-typed (type_constructor c no_types) rest e = absurd (cc e)
nothing-typed (type_constructor c (type_and t ts)) rest e = absurd (cc e)

no-term : BeginsWithTerm square-begun → ⊥
no-term (word c [], rest, e, n) =
    let tail : a_sign OpenSquare ∷ [] ≡ rest = cc e in
    subst (EndsThere (word c [])) (sym tail) n
no-term (word c (t ∷ ts), rest, e, n) =
    let tail : [] ≡ type_lexemes t (types_lexemes (row ts) (a_sign CloseSquare ∷ rest)) = cc e in
    nothing-typed t (types_lexemes (row ts) (a_sign CloseSquare ∷ rest)) tail
no-term (bound x, rest, e, n) = absurd (cc e)
no-term (free x ty, rest, e, n) = absurd (cc e)
no-term (lambda x ty b, rest, e, n) = absurd (cc e)
no-term (applied f a more, rest, e, n) = absurd (cc e)

pub term_is_wrong : TermFailsAt (left_of term-text) (bad_syntax 3)
term_is_wrong = subst (λ (z : Left). TermFailsAt z (bad_syntax 3)) (sym term-left) (
  square-begun,
  at term-text [],
  read-cuts term-text term-text square-begun [] square-cuts,
  (a_variable [] ∷ a_sign CloseSquare ∷ [], (word (codes "f") (type_variable [] ∷ []), [], refl, tt)),
  no-term,
  inr (inr (3, inr (term-end, refl, no-term), refl)),
)
