-- What is printed is read back.
use Rattle.std.proofs.Common.{◌≡◌, ℕ, ap, sym, refl, subst, true, Bool, List, [], ◌++◌, length, append-nil, arith}
use Rattle.std.specs.Prelude.{if◌then◌else◌, encode_utf8_all, IsUtf8}
use Rattle.std.specs.Str.{all_scalars}
use Rattle.std.proofs.Common.{eq-eqb}
use Rattle.std.proofs.lemmas.Str.{utf8_valid_len-IsUtf8}
use Rattle.lt_texts.specs.declared.lexical.TokenKind.TheVariants.{Name}
use Rattle.lt_texts.specs.declared.lexical.Lexed.TheVariants.{End, BadByte}
use Rattle.lt_definitions.specs.Alpha.{IsAlphaEqual}
use Rattle.lt_texts.specs.Lexemes.{Lexeme, Spans, HasLexemes}
use Rattle.lt_definitions.specs.Printing.{printed_type, printed_term}
use Rattle.lt_texts.specs.Spelling.{stops}
use Rattle.lt_definitions.specs.Terms.{TermTree}
use Rattle.lt_texts.specs.Texts.{Left, end_of}
use Rattle.lt_definitions.specs.Types.{TypeTree}
use Rattle.lt_texts.proofs.NextTokens.{all_ahead}
use Rattle.lt_texts.specs.Named.{IsTypeNamed, IsReadable}
use Rattle.lt_texts.specs.Writing.{TermText, no_more_terms, type_lexemes, term_lexemes, term_of_text}
use Rattle.lt_texts.specs.Reading.{Reads, IsRead}
use Rattle.lt_texts.proofs.Readings.{spans_reads, lexemes_read}
use Rattle.lt_grammar.proofs.Scalars.{type_scalars, term_scalars}
use Rattle.lt_grammar.proofs.Shown.{shown, none_loose, shown_is_alpha}
use Rattle.lt_grammar.proofs.Cuts.{Cuts, Cutting, nothing_cut, cuts_spans, cut_type, cut_term}

-- characters that are cut into lexemes are a text of these lexemes
pub whole : (cs : List ℕ) (ws : List Lexeme) → all_scalars cs ≡ true → Cuts cs ws [] → HasLexemes (encode_utf8_all cs) ws
whole cs ws h c =
    let text = encode_utf8_all cs in
    let s : Left = record { source = text; ahead = cs } in
    let utf8 : IsUtf8 text = (cs, (h, refl)) in
    let ends : end_of s ≡ length text = utf8_valid_len-IsUtf8 text utf8 in (
      record s { ahead = [] },
      subst (λ (x : Left). Spans x ws (record s { ahead = [] })) (sym (all_ahead cs h)) (cuts_spans s ws [] c),
      ap (λ (y : Bool). if y then End else BadByte (end_of s)) (eq-eqb (end_of s) (length text) ends),
    )

cut-whole : (text : List ℕ) (f : List Lexeme → List Lexeme) → Cutting text f → Cuts text (f []) []
cut-whole text f c = subst (λ (z : List ℕ). Cuts z (f []) []) (append-nil text) (c [] [] [] refl (nothing_cut []))

pub printed_types_are_read : (t : TypeTree) → IsTypeNamed t → HasLexemes (encode_utf8_all (printed_type t)) (type_lexemes t [])
printed_types_are_read t n = whole (printed_type t) (type_lexemes t []) (type_scalars t n) (cut-whole (printed_type t) (type_lexemes t) (cut_type t n))

pub printed_terms_are_read : (t : TermTree) → IsReadable t → (x : TermText) × HasLexemes (encode_utf8_all (printed_term [] t)) (term_lexemes x []) × IsAlphaEqual (term_of_text x) t
printed_terms_are_read t (l, n, m) = (
  shown t [] no_more_terms,
  whole (printed_term [] t) (term_lexemes (shown t [] no_more_terms) []) (term_scalars t (l, n, m))
      (cut-whole (printed_term [] t) (term_lexemes (shown t [] no_more_terms)) (cut_term t [] (n, none_loose t l, omega (arith, m)))),
  shown_is_alpha t l m,
)

pub printed_terms_are_read_within : (t : TermTree) → IsReadable t
    → (x : TermText) × IsAlphaEqual (term_of_text x) t × ((s : Left) (rest : List ℕ) → s.ahead ≡ printed_term [] t ++ rest → stops Name rest ≡ true
    → Spans s (term_lexemes x []) (record s { ahead = rest }))
printed_terms_are_read_within t (l, n, m) = (
  shown t [] no_more_terms,
  shown_is_alpha t l m,
  λ s rest e k. cuts_spans s (term_lexemes (shown t [] no_more_terms) []) rest
      (subst (λ (z : List ℕ). Cuts z (term_lexemes (shown t [] no_more_terms) []) rest) (sym e) (cut_term t [] (n, none_loose t l, omega (arith, m)) rest [] rest k (nothing_cut rest))),
)

-- ---- the laws

pub printed_type_read : (t : TypeTree) → IsTypeNamed t → IsRead (encode_utf8_all (printed_type t)) (type_lexemes t [])
printed_type_read t n = lexemes_read (encode_utf8_all (printed_type t)) (type_lexemes t []) (printed_types_are_read t n)

pub printed_term_read : (t : TermTree) → IsReadable t → (x : TermText) × IsRead (encode_utf8_all (printed_term [] t)) (term_lexemes x []) × IsAlphaEqual (term_of_text x) t
printed_term_read t r =
    let k = printed_terms_are_read t r in
    (k.0, lexemes_read (encode_utf8_all (printed_term [] t)) (term_lexemes k.0 []) k.1, k.2)

pub printed_term_read_within : (t : TermTree) → IsReadable t
    → (x : TermText) × IsAlphaEqual (term_of_text x) t × ((s : Left) (rest : List ℕ) → s.ahead ≡ printed_term [] t ++ rest → stops Name rest ≡ true
    → Reads s (term_lexemes x []) (record s { ahead = rest }))
printed_term_read_within t r =
    let k = printed_terms_are_read_within t r in
    (k.0, k.1, λ s rest e q. spans_reads s (term_lexemes k.0 []) (record s { ahead = rest }) (k.2 s rest e q))
