-- One reading of a type and of a term, and how a text goes on from command to command.
use Rattle.std.proofs.Common.{◌≡◌, ℕ, ◌∙◌, ap, sym, refl, subst, List, [], ◌∷◌, ◌++◌, append-nil}
use Rattle.lt_texts.specs.declared.lexical.TokenKind.TheVariants as kinds
use Rattle.lt_definitions.specs.Types.{TypeTree}
use Rattle.lt_texts.specs.Texts.{Left, left_of}
use Rattle.lt_texts.specs.Lexemes.{Lexeme, a_name, a_variable, a_number, a_sign}
use Rattle.lt_texts.specs.Commands.{Command}
use Rattle.lt_texts.specs.Writing.{TermText, type_lexemes, term_lexemes}
use Rattle.lt_texts.specs.Forms.{Form, Sentence, header_again, a_command, header_text, sentence_text, sentences_text, AreAllowed, commands_of, HasCommands}
use Rattle.lt_texts.specs.WrongPlaces.{IsClear, AreHeaders, Stands, Begins, NextCommand, AtEnd}
use Rattle.lt_texts.proofs.ReadingOrder.{reads_append}
use Rattle.lt_grammar.proofs.OneWay as ways
use Rattle.lt_grammar.proofs.OneWay.{one_type, one_term}
use Rattle.lt_grammar.proofs.Splits.{term_splits}
use Rattle.lt_grammar.proofs.RowPieces.{join_written}
use Rattle.lt_grammar.proofs.Sentences.{join_sentences, allowed_append, sentences_go_on}

pub one_type_reading : (s u : TypeTree) (x y : List Lexeme) → type_lexemes s x ≡ type_lexemes u y → (s ≡ u) × (x ≡ y)
one_type_reading = one_type

-- ---- one reading of a term

ended : Lexeme
ended = a_sign kinds.Semicolon

clear-ended : (x : List Lexeme) → IsClear x → ways.IsClear (x ++ a_sign kinds.Semicolon ∷ [])
clear-ended [] n = tt
clear-ended (a_name c ∷ x) n = tt
clear-ended (a_variable a ∷ x) n = tt
clear-ended (a_number k ∷ x) n = tt
clear-ended (a_sign kinds.Name ∷ x) n = tt
clear-ended (a_sign kinds.TypeVariable ∷ x) n = tt
clear-ended (a_sign kinds.Number ∷ x) n = tt
clear-ended (a_sign kinds.Open ∷ x) n = tt
clear-ended (a_sign kinds.Close ∷ x) n = tt
clear-ended (a_sign kinds.OpenSquare ∷ x) n = absurd n
clear-ended (a_sign kinds.CloseSquare ∷ x) n = tt
clear-ended (a_sign kinds.OpenBrace ∷ x) n = tt
clear-ended (a_sign kinds.CloseBrace ∷ x) n = tt
clear-ended (a_sign kinds.Semicolon ∷ x) n = tt
clear-ended (a_sign kinds.Colon ∷ x) n = tt
clear-ended (a_sign kinds.Becomes ∷ x) n = tt
clear-ended (a_sign kinds.Dollar ∷ x) n = tt
clear-ended (a_sign kinds.Percent ∷ x) n = tt
clear-ended (a_sign kinds.Backslash ∷ x) n = tt

-- one lexeme at the end of both
without-last : (x y : List Lexeme) (w : Lexeme) → x ++ w ∷ [] ≡ y ++ w ∷ [] → x ≡ y
without-last [] [] w e = refl
without-last [] (v ∷ []) w e = absurd (cc e)
without-last [] (v ∷ u ∷ y) w e = absurd (cc e)
without-last (v ∷ []) [] w e = absurd (cc e)
without-last (v ∷ u ∷ x) [] w e = absurd (cc e)
without-last (v ∷ x) (u ∷ y) w e =
    let first : v ≡ u = cc e in
    let tail : x ++ w ∷ [] ≡ y ++ w ∷ [] = cc e in
    let rest = without-last x y w tail in
    cc (first, rest)

pub one_term_reading : (s u : TermText) (x y : List Lexeme) → IsClear x → IsClear y → term_lexemes s x ≡ term_lexemes u y → (s ≡ u) × (x ≡ y)
one_term_reading s u x y m n e =
    let w : Lexeme = a_sign kinds.Semicolon in
    let longer : term_lexemes s (x ++ w ∷ []) ≡ term_lexemes u (y ++ w ∷ []) =
    term_splits s x (w ∷ []) ∙ ap (λ (z : List Lexeme). z ++ w ∷ []) e ∙ sym (term_splits u y (w ∷ [])) in
    let r = one_term s u (x ++ w ∷ []) (y ++ w ∷ []) (clear-ended x m) (clear-ended y n) longer in
    (r.0, without-last x y w r.1)

-- ---- from command to command

pub header_begins : (f : Form) (text : List ℕ) (s : Left) → Stands (left_of text) (header_text f) s → Begins f text [] s
header_begins f text s (ws, w, r) = ([], tt, (ws, join_written (header_text f) [] ws [] [] w refl, r), refl)

commands-append : (xs ys : List Sentence) → commands_of (xs ++ ys) ≡ commands_of xs ++ commands_of ys
commands-append [] ys = refl
commands-append (header_again ∷ xs) ys = commands-append xs ys
commands-append (a_command c ∷ xs) ys = ap (λ (z : List Command). c ∷ z) (commands-append xs ys)

no-commands : (xs : List Sentence) → AreHeaders xs → commands_of xs ≡ []
no-commands [] a = refl
no-commands (header_again ∷ xs) a = no-commands xs a.1
no-commands (a_command c ∷ xs) a = let clash = a.0 in absurd (cc clash)

allowed-headers : (f : Form) (xs : List Sentence) → AreHeaders xs → AreAllowed f xs
allowed-headers f [] a = tt
allowed-headers f (header_again ∷ xs) a = (tt, allowed-headers f xs a.1)
allowed-headers f (a_command c ∷ xs) a = let clash = a.0 in absurd (cc clash)

-- further sentences behind what has begun
goes-on : (f : Form) (text : List ℕ) (cs : List Command) (s s' : Left) (ys : List Sentence) → Begins f text cs s → AreAllowed f ys → Stands s (sentences_text f ys) s'
    → Begins f text (cs ++ commands_of ys) s'
goes-on f text cs s s' ys (xs, a, (ws, w, r), e) b (vs, v, q) = (
  xs ++ ys,
  allowed_append f xs ys a b,
  (ws ++ vs, join_sentences f (header_again ∷ xs) ys (ws ++ vs) vs [] (sentences_go_on f (header_again ∷ xs) ws [] vs w) v, reads_append (left_of text) s s' ws vs r q),
  ap (λ (z : List Command). z ++ commands_of ys) e ∙ sym (commands-append xs ys),
)

pub command_goes_on : (f : Form) (text : List ℕ) (cs : List Command) (s s' : Left) (c : Command) → Begins f text cs s → NextCommand f s c s' → Begins f text (cs ++ c ∷ []) s'
command_goes_on f text cs s s' c b (ys, a, i, m, (hs, w, r), (vs, v, q)) =
    let all = goes-on f text cs s s' (ys ++ a_command c ∷ []) b (allowed_append f ys (a_command c ∷ []) (allowed-headers f ys a) (i, tt))
    (hs ++ vs, join_sentences f ys (a_command c ∷ []) (hs ++ vs) vs [] (sentences_go_on f ys hs [] vs w) (join_written (sentence_text f (a_command c)) [] vs [] [] v refl), reads_append s m s' hs vs r q) in
    subst (λ (z : List Command). Begins f text (cs ++ z) s') (commands-append ys (a_command c ∷ []) ∙ ap (λ (z : List Command). z ++ c ∷ []) (no-commands ys a)) all

pub end_has_commands : (f : Form) (text : List ℕ) (cs : List Command) (s : Left) → Begins f text cs s → AtEnd f s → HasCommands f text cs
end_has_commands f text cs s b (ys, a, s', st, n) =
    let all = goes-on f text cs s s' ys b (allowed-headers f ys a) st in
    let (xs, p, (ws, w, r), e) = subst (λ (z : List Command). Begins f text (cs ++ z) s') (no-commands ys a) all in
    (ws, (s', r, n), (xs, p, w, sym (append-nil cs) ∙ e))
