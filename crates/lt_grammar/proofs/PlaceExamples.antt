-- A lemma with the places of its word and of its line.
use Rattle.std.proofs.Common.{◌≡◌, ℕ, refl, true, List, [], ◌∷◌, ◌++◌, codes, false}
use Rattle.std.specs.Str.Lossy.{utf8_valid_len}
use Rattle.std.specs.Str.{chars, is_utf8}
use Rattle.lt_definitions.specs.Characters.{behind_gap}
use Rattle.lt_definitions.specs.Items.{lemma_item}
use Rattle.lt_definitions.specs.Rules.{by_thm}
use Rattle.lt_definitions.specs.Samples.{p}
use Rattle.lt_texts.specs.declared.lexical.TokenKind.{TokenKind}
use Rattle.lt_texts.specs.declared.lexical.TokenKind.TheVariants.{Name, OpenBrace, CloseBrace, Semicolon, Colon}
use Rattle.lt_texts.specs.Spelling.{is_spelt, stops}
use Rattle.lt_texts.specs.Lexemes.{Lexeme, a_name, a_sign, lexeme}
use Rattle.lt_texts.specs.Writing.{word}
use Rattle.lt_texts.specs.Commands.{item_command}
use Rattle.lt_texts.specs.Pieces.{sign_piece, semicolon, line_text, head_text}
use Rattle.lt_texts.specs.Forms.{plain_text}
use Rattle.lt_texts.specs.WrongPlaces.{Stands}
use Rattle.lt_texts.specs.CommandPlaces.{IsFirstPlace, NextPlaced}
use Rattle.lt_texts.proofs.GapLemmas.{gap_exact}
use Rattle.lt_grammar.proofs.Cuts.{Cuts, nothing_cut, space-stops, Stopped}
use Rattle.lt_grammar.proofs.PieceCuts.{is_ascii_name, ascii_name, semicolon_ends}
use Rattle.lt_grammar.proofs.WrongExamples.{at, read-cuts, put}

-- a word behind a gap, and a sign
named : (text name more : List ℕ) (ws : List Lexeme) (rest : List ℕ) → behind_gap false text ≡ name ++ more → is_ascii_name name ≡ true → Stopped more → Cuts more ws rest → Cuts text (a_name name ∷ ws) rest
named text name more ws rest g h k l = put text (a_name name) more ws rest (record { kind = Name; word = name; gap = g; spelt = ascii_name name h; stops = k; same = refl }) l

signed : (kind : TokenKind) (text sign more : List ℕ) (ws : List Lexeme) (rest : List ℕ) → behind_gap false text ≡ sign ++ more → is_spelt kind sign ≡ true → stops kind more ≡ true
    → a_sign kind ≡ lexeme kind sign → Cuts more ws rest → Cuts text (a_sign kind ∷ ws) rest
signed kind text sign more ws rest g h k e l = put text (a_sign kind) more ws rest (record { kind = kind; word = sign; gap = g; spelt = h; stops = k; same = e }) l

abbrev pub lemma-text : List ℕ
lemma-text = codes "plain 1;\nlemma l : p {\n  thm a;\n};"

abbrev opening-lexemes : List Lexeme
opening-lexemes = a_name (codes "lemma") ∷ a_name (codes "l") ∷ a_sign Colon ∷ a_name (codes "p") ∷ a_sign OpenBrace ∷ []

opening-cuts : Cuts (codes "\nlemma l : p {\n  thm a;\n};") opening-lexemes (codes "\n  thm a;\n};")
opening-cuts =
    named (codes "\nlemma l : p {\n  thm a;\n};") (codes "lemma") (codes " l : p {\n  thm a;\n};") _ _ refl refl (space-stops (codes "l : p {\n  thm a;\n};"))
    (named (codes " l : p {\n  thm a;\n};") (codes "l") (codes " : p {\n  thm a;\n};") _ _ refl refl (space-stops (codes ": p {\n  thm a;\n};"))
    (signed Colon (codes " : p {\n  thm a;\n};") (codes ":") (codes " p {\n  thm a;\n};") _ _ refl refl refl refl
    (named (codes " p {\n  thm a;\n};") (codes "p") (codes " {\n  thm a;\n};") _ _ refl refl (space-stops (codes "{\n  thm a;\n};"))
    (signed OpenBrace (codes " {\n  thm a;\n};") (codes "{") (codes "\n  thm a;\n};") _ _ refl refl refl refl (nothing_cut (codes "\n  thm a;\n};"))))))

opening-stands : Stands (at lemma-text (codes "\nlemma l : p {\n  thm a;\n};")) (head_text (lemma_item (codes "l") p (by_thm (codes "a") ∷ [])) ++ sign_piece OpenBrace ∷ [])
    (at lemma-text (codes "\n  thm a;\n};"))
opening-stands = (
  opening-lexemes,
  (_, refl, (_, refl, (_, refl, (a_sign OpenBrace ∷ [], (word (codes "p") [], refl, refl), (_, refl, refl))))),
  read-cuts lemma-text (codes "\nlemma l : p {\n  thm a;\n};") opening-lexemes (codes "\n  thm a;\n};") opening-cuts,
)

abbrev line-lexemes : List Lexeme
line-lexemes = a_name (codes "thm") ∷ a_name (codes "a") ∷ a_sign Semicolon ∷ []

line-cuts : Cuts (codes "\n  thm a;\n};") line-lexemes (codes "\n};")
line-cuts =
    named (codes "\n  thm a;\n};") (codes "thm") (codes " a;\n};") _ _ refl refl (space-stops (codes "a;\n};"))
    (named (codes " a;\n};") (codes "a") (codes ";\n};") _ _ refl refl (semicolon_ends (codes "\n};")).name
    (signed Semicolon (codes ";\n};") (codes ";") (codes "\n};") _ _ refl refl refl refl (nothing_cut (codes "\n};"))))

line-stands : Stands (at lemma-text (codes "\n  thm a;\n};")) (line_text (by_thm (codes "a"))) (at lemma-text (codes "\n};"))
line-stands = (line-lexemes, (_, refl, (_, refl, (_, refl, refl))), read-cuts lemma-text (codes "\n  thm a;\n};") line-lexemes (codes "\n};") line-cuts)

closing-stands : Stands (at lemma-text (codes "\n};")) (sign_piece CloseBrace ∷ semicolon ∷ []) (at lemma-text [])
closing-stands = (
  a_sign CloseBrace ∷ a_sign Semicolon ∷ [],
  (_, refl, (_, refl, refl)),
  read-cuts lemma-text (codes "\n};") (a_sign CloseBrace ∷ a_sign Semicolon ∷ []) []
      (signed CloseBrace (codes "\n};") (codes "}") (codes ";") _ _ refl refl refl refl (signed Semicolon (codes ";") (codes ";") [] _ _ refl refl refl refl (nothing_cut []))),
)

lemma-first : IsFirstPlace (at lemma-text (codes "\nlemma l : p {\n  thm a;\n};")) 9
unfolding utf8_valid_len chars is_utf8 lib.Utf8.encode
lemma-first = (codes "lemma l : p {\n  thm a;\n};", (gap_exact (codes "\nlemma l : p {\n  thm a;\n};") (codes "lemma l : p {\n  thm a;\n};")).1 refl, refl)

line-first : IsFirstPlace (at lemma-text (codes "\n  thm a;\n};")) 25
unfolding utf8_valid_len chars is_utf8 lib.Utf8.encode
line-first = (codes "thm a;\n};", (gap_exact (codes "\n  thm a;\n};") (codes "thm a;\n};")).1 refl, refl)

pub lemma_has_places : NextPlaced plain_text (at lemma-text (codes "\nlemma l : p {\n  thm a;\n};")) (item_command (lemma_item (codes "l") p (by_thm (codes "a") ∷ []))) 9 (25 ∷ []) 34 (at lemma-text [])
unfolding utf8_valid_len chars is_utf8 lib.Utf8.encode
lemma_has_places = (
  [],
  tt,
  refl,
  at lemma-text (codes "\nlemma l : p {\n  thm a;\n};"),
  ([], refl, refl),
  lemma-first,
  (at lemma-text (codes "\n  thm a;\n};"), opening-stands, at lemma-text (codes "\n};"), (line-first, at lemma-text (codes "\n};"), line-stands, refl), closing-stands),
  refl,
)
