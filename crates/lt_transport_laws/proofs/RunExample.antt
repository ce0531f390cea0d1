-- A run over a text whose second command is refused, from its bytes.
use Rattle.std.specs.Prelude.{◌≡◌, ℕ, ◌≤◌, List, [], ◌∷◌, ◌++◌, true, false, Some, codes, length}
use Rattle.std.proofs.Common.{refl, subst, sym, inr, arith}
use Rattle.std.specs.Str.Lossy.{utf8_valid_len}
use Rattle.std.specs.Str.{chars, is_utf8}
use Rattle.lt_definitions.specs.Characters.{behind_gap, number_of}
use Rattle.lt_definitions.specs.Items.{type_item}
use Rattle.lt_definitions.specs.Theory.{unknown_statement}
use Rattle.lt_texts.specs.declared.lexical.TokenKind.TheVariants.{Name, Number, Semicolon}
use Rattle.lt_texts.specs.Spelling.{is_spelt, stops}
use Rattle.lt_texts.specs.Texts.{Left, left_of}
use Rattle.lt_texts.specs.Lexemes.{Lexeme, a_name, a_number, a_sign}
use Rattle.lt_texts.specs.Reading.{Reads}
use Rattle.lt_texts.specs.Commands.{item_command, law_command}
use Rattle.lt_texts.specs.Forms.{theory_text, header_text, a_command, sentence_text}
use Rattle.lt_texts.specs.WrongPlaces.{Stands}
use Rattle.lt_texts.specs.CommandPlaces.{IsFirstPlace, NextPlaced}
use Rattle.lt_texts.proofs.GapLemmas.{gap_exact}
use Rattle.lt_grammar.proofs.Cuts.{Cuts, nothing_cut, space-stops, Stopped}
use Rattle.lt_grammar.proofs.PieceCuts.{is_ascii_name, ascii_name, semicolon_ends}
use Rattle.lt_grammar.proofs.WrongExamples.{at, read-cuts, put}
use Rattle.lt_walks.specs.Walks.{refused, WalksText, Walks}
use Rattle.lt_transport_definitions.specs.Commands.{as_item}
use Rattle.lt_transport_definitions.specs.TheoryWalks.{theory_limit, RunsText}

-- a word, a number and a semicolon behind a gap
named : (text name more : List ℕ) (ws : List Lexeme) (rest : List ℕ) → behind_gap false text ≡ name ++ more → is_ascii_name name ≡ true → Stopped more → Cuts more ws rest → Cuts text (a_name name ∷ ws) rest
named text name more ws rest g h k l = put text (a_name name) more ws rest (record { kind = Name; word = name; gap = g; spelt = ascii_name name h; stops = k; same = refl }) l

numbered : (text digits more : List ℕ) (ws : List Lexeme) (rest : List ℕ) → behind_gap false text ≡ digits ++ more → is_spelt Number digits ≡ true → stops Number more ≡ true
    → Cuts more ws rest → Cuts text (a_number (number_of digits) ∷ ws) rest
numbered text digits more ws rest g h k l = put text (a_number (number_of digits)) more ws rest (record { kind = Number; word = digits; gap = g; spelt = h; stops = k; same = refl }) l

ended : (text more : List ℕ) (ws : List Lexeme) (rest : List ℕ) → behind_gap false text ≡ codes ";" ++ more → stops Semicolon more ≡ true → Cuts more ws rest → Cuts text (a_sign Semicolon ∷ ws) rest
ended text more ws rest g k l = put text (a_sign Semicolon) more ws rest (record { kind = Semicolon; word = codes ";"; gap = g; spelt = refl; stops = k; same = refl }) l

abbrev pub run-text : List ℕ
run-text = codes "theory 1;\ntype n 0;\nlaw w l;"

run-left : left_of run-text ≡ at run-text run-text
unfolding utf8_valid_len chars is_utf8 lib.Utf8.encode
run-left = refl

-- the header

header-cuts : Cuts run-text (a_name (codes "theory") ∷ a_number (Some 1) ∷ a_sign Semicolon ∷ []) (codes "\ntype n 0;\nlaw w l;")
header-cuts =
    named run-text (codes "theory") (codes " 1;\ntype n 0;\nlaw w l;") _ _ refl refl (space-stops (codes "1;\ntype n 0;\nlaw w l;"))
    (numbered (codes " 1;\ntype n 0;\nlaw w l;") (codes "1") (codes ";\ntype n 0;\nlaw w l;") _ _ refl refl refl
    (ended (codes ";\ntype n 0;\nlaw w l;") (codes "\ntype n 0;\nlaw w l;") _ _ refl refl (nothing_cut (codes "\ntype n 0;\nlaw w l;"))))

header-stands : Stands (left_of run-text) (header_text theory_text) (at run-text (codes "\ntype n 0;\nlaw w l;"))
header-stands = (
  a_name (codes "theory") ∷ a_number (Some 1) ∷ a_sign Semicolon ∷ [],
  (_, refl, (_, refl, (_, refl, refl))),
  subst (λ (z : Left). Reads z (a_name (codes "theory") ∷ a_number (Some 1) ∷ a_sign Semicolon ∷ []) (at run-text (codes "\ntype n 0;\nlaw w l;"))) (sym run-left)
      (read-cuts run-text run-text _ (codes "\ntype n 0;\nlaw w l;") header-cuts),
)

-- the first command

type-cuts : Cuts (codes "\ntype n 0;\nlaw w l;") (a_name (codes "type") ∷ a_name (codes "n") ∷ a_number (Some 0) ∷ a_sign Semicolon ∷ []) (codes "\nlaw w l;")
type-cuts =
    named (codes "\ntype n 0;\nlaw w l;") (codes "type") (codes " n 0;\nlaw w l;") _ _ refl refl (space-stops (codes "n 0;\nlaw w l;"))
    (named (codes " n 0;\nlaw w l;") (codes "n") (codes " 0;\nlaw w l;") _ _ refl refl (space-stops (codes "0;\nlaw w l;"))
    (numbered (codes " 0;\nlaw w l;") (codes "0") (codes ";\nlaw w l;") _ _ refl refl refl
    (ended (codes ";\nlaw w l;") (codes "\nlaw w l;") _ _ refl refl (nothing_cut (codes "\nlaw w l;")))))

type-stands : Stands (at run-text (codes "\ntype n 0;\nlaw w l;")) (sentence_text theory_text (a_command (item_command (type_item (codes "n") 0)))) (at run-text (codes "\nlaw w l;"))
type-stands = (
  a_name (codes "type") ∷ a_name (codes "n") ∷ a_number (Some 0) ∷ a_sign Semicolon ∷ [],
  (_, refl, (_, refl, (_, refl, (_, refl, refl)))),
  read-cuts run-text (codes "\ntype n 0;\nlaw w l;") _ (codes "\nlaw w l;") type-cuts,
)

type-first : IsFirstPlace (at run-text (codes "\ntype n 0;\nlaw w l;")) 10
unfolding utf8_valid_len chars is_utf8 lib.Utf8.encode
type-first = (codes "type n 0;\nlaw w l;", (gap_exact (codes "\ntype n 0;\nlaw w l;") (codes "type n 0;\nlaw w l;")).1 refl, refl)

type-placed : NextPlaced theory_text (at run-text (codes "\ntype n 0;\nlaw w l;")) (item_command (type_item (codes "n") 0)) 10 [] 19 (at run-text (codes "\nlaw w l;"))
unfolding utf8_valid_len chars is_utf8 lib.Utf8.encode
type-placed = ([], tt, refl, at run-text (codes "\ntype n 0;\nlaw w l;"), ([], refl, refl), type-first, (refl, type-stands), refl)

-- the second

law-cuts : Cuts (codes "\nlaw w l;") (a_name (codes "law") ∷ a_name (codes "w") ∷ a_name (codes "l") ∷ a_sign Semicolon ∷ []) []
law-cuts =
    named (codes "\nlaw w l;") (codes "law") (codes " w l;") _ _ refl refl (space-stops (codes "w l;"))
    (named (codes " w l;") (codes "w") (codes " l;") _ _ refl refl (space-stops (codes "l;"))
    (named (codes " l;") (codes "l") (codes ";") _ _ refl refl (semicolon_ends []).name (ended (codes ";") [] _ _ refl refl (nothing_cut []))))

law-stands : Stands (at run-text (codes "\nlaw w l;")) (sentence_text theory_text (a_command (law_command (codes "w") (codes "l")))) (at run-text [])
law-stands = (
  a_name (codes "law") ∷ a_name (codes "w") ∷ a_name (codes "l") ∷ a_sign Semicolon ∷ [],
  (_, refl, (_, refl, (_, refl, (_, refl, refl)))),
  read-cuts run-text (codes "\nlaw w l;") _ [] law-cuts,
)

law-first : IsFirstPlace (at run-text (codes "\nlaw w l;")) 20
unfolding utf8_valid_len chars is_utf8 lib.Utf8.encode
law-first = (codes "law w l;", (gap_exact (codes "\nlaw w l;") (codes "law w l;")).1 refl, refl)

law-placed : NextPlaced theory_text (at run-text (codes "\nlaw w l;")) (law_command (codes "w") (codes "l")) 20 [] 28 (at run-text [])
unfolding utf8_valid_len chars is_utf8 lib.Utf8.encode
law-placed = ([], tt, refl, at run-text (codes "\nlaw w l;"), ([], refl, refl), law-first, (refl, law-stands), refl)

-- the walk

is-short : length run-text ≤ theory_limit
is-short = let e : length run-text ≡ 28 = refl in omega arith

pub runs-to-refusal : RunsText 5 run-text ((type_item (codes "n") 0 ∷ []) ∷ []) (refused (as_item (unknown_statement (codes "l"))) 20)
unfolding Walks WalksText
runs-to-refusal = inr (
  is-short,
  inr (
    at run-text (codes "\ntype n 0;\nlaw w l;"),
    header-stands,
    (
      item_command (type_item (codes "n") 0),
      10,
      [],
      19,
      at run-text (codes "\nlaw w l;"),
      type-placed,
      _,
      (_, refl, (refl, tt), (refl, tt), refl),
      inr (inr (law_command (codes "w") (codes "l"), 20, [], 28, at run-text [], law-placed, _, refl, refl)),
    ),
  ),
)
