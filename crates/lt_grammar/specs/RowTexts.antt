-- Whole texts by the reader's rows: lines and sentences in the ways in which they are written, and
-- what they stand for.
use Rattle.std.specs.Prelude.{◌≡◌, List, [], ◌∷◌, true, map, codes}
use Rattle.lt_texts.specs.declared.lexical.TokenKind.TheVariants.{OpenBrace, CloseBrace, Semicolon}
use Rattle.lt_definitions.specs.Types.{Chars}
use Rattle.lt_definitions.specs.Terms.{TermTree}
use Rattle.lt_definitions.specs.Rules.{Rule}
use Rattle.lt_definitions.specs.Items.{lemma_item}
use Rattle.lt_texts.specs.Lexemes.{Lexeme, a_name, a_sign}
use Rattle.lt_texts.specs.Commands.{Command, item_command}
use Rattle.lt_texts.specs.Writing.{TermText, term_of_text}
use Rattle.lt_texts.specs.Forms.{Form, may_stand, Sentence, header_again, a_command}
use Rattle.lt_texts.specs.Forms as forms
use Rattle.lt_grammar.specs.declared.words.RuleWord.{RuleWord}
use Rattle.lt_grammar.specs.declared.words.ItemWord.{ItemWord}
use Rattle.lt_grammar.specs.declared.words.CommandWord.{CommandWord}
use Rattle.lt_grammar.specs.Rows.{Row, Texts, number, parts_lexemes, given_all}
use Rattle.lt_grammar.specs.Table.{rule_row, item_row, lemma_parts, command_row}

-- the lexemes of a row with these texts: its word, its parts and a semicolon, and behind them the
-- rest
abbrev pub row_lexemes : {C : Type 0} → (r : Row C) → Texts r.parts → List Lexeme → List Lexeme
row_lexemes r ts rest = a_name r.word ∷ parts_lexemes r.parts ts (a_sign Semicolon ∷ rest)

-- what a row with these texts stands for
abbrev pub row_meaning : {C : Type 0} → (r : Row C) → Texts r.parts → C
row_meaning r ts = given_all r.parts r.make ts

-- A line of a lemma.
pub data LineText : Type 0 where
  line : (w : RuleWord) → Texts (rule_row w).parts → LineText

abbrev pub lines_lexemes : List LineText → List Lexeme → List Lexeme
lines_lexemes [] rest = rest
lines_lexemes (line w ts ∷ lines) rest = row_lexemes (rule_row w) ts (lines_lexemes lines rest)

abbrev pub rule_of_text : LineText → Rule TermTree
rule_of_text (line w ts) = row_meaning (rule_row w) ts

-- A way to write a sentence: a header, an item by its row, a lemma, or a further command by its
-- row.
pub data PartText : Type 0 where
  header : PartText
  item : (w : ItemWord) → Texts (item_row w).parts → PartText
  lemma : Chars → TermText → List LineText → PartText
  command : (w : CommandWord) → Texts (command_row w).parts → PartText

-- the lexemes of a sentence in a text of the form, and behind them the rest
abbrev pub text_lexemes : Form → PartText → List Lexeme → List Lexeme
text_lexemes f header rest = a_name f.word ∷ number f.number ∷ a_sign Semicolon ∷ rest
text_lexemes f (item w ts) rest = row_lexemes (item_row w) ts rest
text_lexemes f (lemma l p lines) rest =
    a_name (codes "lemma") ∷ parts_lexemes lemma_parts (l, (tt, (p, tt)))
    (a_sign OpenBrace ∷ lines_lexemes lines (a_sign CloseBrace ∷ a_sign Semicolon ∷ rest))
text_lexemes f (command w ts) rest = row_lexemes (command_row w) ts rest

abbrev pub texts_lexemes : Form → List PartText → List Lexeme → List Lexeme
texts_lexemes f [] rest = rest
texts_lexemes f (p ∷ ps) rest = text_lexemes f p (texts_lexemes f ps rest)

-- it may stand in a text of the form
abbrev pub MayStand : Form → PartText → Type 0
MayStand f header = Unit {0}
MayStand f (item w ts) = may_stand f (item_row w).word ≡ true
MayStand f (lemma l p lines) = may_stand f (codes "lemma") ≡ true
MayStand f (command w ts) = may_stand f (command_row w).word ≡ true

abbrev pub MayStandAll : Form → List PartText → Type 0
MayStandAll f [] = Unit {0}
MayStandAll f (p ∷ ps) = MayStand f p × MayStandAll f ps

-- the sentence that is written
abbrev pub sentence_of : PartText → Sentence
sentence_of header = header_again
sentence_of (item w ts) = a_command (item_command (row_meaning (item_row w) ts))
sentence_of (lemma l p lines) =
    a_command (item_command (lemma_item l (term_of_text p) (map rule_of_text lines)))
sentence_of (command w ts) = a_command (row_meaning (command_row w) ts)

-- the commands that are written, in order
abbrev pub commands_of : List PartText → List Command
commands_of ps = forms.commands_of (map sentence_of ps)
