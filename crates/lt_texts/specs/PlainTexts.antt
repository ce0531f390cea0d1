-- The grammar of plain texts: the ways to write each thing, the lexemes of each way, and what it
-- stands for.
-- Source: this project's own.
use Rattle.std.specs.Prelude.{◌≡◌, ℕ, List, [], ◌∷◌, map, Some, codes}
use Rattle.lt_texts.specs.declared.lexical.TokenKind.TheVariants.{Open, Close, OpenBrace, CloseBrace, Semicolon, Colon}
use Rattle.lt_definitions.specs.Types.{Chars, TypeTree, TypeTrees, type_constructor, no_types, type_and}
use Rattle.lt_definitions.specs.Terms.{TermTree, constant, application}
use Rattle.lt_definitions.specs.Rules.{Rule, by_assume, by_impI, by_mp, by_thm}
use Rattle.lt_definitions.specs.Items.{Item, type_item, const_item, axiom_item, lemma_item}
use Rattle.lt_texts.specs.Lexemes.{Lexeme, a_name, a_number, a_sign, HasLexemes}

mutual
  -- A type: a constructor alone, or in brackets with its arguments.
  pub data TypeText : Type 0 where
    alone : Chars → TypeText
    in_brackets : Chars → TypeText → TypeTexts → TypeText

  -- Further types.
  pub data TypeTexts : Type 0 where
    no_more_types : TypeTexts
    more_types : TypeText → TypeTexts → TypeTexts

-- the lexemes of a type, and behind them the rest
abbrev mutual
  pub type_lexemes : TypeText → List Lexeme → List Lexeme
  type_lexemes (alone c) rest = a_name c ∷ rest
  type_lexemes (in_brackets c t ts) rest =
      a_sign Open ∷ a_name c ∷ type_lexemes t (types_lexemes ts (a_sign Close ∷ rest))

  pub types_lexemes : TypeTexts → List Lexeme → List Lexeme
  types_lexemes no_more_types rest = rest
  types_lexemes (more_types t ts) rest = type_lexemes t (types_lexemes ts rest)

-- the type that is written
abbrev mutual
  pub type_of_text : TypeText → TypeTree
  type_of_text (alone c) = type_constructor c no_types
  type_of_text (in_brackets c t ts) =
      type_constructor c (type_and (type_of_text t) (types_of_text ts))

  pub types_of_text : TypeTexts → TypeTrees
  types_of_text no_more_types = no_types
  types_of_text (more_types t ts) = type_and (type_of_text t) (types_of_text ts)

mutual
  -- A term: a constant, or in brackets a function and its arguments, of which there is one at
  -- least.
  pub data TermText : Type 0 where
    word : Chars → TermText
    applied : TermText → TermText → TermTexts → TermText

  -- Further arguments.
  pub data TermTexts : Type 0 where
    no_more_terms : TermTexts
    more_terms : TermText → TermTexts → TermTexts

-- the lexemes of a term, and behind them the rest
abbrev mutual
  pub term_lexemes : TermText → List Lexeme → List Lexeme
  term_lexemes (word c) rest = a_name c ∷ rest
  term_lexemes (applied f a more) rest =
      a_sign Open ∷ term_lexemes f (term_lexemes a (terms_lexemes more (a_sign Close ∷ rest)))

  pub terms_lexemes : TermTexts → List Lexeme → List Lexeme
  terms_lexemes no_more_terms rest = rest
  terms_lexemes (more_terms t more) rest = term_lexemes t (terms_lexemes more rest)

-- the term that is written: a function is applied to its arguments from the left
abbrev mutual
  pub term_of_text : TermText → TermTree
  term_of_text (word c) = constant c []
  term_of_text (applied f a more) = applied_to (application (term_of_text f) (term_of_text a)) more

  pub applied_to : TermTree → TermTexts → TermTree
  applied_to f no_more_terms = f
  applied_to f (more_terms a more) = applied_to (application f (term_of_text a)) more

-- A line of a lemma.
pub data LineText : Type 0 where
  assume_line : TermText → LineText
  impI_line : TermText → ℕ → LineText
  mp_line : ℕ → ℕ → LineText
  thm_line : Chars → LineText

-- the lexeme of a number; that of one above 2^32 - 1 stands in no text
abbrev pub number : ℕ → Lexeme
number n = a_number (Some n)

-- the lexemes of a line, and behind them the rest
abbrev pub line_lexemes : LineText → List Lexeme → List Lexeme
line_lexemes (assume_line p) rest =
    a_name (codes "assume") ∷ term_lexemes p (a_sign Semicolon ∷ rest)
line_lexemes (impI_line p i) rest =
    a_name (codes "impI") ∷ term_lexemes p (number i ∷ a_sign Semicolon ∷ rest)
line_lexemes (mp_line i j) rest =
    a_name (codes "mp") ∷ number i ∷ number j ∷ a_sign Semicolon ∷ rest
line_lexemes (thm_line l) rest = a_name (codes "thm") ∷ a_name l ∷ a_sign Semicolon ∷ rest

-- the lexemes of lines, and behind them the rest
abbrev pub lines_lexemes : List LineText → List Lexeme → List Lexeme
lines_lexemes [] rest = rest
lines_lexemes (line ∷ lines) rest = line_lexemes line (lines_lexemes lines rest)

-- the rule that is written
abbrev pub rule_of_text : LineText → Rule TermTree
rule_of_text (assume_line p) = by_assume (term_of_text p)
rule_of_text (impI_line p i) = by_impI (term_of_text p) i
rule_of_text (mp_line i j) = by_mp i j
rule_of_text (thm_line l) = by_thm l

-- An item.
pub data ItemText : Type 0 where
  type_text : Chars → ℕ → ItemText
  const_text : Chars → TypeText → ItemText
  axiom_text : Chars → TermText → ItemText
  lemma_text : Chars → TermText → List LineText → ItemText

-- the lexemes of an item, and behind them the rest
abbrev pub item_lexemes : ItemText → List Lexeme → List Lexeme
item_lexemes (type_text n k) rest =
    a_name (codes "type") ∷ a_name n ∷ number k ∷ a_sign Semicolon ∷ rest
item_lexemes (const_text n ty) rest =
    a_name (codes "const") ∷ a_name n ∷ a_sign Colon ∷ type_lexemes ty (a_sign Semicolon ∷ rest)
item_lexemes (axiom_text l p) rest =
    a_name (codes "axiom") ∷ a_name l ∷ a_sign Colon ∷ term_lexemes p (a_sign Semicolon ∷ rest)
item_lexemes (lemma_text l p lines) rest = a_name (codes "lemma") ∷ a_name l ∷ a_sign Colon
    ∷ term_lexemes p (a_sign OpenBrace ∷ lines_lexemes lines
    (a_sign CloseBrace ∷ a_sign Semicolon ∷ rest))

-- the item that is written
abbrev pub item_of_text : ItemText → Item
item_of_text (type_text n k) = type_item n k
item_of_text (const_text n ty) = const_item n (type_of_text ty)
item_of_text (axiom_text l p) = axiom_item l (term_of_text p)
item_of_text (lemma_text l p lines) = lemma_item l (term_of_text p) (map rule_of_text lines)

-- A part of a text: the header, which may stand again between items, or an item.
pub data PartText : Type 0 where
  header : PartText
  item : ItemText → PartText

-- the lexemes of a part, and behind them the rest
abbrev pub part_lexemes : PartText → List Lexeme → List Lexeme
part_lexemes header rest = a_name (codes "plain") ∷ number 1 ∷ a_sign Semicolon ∷ rest
part_lexemes (item i) rest = item_lexemes i rest

-- the lexemes of parts, and behind them the rest
abbrev pub parts_lexemes : List PartText → List Lexeme → List Lexeme
parts_lexemes [] rest = rest
parts_lexemes (part ∷ parts) rest = part_lexemes part (parts_lexemes parts rest)

-- the items of some parts, in order
abbrev pub items_of : List PartText → List Item
items_of [] = []
items_of (header ∷ parts) = items_of parts
items_of (item i ∷ parts) = item_of_text i ∷ items_of parts

-- The lexemes are a header, then headers and items, and the items are these.
abbrev pub IsPlainText : List Lexeme → List Item → Type 0
IsPlainText ws items =
    (parts : List PartText) × (ws ≡ parts_lexemes (header ∷ parts) []) × (items ≡ items_of parts)

-- The bytes are a plain text with these items.
abbrev pub HasItems : List ℕ → List Item → Type 0
HasItems text items = (ws : List Lexeme) × HasLexemes text ws × IsPlainText ws items
