-- Where a writing ends, the rest begins.
use Rattle.std.proofs.Common.{◌≡◌, ◌∙◌, ap, refl, List, [], ◌∷◌, ◌++◌}
use Rattle.lt_texts.specs.declared.lexical.TokenKind.TheVariants as kinds
use Rattle.lt_definitions.specs.Types.{Chars, TypeTree, TypeTrees, type_variable, type_constructor, no_types, type_and, row}
use Rattle.lt_texts.specs.Lexemes.{Lexeme, a_name, a_variable, a_sign}
use Rattle.lt_texts.specs.Forms.{Form}
use Rattle.lt_grammar.specs.declared.words.Part.{Part}
use Rattle.lt_grammar.specs.declared.words.Part.TheVariants.{Label, Number, Variable, Parameters, AType, AStatement, ATerm, Fixed as Exactly}
use Rattle.lt_texts.specs.Writing.{type_lexemes, types_lexemes, arguments_lexemes, TermText, word, bound, free, lambda, applied, TermTexts, no_more_terms, more_terms, term_lexemes, terms_lexemes}
use Rattle.lt_grammar.specs.Rows.{Text, Texts, variables_lexemes, part_lexemes, parts_lexemes}
use Rattle.lt_grammar.specs.Table.{rule_row, item_row, lemma_parts, command_row}
use Rattle.lt_grammar.specs.RowTexts.{LineText, line, lines_lexemes, PartText, header, item, lemma, command, text_lexemes}
use Rattle.std.specs.Prelude.{codes}

-- a writing that ends where the rest begins
abbrev pub Splits : (List Lexeme → List Lexeme) → Type 0
Splits f = (x y : List Lexeme) → f (x ++ y) ≡ f x ++ y

-- one writing behind another
behind : (f g : List Lexeme → List Lexeme) → Splits f → Splits g → Splits (λ x. f (g x))
behind f g p q x y = ap f (q x y) ∙ p (g x) y

-- one lexeme before a writing, and behind it
before : (w : Lexeme) (f : List Lexeme → List Lexeme) → Splits f → Splits (λ x. w ∷ f x)
before w f p x y = ap (λ (z : List Lexeme). w ∷ z) (p x y)

closed : (w : Lexeme) (f : List Lexeme → List Lexeme) → Splits f → Splits (λ x. f (w ∷ x))
closed w f p x y = p (w ∷ x) y

mutual
  pub type_splits : (t : TypeTree) → Splits (type_lexemes t)
  type_splits (type_variable a) x y = refl
  type_splits (type_constructor c no_types) x y = refl
  type_splits (type_constructor c (type_and t ts)) x y =
      ap (λ (z : List Lexeme). a_sign kinds.Open ∷ a_name c ∷ z) (ap (type_lexemes t) (types_splits ts (a_sign kinds.Close ∷ x) y) ∙ type_splits t (types_lexemes ts (a_sign kinds.Close ∷ x)) y)

  types_splits : (ts : TypeTrees) → Splits (types_lexemes ts)
  types_splits no_types x y = refl
  types_splits (type_and t ts) x y = ap (type_lexemes t) (types_splits ts x y) ∙ type_splits t (types_lexemes ts x) y

arguments-splits : (ts : List TypeTree) → Splits (arguments_lexemes ts)
arguments-splits [] x y = refl
arguments-splits (t ∷ ts) x y =
    ap (λ (z : List Lexeme). a_sign kinds.OpenSquare ∷ z) (behind (type_lexemes t) (λ z. types_lexemes (row ts) (a_sign kinds.CloseSquare ∷ z)) (type_splits t) (closed (a_sign kinds.CloseSquare) (types_lexemes (row ts)) (types_splits (row ts))) x y)

mutual
  pub term_splits : (t : TermText) → Splits (term_lexemes t)
  term_splits (word c ts) x y = ap (λ (z : List Lexeme). a_name c ∷ z) (arguments-splits ts x y)
  term_splits (bound c) x y = refl
  term_splits (free c ty) x y = ap (λ (z : List Lexeme). a_sign kinds.Open ∷ a_sign kinds.Dollar ∷ a_name c ∷ z) (type_splits ty (a_sign kinds.Close ∷ x) y)
  term_splits (lambda c ty b) x y =
      ap (λ (z : List Lexeme). a_sign kinds.Open ∷ a_sign kinds.Backslash ∷ a_name c ∷ z)
      (ap (type_lexemes ty) (term_splits b (a_sign kinds.Close ∷ x) y) ∙ type_splits ty (term_lexemes b (a_sign kinds.Close ∷ x)) y)
  term_splits (applied f a more) x y =
      ap (λ (z : List Lexeme). a_sign kinds.Open ∷ z)
      (ap (λ (z : List Lexeme). term_lexemes f (term_lexemes a z)) (terms_splits more (a_sign kinds.Close ∷ x) y)
      ∙ ap (term_lexemes f) (term_splits a (terms_lexemes more (a_sign kinds.Close ∷ x)) y)
      ∙ term_splits f (term_lexemes a (terms_lexemes more (a_sign kinds.Close ∷ x))) y)

  terms_splits : (more : TermTexts) → Splits (terms_lexemes more)
  terms_splits no_more_terms x y = refl
  terms_splits (more_terms t more) x y = ap (term_lexemes t) (terms_splits more x y) ∙ term_splits t (terms_lexemes more x) y

variables-splits : (names : List Chars) → Splits (variables_lexemes names)
variables-splits [] x y = refl
variables-splits (a ∷ names) x y = ap (λ (z : List Lexeme). a_variable a ∷ z) (variables-splits names x y)

part-splits : (p : Part) (a : Text p) → Splits (part_lexemes p a)
part-splits Label a x y = refl
part-splits Number a x y = refl
part-splits Variable a x y = refl
part-splits Parameters a x y = variables-splits a (a_sign kinds.Colon ∷ x) y
part-splits AType a x y = type_splits a x y
part-splits AStatement a x y = term_splits a x y
part-splits ATerm a x y = term_splits a x y
part-splits (Exactly k) a x y = refl

pub parts_splits : (ps : List Part) (ts : Texts ps) → Splits (parts_lexemes ps ts)
parts_splits [] ts x y = refl
parts_splits (p ∷ ps) ts x y = ap (part_lexemes p ts.0) (parts_splits ps ts.1 x y) ∙ part-splits p ts.0 (parts_lexemes ps ts.1 x) y

lines-splits : (lines : List LineText) → Splits (lines_lexemes lines)
lines-splits [] x y = refl
lines-splits (line w ts ∷ lines) x y =
    ap (λ (z : List Lexeme). a_name (rule_row w).word ∷ z)
    (ap (λ (z : List Lexeme). parts_lexemes (rule_row w).parts ts (a_sign kinds.Semicolon ∷ z)) (lines-splits lines x y)
    ∙ parts_splits (rule_row w).parts ts (a_sign kinds.Semicolon ∷ lines_lexemes lines x) y)

pub text_splits : (h : Form) (p : PartText) → Splits (text_lexemes h p)
text_splits h header x y = refl
text_splits h (item w ts) x y = ap (λ (z : List Lexeme). a_name (item_row w).word ∷ z) (parts_splits (item_row w).parts ts (a_sign kinds.Semicolon ∷ x) y)
text_splits h (lemma l p lines) x y =
    ap (λ (z : List Lexeme). a_name (codes "lemma") ∷ z)
    (ap (λ (z : List Lexeme). parts_lexemes lemma_parts (l, (tt, (p, tt))) (a_sign kinds.OpenBrace ∷ z)) (lines-splits lines (a_sign kinds.CloseBrace ∷ a_sign kinds.Semicolon ∷ x) y)
    ∙ parts_splits lemma_parts (l, (tt, (p, tt))) (a_sign kinds.OpenBrace ∷ lines_lexemes lines (a_sign kinds.CloseBrace ∷ a_sign kinds.Semicolon ∷ x)) y)
text_splits h (command w ts) x y = ap (λ (z : List Lexeme). a_name (command_row w).word ∷ z) (parts_splits (command_row w).parts ts (a_sign kinds.Semicolon ∷ x) y)
