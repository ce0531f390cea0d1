-- How types and terms are written: the lexemes of each, with the rest behind them. A type is
-- written in one way; a term has ways of writing, since a function may be applied to its arguments
-- in one pair of brackets or in several.
-- Source: this project's own.
use Rattle.std.specs.Prelude.{List, [], ◌∷◌}
use Rattle.lt_texts.specs.declared.lexical.TokenKind.TheVariants.{Open, Close, OpenSquare, CloseSquare, Dollar, Percent, Backslash}
use Rattle.lt_definitions.specs.Types.{Chars, TypeTree, TypeTrees, type_variable, type_constructor, no_types, type_and, row}
use Rattle.lt_definitions.specs.Terms.{TermTree, free_variable, bound_name, constant, application, abstraction}
use Rattle.lt_texts.specs.Lexemes.{Lexeme, a_name, a_variable, a_sign}

-- a type: a variable, a constructor alone, or in brackets with its arguments
abbrev mutual
  pub type_lexemes : TypeTree → List Lexeme → List Lexeme
  type_lexemes (type_variable a) rest = a_variable a ∷ rest
  type_lexemes (type_constructor c ts) rest = constructor_lexemes c ts rest

  pub constructor_lexemes : Chars → TypeTrees → List Lexeme → List Lexeme
  constructor_lexemes c no_types rest = a_name c ∷ rest
  constructor_lexemes c (type_and t ts) rest =
      a_sign Open ∷ a_name c ∷ type_lexemes t (types_lexemes ts (a_sign Close ∷ rest))

  pub types_lexemes : TypeTrees → List Lexeme → List Lexeme
  types_lexemes no_types rest = rest
  types_lexemes (type_and t ts) rest = type_lexemes t (types_lexemes ts rest)

-- type arguments of a constant, in square brackets where there are any
abbrev pub arguments_lexemes : List TypeTree → List Lexeme → List Lexeme
arguments_lexemes [] rest = rest
arguments_lexemes (t ∷ ts) rest =
    a_sign OpenSquare ∷ type_lexemes t (types_lexemes (row ts) (a_sign CloseSquare ∷ rest))

mutual
  -- A way to write a term: a constant, a bound name, a free variable, an abstraction, or a function
  -- in brackets with its arguments, of which there is one at least.
  pub data TermText : Type 0 where
    word : Chars → List TypeTree → TermText
    bound : Chars → TermText
    free : Chars → TypeTree → TermText
    lambda : Chars → TypeTree → TermText → TermText
    applied : TermText → TermText → TermTexts → TermText

  -- Further arguments.
  pub data TermTexts : Type 0 where
    no_more_terms : TermTexts
    more_terms : TermText → TermTexts → TermTexts

-- the lexemes of a term, and behind them the rest
abbrev mutual
  pub term_lexemes : TermText → List Lexeme → List Lexeme
  term_lexemes (word c ts) rest = a_name c ∷ arguments_lexemes ts rest
  term_lexemes (bound x) rest = a_sign Percent ∷ a_name x ∷ rest
  term_lexemes (free x ty) rest =
      a_sign Open ∷ a_sign Dollar ∷ a_name x ∷ type_lexemes ty (a_sign Close ∷ rest)
  term_lexemes (lambda x ty b) rest = a_sign Open ∷ a_sign Backslash ∷ a_name x
      ∷ type_lexemes ty (term_lexemes b (a_sign Close ∷ rest))
  term_lexemes (applied f a more) rest =
      a_sign Open ∷ term_lexemes f (term_lexemes a (terms_lexemes more (a_sign Close ∷ rest)))

  pub terms_lexemes : TermTexts → List Lexeme → List Lexeme
  terms_lexemes no_more_terms rest = rest
  terms_lexemes (more_terms t more) rest = term_lexemes t (terms_lexemes more rest)

-- the term that is written: a function is applied to its arguments from the left
abbrev mutual
  pub term_of_text : TermText → TermTree
  term_of_text (word c ts) = constant c ts
  term_of_text (bound x) = bound_name x
  term_of_text (free x ty) = free_variable x ty
  term_of_text (lambda x ty b) = abstraction x ty (term_of_text b)
  term_of_text (applied f a more) = applied_to (application (term_of_text f) (term_of_text a)) more

  pub applied_to : TermTree → TermTexts → TermTree
  applied_to f no_more_terms = f
  applied_to f (more_terms a more) = applied_to (application f (term_of_text a)) more
