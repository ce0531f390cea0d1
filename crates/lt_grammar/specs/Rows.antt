-- A row of the reader's table: a word, the parts of the text behind it, and what is made of what
-- the parts stand for. The text itself is said by pieces, and laws tell that each row agrees with
-- them.
use Prim.Native.String.{String}
use Rattle.std.specs.Prelude.{ℕ, List, [], ◌∷◌, Some, codes}
use Rattle.lt_texts.specs.declared.lexical.TokenKind.TheVariants as kinds
use Rattle.lt_definitions.specs.Types.{Chars, TypeTree}
use Rattle.lt_definitions.specs.Terms.{TermTree}
use Rattle.lt_texts.specs.Lexemes.{Lexeme, a_name, a_variable, a_number, a_sign}
use Rattle.lt_grammar.specs.declared.words.Fixed.{Fixed}
use Rattle.lt_grammar.specs.declared.words.Fixed.TheVariants.{Semicolon, Colon, Becomes, OpenBrace, By, Abs, Rep}
use Rattle.lt_grammar.specs.declared.words.Part.{Part}
use Rattle.lt_grammar.specs.declared.words.Part.TheVariants.{Label, Number, Variable, Parameters, AType, AStatement, ATerm, Fixed as Exactly}
use Rattle.lt_texts.specs.Writing.{type_lexemes, TermText, term_lexemes, term_of_text}

-- the lexeme that stands as it is
abbrev pub fixed : Fixed → Lexeme
fixed Semicolon = a_sign kinds.Semicolon
fixed Colon = a_sign kinds.Colon
fixed Becomes = a_sign kinds.Becomes
fixed OpenBrace = a_sign kinds.OpenBrace
fixed By = a_name (codes "by")
fixed Abs = a_name (codes "abs")
fixed Rep = a_name (codes "rep")

-- a way to write a part
abbrev pub Text : Part → Type 0
Text Label = Chars
Text Number = ℕ
Text Variable = Chars
Text Parameters = List Chars
Text AType = TypeTree
Text AStatement = TermText
Text ATerm = TermText
Text (Exactly k) = Unit {0}

-- the lexeme of a number with a value; bytes give one for values up to 2^32 - 1 alone
abbrev pub number : ℕ → Lexeme
number n = a_number (Some n)

abbrev pub variables_lexemes : List Chars → List Lexeme → List Lexeme
variables_lexemes [] rest = rest
variables_lexemes (a ∷ names) rest = a_variable a ∷ variables_lexemes names rest

-- its lexemes, and behind them the rest
abbrev pub part_lexemes : (p : Part) → Text p → List Lexeme → List Lexeme
part_lexemes Label n rest = a_name n ∷ rest
part_lexemes Number k rest = number k ∷ rest
part_lexemes Variable a rest = a_variable a ∷ rest
part_lexemes Parameters names rest = variables_lexemes names (a_sign kinds.Colon ∷ rest)
part_lexemes AType ty rest = type_lexemes ty rest
part_lexemes AStatement t rest = term_lexemes t rest
part_lexemes ATerm t rest = term_lexemes t rest
part_lexemes (Exactly k) u rest = fixed k ∷ rest

-- a function of what the part stands for, or the value itself where it stands for nothing
abbrev pub From : Part → Type 0 → Type 0
From Label C = Chars → C
From Number C = ℕ → C
From Variable C = Chars → C
From Parameters C = List Chars → C
From AType C = TypeTree → C
From AStatement C = TermTree → C
From ATerm C = TermTree → C
From (Exactly k) C = C

-- what the function gives
abbrev pub given : {C : Type 0} → (p : Part) → From p C → Text p → C
given Label f n = f n
given Number f k = f k
given Variable f a = f a
given Parameters f names = f names
given AType f ty = f ty
given AStatement f t = f (term_of_text t)
given ATerm f t = f (term_of_text t)
given (Exactly k) c u = c

-- the same of parts in a row
abbrev pub Texts : List Part → Type 0
Texts [] = Unit {0}
Texts (p ∷ ps) = Text p × Texts ps

abbrev pub parts_lexemes : (ps : List Part) → Texts ps → List Lexeme → List Lexeme
parts_lexemes [] ts rest = rest
parts_lexemes (p ∷ ps) ts rest = part_lexemes p ts.0 (parts_lexemes ps ts.1 rest)

abbrev pub FromAll : List Part → Type 0 → Type 0
FromAll [] C = C
FromAll (p ∷ ps) C = From p (FromAll ps C)

abbrev pub given_all : {C : Type 0} → (ps : List Part) → FromAll ps C → Texts ps → C
given_all [] c ts = c
given_all (p ∷ ps) f ts = given_all ps (given p f ts.0) ts.1

-- what a part stands for, however it is written
abbrev pub Meaning : Part → Type 0
Meaning Label = Chars
Meaning Number = ℕ
Meaning Variable = Chars
Meaning Parameters = List Chars
Meaning AType = TypeTree
Meaning AStatement = TermTree
Meaning ATerm = TermTree
Meaning (Exactly k) = Unit {0}

abbrev pub Meanings : List Part → Type 0
Meanings [] = Unit {0}
Meanings (p ∷ ps) = Meaning p × Meanings ps

-- what a function of it gives
abbrev pub given_meaning : {C : Type 0} → (p : Part) → From p C → Meaning p → C
given_meaning Label f n = f n
given_meaning Number f k = f k
given_meaning Variable f a = f a
given_meaning Parameters f names = f names
given_meaning AType f ty = f ty
given_meaning AStatement f t = f t
given_meaning ATerm f t = f t
given_meaning (Exactly k) c u = c

abbrev pub given_meanings : {C : Type 0} → (ps : List Part) → FromAll ps C → Meanings ps → C
given_meanings [] c vs = c
given_meanings (p ∷ ps) f vs = given_meanings ps (given_meaning p f vs.0) vs.1

-- A row: what is made of the parts' meanings, in their order.
pub record Row (C : Type 0) : Type 0 where
  pub word : Chars
  pub parts : List Part
  pub make : FromAll parts C

abbrev pub is : {C : Type 0} → String → (ps : List Part) → FromAll ps C → Row C
is w ps f = record { word = codes w; parts = ps; make = f }
