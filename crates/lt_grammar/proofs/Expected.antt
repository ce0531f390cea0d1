-- What may stand behind some lexemes, as a row of what is still expected.
use Rattle.std.proofs.Common.{◌≡◌, ℕ, sym, refl, subst, List, [], ◌∷◌, ◌++◌}
use Rattle.std.specs.Prelude.{◌⊎◌}
use Rattle.lt_texts.specs.declared.lexical.TokenKind.TheVariants as kinds
use Rattle.lt_texts.specs.declared.lexical.TokenKind.TheVariants.{Open, Close, CloseSquare, CloseBrace}
use Rattle.lt_definitions.specs.Types.{Chars, TypeTree, TypeTrees, row}
use Rattle.lt_texts.specs.Lexemes.{Lexeme, a_name, a_variable, a_sign}
use Rattle.lt_texts.specs.Writing.{type_lexemes, types_lexemes, arguments_lexemes, TermText, word, TermTexts, term_lexemes, terms_lexemes}
use Rattle.lt_texts.specs.WrongPlaces.{EndsThere}
use Rattle.lt_grammar.specs.Rows.{number, variables_lexemes}
use Rattle.lt_grammar.specs.RowTexts.{LineText, lines_lexemes}

-- Something that is expected: a type, further ones up to a bracket, a term, what is behind an opening bracket, further terms
-- up to the closing one, what may stand behind a constant, and so on.
pub data Expected : Type 0 where
  a_type : Expected
  types_to_close : Expected
  types_to_square : Expected
  a_term : Expected
  inside : Expected
  terms_to_close : Expected
  brackets : Chars → Expected
  any_name : Expected
  any_number : Expected
  any_variable : Expected
  variables : Expected
  lines : Expected
  exactly : Lexeme → Expected

-- the first of some lexemes are written of it, and the rest is behind them
abbrev pub Spells : Expected → List Lexeme → List Lexeme → Type 0
Spells a_type ws rest = (t : TypeTree) × (ws ≡ type_lexemes t rest)
Spells types_to_close ws rest = (ts : TypeTrees) × (ws ≡ types_lexemes ts (a_sign Close ∷ rest))
Spells types_to_square ws rest = (ts : List TypeTree) × (ws ≡ types_lexemes (row ts) (a_sign CloseSquare ∷ rest))
Spells a_term ws rest = (x : TermText) × (ws ≡ term_lexemes x rest) × EndsThere x rest
Spells inside ws rest = (x : TermText) × (a_sign Open ∷ ws ≡ term_lexemes x rest)
Spells terms_to_close ws rest = (ts : TermTexts) × (ws ≡ terms_lexemes ts (a_sign Close ∷ rest))
Spells (brackets c) ws rest = (ts : List TypeTree) × (ws ≡ arguments_lexemes ts rest) × EndsThere (word c ts) rest
Spells any_name ws rest = (c : Chars) × (ws ≡ a_name c ∷ rest)
Spells any_number ws rest = (k : ℕ) × (ws ≡ number k ∷ rest)
Spells any_variable ws rest = (a : Chars) × (ws ≡ a_variable a ∷ rest)
Spells variables ws rest = (names : List Chars) × (ws ≡ variables_lexemes names (a_sign kinds.Colon ∷ rest))
Spells lines ws rest = (ls : List LineText) × (ws ≡ lines_lexemes ls (a_sign CloseBrace ∷ rest))
Spells (exactly w) ws rest = ws ≡ w ∷ rest

-- the same of a row
abbrev pub Spelt : List Expected → List Lexeme → List Lexeme → Type 0
Spelt [] ws rest = ws ≡ rest
Spelt (x ∷ st) ws rest = (mid : List Lexeme) × Spells x ws mid × Spelt st mid rest

pub join_spelt : (st tu : List Expected) (ws mid rest : List Lexeme) → Spelt st ws mid → Spelt tu mid rest → Spelt (st ++ tu) ws rest
join_spelt [] tu ws mid rest h k = subst (λ (z : List Lexeme). Spelt tu z rest) (sym h) k
join_spelt (x ∷ st) tu ws mid rest h k = (h.0, h.1, join_spelt st tu h.0 mid rest h.2 k)

pub split_spelt : (st tu : List Expected) (ws rest : List Lexeme) → Spelt (st ++ tu) ws rest → (mid : List Lexeme) × Spelt st ws mid × Spelt tu mid rest
split_spelt [] tu ws rest h = (ws, refl, h)
split_spelt (x ∷ st) tu ws rest h = let r = split_spelt st tu h.0 rest h.2 in (r.0, (h.0, h.1, r.1), r.2)

-- it isn't written of nothing
abbrev pub IsFull : Expected → Type 0
IsFull (brackets c) = ⊥
IsFull x = Unit {0}

-- ---- what a lexeme makes of something that is expected

-- what is expected in its place, both ways
abbrev pub Goes : Expected → Lexeme → Type 0
Goes x w = (st : List Expected) × ((us mid : List Lexeme) → Spells x (w ∷ us) mid → Spelt st us mid)
    × ((us mid : List Lexeme) → Spelt st us mid → Spells x (w ∷ us) mid)

abbrev pub Stops : Expected → Lexeme → Type 0
Stops x w = (us mid : List Lexeme) → Spells x (w ∷ us) mid → ⊥

abbrev pub Meets : Expected → Lexeme → Type 0
Meets x w = Goes x w ⊎ Stops x w
