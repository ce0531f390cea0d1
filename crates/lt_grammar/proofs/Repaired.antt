-- Each text of lexemes is one still where the names and numbers that no bytes spell are replaced by others.
use Rattle.std.proofs.Common.{◌≡◌, ℕ, ◌<◌, ◌∙◌, ap, sym, refl, subst, Bool, true, false, List, [], ◌∷◌, ◌++◌, codes, Some, None}
use Rattle.std.specs.Prelude.{◌^◌, ◌&&◌, if◌then◌else◌, map, nat_lt}
use Rattle.std.specs.Str.{all_scalars}
use Rattle.std.proofs.lemmas.Bool.{ltb-true, lt-ltb}
use Rattle.lt_texts.specs.declared.lexical.TokenKind.{TokenKind}
use Rattle.lt_texts.specs.declared.lexical.TokenKind.TheVariants as kinds
use Rattle.lt_texts.specs.declared.lexical.TokenKind.TheVariants.{Open, Close, OpenSquare, CloseSquare, OpenBrace, CloseBrace, Semicolon, Dollar, Backslash}
use Rattle.lt_definitions.specs.Characters.{is_name}
use Rattle.lt_definitions.specs.Types.{Chars, TypeTree, TypeTrees, type_variable, type_constructor, no_types, type_and, row}
use Rattle.lt_texts.specs.Lexemes.{Lexeme, a_name, a_variable, a_number, a_sign}
use Rattle.lt_texts.specs.Named.{IsName}
use Rattle.lt_texts.specs.Writing.{type_lexemes, types_lexemes, arguments_lexemes, TermText, word, bound, free, lambda, applied, TermTexts, no_more_terms, more_terms, term_lexemes, terms_lexemes}
use Rattle.lt_texts.specs.Pieces.{AreWritten}
use Rattle.lt_texts.specs.Forms.{Form, Sentence, header_text, sentence_text, sentences_text, IsAllowed, AreAllowed}
use Rattle.lt_texts.specs.WrongPlaces.{IsWhole, BeginsWithType, BeginsWithTerm, EndsThere}
use Rattle.lt_grammar.specs.declared.words.Fixed.{Fixed}
use Rattle.lt_grammar.specs.declared.words.Fixed.TheVariants as signs
use Rattle.lt_grammar.specs.declared.words.Part.{Part}
use Rattle.lt_grammar.specs.declared.words.Part.TheVariants.{Label, Number, Variable, Parameters, AType, AStatement, ATerm, Fixed as Exactly}
use Rattle.lt_grammar.specs.declared.words.CommandWord.{CommandWord}
use Rattle.lt_grammar.specs.declared.words.CommandWord.TheVariants.{Law, Corr, Relator, Property, Domain, Rule as RuleCommand, Lifting, LiftingTypedef, QuotientType, Lift, Parametric, ParamRule, Equiv, Implies, Carry, AbsEq, RepEq}
use Rattle.lt_grammar.specs.Rows.{fixed, Text, Texts, variables_lexemes, part_lexemes, parts_lexemes}
use Rattle.lt_grammar.specs.Table.{rule_row, item_row, lemma_parts, command_row}
use Rattle.lt_grammar.specs.RowTexts.{LineText, line, lines_lexemes, PartText, header, item, lemma, command, text_lexemes, sentence_of, MayStand}
use Rattle.lt_grammar.proofs.PieceCuts.{is_ascii_name, ascii_name, ascii_scalars}
use Rattle.lt_grammar.proofs.PrintedItems.{rule-name, item-name}
use Rattle.lt_grammar.proofs.RowPieces.{join_written, split_written, sentence_written, written_sentence, may_allowed, allowed_may}

-- ---- lexemes that bytes spell, and others replaced

abbrev pub HasBytes : Lexeme → Type 0
HasBytes (a_name c) = IsName c
HasBytes (a_variable a) = IsName a
HasBytes (a_number None) = Unit {0}
HasBytes (a_number (Some n)) = n < 2 ^ 32
HasBytes (a_sign kinds.Name) = ⊥
HasBytes (a_sign kinds.TypeVariable) = ⊥
HasBytes (a_sign kinds.Number) = ⊥
HasBytes (a_sign k) = Unit {0}

abbrev pub HaveBytes : List Lexeme → Type 0
HaveBytes [] = Unit {0}
HaveBytes (w ∷ ws) = HasBytes w × HaveBytes ws

abbrev good-name : Chars → Chars
good-name c = if is_name c && all_scalars c then c else codes "a"

abbrev good-number : ℕ → ℕ
good-number n = if nat_lt n (2 ^ 32) then n else 0

abbrev good-sign : TokenKind → TokenKind
good-sign kinds.Name = Semicolon
good-sign kinds.TypeVariable = Semicolon
good-sign kinds.Number = Semicolon
good-sign k = k

abbrev pub good : Lexeme → Lexeme
good (a_name c) = a_name (good-name c)
good (a_variable a) = a_variable (good-name a)
good (a_number None) = a_number None
good (a_number (Some n)) = a_number (Some (good-number n))
good (a_sign k) = a_sign (good-sign k)

abbrev pub all-good : List Lexeme → List Lexeme
all-good ws = map good ws

name-kept : (c : Chars) → IsName c → good-name c ≡ c
name-kept c n = λ i. if n.0 i && n.1 i then c else codes "a"

pub ascii_is_name : (w : Chars) → is_ascii_name w ≡ true → IsName w
ascii_is_name w h = (ascii_name w h, ascii_scalars w h)

word-kept : (w : Chars) → is_ascii_name w ≡ true → a_name (good-name w) ≡ a_name w
word-kept w h = ap a_name (name-kept w (ascii_is_name w h))

number-kept : (n : ℕ) → n < 2 ^ 32 → good-number n ≡ n
number-kept n h = λ i. if lt-ltb n (2 ^ 32) h i then n else 0

kept : (w : Lexeme) → HasBytes w → good w ≡ w
kept (a_name c) n = ap a_name (name-kept c n)
kept (a_variable a) n = ap a_variable (name-kept a n)
kept (a_number None) n = refl
kept (a_number (Some k)) n = ap (λ (z : ℕ). a_number (Some z)) (number-kept k n)
kept (a_sign kinds.Name) n = absurd n
kept (a_sign kinds.TypeVariable) n = absurd n
kept (a_sign kinds.Number) n = absurd n
kept (a_sign k) n = refl

pub all_kept : (ws : List Lexeme) → HaveBytes ws → all-good ws ≡ ws
all_kept [] n = refl
all_kept (w ∷ ws) n = λ i. kept w n.0 i ∷ all_kept ws n.1 i

good-is-name : (c : Chars) → IsName (good-name c)
good-is-name c = by (is_name c) (all_scalars c) refl refl
  where
    by : (y z : Bool) → is_name c ≡ y → all_scalars c ≡ z → IsName (if y && z then c else codes "a")
    by true true e d = (e, d)
    by true false e d = ascii_is_name (codes "a") refl
    by false z e d = ascii_is_name (codes "a") refl

good-is-small : (n : ℕ) → good-number n < 2 ^ 32
good-is-small n = by (nat_lt n (2 ^ 32)) refl
  where
    by : (y : Bool) → nat_lt n (2 ^ 32) ≡ y → (if y then n else 0) < 2 ^ 32
    by true e = ltb-true n (2 ^ 32) e
    by false e = ltb-true 0 (2 ^ 32) refl

good-has : (w : Lexeme) → HasBytes (good w)
good-has (a_name c) = good-is-name c
good-has (a_variable a) = good-is-name a
good-has (a_number None) = tt
good-has (a_number (Some n)) = good-is-small n
good-has (a_sign k) = by k
  where
    by : (k : TokenKind) → HasBytes (a_sign (good-sign k))
    by kinds.Name = tt
    by kinds.TypeVariable = tt
    by kinds.Number = tt
    by k = tt

pub good_have : (ws : List Lexeme) → HaveBytes (all-good ws)
good_have [] = tt
good_have (w ∷ ws) = (good-has w, good_have ws)

pub have_append : (ws vs : List Lexeme) → HaveBytes ws → HaveBytes vs → HaveBytes (ws ++ vs)
have_append [] vs p q = q
have_append (w ∷ ws) vs p q = (p.0, have_append ws vs p.1 q)

-- ---- types and terms

abbrev mutual
  good-type : TypeTree → TypeTree
  good-type (type_variable a) = type_variable (good-name a)
  good-type (type_constructor c ts) = type_constructor (good-name c) (good-types ts)

  good-types : TypeTrees → TypeTrees
  good-types no_types = no_types
  good-types (type_and t ts) = type_and (good-type t) (good-types ts)

mutual
  type-good : (t : TypeTree) (rest : List Lexeme) → all-good (type_lexemes t rest) ≡ type_lexemes (good-type t) (all-good rest)
  type-good (type_variable a) rest = refl
  type-good (type_constructor c no_types) rest = refl
  type-good (type_constructor c (type_and t ts)) rest =
      ap (λ (z : List Lexeme). a_sign Open ∷ a_name (good-name c) ∷ z)
      (type-good t (types_lexemes ts (a_sign Close ∷ rest)) ∙ ap (type_lexemes (good-type t)) (types-good ts (a_sign Close ∷ rest)))

  types-good : (ts : TypeTrees) (rest : List Lexeme) → all-good (types_lexemes ts rest) ≡ types_lexemes (good-types ts) (all-good rest)
  types-good no_types rest = refl
  types-good (type_and t ts) rest = type-good t (types_lexemes ts rest) ∙ ap (type_lexemes (good-type t)) (types-good ts rest)

row-good : (ts : List TypeTree) → good-types (row ts) ≡ row (map good-type ts)
row-good [] = refl
row-good (t ∷ ts) = ap (type_and (good-type t)) (row-good ts)

arguments-good : (ts : List TypeTree) (rest : List Lexeme) → all-good (arguments_lexemes ts rest) ≡ arguments_lexemes (map good-type ts) (all-good rest)
arguments-good [] rest = refl
arguments-good (t ∷ ts) rest =
    ap (λ (z : List Lexeme). a_sign OpenSquare ∷ z)
    (type-good t (types_lexemes (row ts) (a_sign CloseSquare ∷ rest))
    ∙ ap (type_lexemes (good-type t)) (types-good (row ts) (a_sign CloseSquare ∷ rest)
    ∙ ap (λ (z : TypeTrees). types_lexemes z (a_sign CloseSquare ∷ all-good rest)) (row-good ts)))

abbrev mutual
  pub good_term : TermText → TermText
  good_term (word c ts) = word (good-name c) (map good-type ts)
  good_term (bound x) = bound (good-name x)
  good_term (free x ty) = free (good-name x) (good-type ty)
  good_term (lambda x ty b) = lambda (good-name x) (good-type ty) (good_term b)
  good_term (applied f a more) = applied (good_term f) (good_term a) (good-terms more)

  good-terms : TermTexts → TermTexts
  good-terms no_more_terms = no_more_terms
  good-terms (more_terms t more) = more_terms (good_term t) (good-terms more)

mutual
  term-good : (x : TermText) (rest : List Lexeme) → all-good (term_lexemes x rest) ≡ term_lexemes (good_term x) (all-good rest)
  term-good (word c ts) rest = ap (λ (z : List Lexeme). a_name (good-name c) ∷ z) (arguments-good ts rest)
  term-good (bound x) rest = refl
  term-good (free x ty) rest = ap (λ (z : List Lexeme). a_sign Open ∷ a_sign Dollar ∷ a_name (good-name x) ∷ z) (type-good ty (a_sign Close ∷ rest))
  term-good (lambda x ty b) rest =
      ap (λ (z : List Lexeme). a_sign Open ∷ a_sign Backslash ∷ a_name (good-name x) ∷ z)
      (type-good ty (term_lexemes b (a_sign Close ∷ rest)) ∙ ap (type_lexemes (good-type ty)) (term-good b (a_sign Close ∷ rest)))
  term-good (applied f a more) rest =
      ap (λ (z : List Lexeme). a_sign Open ∷ z)
      (term-good f (term_lexemes a (terms_lexemes more (a_sign Close ∷ rest)))
      ∙ ap (term_lexemes (good_term f)) (term-good a (terms_lexemes more (a_sign Close ∷ rest))
      ∙ ap (term_lexemes (good_term a)) (terms-good more (a_sign Close ∷ rest))))

  terms-good : (more : TermTexts) (rest : List Lexeme) → all-good (terms_lexemes more rest) ≡ terms_lexemes (good-terms more) (all-good rest)
  terms-good no_more_terms rest = refl
  terms-good (more_terms t more) rest = term-good t (terms_lexemes more rest) ∙ ap (term_lexemes (good_term t)) (terms-good more rest)

-- what begins with a type or a term does so still
pub type_begins_good : (ws : List Lexeme) → BeginsWithType ws → BeginsWithType (all-good ws)
type_begins_good ws (t, rest, e) = (good-type t, all-good rest, ap all-good e ∙ type-good t rest)

ends-good : (x : TermText) (rest : List Lexeme) → EndsThere x rest → EndsThere (good_term x) (all-good rest)
ends-good (word c []) [] n = tt
ends-good (word c []) (a_name d ∷ rest) n = tt
ends-good (word c []) (a_variable a ∷ rest) n = tt
ends-good (word c []) (a_number None ∷ rest) n = tt
ends-good (word c []) (a_number (Some k) ∷ rest) n = tt
ends-good (word c []) (a_sign OpenSquare ∷ rest) n = absurd n
ends-good (word c []) (a_sign kinds.Name ∷ rest) n = tt
ends-good (word c []) (a_sign kinds.TypeVariable ∷ rest) n = tt
ends-good (word c []) (a_sign kinds.Number ∷ rest) n = tt
ends-good (word c []) (a_sign k ∷ rest) n = tt
ends-good (word c (t ∷ ts)) rest n = tt
ends-good (bound x) rest n = tt
ends-good (free x ty) rest n = tt
ends-good (lambda x ty b) rest n = tt
ends-good (applied f a more) rest n = tt

pub term_begins_good : (ws : List Lexeme) → BeginsWithTerm ws → BeginsWithTerm (all-good ws)
term_begins_good ws (x, rest, e, n) = (good_term x, all-good rest, ap all-good e ∙ term-good x rest, ends-good x rest n)

-- ---- rows

variables-good : (names : List Chars) (rest : List Lexeme) → all-good (variables_lexemes names rest) ≡ variables_lexemes (map good-name names) (all-good rest)
variables-good [] rest = refl
variables-good (a ∷ names) rest = ap (λ (z : List Lexeme). a_variable (good-name a) ∷ z) (variables-good names rest)

abbrev good-part : (p : Part) → Text p → Text p
good-part Label n = good-name n
good-part Number k = good-number k
good-part Variable a = good-name a
good-part Parameters names = map good-name names
good-part AType ty = good-type ty
good-part AStatement t = good_term t
good-part ATerm t = good_term t
good-part (Exactly k) u = u

fixed-kept : (k : Fixed) → good (fixed k) ≡ fixed k
fixed-kept signs.Semicolon = refl
fixed-kept signs.Colon = refl
fixed-kept signs.Becomes = refl
fixed-kept signs.OpenBrace = refl
fixed-kept signs.By = word-kept (codes "by") refl
fixed-kept signs.Abs = word-kept (codes "abs") refl
fixed-kept signs.Rep = word-kept (codes "rep") refl

part-good : (p : Part) (a : Text p) (rest : List Lexeme) → all-good (part_lexemes p a rest) ≡ part_lexemes p (good-part p a) (all-good rest)
part-good Label a rest = refl
part-good Number a rest = refl
part-good Variable a rest = refl
part-good Parameters a rest = variables-good a (a_sign kinds.Colon ∷ rest)
part-good AType a rest = type-good a rest
part-good AStatement a rest = term-good a rest
part-good ATerm a rest = term-good a rest
part-good (Exactly k) a rest = ap (λ (z : Lexeme). z ∷ all-good rest) (fixed-kept k)

abbrev good-parts : (ps : List Part) → Texts ps → Texts ps
good-parts [] ts = ts
good-parts (p ∷ ps) ts = (good-part p ts.0, good-parts ps ts.1)

parts-good : (ps : List Part) (ts : Texts ps) (rest : List Lexeme) → all-good (parts_lexemes ps ts rest) ≡ parts_lexemes ps (good-parts ps ts) (all-good rest)
parts-good [] ts rest = refl
parts-good (p ∷ ps) ts rest = part-good p ts.0 (parts_lexemes ps ts.1 rest) ∙ ap (part_lexemes p (good-part p ts.0)) (parts-good ps ts.1 rest)

-- a word, and the parts behind it up to a semicolon
row-good-by : (w : Chars) (ps : List Part) (ts : Texts ps) (rest : List Lexeme) → is_ascii_name w ≡ true
    → all-good (a_name w ∷ parts_lexemes ps ts (a_sign Semicolon ∷ rest)) ≡ a_name w ∷ parts_lexemes ps (good-parts ps ts) (a_sign Semicolon ∷ all-good rest)
row-good-by w ps ts rest h = λ i. word-kept w h i ∷ parts-good ps ts (a_sign Semicolon ∷ rest) i

abbrev good-line : LineText → LineText
good-line (line w ts) = line w (good-parts (rule_row w).parts ts)

lines-good : (ls : List LineText) (rest : List Lexeme) → all-good (lines_lexemes ls rest) ≡ lines_lexemes (map good-line ls) (all-good rest)
lines-good [] rest = refl
lines-good (line w ts ∷ ls) rest =
    row-good-by (rule_row w).word (rule_row w).parts ts (lines_lexemes ls rest) (rule-name w)
    ∙ ap (λ (z : List Lexeme). a_name (rule_row w).word ∷ parts_lexemes (rule_row w).parts (good-parts (rule_row w).parts ts) (a_sign Semicolon ∷ z)) (lines-good ls rest)

command-name : (w : CommandWord) → is_ascii_name (command_row w).word ≡ true
command-name Law = refl
command-name Corr = refl
command-name Relator = refl
command-name Property = refl
command-name Domain = refl
command-name RuleCommand = refl
command-name Lifting = refl
command-name LiftingTypedef = refl
command-name QuotientType = refl
command-name Lift = refl
command-name Parametric = refl
command-name ParamRule = refl
command-name Equiv = refl
command-name Implies = refl
command-name Carry = refl
command-name AbsEq = refl
command-name RepEq = refl

-- ---- sentences

-- its header's word and number are ones that bytes spell
abbrev pub IsSpelt : Form → Type 0
IsSpelt f = IsName f.word × (f.number < 2 ^ 32)

abbrev good-sentence : PartText → PartText
good-sentence header = header
good-sentence (item w ts) = item w (good-parts (item_row w).parts ts)
good-sentence (lemma l p ls) = lemma (good-name l) (good_term p) (map good-line ls)
good-sentence (command w ts) = command w (good-parts (command_row w).parts ts)

good-stands : (f : Form) (p : PartText) → MayStand f p → MayStand f (good-sentence p)
good-stands f header m = m
good-stands f (item w ts) m = m
good-stands f (lemma l p ls) m = m
good-stands f (command w ts) m = m

header-words : (f : Form) → IsSpelt f → (rest : List Lexeme)
    → all-good (a_name f.word ∷ a_number (Some f.number) ∷ rest) ≡ a_name f.word ∷ a_number (Some f.number) ∷ all-good rest
header-words f s rest = λ i. a_name (name-kept f.word s.0 i) ∷ a_number (Some (number-kept f.number s.1 i)) ∷ all-good rest

sentence-good : (f : Form) → IsSpelt f → (p : PartText) (rest : List Lexeme) → all-good (text_lexemes f p rest) ≡ text_lexemes f (good-sentence p) (all-good rest)
sentence-good f s header rest = header-words f s (a_sign Semicolon ∷ rest)
sentence-good f s (item w ts) rest = row-good-by (item_row w).word (item_row w).parts ts rest (item-name w)
sentence-good f s (lemma l p ls) rest =
    let tail : List Lexeme = a_sign OpenBrace ∷ lines_lexemes ls (a_sign CloseBrace ∷ a_sign Semicolon ∷ rest) in
    let parts = parts-good lemma_parts (l, (tt, (p, tt))) tail in
    let inner = lines-good ls (a_sign CloseBrace ∷ a_sign Semicolon ∷ rest) in
    (λ i. word-kept (codes "lemma") refl i ∷ parts i)
    ∙ ap (λ (z : List Lexeme). a_name (codes "lemma") ∷ parts_lexemes lemma_parts (good-name l, (tt, (good_term p, tt))) (a_sign OpenBrace ∷ z)) inner
sentence-good f s (command w ts) rest = row-good-by (command_row w).word (command_row w).parts ts rest (command-name w)

header-good : (f : Form) → IsSpelt f → (ws mid : List Lexeme) → AreWritten (header_text f) ws mid → AreWritten (header_text f) (all-good ws) (all-good mid)
header-good f s ws mid (a, e, (b, g, (c, k, d))) =
    let first : ws ≡ a_name f.word ∷ a_number (Some f.number) ∷ b = e ∙ ap (λ (z : List Lexeme). a_name f.word ∷ z) g in
    (a_number (Some f.number) ∷ all-good b, ap all-good first ∙ header-words f s b, (all-good b, refl, (all-good c, ap all-good k, ap all-good d)))

-- sentences with others
abbrev Others : Form → List Lexeme → Type 0
Others f ws = (ys : List Sentence) × AreAllowed f ys × AreWritten (sentences_text f ys) ws []

sentences-good : (f : Form) → IsSpelt f → (xs : List Sentence) (ws : List Lexeme) → AreAllowed f xs → AreWritten (sentences_text f xs) ws [] → Others f (all-good ws)
sentences-good f s [] ws a e = ([], tt, ap all-good e)
sentences-good f s (x ∷ xs) ws a h =
    let k = split_written (sentence_text f x) (sentences_text f xs) ws [] h in
    let p = written_sentence f x ws k.0 k.1 in
    let q = good-sentence p.0 in
    let r = sentences-good f s xs k.0 a.1 k.2 in
    let may : MayStand f q = good-stands f p.0 (allowed_may f p.0 (subst (IsAllowed f) (sym p.1) a.0)) in
    let same : all-good ws ≡ text_lexemes f q (all-good k.0) = ap all-good p.2 ∙ sentence-good f s p.0 k.0 in (
      sentence_of q ∷ r.0,
      (may_allowed f q may, r.1),
      join_written (sentence_text f (sentence_of q)) (sentences_text f r.0) (all-good ws) (all-good k.0) []
          (subst (λ (z : List Lexeme). AreWritten (sentence_text f (sentence_of q)) z (all-good k.0)) (sym same) (sentence_written f q (all-good k.0))) r.2,
    )

pub whole_good : (f : Form) → IsSpelt f → (ws : List Lexeme) → IsWhole f ws → IsWhole f (all-good ws)
whole_good f s ws (xs, a, h) =
    let k = split_written (header_text f) (sentences_text f xs) ws [] h in
    let r = sentences-good f s xs k.0 a k.2 in
    (r.0, r.1, join_written (header_text f) (sentences_text f r.0) (all-good ws) (all-good k.0) [] (header-good f s ws k.0 k.1) r.2)
