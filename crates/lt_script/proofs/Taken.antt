-- The machine takes each writing whole.
use Rattle.std.proofs.Common.{◌≡◌, ℕ, ◌∙◌, ap, ap₂, refl, Bool, List, [], ◌∷◌, ◌++◌, Option, Some, None, append_assoc, append-nil}
use Rattle.std.specs.Prelude.{map, if◌then◌else◌}
use Rattle.std.proofs.lemmas.Bool.{eq-eqb}
use Rattle.lt_texts.specs.declared.lexical.TokenKind.TheVariants as kinds
use Rattle.lt_definitions.specs.Types.{Chars, TypeTree, TypeTrees, type_variable, type_constructor, no_types, type_and, row}
use Rattle.lt_texts.specs.Lexemes.{Lexeme, a_name, a_sign}
use Rattle.lt_texts.specs.Forms.{Form}
use Rattle.lt_grammar.specs.declared.words.Fixed.{Fixed}
use Rattle.lt_grammar.specs.declared.words.Fixed.TheVariants as signs
use Rattle.lt_grammar.specs.declared.words.Part.{Part}
use Rattle.lt_grammar.specs.declared.words.Part.TheVariants.{Label, Number, Variable, Parameters, AType, AStatement, ATerm, Fixed as Exactly}
use Rattle.lt_grammar.specs.declared.words.RuleWord.{RuleWord}
use Rattle.lt_grammar.specs.declared.words.Head.{Head}
use Rattle.lt_grammar.specs.declared.words.Head.TheVariants.{Header, Lemma, Item, Command}
use Rattle.lt_texts.specs.Writing.{type_lexemes, types_lexemes, arguments_lexemes, TermText, word, bound, free, lambda, applied, TermTexts, no_more_terms, more_terms, term_lexemes, terms_lexemes}
use Rattle.lt_grammar.specs.Rows.{Text, Texts, number, variables_lexemes, part_lexemes, parts_lexemes}
use Rattle.lt_grammar.specs.Table.{rule_row, item_row, lemma_parts, command_row}
use Rattle.lt_grammar.specs.RowTexts.{row_lexemes, LineText, line, lines_lexemes, PartText, header, item, lemma, command, text_lexemes, MayStand}
use Rattle.lt_grammar.specs.Words.{rule_word, head_word}
use Rattle.lt_grammar.proofs.Distinct.{rule_found, head_found, IsHead}
use Rattle.lt_grammar.proofs.OneWay.{IsClear, term_clear, terms_clear, parts_clear}
use Rattle.lt_script.specs.declared.symbol.Symbol.{Symbol}
use Rattle.lt_script.specs.declared.symbol.Symbol.TheVariants.{«Type», MoreTypes, Term, Inside, Brackets, Arguments, MoreTerms, CloseFree, Body, CloseLambda, KeepType, KeepTerm, Part as APartOf, Lines, EndLine, HeaderNumber}
use Rattle.lt_commands.specs.declared.note.Note.{Note}
use Rattle.lt_commands.specs.declared.note.Note.TheVariants.{TypeOpen as type_open, TypeClose as type_close, KeepType as keep_type, ConstantName as constant_name, NoArguments as no_arguments, Arguments as arguments, FreeName as free_name, LambdaName as lambda_name, Apply as apply, KeepTerm as keep_term, Parameter as parameter, BeginLine as begin_line, EndLine as end_line}
use Rattle.lt_commands.specs.Notes.{type_notes, types_notes, later_notes, arguments_notes, term_notes, terms_notes, parameters_notes, part_notes, parts_notes, lines_notes, text_notes}
use Rattle.lt_script.specs.Machine.{Move, go, under, semicolon, line_move, expected, part_move, step_part, header_move, step_header, or_pass, step_on, State, state, onward, run}

-- ---- what is passed over

passed : (n : Note) (b : List Note) (o : Option Move) (ws : List Lexeme)
    → onward (under [] (n ∷ []) o) (λ m. run m.pushed (m.made ++ b) ws) ≡ onward o (λ m. run m.pushed (m.made ++ (n ∷ b)) ws)
passed n b None ws = refl
passed n b (Some m) ws = ap₂ (λ (s : List Symbol) (c : List Note). run s c ws) (append-nil m.pushed) (append_assoc m.made (n ∷ []) b)

pub type_kept : (s : List Symbol) (b : List Note) (w : Lexeme) (ws : List Lexeme) → run (KeepType ∷ s) b (w ∷ ws) ≡ run s (keep_type ∷ b) (w ∷ ws)
type_kept s b w ws = passed keep_type b (step_on s w) ws

pub term_kept : (s : List Symbol) (b : List Note) (w : Lexeme) (ws : List Lexeme) → run (KeepTerm ∷ s) b (w ∷ ws) ≡ run s (keep_term ∷ b) (w ∷ ws)
term_kept s b w ws = passed keep_term b (step_on s w) ws

kept-type : (s : List Symbol) (b : List Note) (ws : List Lexeme) → IsClear ws → run (KeepType ∷ s) b ws ≡ run s (keep_type ∷ b) ws
kept-type s b [] c = absurd c
kept-type s b (w ∷ ws) c = type_kept s b w ws

kept-term : (s : List Symbol) (b : List Note) (ws : List Lexeme) → IsClear ws → run (KeepTerm ∷ s) b ws ≡ run s (keep_term ∷ b) ws
kept-term s b [] c = absurd c
kept-term s b (w ∷ ws) c = term_kept s b w ws

-- no brackets behind a constant
pub no_brackets : (s : List Symbol) (b : List Note) (ws : List Lexeme) → IsClear ws → run (Brackets ∷ s) b ws ≡ run s (no_arguments ∷ b) ws
no_brackets s b [] c = absurd c
no_brackets s b (a_sign kinds.OpenSquare ∷ ws) c = absurd c
no_brackets s b (w ∷ ws) c = passed no_arguments b (step_on s w) ws

-- ---- types

more-types : (t : TypeTree) (s : List Symbol) (b : List Note) (rest : List Lexeme) → run (MoreTypes ∷ s) b (type_lexemes t rest) ≡ run («Type» ∷ MoreTypes ∷ s) b (type_lexemes t rest)
more-types (type_variable a) s b rest = refl
more-types (type_constructor c no_types) s b rest = refl
more-types (type_constructor c (type_and t ts)) s b rest = refl

more-arguments : (t : TypeTree) (s : List Symbol) (b : List Note) (rest : List Lexeme)
    → run (Arguments ∷ s) b (type_lexemes t rest) ≡ run («Type» ∷ Arguments ∷ s) (keep_type ∷ b) (type_lexemes t rest)
more-arguments (type_variable a) s b rest = refl
more-arguments (type_constructor c no_types) s b rest = refl
more-arguments (type_constructor c (type_and t ts)) s b rest = refl

part-type : (t : TypeTree) (s : List Symbol) (b : List Note) (rest : List Lexeme) → run (APartOf AType ∷ s) b (type_lexemes t rest) ≡ run («Type» ∷ KeepType ∷ s) b (type_lexemes t rest)
part-type (type_variable a) s b rest = refl
part-type (type_constructor c no_types) s b rest = refl
part-type (type_constructor c (type_and t ts)) s b rest = refl

mutual
  pub takes_type : (t : TypeTree) (s : List Symbol) (b : List Note) (rest : List Lexeme) → run («Type» ∷ s) b (type_lexemes t rest) ≡ run s (type_notes t b) rest
  takes_type (type_variable a) s b rest = refl
  takes_type (type_constructor c no_types) s b rest = refl
  takes_type (type_constructor c (type_and t ts)) s b rest =
      takes_type t (MoreTypes ∷ s) (type_open c ∷ b) (types_lexemes ts (a_sign kinds.Close ∷ rest))
      ∙ takes_types ts s (type_notes t (type_open c ∷ b)) rest

  takes_types : (ts : TypeTrees) (s : List Symbol) (b : List Note) (rest : List Lexeme)
      → run (MoreTypes ∷ s) b (types_lexemes ts (a_sign kinds.Close ∷ rest)) ≡ run s (type_close ∷ types_notes ts b) rest
  takes_types no_types s b rest = refl
  takes_types (type_and t ts) s b rest =
      more-types t s b (types_lexemes ts (a_sign kinds.Close ∷ rest))
      ∙ takes_type t (MoreTypes ∷ s) b (types_lexemes ts (a_sign kinds.Close ∷ rest))
      ∙ takes_types ts s (type_notes t b) rest

pub takes_later : (ts : TypeTrees) (s : List Symbol) (b : List Note) (rest : List Lexeme)
    → run (Arguments ∷ s) b (types_lexemes ts (a_sign kinds.CloseSquare ∷ rest)) ≡ run s (arguments ∷ keep_type ∷ later_notes ts b) rest
takes_later no_types s b rest = refl
takes_later (type_and t ts) s b rest =
    more-arguments t s b (types_lexemes ts (a_sign kinds.CloseSquare ∷ rest))
    ∙ takes_type t (Arguments ∷ s) (keep_type ∷ b) (types_lexemes ts (a_sign kinds.CloseSquare ∷ rest))
    ∙ takes_later ts s (type_notes t (keep_type ∷ b)) rest

takes-arguments : (ts : List TypeTree) (s : List Symbol) (b : List Note) (rest : List Lexeme) → IsClear rest → run (Brackets ∷ s) b (arguments_lexemes ts rest) ≡ run s (arguments_notes ts b) rest
takes-arguments [] s b rest c = no_brackets s b rest c
takes-arguments (t ∷ ts) s b rest c =
    takes_type t (Arguments ∷ s) b (types_lexemes (row ts) (a_sign kinds.CloseSquare ∷ rest)) ∙ takes_later (row ts) s (type_notes t b) rest

-- ---- terms

more-terms : (t : TermText) (s : List Symbol) (b : List Note) (rest : List Lexeme) → run (MoreTerms ∷ s) b (term_lexemes t rest) ≡ run (Term ∷ MoreTerms ∷ s) (apply ∷ b) (term_lexemes t rest)
more-terms (word c ts) s b rest = refl
more-terms (bound x) s b rest = refl
more-terms (free x ty) s b rest = refl
more-terms (lambda x ty t) s b rest = refl
more-terms (applied f a more) s b rest = refl

inside : (t : TermText) (s : List Symbol) (b : List Note) (rest : List Lexeme) → run (Inside ∷ s) b (term_lexemes t rest) ≡ run (Term ∷ Term ∷ MoreTerms ∷ s) b (term_lexemes t rest)
inside (word c ts) s b rest = refl
inside (bound x) s b rest = refl
inside (free x ty) s b rest = refl
inside (lambda x ty t) s b rest = refl
inside (applied f a more) s b rest = refl

body : (t : TermText) (s : List Symbol) (b : List Note) (rest : List Lexeme) → run (Body ∷ s) b (term_lexemes t rest) ≡ run (Term ∷ s) (keep_type ∷ b) (term_lexemes t rest)
body (word c ts) s b rest = refl
body (bound x) s b rest = refl
body (free x ty) s b rest = refl
body (lambda x ty t) s b rest = refl
body (applied f a more) s b rest = refl

part-term : (t : TermText) (s : List Symbol) (b : List Note) (rest : List Lexeme) → run (APartOf ATerm ∷ s) b (term_lexemes t rest) ≡ run (Term ∷ KeepTerm ∷ s) b (term_lexemes t rest)
part-term (word c ts) s b rest = refl
part-term (bound x) s b rest = refl
part-term (free x ty) s b rest = refl
part-term (lambda x ty t) s b rest = refl
part-term (applied f a more) s b rest = refl

part-statement : (t : TermText) (s : List Symbol) (b : List Note) (rest : List Lexeme) → run (APartOf AStatement ∷ s) b (term_lexemes t rest) ≡ run (Term ∷ KeepTerm ∷ s) b (term_lexemes t rest)
part-statement (word c ts) s b rest = refl
part-statement (bound x) s b rest = refl
part-statement (free x ty) s b rest = refl
part-statement (lambda x ty t) s b rest = refl
part-statement (applied f a more) s b rest = refl

mutual
  pub takes_term : (t : TermText) (s : List Symbol) (b : List Note) (rest : List Lexeme) → IsClear rest → run (Term ∷ s) b (term_lexemes t rest) ≡ run s (term_notes t b) rest
  takes_term (word c ts) s b rest k = takes-arguments ts s (constant_name c ∷ b) rest k
  takes_term (bound x) s b rest k = refl
  takes_term (free x ty) s b rest k = takes_type ty (CloseFree ∷ s) (free_name x ∷ b) (a_sign kinds.Close ∷ rest)
  takes_term (lambda x ty t) s b rest k =
      takes_type ty (Body ∷ CloseLambda ∷ s) (lambda_name x ∷ b) (term_lexemes t (a_sign kinds.Close ∷ rest))
      ∙ body t (CloseLambda ∷ s) (type_notes ty (lambda_name x ∷ b)) (a_sign kinds.Close ∷ rest)
      ∙ takes_term t (CloseLambda ∷ s) (keep_type ∷ type_notes ty (lambda_name x ∷ b)) (a_sign kinds.Close ∷ rest) tt
  takes_term (applied f a more) s b rest k =
      inside f s b (term_lexemes a (terms_lexemes more (a_sign kinds.Close ∷ rest)))
      ∙ takes_term f (Term ∷ MoreTerms ∷ s) b (term_lexemes a (terms_lexemes more (a_sign kinds.Close ∷ rest))) (term_clear a (terms_lexemes more (a_sign kinds.Close ∷ rest)))
      ∙ takes_term a (MoreTerms ∷ s) (term_notes f b) (terms_lexemes more (a_sign kinds.Close ∷ rest)) (terms_clear more (a_sign kinds.Close ∷ rest) tt)
      ∙ takes_terms more s (term_notes a (term_notes f b)) rest

  takes_terms : (more : TermTexts) (s : List Symbol) (b : List Note) (rest : List Lexeme)
      → run (MoreTerms ∷ s) b (terms_lexemes more (a_sign kinds.Close ∷ rest)) ≡ run s (terms_notes more (apply ∷ b)) rest
  takes_terms no_more_terms s b rest = refl
  takes_terms (more_terms t more) s b rest =
      more-terms t s b (terms_lexemes more (a_sign kinds.Close ∷ rest))
      ∙ takes_term t (MoreTerms ∷ s) (apply ∷ b) (terms_lexemes more (a_sign kinds.Close ∷ rest)) (terms_clear more (a_sign kinds.Close ∷ rest) tt)
      ∙ takes_terms more s (term_notes t (apply ∷ b)) rest

-- a term that nothing behind it goes on
abbrev pub IsClosed : TermText → Type 0
IsClosed (word c []) = ⊥
IsClosed t = Unit {0}

pub takes_closed : (t : TermText) (s : List Symbol) (b : List Note) (rest : List Lexeme) → IsClosed t → run (Term ∷ s) b (term_lexemes t rest) ≡ run s (term_notes t b) rest
takes_closed (word c []) s b rest k = absurd k
takes_closed (word c (t ∷ ts)) s b rest k =
    takes_type t (Arguments ∷ s) (constant_name c ∷ b) (types_lexemes (row ts) (a_sign kinds.CloseSquare ∷ rest))
    ∙ takes_later (row ts) s (type_notes t (constant_name c ∷ b)) rest
takes_closed (bound x) s b rest k = refl
takes_closed (free x ty) s b rest k = takes_type ty (CloseFree ∷ s) (free_name x ∷ b) (a_sign kinds.Close ∷ rest)
takes_closed (lambda x ty t) s b rest k =
    takes_type ty (Body ∷ CloseLambda ∷ s) (lambda_name x ∷ b) (term_lexemes t (a_sign kinds.Close ∷ rest))
    ∙ body t (CloseLambda ∷ s) (type_notes ty (lambda_name x ∷ b)) (a_sign kinds.Close ∷ rest)
    ∙ takes_term t (CloseLambda ∷ s) (keep_type ∷ type_notes ty (lambda_name x ∷ b)) (a_sign kinds.Close ∷ rest) tt
takes_closed (applied f a more) s b rest k =
    inside f s b (term_lexemes a (terms_lexemes more (a_sign kinds.Close ∷ rest)))
    ∙ takes_term f (Term ∷ MoreTerms ∷ s) b (term_lexemes a (terms_lexemes more (a_sign kinds.Close ∷ rest))) (term_clear a (terms_lexemes more (a_sign kinds.Close ∷ rest)))
    ∙ takes_term a (MoreTerms ∷ s) (term_notes f b) (terms_lexemes more (a_sign kinds.Close ∷ rest)) (terms_clear more (a_sign kinds.Close ∷ rest) tt)
    ∙ takes_terms more s (term_notes a (term_notes f b)) rest

-- ---- rows

takes-parameters : (names : List Chars) (s : List Symbol) (b : List Note) (rest : List Lexeme)
    → run (APartOf Parameters ∷ s) b (variables_lexemes names (a_sign kinds.Colon ∷ rest)) ≡ run s (parameters_notes names b) rest
takes-parameters [] s b rest = refl
takes-parameters (a ∷ names) s b rest = takes-parameters names s (parameter a ∷ b) rest

pub takes_fixed : (k : Fixed) (s : List Symbol) (b : List Note) (rest : List Lexeme) → run (APartOf (Exactly k) ∷ s) b (part_lexemes (Exactly k) tt rest) ≡ run s b rest
takes_fixed signs.Semicolon s b rest = refl
takes_fixed signs.Colon s b rest = refl
takes_fixed signs.Becomes s b rest = refl
takes_fixed signs.OpenBrace s b rest = refl
takes_fixed signs.By s b rest = refl
takes_fixed signs.Abs s b rest = refl
takes_fixed signs.Rep s b rest = refl

takes-part-of : (p : Part) (a : Text p) (s : List Symbol) (b : List Note) (rest : List Lexeme) → IsClear rest → run (APartOf p ∷ s) b (part_lexemes p a rest) ≡ run s (part_notes p a b) rest
takes-part-of Label a s b rest c = refl
takes-part-of Number a s b rest c = refl
takes-part-of Variable a s b rest c = refl
takes-part-of Parameters a s b rest c = takes-parameters a s b rest
takes-part-of AType a s b rest c = part-type a s b rest ∙ takes_type a (KeepType ∷ s) b rest ∙ kept-type s (type_notes a b) rest c
takes-part-of AStatement a s b rest c = part-statement a s b rest ∙ takes_term a (KeepTerm ∷ s) b rest c ∙ kept-term s (term_notes a b) rest c
takes-part-of ATerm a s b rest c = part-term a s b rest ∙ takes_term a (KeepTerm ∷ s) b rest c ∙ kept-term s (term_notes a b) rest c
takes-part-of (Exactly k) a s b rest c = takes_fixed k s b rest

pub takes_parts : (ps : List Part) (ts : Texts ps) (s : List Symbol) (b : List Note) (rest : List Lexeme) → IsClear rest
    → run (map APartOf ps ++ s) b (parts_lexemes ps ts rest) ≡ run s (parts_notes ps ts b) rest
takes_parts [] ts s b rest c = refl
takes_parts (p ∷ ps) ts s b rest c =
    takes-part-of p ts.0 (map APartOf ps ++ s) b (parts_lexemes ps ts.1 rest) (parts_clear ps ts.1 rest c)
    ∙ takes_parts ps ts.1 s (part_notes p ts.0 b) rest c

-- the parts of a row and what is expected behind them, as they were pushed
pub row_behind : (ps : List Part) (ts : Texts ps) (t s : List Symbol) (b : List Note) (rest : List Lexeme) → IsClear rest
    → run ((map APartOf ps ++ t) ++ s) b (parts_lexemes ps ts rest) ≡ run (t ++ s) (parts_notes ps ts b) rest
row_behind ps ts t s b rest c = ap (λ (z : List Symbol). run z b (parts_lexemes ps ts rest)) (append_assoc (map APartOf ps) t s) ∙ takes_parts ps ts (t ++ s) b rest c

-- ---- lines

-- a symbol that isn't passed over
no-pass : (o q : Option Move) → or_pass o None q ≡ o
no-pass None q = refl
no-pass (Some m) q = refl

pub begun_line : (w : RuleWord) (s : List Symbol) (b : List Note) (ws : List Lexeme)
    → run (Lines ∷ s) b (a_name (rule_word w) ∷ ws) ≡ run ((map APartOf (rule_row w).parts ++ EndLine w ∷ Lines ∷ []) ++ s) (begin_line w ∷ b) ws
begun_line w s b ws =
    ap (λ (o : Option RuleWord). onward (or_pass (under s [] (line_move o)) None (step_on s (a_name (rule_word w)))) (λ m. run m.pushed (m.made ++ b) ws)) (rule_found w)

pub takes_line : (w : RuleWord) (ts : Texts (rule_row w).parts) (s : List Symbol) (b : List Note) (rest : List Lexeme)
    → run (Lines ∷ s) b (row_lexemes (rule_row w) ts rest) ≡ run (Lines ∷ s) (end_line w ∷ parts_notes (rule_row w).parts ts (begin_line w ∷ b)) rest
takes_line w ts s b rest =
    begun_line w s b (parts_lexemes (rule_row w).parts ts (a_sign kinds.Semicolon ∷ rest))
    ∙ row_behind (rule_row w).parts ts (EndLine w ∷ Lines ∷ []) s (begin_line w ∷ b) (a_sign kinds.Semicolon ∷ rest) tt

pub takes_lines : (lines : List LineText) (s : List Symbol) (b : List Note) (rest : List Lexeme)
    → run (Lines ∷ s) b (lines_lexemes lines (a_sign kinds.CloseBrace ∷ rest)) ≡ run s (lines_notes lines b) rest
takes_lines [] s b rest = refl
takes_lines (line w ts ∷ lines) s b rest =
    takes_line w ts s b (lines_lexemes lines (a_sign kinds.CloseBrace ∷ rest))
    ∙ takes_lines lines s (end_line w ∷ parts_notes (rule_row w).parts ts (begin_line w ∷ b)) rest

-- ---- sentences

pub takes_number : (n : ℕ) (s : List Symbol) (b : List Note) (rest : List Lexeme)
    → run (HeaderNumber n ∷ s) b (number n ∷ rest) ≡ run s b rest
takes_number n s b rest =
    ap (λ (y : Bool). onward (or_pass (under s [] (if y then go [] [] else None)) None (step_on s (number n)))
    (λ m. run m.pushed (m.made ++ b) rest)) (eq-eqb n n refl)

-- What lexemes make from the place on where a sentence may begin, of which `first` takes the first
-- one; before that something is expected.
abbrev pub first_run : (Lexeme → Option Move) → List Lexeme → Option State
first_run first [] = Some (state (Lines ∷ []) [])
first_run first (w ∷ ws) = onward (first w) (λ m. run m.pushed m.made ws)

begun-part : (h : Form) (k : Head) (ws : List Lexeme) → IsHead h k
    → first_run (step_part h) (a_name (head_word h k) ∷ ws) ≡ run (expected h.number k) [] ws
begun-part h k ws m =
    ap (λ (o : Option Head). onward (part_move h.number o) (λ m. run m.pushed m.made ws)) (head_found h k m)

pub takes_text : (h : Form) (p : PartText) (rest : List Lexeme) → MayStand h p
    → first_run (step_part h) (text_lexemes h p rest) ≡ run [] (text_notes p []) rest
takes_text h header rest m =
    begun-part h Header (number h.number ∷ a_sign kinds.Semicolon ∷ rest) tt
    ∙ takes_number h.number (semicolon ∷ []) [] (a_sign kinds.Semicolon ∷ rest)
takes_text h (item w ts) rest m =
    begun-part h (Item w) (parts_lexemes (item_row w).parts ts (a_sign kinds.Semicolon ∷ rest)) m
    ∙ takes_parts (item_row w).parts ts (semicolon ∷ []) [] (a_sign kinds.Semicolon ∷ rest) tt
takes_text h (lemma l p lines) rest m =
    begun-part h Lemma (parts_lexemes lemma_parts (l, (tt, (p, tt))) (a_sign kinds.OpenBrace ∷ lines_lexemes lines (a_sign kinds.CloseBrace ∷ a_sign kinds.Semicolon ∷ rest))) m
    ∙ takes_parts lemma_parts (l, (tt, (p, tt))) (APartOf (Exactly signs.OpenBrace) ∷ Lines ∷ semicolon ∷ []) []
    (a_sign kinds.OpenBrace ∷ lines_lexemes lines (a_sign kinds.CloseBrace ∷ a_sign kinds.Semicolon ∷ rest)) tt
    ∙ takes_lines lines (semicolon ∷ []) (parts_notes lemma_parts (l, (tt, (p, tt))) []) (a_sign kinds.Semicolon ∷ rest)
takes_text h (command w ts) rest m =
    begun-part h (Command w) (parts_lexemes (command_row w).parts ts (a_sign kinds.Semicolon ∷ rest)) m
    ∙ takes_parts (command_row w).parts ts (semicolon ∷ []) [] (a_sign kinds.Semicolon ∷ rest) tt

pub takes_header : (h : Form) (rest : List Lexeme)
    → first_run (step_header h) (text_lexemes h header rest) ≡ run [] [] rest
takes_header h rest =
    ap (λ (o : Option Head). onward (header_move h.number o) (λ m. run m.pushed m.made (number h.number ∷ a_sign kinds.Semicolon ∷ rest))) (head_found h Header tt)
    ∙ takes_number h.number (semicolon ∷ []) [] (a_sign kinds.Semicolon ∷ rest)
