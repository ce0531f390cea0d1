-- What a lexeme makes of a stack of expectations, and what is noted on the way, both the newest first.
use Rattle.std.specs.Prelude.{◌≡◌, ◌==◌, ℕ, List, [], ◌∷◌, ◌++◌, map, Option, Some, None, Bool, true, false, if◌then◌else◌, codes, bytes_eq}
use Rattle.lt_texts.specs.declared.lexical.TokenKind.TheVariants as kinds
use Rattle.lt_texts.specs.Lexemes.{Lexeme, a_name, a_variable, a_number, a_sign}
use Rattle.lt_texts.specs.Forms.{Form}
use Rattle.lt_grammar.specs.declared.words.Fixed.{Fixed}
use Rattle.lt_grammar.specs.declared.words.Fixed.TheVariants as signs
use Rattle.lt_grammar.specs.declared.words.Part.{Part}
use Rattle.lt_grammar.specs.declared.words.Part.TheVariants.{Label, Number, Variable, Parameters, AType, AStatement, ATerm, Fixed as Exactly}
use Rattle.lt_grammar.specs.declared.words.RuleWord.{RuleWord}
use Rattle.lt_grammar.specs.declared.words.Head.{Head}
use Rattle.lt_grammar.specs.declared.words.Head.TheVariants.{Header, Lemma, Item, Command}
use Rattle.lt_grammar.specs.Table.{rule_row, item_row, lemma_parts, command_row}
use Rattle.lt_grammar.specs.Words.{rule_of, head_of}
use Rattle.lt_script.specs.declared.symbol.Symbol.{Symbol}
use Rattle.lt_script.specs.declared.symbol.Symbol.TheVariants.{«Type», Constructor, MoreTypes, Term, Inside, Brackets, Arguments, MoreTerms, BoundName, FreeName, CloseFree, LambdaName, Body, CloseLambda, KeepType, KeepTerm, Part as APartOf, HeaderNumber, Lines, EndLine}
use Rattle.lt_commands.specs.declared.note.Note.{Note}
use Rattle.lt_script.specs.declared.word.Word.{Word}
use Rattle.lt_script.specs.declared.word.Word.TheVariants.{Name, Variable as VariableWord, Number as NumberWord, Sign}
use Rattle.lt_commands.specs.declared.note.Note.TheVariants.{TypeVar as type_var, TypeAlone as type_alone, TypeOpen as type_open, TypeClose as type_close, KeepType as keep_type, ConstantName as constant_name, NoArguments as no_arguments, Arguments as arguments, Bound as bound_name, FreeName as free_name, FreeClose as free_close, LambdaName as lambda_name, LambdaClose as lambda_close, Apply as apply, KeepTerm as keep_term, Label as label, Count as count, Variable as variable, Parameter as parameter, KeepParameters as keep_parameters, BeginLine as begin_line, EndLine as end_line}

-- what is expected in place of a symbol, and what is noted
pub record Move : Type 0 where
  pub pushed : List Symbol
  pub made : List Note

abbrev pub go : List Symbol → List Note → Option Move
go s b = Some (record { pushed = s; made = b })

-- the move, with these symbols expected behind it and these notes before it
abbrev pub under : List Symbol → List Note → Option Move → Option Move
under s b None = None
under s b (Some m) = go (m.pushed ++ s) (m.made ++ b)

abbrev pub step_type : Lexeme → Option Move
step_type (a_variable a) = go [] (type_var a ∷ [])
step_type (a_name c) = go [] (type_alone c ∷ [])
step_type (a_sign kinds.Open) = go (Constructor ∷ []) []
step_type _ = None

abbrev pub step_constructor : Lexeme → Option Move
step_constructor (a_name c) = go («Type» ∷ MoreTypes ∷ []) (type_open c ∷ [])
step_constructor _ = None

abbrev pub step_more_types : Lexeme → Option Move
step_more_types (a_sign kinds.Close) = go [] (type_close ∷ [])
step_more_types w = under (MoreTypes ∷ []) [] (step_type w)

abbrev pub step_term : Lexeme → Option Move
step_term (a_name c) = go (Brackets ∷ []) (constant_name c ∷ [])
step_term (a_sign kinds.Percent) = go (BoundName ∷ []) []
step_term (a_sign kinds.Open) = go (Inside ∷ []) []
step_term _ = None

abbrev pub step_inside : Lexeme → Option Move
step_inside (a_sign kinds.Dollar) = go (FreeName ∷ []) []
step_inside (a_sign kinds.Backslash) = go (LambdaName ∷ []) []
step_inside w = under (Term ∷ MoreTerms ∷ []) [] (step_term w)

abbrev pub step_brackets : Lexeme → Option Move
step_brackets (a_sign kinds.OpenSquare) = go («Type» ∷ Arguments ∷ []) []
step_brackets _ = None

abbrev pub step_arguments : Lexeme → Option Move
step_arguments (a_sign kinds.CloseSquare) = go [] (arguments ∷ keep_type ∷ [])
step_arguments w = under (Arguments ∷ []) (keep_type ∷ []) (step_type w)

abbrev pub step_more_terms : Lexeme → Option Move
step_more_terms (a_sign kinds.Close) = go [] []
step_more_terms w = under (MoreTerms ∷ []) [] (step_term w)

abbrev pub step_bound_name : Lexeme → Option Move
step_bound_name (a_name x) = go [] (bound_name x ∷ [])
step_bound_name _ = None

abbrev pub step_free_name : Lexeme → Option Move
step_free_name (a_name x) = go («Type» ∷ CloseFree ∷ []) (free_name x ∷ [])
step_free_name _ = None

abbrev pub step_close_free : Lexeme → Option Move
step_close_free (a_sign kinds.Close) = go [] (free_close ∷ keep_type ∷ [])
step_close_free _ = None

abbrev pub step_lambda_name : Lexeme → Option Move
step_lambda_name (a_name x) = go («Type» ∷ Body ∷ CloseLambda ∷ []) (lambda_name x ∷ [])
step_lambda_name _ = None

abbrev pub step_close_lambda : Lexeme → Option Move
step_close_lambda (a_sign kinds.Close) = go [] (lambda_close ∷ [])
step_close_lambda _ = None

abbrev pub step_label : Lexeme → Option Move
step_label (a_name c) = go [] (label c ∷ [])
step_label _ = None

abbrev pub step_number : Lexeme → Option Move
step_number (a_number (Some n)) = go [] (count n ∷ [])
step_number _ = None

abbrev pub step_variable : Lexeme → Option Move
step_variable (a_variable a) = go [] (variable a ∷ [])
step_variable _ = None

abbrev pub step_parameters : Lexeme → Option Move
step_parameters (a_variable a) = go (APartOf Parameters ∷ []) (parameter a ∷ [])
step_parameters (a_sign kinds.Colon) = go [] (keep_parameters ∷ [])
step_parameters _ = None

-- whether it is the lexeme that stands as it is
abbrev pub is_fixed : Fixed → Lexeme → Bool
is_fixed signs.Semicolon (a_sign kinds.Semicolon) = true
is_fixed signs.Colon (a_sign kinds.Colon) = true
is_fixed signs.Becomes (a_sign kinds.Becomes) = true
is_fixed signs.OpenBrace (a_sign kinds.OpenBrace) = true
is_fixed signs.By (a_name c) = bytes_eq c (codes "by")
is_fixed signs.Abs (a_name c) = bytes_eq c (codes "abs")
is_fixed signs.Rep (a_name c) = bytes_eq c (codes "rep")
is_fixed _ _ = false

abbrev pub step_part_of : Part → Lexeme → Option Move
step_part_of Label w = step_label w
step_part_of Number w = step_number w
step_part_of Variable w = step_variable w
step_part_of Parameters w = step_parameters w
step_part_of AType w = under (KeepType ∷ []) [] (step_type w)
step_part_of AStatement w = under (KeepTerm ∷ []) [] (step_term w)
step_part_of ATerm w = under (KeepTerm ∷ []) [] (step_term w)
step_part_of (Exactly k) w = if is_fixed k w then go [] [] else None

-- whether it is that number
abbrev pub is_number : ℕ → Lexeme → Bool
is_number k (a_number (Some n)) = n == k
is_number k _ = false

abbrev pub step_header_number : ℕ → Lexeme → Option Move
step_header_number k w = if is_number k w then go [] [] else None

abbrev pub semicolon : Symbol
semicolon = APartOf (Exactly signs.Semicolon)

abbrev pub line_move : Option RuleWord → Option Move
line_move None = None
line_move (Some r) = go (map APartOf (rule_row r).parts ++ EndLine r ∷ Lines ∷ []) (begin_line r ∷ [])

abbrev pub step_lines : Lexeme → Option Move
step_lines (a_sign kinds.CloseBrace) = go [] []
step_lines (a_name w) = line_move (rule_of w)
step_lines _ = None

abbrev pub step_end_line : RuleWord → Lexeme → Option Move
step_end_line r (a_sign kinds.Semicolon) = go [] (end_line r ∷ [])
step_end_line r _ = None

-- what is expected behind the word of a sentence, where the header has this number
abbrev pub expected : ℕ → Head → List Symbol
expected n Header = HeaderNumber n ∷ semicolon ∷ []
expected n Lemma = map APartOf lemma_parts ++ APartOf (Exactly signs.OpenBrace) ∷ Lines ∷ semicolon ∷ []
expected n (Item w) = map APartOf (item_row w).parts ++ semicolon ∷ []
expected n (Command w) = map APartOf (command_row w).parts ++ semicolon ∷ []

-- what the word of a sentence makes of nothing
abbrev pub part_move : ℕ → Option Head → Option Move
part_move n None = None
part_move n (Some k) = go (expected n k) []

-- the same of what stands where a sentence of a text of the form may begin
abbrev pub step_part : Form → Lexeme → Option Move
step_part h (a_name w) = part_move h.number (head_of h w)
step_part h _ = None

abbrev pub header_move : ℕ → Option Head → Option Move
header_move n (Some Header) = part_move n (Some Header)
header_move n _ = None

-- and where its header must begin
abbrev pub step_header : Form → Lexeme → Option Move
step_header h (a_name w) = header_move h.number (head_of h w)
step_header h _ = None

-- what a lexeme makes of one symbol
abbrev pub step : Symbol → Lexeme → Option Move
step «Type» w = step_type w
step Constructor w = step_constructor w
step MoreTypes w = step_more_types w
step Term w = step_term w
step Inside w = step_inside w
step Brackets w = step_brackets w
step Arguments w = step_arguments w
step MoreTerms w = under [] (apply ∷ []) (step_more_terms w)
step BoundName w = step_bound_name w
step FreeName w = step_free_name w
step CloseFree w = step_close_free w
step LambdaName w = step_lambda_name w
step Body w = under [] (keep_type ∷ []) (step_term w)
step CloseLambda w = step_close_lambda w
step KeepType w = None
step KeepTerm w = None
step (APartOf p) w = step_part_of p w
step (HeaderNumber n) w = step_header_number n w
step Lines w = step_lines w
step (EndLine r) w = step_end_line r w

-- what is noted where a symbol is passed over, if it may be
abbrev pub pass : Symbol → Option Note
pass Brackets = Some no_arguments
pass KeepType = Some keep_type
pass KeepTerm = Some keep_term
pass _ = None

abbrev pub or_pass : Option Move → Option Note → Option Move → Option Move
or_pass (Some m) o q = Some m
or_pass None (Some n) q = under [] (n ∷ []) q
or_pass None None q = None

-- What it makes of the whole stack: what doesn't take it is passed over on the way. The move has all of the new stack.
abbrev pub step_on : List Symbol → Lexeme → Option Move
step_on [] w = None
step_on (x ∷ s) w = or_pass (under s [] (step x w)) (pass x) (step_on s w)

pub record State : Type 0 where
  pub stack : List Symbol
  pub made : List Note

abbrev pub state : List Symbol → List Note → State
state s b = record { stack = s; made = b }

abbrev pub onward : Option Move → (Move → Option State) → Option State
onward None f = None
onward (Some m) f = f m

-- what some lexemes make of it
abbrev pub run : List Symbol → List Note → List Lexeme → Option State
run s b [] = Some (state s b)
run s b (w ∷ ws) = onward (step_on s w) (λ m. run m.pushed (m.made ++ b) ws)

-- the lexeme that a reader sees
abbrev pub meant : Word → Lexeme
meant (Name c) = a_name c
meant (VariableWord a) = a_variable a
meant (NumberWord n) = a_number n
meant (Sign k) = a_sign k

-- what is noted where a symbol is passed over before this lexeme, if it is
abbrev pub passed : Symbol → Lexeme → Option Note
passed KeepType w = Some keep_type
passed KeepTerm w = Some keep_term
passed Brackets (a_sign kinds.OpenSquare) = None
passed Brackets w = Some no_arguments
passed x w = None

-- whether a call that takes a word took it, and what it made of the stack
abbrev pub Takes : Bool → Option Move → List Symbol → List Note → List Note → Type 0
Takes true (Some m) stack before made = (stack ≡ m.pushed) × (made ≡ m.made ++ before)
Takes true None stack before made = ⊥
Takes false o stack before made = o ≡ None

-- the same for one symbol over the rest of the stack
abbrev pub Moves : Bool → Option Move → List Symbol → List Symbol → List Note → List Note → Type 0
Moves true (Some m) stack stack' made made' = (stack' ≡ m.pushed ++ stack) × (made' ≡ m.made ++ made)
Moves true None stack stack' made made' = ⊥
Moves false o stack stack' made made' = o ≡ None

-- what was passed over on the way from one stack to another
abbrev pub Passed : Lexeme → List Symbol → List Note → List Symbol → List Note → Type 0
Passed w before made s b = (done : List Note) × (step_on before w ≡ under [] done (step_on s w)) × (b ≡ done ++ made)

-- the newest symbol that isn't passed over, and what is behind it; or there is none
abbrev pub Settles : Lexeme → Option Symbol → List Symbol → List Note → List Symbol → List Note → Type 0
Settles w None before made s b = step_on before w ≡ None
Settles w (Some x) before made s b = (passed x w ≡ None) × Passed w before made (x ∷ s) b
