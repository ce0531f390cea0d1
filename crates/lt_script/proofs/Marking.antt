-- A line begins exactly where it is noted.
use Rattle.std.proofs.Common.{◌≡◌, ℕ, ◌∙◌, ap, sym, refl, Bool, true, false, List, [], ◌∷◌, ◌++◌, Option, Some, None, append-nil}
use Rattle.std.specs.Prelude.{if◌then◌else◌}
use Rattle.lt_texts.specs.declared.lexical.TokenKind.TheVariants as kinds
use Rattle.lt_texts.specs.Texts.{Left, lexed, after}
use Rattle.lt_texts.specs.Lexemes.{Lexeme, a_name, a_variable, a_number, a_sign, Spans}
use Rattle.lt_grammar.specs.declared.words.Part.{Part}
use Rattle.lt_grammar.specs.declared.words.Part.TheVariants.{Label, Number, Variable, Parameters, AType, AStatement, ATerm, Fixed as Exactly}
use Rattle.lt_grammar.specs.declared.words.RuleWord.{RuleWord}
use Rattle.lt_grammar.specs.Words.{rule_of}
use Rattle.lt_commands.specs.declared.note.Note.{Note}
use Rattle.lt_commands.specs.declared.note.Note.TheVariants.{KeepType, Apply, BeginLine}
use Rattle.lt_script.specs.declared.symbol.Symbol.{Symbol}
use Rattle.lt_script.specs.declared.symbol.Symbol.TheVariants.{«Type», Constructor, MoreTypes, Term, Inside, Brackets, Arguments as MoreArguments, MoreTerms, BoundName, FreeName as AFreeName, CloseFree, LambdaName as ALambdaName, Body, CloseLambda, KeepType as AKeepType, KeepTerm as AKeepTerm, Part as APartOf, HeaderNumber, Lines, EndLine as AnEndLine}
use Rattle.lt_script.specs.Machine.{Move, go, under, step_type, step_term, step_more_types, step_more_terms, is_fixed, is_number, line_move, step, step_on, State, state, onward, run}
use Rattle.lt_script.specs.Marks.{has_begin, begins_by, begins_line, marked, token_place, stack_by, marks}

begin-append : (xs ys : List Note) → has_begin ys ≡ false → has_begin (xs ++ ys) ≡ has_begin xs
begin-append [] ys e = e
begin-append (BeginLine w ∷ xs) ys e = refl
begin-append (n ∷ xs) ys e = begin-append xs ys e

pub begin_under : (s : List Symbol) (b : List Note) (o : Option Move) → has_begin b ≡ false → begins_by (under s b o) ≡ begins_by o
begin_under s b None e = refl
begin_under s b (Some m) e = begin-append m.made b e

type-begins : (w : Lexeme) → begins_by (step_type w) ≡ false
type-begins (a_variable a) = refl
type-begins (a_name c) = refl
type-begins (a_sign kinds.Open) = refl
type-begins w = refl

term-begins : (w : Lexeme) → begins_by (step_term w) ≡ false
term-begins (a_name c) = refl
term-begins (a_sign kinds.Percent) = refl
term-begins (a_sign kinds.Open) = refl
term-begins w = refl

if-begins : (y : Bool) → begins_by (if y then go [] [] else None) ≡ false
if-begins true = refl
if-begins false = refl

part-begins : (p : Part) (w : Lexeme) → begins_by (step (APartOf p) w) ≡ false
part-begins Label (a_name c) = refl
part-begins Label w = refl
part-begins Number (a_number (Some n)) = refl
part-begins Number w = refl
part-begins Variable (a_variable a) = refl
part-begins Variable w = refl
part-begins Parameters (a_variable a) = refl
part-begins Parameters (a_sign kinds.Colon) = refl
part-begins Parameters w = refl
part-begins AType w = begin_under (AKeepType ∷ []) [] (step_type w) refl ∙ type-begins w
part-begins AStatement w = begin_under (AKeepTerm ∷ []) [] (step_term w) refl ∙ term-begins w
part-begins ATerm w = begin_under (AKeepTerm ∷ []) [] (step_term w) refl ∙ term-begins w
part-begins (Exactly k) w = if-begins (is_fixed k w)

more-types-begin : (w : Lexeme) → begins_by (step_more_types w) ≡ false
more-types-begin (a_sign kinds.Close) = refl
more-types-begin (a_variable a) = refl
more-types-begin (a_name c) = refl
more-types-begin (a_sign kinds.Open) = refl
more-types-begin w = refl

more-terms-begin : (w : Lexeme) → begins_by (step_more_terms w) ≡ false
more-terms-begin (a_sign kinds.Close) = refl
more-terms-begin (a_name c) = refl
more-terms-begin (a_sign kinds.Percent) = refl
more-terms-begin (a_sign kinds.Open) = refl
more-terms-begin w = refl

line-begins : (c : List ℕ) (o : Option RuleWord) (m : Move) → line_move o ≡ Some m → has_begin m.made ≡ true
line-begins c None m e = absurd (cc e)
line-begins c (Some r) m e = sym (ap begins_by e)

-- what a lexeme makes of one symbol begins a line where lines are expected and it is a name
pub one_begins : (x : Symbol) (w : Lexeme) (m : Move) → step x w ≡ Some m → begins_by (step x w) ≡ begins_line x w
one_begins «Type» w m e = type-begins w
one_begins Constructor (a_name c) m e = refl
one_begins Constructor w m e = refl
one_begins MoreTypes w m e = more-types-begin w
one_begins Term w m e = term-begins w
one_begins Inside (a_sign kinds.Dollar) m e = refl
one_begins Inside (a_sign kinds.Backslash) m e = refl
one_begins Inside (a_name c) m e = refl
one_begins Inside (a_sign kinds.Percent) m e = refl
one_begins Inside (a_sign kinds.Open) m e = refl
one_begins Inside w m e = refl
one_begins Brackets (a_sign kinds.OpenSquare) m e = refl
one_begins Brackets w m e = refl
one_begins MoreArguments (a_sign kinds.CloseSquare) m e = refl
one_begins MoreArguments (a_variable a) m e = refl
one_begins MoreArguments (a_name c) m e = refl
one_begins MoreArguments (a_sign kinds.Open) m e = refl
one_begins MoreArguments w m e = refl
one_begins MoreTerms w m e = begin_under [] (Apply ∷ []) (step_more_terms w) refl ∙ more-terms-begin w
one_begins BoundName (a_name c) m e = refl
one_begins BoundName w m e = refl
one_begins AFreeName (a_name c) m e = refl
one_begins AFreeName w m e = refl
one_begins CloseFree (a_sign kinds.Close) m e = refl
one_begins CloseFree w m e = refl
one_begins ALambdaName (a_name c) m e = refl
one_begins ALambdaName w m e = refl
one_begins Body w m e = begin_under [] (KeepType ∷ []) (step_term w) refl ∙ term-begins w
one_begins CloseLambda (a_sign kinds.Close) m e = refl
one_begins CloseLambda w m e = refl
one_begins AKeepType w m e = refl
one_begins AKeepTerm w m e = refl
one_begins (APartOf p) w m e = part-begins p w
one_begins (HeaderNumber n) w m e = if-begins (is_number n w)
one_begins Lines (a_sign kinds.CloseBrace) m e = refl
one_begins Lines (a_name c) m e = ap begins_by e ∙ line-begins c (rule_of c) m e
one_begins Lines w m e = absurd (cc e)
one_begins (AnEndLine r) (a_sign kinds.Semicolon) m e = refl
one_begins (AnEndLine r) w m e = refl

-- ---- many lexemes

-- one lexeme more at the end
marks-by : (y : Bool) (at : ℕ) (xs ys zs : List ℕ) → xs ≡ ys ++ zs → marked y at ++ xs ≡ (marked y at ++ ys) ++ zs
marks-by true at xs ys zs e = ap (λ (z : List ℕ). at ∷ z) e
marks-by false at xs ys zs e = e

pub marks_snoc : (ws : List Lexeme) (w : Lexeme) (st st' : List Symbol) (b b' : List Note) (s s' : Left) → Spans s ws s' → run st b ws ≡ Some (state st' b')
    → marks st s (ws ++ w ∷ []) ≡ marks st s ws ++ marked (begins_by (step_on st' w)) (token_place (lexed s'))
marks_snoc [] w st st' b b' s s' f e =
    append-nil (marked (begins_by (step_on st w)) (token_place (lexed s)))
    ∙ (λ i. marked (begins_by (step_on (ap stack-of e i) w)) (token_place (lexed (sym f i))))
  where
    stack-of : Option State → List Symbol
    stack-of None = []
    stack-of (Some m) = m.stack
marks_snoc (v ∷ ws) w st st' b b' s s' (n, f) e =
    marks-by (begins_by (step_on st v)) (token_place (lexed s)) _ _ _ (by (step_on st v) e (λ m. marks_snoc ws w m.pushed st' (m.made ++ b) b' (after s) s' f))
  where
    by : (o : Option Move) → onward o (λ m. run m.pushed (m.made ++ b) ws) ≡ Some (state st' b')
        → ((m : Move) → run m.pushed (m.made ++ b) ws ≡ Some (state st' b')
        → marks m.pushed (after s) (ws ++ w ∷ []) ≡ marks m.pushed (after s) ws ++ marked (begins_by (step_on st' w)) (token_place (lexed s')))
        → marks (stack_by o) (after s) (ws ++ w ∷ []) ≡ marks (stack_by o) (after s) ws ++ marked (begins_by (step_on st' w)) (token_place (lexed s'))
    by None e later = absurd (cc e)
    by (Some m) e later = later m e

-- one list of lexemes behind another
pub marks_append : (xs ys : List Lexeme) (st st' : List Symbol) (b b' : List Note) (s s' : Left) → Spans s xs s' → run st b xs ≡ Some (state st' b')
    → marks st s (xs ++ ys) ≡ marks st s xs ++ marks st' s' ys
marks_append [] ys st st' b b' s s' f e = λ i. marks (ap stack-of e i) (sym f i) ys
  where
    stack-of : Option State → List Symbol
    stack-of None = []
    stack-of (Some m) = m.stack
marks_append (v ∷ xs) ys st st' b b' s s' (n, f) e =
    marks-by (begins_by (step_on st v)) (token_place (lexed s)) _ _ _ (by (step_on st v) e (λ m. marks_append xs ys m.pushed st' (m.made ++ b) b' (after s) s' f))
  where
    by : (o : Option Move) → onward o (λ m. run m.pushed (m.made ++ b) xs) ≡ Some (state st' b')
        → ((m : Move) → run m.pushed (m.made ++ b) xs ≡ Some (state st' b')
        → marks m.pushed (after s) (xs ++ ys) ≡ marks m.pushed (after s) xs ++ marks st' s' ys)
        → marks (stack_by o) (after s) (xs ++ ys) ≡ marks (stack_by o) (after s) xs ++ marks st' s' ys
    by None e later = absurd (cc e)
    by (Some m) e later = later m e
