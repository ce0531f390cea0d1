-- No line begins within a line: its parts note none.
use Rattle.std.proofs.Common.{◌≡◌, ℕ, suc, ◌+◌, ◌≤◌, ◌∙◌, ap, refl, Bool, false, List, [], ◌∷◌, ◌++◌, Option, Some, None, arith}
use Rattle.lt_definitions.specs.Types.{Chars, TypeTree, TypeTrees, type_variable, type_constructor, no_types, type_and, row}
use Rattle.lt_texts.specs.Texts.{Left, lexed, after}
use Rattle.lt_texts.specs.Lexemes.{Lexeme}
use Rattle.lt_texts.specs.Writing.{TermText, word, bound, free, lambda, applied, TermTexts, no_more_terms, more_terms}
use Rattle.lt_grammar.specs.declared.words.Part.{Part}
use Rattle.lt_grammar.specs.declared.words.Part.TheVariants.{Label, Number, Variable, Parameters, AType, AStatement, ATerm, Fixed as Exactly}
use Rattle.lt_grammar.specs.Rows.{Text, Texts}
use Rattle.lt_commands.specs.declared.note.Note.{Note}
use Rattle.lt_commands.specs.declared.note.Note.TheVariants.{TypeOpen, KeepType, ConstantName, FreeName, LambdaName, Apply, Parameter, BeginLine}
use Rattle.lt_commands.specs.Notes.{type_notes, types_notes, later_notes, arguments_notes, term_notes, terms_notes, parameters_notes, part_notes, parts_notes}
use Rattle.lt_script.specs.declared.symbol.Symbol.{Symbol}
use Rattle.lt_script.specs.Machine.{Move, step_on, State, onward, run}
use Rattle.lt_script.specs.Marks.{has_begin, begins_by, marked, token_place, stack_by, marks}

-- how many lines begin by notes
abbrev pub begun : List Note → ℕ
begun [] = 0
begun (BeginLine w ∷ b) = suc (begun b)
begun (n ∷ b) = begun b

begun-append : (xs ys : List Note) → begun (xs ++ ys) ≡ begun xs + begun ys
begun-append [] ys = omega arith
begun-append (BeginLine w ∷ xs) ys = omega (arith, begun-append xs ys)
begun-append (n ∷ xs) ys = begun-append xs ys

none-begun : (b : List Note) → begun b ≡ 0 → has_begin b ≡ false
none-begun [] e = refl
none-begun (BeginLine w ∷ b) e = absurd (omega (arith, e))
none-begun (n ∷ b) e = none-begun b e

no-fewer : (ws : List Lexeme) (st : List Symbol) (b : List Note) (m : State) → run st b ws ≡ Some m → begun b ≤ begun m.made
no-fewer [] st b m e = let same : begun b ≡ begun m.made = ap notes e in omega (arith, same)
  where
    notes : Option State → ℕ
    notes None = 0
    notes (Some m) = begun m.made
no-fewer (w ∷ ws) st b m e = by (step_on st w) e (λ k. no-fewer ws k.pushed (k.made ++ b) m)
  where
    by : (o : Option Move) → onward o (λ k. run k.pushed (k.made ++ b) ws) ≡ Some m
        → ((k : Move) → run k.pushed (k.made ++ b) ws ≡ Some m → begun (k.made ++ b) ≤ begun m.made) → begun b ≤ begun m.made
    by None e later = absurd (cc e)
    by (Some k) e later =
        let more : begun (k.made ++ b) ≤ begun m.made = later k e in
        omega (arith, more, begun-append k.made b)

-- where as many lines have begun as before, none begins on the way
pub none_marked : (ws : List Lexeme) (st : List Symbol) (b : List Note) (s : Left) (m : State) → run st b ws ≡ Some m → begun m.made ≡ begun b → marks st s ws ≡ []
none_marked [] st b s m e q = refl
none_marked (w ∷ ws) st b s m e q = by (step_on st w) e (λ k. none_marked ws k.pushed (k.made ++ b) (after s) m)
  where
    by : (o : Option Move) → onward o (λ k. run k.pushed (k.made ++ b) ws) ≡ Some m
        → ((k : Move) → run k.pushed (k.made ++ b) ws ≡ Some m → begun m.made ≡ begun (k.made ++ b) → marks k.pushed (after s) ws ≡ [])
        → marked (begins_by o) (token_place (lexed s)) ++ marks (stack_by o) (after s) ws ≡ []
    by None e later = absurd (cc e)
    by (Some k) e later =
        let more : begun (k.made ++ b) ≤ begun m.made = no-fewer ws k.pushed (k.made ++ b) m e in
        let sum : begun (k.made ++ b) ≡ begun k.made + begun b = begun-append k.made b in
        let none : begun k.made ≡ 0 = omega (arith, more, sum, q) in
        let same : begun m.made ≡ begun (k.made ++ b) = omega (arith, sum, q, none) in
        ap (λ (y : Bool). marked y (token_place (lexed s)) ++ marks k.pushed (after s) ws) (none-begun k.made none)
        ∙ later k e same

mutual
  type-begun : (t : TypeTree) (b : List Note) → begun (type_notes t b) ≡ begun b
  type-begun (type_variable a) b = refl
  type-begun (type_constructor c no_types) b = refl
  type-begun (type_constructor c (type_and t ts)) b = types-begun ts (type_notes t (TypeOpen c ∷ b)) ∙ type-begun t (TypeOpen c ∷ b)

  types-begun : (ts : TypeTrees) (b : List Note) → begun (types_notes ts b) ≡ begun b
  types-begun no_types b = refl
  types-begun (type_and t ts) b = types-begun ts (type_notes t b) ∙ type-begun t b

later-begun : (ts : TypeTrees) (b : List Note) → begun (later_notes ts b) ≡ begun b
later-begun no_types b = refl
later-begun (type_and t ts) b = later-begun ts (type_notes t (KeepType ∷ b)) ∙ type-begun t (KeepType ∷ b)

arguments-begun : (ts : List TypeTree) (b : List Note) → begun (arguments_notes ts b) ≡ begun b
arguments-begun [] b = refl
arguments-begun (t ∷ ts) b = later-begun (row ts) (type_notes t b) ∙ type-begun t b

mutual
  term-begun : (t : TermText) (b : List Note) → begun (term_notes t b) ≡ begun b
  term-begun (word c ts) b = arguments-begun ts (ConstantName c ∷ b)
  term-begun (bound x) b = refl
  term-begun (free x ty) b = type-begun ty (FreeName x ∷ b)
  term-begun (lambda x ty t) b = term-begun t (KeepType ∷ type_notes ty (LambdaName x ∷ b)) ∙ type-begun ty (LambdaName x ∷ b)
  term-begun (applied f a more) b = terms-begun more (Apply ∷ term_notes a (term_notes f b)) ∙ term-begun a (term_notes f b) ∙ term-begun f b

  terms-begun : (more : TermTexts) (b : List Note) → begun (terms_notes more b) ≡ begun b
  terms-begun no_more_terms b = refl
  terms-begun (more_terms t more) b = terms-begun more (Apply ∷ term_notes t b) ∙ term-begun t b

parameters-begun : (names : List Chars) (b : List Note) → begun (parameters_notes names b) ≡ begun b
parameters-begun [] b = refl
parameters-begun (a ∷ names) b = parameters-begun names (Parameter a ∷ b)

part-begun : (p : Part) (a : Text p) (b : List Note) → begun (part_notes p a b) ≡ begun b
part-begun Label a b = refl
part-begun Number a b = refl
part-begun Variable a b = refl
part-begun Parameters a b = parameters-begun a b
part-begun AType a b = type-begun a b
part-begun AStatement a b = term-begun a b
part-begun ATerm a b = term-begun a b
part-begun (Exactly k) a b = refl

pub parts_begun : (ps : List Part) (ts : Texts ps) (b : List Note) → begun (parts_notes ps ts b) ≡ begun b
parts_begun [] ts b = refl
parts_begun (p ∷ ps) ts b = parts_begun ps ts.1 (part_notes p ts.0 b) ∙ part-begun p ts.0 b
