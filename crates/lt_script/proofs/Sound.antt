-- What the machine takes to the end is written by the grammar, and what is expected can be met.
use Rattle.std.proofs.Common.{◌≡◌, ℕ, ◌∙◌, ap, ap₂, sym, refl, subst, Bool, true, false, List, [], ◌∷◌, ◌++◌, Option, Some, None, append_assoc, append-nil}
use Rattle.std.specs.Prelude.{◌==◌, if◌then◌else◌, map, codes, bytes_eq}
use Rattle.std.proofs.lemmas.Bool.{eqb-true}
use Rattle.std.proofs.lemmas.Slice.Eq.{bytes_eq-Decides}
use Rattle.lt_texts.specs.declared.lexical.TokenKind.TheVariants as kinds
use Rattle.lt_definitions.specs.Types.{Chars, TypeTree, TypeTrees, type_variable, type_constructor, no_types, type_and, row}
use Rattle.lt_texts.specs.Lexemes.{Lexeme, a_name, a_variable, a_number, a_sign}
use Rattle.lt_texts.specs.Forms.{Form}
use Rattle.lt_grammar.specs.declared.words.Fixed.{Fixed}
use Rattle.lt_grammar.specs.declared.words.Fixed.TheVariants as signs
use Rattle.lt_grammar.specs.declared.words.Part.{Part}
use Rattle.lt_grammar.specs.declared.words.Part.TheVariants.{Label, Number, Variable, Parameters, AType, AStatement, ATerm, Fixed as Exactly}
use Rattle.lt_grammar.specs.declared.words.RuleWord.{RuleWord}
use Rattle.lt_grammar.specs.declared.words.Head.{Head}
use Rattle.lt_grammar.specs.declared.words.Head.TheVariants.{Header, Lemma, Item, Command}
use Rattle.lt_texts.specs.Writing.{type_lexemes, types_lexemes, arguments_lexemes, TermText, word, bound, free, lambda, applied, TermTexts, no_more_terms, more_terms, term_lexemes, terms_lexemes}
use Rattle.lt_grammar.specs.Rows.{fixed, Text, Texts, number, part_lexemes, parts_lexemes}
use Rattle.lt_grammar.specs.Table.{rule_row, item_row, lemma_parts, command_row}
use Rattle.lt_grammar.specs.RowTexts.{LineText, line, lines_lexemes, PartText, header, item, lemma, command, text_lexemes, MayStand}
use Rattle.lt_grammar.specs.Words.{all_rules, rule_of, rule_word, head_of, head_word}
use Rattle.lt_grammar.proofs.Distinct.{IsHead, found_has, found_head}
use Rattle.lt_script.specs.declared.symbol.Symbol.{Symbol}
use Rattle.lt_script.specs.declared.symbol.Symbol.TheVariants.{«Type», Constructor, MoreTypes, Term, Inside, Brackets, Arguments, MoreTerms, BoundName, FreeName, CloseFree, LambdaName, Body, CloseLambda, KeepType, KeepTerm, Part as APartOf, HeaderNumber, Lines, EndLine}
use Rattle.lt_commands.specs.declared.note.Note.{Note}
use Rattle.lt_script.proofs.Taken.{first_run}
use Rattle.lt_script.specs.Machine.{Move, go, under, step_type, step_constructor, step_more_types, step_term, step_inside, step_brackets, step_arguments, step_bound_name, step_free_name, step_close_free, step_lambda_name, step_close_lambda, step_label, step_number, step_variable, step_parameters, is_fixed, step_part_of, step_header_number, semicolon, line_move, step_lines, step_end_line, expected, part_move, step_part, header_move, step_header, step, pass, or_pass, step_on, State, onward, run}

-- a writing of a symbol, and the rest
abbrev pub Spells : Symbol → List Lexeme → List Lexeme → Type 0
Spells «Type» ws rest = (t : TypeTree) × (ws ≡ type_lexemes t rest)
Spells Constructor ws rest = (t : TypeTree) × (a_sign kinds.Open ∷ ws ≡ type_lexemes t rest)
Spells MoreTypes ws rest = (ts : TypeTrees) × (ws ≡ types_lexemes ts (a_sign kinds.Close ∷ rest))
Spells Term ws rest = (t : TermText) × (ws ≡ term_lexemes t rest)
Spells Inside ws rest = (t : TermText) × (a_sign kinds.Open ∷ ws ≡ term_lexemes t rest)
Spells Brackets ws rest = (ts : List TypeTree) × (ws ≡ arguments_lexemes ts rest)
Spells Arguments ws rest = (ts : List TypeTree) × (ws ≡ types_lexemes (row ts) (a_sign kinds.CloseSquare ∷ rest))
Spells MoreTerms ws rest = (more : TermTexts) × (ws ≡ terms_lexemes more (a_sign kinds.Close ∷ rest))
Spells BoundName ws rest = (x : Chars) × (ws ≡ a_name x ∷ rest)
Spells FreeName ws rest = (x : Chars) × (ty : TypeTree) × (ws ≡ a_name x ∷ type_lexemes ty (a_sign kinds.Close ∷ rest))
Spells CloseFree ws rest = ws ≡ a_sign kinds.Close ∷ rest
Spells LambdaName ws rest = (x : Chars) × (ty : TypeTree) × (t : TermText) × (ws ≡ a_name x ∷ type_lexemes ty (term_lexemes t (a_sign kinds.Close ∷ rest)))
Spells Body ws rest = (t : TermText) × (ws ≡ term_lexemes t rest)
Spells CloseLambda ws rest = ws ≡ a_sign kinds.Close ∷ rest
Spells KeepType ws rest = ws ≡ rest
Spells KeepTerm ws rest = ws ≡ rest
Spells (APartOf p) ws rest = (a : Text p) × (ws ≡ part_lexemes p a rest)
Spells (HeaderNumber n) ws rest = ws ≡ number n ∷ rest
Spells Lines ws rest = (lines : List LineText) × (ws ≡ lines_lexemes lines (a_sign kinds.CloseBrace ∷ rest))
Spells (EndLine r) ws rest = ws ≡ a_sign kinds.Semicolon ∷ rest

abbrev pub Language : List Symbol → List Lexeme → Type 0
Language [] ws = ws ≡ []
Language (x ∷ s) ws = (rest : List Lexeme) × Spells x ws rest × Language s rest

abbrev pushed_by : Option Move → List Symbol
pushed_by None = []
pushed_by (Some m) = m.pushed

-- one lexeme back
abbrev Back : Symbol → Lexeme → Option Move → Type 0
Back x w o = (s : List Symbol) (us : List Lexeme) (m : Move) → o ≡ Some m → Language (pushed_by o ++ s) us → Language (x ∷ s) (w ∷ us)

-- ---- types

back-type : (w : Lexeme) → Back «Type» w (step_type w)
back-type (a_variable a) s us m e l = (us, (type_variable a, refl), l)
back-type (a_name c) s us m e l = (us, (type_constructor c no_types, refl), l)
back-type (a_sign kinds.Open) s us m e (rest, h, l) = (rest, h, l)
back-type _ s us m e l = absurd (cc e)

back-constructor : (w : Lexeme) → Back Constructor w (step_constructor w)
back-constructor (a_name c) s us m e (r, (t, h), (r', (ts, h'), l)) =
    (r', (type_constructor c (type_and t ts), ap (λ (x : List Lexeme). a_sign kinds.Open ∷ a_name c ∷ x) (h ∙ ap (type_lexemes t) h')), l)
back-constructor _ s us m e l = absurd (cc e)

one-type : (s : List Symbol) (ws : List Lexeme) → Language («Type» ∷ MoreTypes ∷ s) ws → Language (MoreTypes ∷ s) ws
one-type s ws (r, (t, h), (r', (ts, h'), l)) = (r', (type_and t ts, h ∙ ap (type_lexemes t) h'), l)

back-more-types : (w : Lexeme) → Back MoreTypes w (step_more_types w)
back-more-types (a_sign kinds.Close) s us m e l = (us, (no_types, refl), l)
back-more-types (a_variable a) s us m e l = one-type s _ (back-type (a_variable a) (MoreTypes ∷ s) us _ refl l)
back-more-types (a_name c) s us m e l = one-type s _ (back-type (a_name c) (MoreTypes ∷ s) us _ refl l)
back-more-types (a_sign kinds.Open) s us m e l = one-type s _ (back-type (a_sign kinds.Open) (MoreTypes ∷ s) us _ refl l)
back-more-types _ s us m e l = absurd (cc e)

back-brackets : (w : Lexeme) → Back Brackets w (step_brackets w)
back-brackets (a_sign kinds.OpenSquare) s us m e (r, (t, h), (r', (ts, h'), l)) = (r', (t ∷ ts, ap (λ (x : List Lexeme). a_sign kinds.OpenSquare ∷ x) (h ∙ ap (type_lexemes t) h')), l)
back-brackets _ s us m e l = absurd (cc e)

one-argument : (s : List Symbol) (ws : List Lexeme) → Language («Type» ∷ Arguments ∷ s) ws → Language (Arguments ∷ s) ws
one-argument s ws (r, (t, h), (r', (ts, h'), l)) = (r', (t ∷ ts, h ∙ ap (type_lexemes t) h'), l)

back-arguments : (w : Lexeme) → Back Arguments w (step_arguments w)
back-arguments (a_sign kinds.CloseSquare) s us m e l = (us, ([], refl), l)
back-arguments (a_variable a) s us m e l = one-argument s _ (back-type (a_variable a) (Arguments ∷ s) us _ refl l)
back-arguments (a_name c) s us m e l = one-argument s _ (back-type (a_name c) (Arguments ∷ s) us _ refl l)
back-arguments (a_sign kinds.Open) s us m e l = one-argument s _ (back-type (a_sign kinds.Open) (Arguments ∷ s) us _ refl l)
back-arguments _ s us m e l = absurd (cc e)

-- ---- terms

back-term : (w : Lexeme) → Back Term w (step_term w)
back-term (a_name c) s us m e (r, (ts, h), l) = (r, (word c ts, ap (λ (x : List Lexeme). a_name c ∷ x) h), l)
back-term (a_sign kinds.Percent) s us m e (r, (x, h), l) = (r, (bound x, ap (λ (y : List Lexeme). a_sign kinds.Percent ∷ y) h), l)
back-term (a_sign kinds.Open) s us m e (r, h, l) = (r, h, l)
back-term _ s us m e l = absurd (cc e)

one-application : (s : List Symbol) (ws : List Lexeme) → Language (Term ∷ Term ∷ MoreTerms ∷ s) ws → Language (Inside ∷ s) ws
one-application s ws (r, (f, h), (r', (a, h'), (r'', (more, h''), l))) =
    (r'', (applied f a more, ap (λ (x : List Lexeme). a_sign kinds.Open ∷ x) (h ∙ ap (term_lexemes f) (h' ∙ ap (term_lexemes a) h''))), l)

back-inside : (w : Lexeme) → Back Inside w (step_inside w)
back-inside (a_sign kinds.Dollar) s us m e (r, (x, ty, h), l) = (r, (free x ty, ap (λ (y : List Lexeme). a_sign kinds.Open ∷ a_sign kinds.Dollar ∷ y) h), l)
back-inside (a_sign kinds.Backslash) s us m e (r, (x, ty, t, h), l) = (r, (lambda x ty t, ap (λ (y : List Lexeme). a_sign kinds.Open ∷ a_sign kinds.Backslash ∷ y) h), l)
back-inside (a_name c) s us m e l = one-application s _ (back-term (a_name c) (Term ∷ MoreTerms ∷ s) us _ refl l)
back-inside (a_sign kinds.Percent) s us m e l = one-application s _ (back-term (a_sign kinds.Percent) (Term ∷ MoreTerms ∷ s) us _ refl l)
back-inside (a_sign kinds.Open) s us m e l = one-application s _ (back-term (a_sign kinds.Open) (Term ∷ MoreTerms ∷ s) us _ refl l)
back-inside _ s us m e l = absurd (cc e)

one-term : (s : List Symbol) (ws : List Lexeme) → Language (Term ∷ MoreTerms ∷ s) ws → Language (MoreTerms ∷ s) ws
one-term s ws (r, (t, h), (r', (more, h'), l)) = (r', (more_terms t more, h ∙ ap (term_lexemes t) h'), l)

back-more-terms : (w : Lexeme) → Back MoreTerms w (step MoreTerms w)
back-more-terms (a_sign kinds.Close) s us m e l = (us, (no_more_terms, refl), l)
back-more-terms (a_name c) s us m e l = one-term s _ (back-term (a_name c) (MoreTerms ∷ s) us _ refl l)
back-more-terms (a_sign kinds.Percent) s us m e l = one-term s _ (back-term (a_sign kinds.Percent) (MoreTerms ∷ s) us _ refl l)
back-more-terms (a_sign kinds.Open) s us m e l = one-term s _ (back-term (a_sign kinds.Open) (MoreTerms ∷ s) us _ refl l)
back-more-terms _ s us m e l = absurd (cc e)

back-body : (w : Lexeme) → Back Body w (step Body w)
back-body (a_name c) s us m e l = back-term (a_name c) s us _ refl l
back-body (a_sign kinds.Percent) s us m e l = back-term (a_sign kinds.Percent) s us _ refl l
back-body (a_sign kinds.Open) s us m e l = back-term (a_sign kinds.Open) s us _ refl l
back-body _ s us m e l = absurd (cc e)

back-bound-name : (w : Lexeme) → Back BoundName w (step_bound_name w)
back-bound-name (a_name x) s us m e l = (us, (x, refl), l)
back-bound-name _ s us m e l = absurd (cc e)

back-free-name : (w : Lexeme) → Back FreeName w (step_free_name w)
back-free-name (a_name x) s us m e (r, (ty, h), (r', h', l)) = (r', (x, ty, ap (λ (y : List Lexeme). a_name x ∷ y) (h ∙ ap (type_lexemes ty) h')), l)
back-free-name _ s us m e l = absurd (cc e)

back-close-free : (w : Lexeme) → Back CloseFree w (step_close_free w)
back-close-free (a_sign kinds.Close) s us m e l = (us, refl, l)
back-close-free _ s us m e l = absurd (cc e)

back-lambda-name : (w : Lexeme) → Back LambdaName w (step_lambda_name w)
back-lambda-name (a_name x) s us m e (r, (ty, h), (r', (t, h'), (r'', h'', l))) =
    (r'', (x, ty, t, ap (λ (y : List Lexeme). a_name x ∷ y) (h ∙ ap (type_lexemes ty) (h' ∙ ap (term_lexemes t) h''))), l)
back-lambda-name _ s us m e l = absurd (cc e)

back-close-lambda : (w : Lexeme) → Back CloseLambda w (step_close_lambda w)
back-close-lambda (a_sign kinds.Close) s us m e l = (us, refl, l)
back-close-lambda _ s us m e l = absurd (cc e)

-- ---- parts of a row

back-parameters : (w : Lexeme) → Back (APartOf Parameters) w (step_parameters w)
back-parameters (a_variable a) s us m e (r, (names, h), l) = (r, (a ∷ names, ap (λ (x : List Lexeme). a_variable a ∷ x) h), l)
back-parameters (a_sign kinds.Colon) s us m e l = (us, ([], refl), l)
back-parameters _ s us m e l = absurd (cc e)

whole-type : (s : List Symbol) (ws : List Lexeme) → Language («Type» ∷ KeepType ∷ s) ws → Language (APartOf AType ∷ s) ws
whole-type s ws (r, (t, h), (r', h', l)) = (r', (t, h ∙ ap (type_lexemes t) h'), l)

back-part-type : (w : Lexeme) → Back (APartOf AType) w (step_part_of AType w)
back-part-type (a_variable a) s us m e l = whole-type s _ (back-type (a_variable a) (KeepType ∷ s) us _ refl l)
back-part-type (a_name c) s us m e l = whole-type s _ (back-type (a_name c) (KeepType ∷ s) us _ refl l)
back-part-type (a_sign kinds.Open) s us m e l = whole-type s _ (back-type (a_sign kinds.Open) (KeepType ∷ s) us _ refl l)
back-part-type _ s us m e l = absurd (cc e)

whole-term : (s : List Symbol) (ws : List Lexeme) → Language (Term ∷ KeepTerm ∷ s) ws → Language (APartOf ATerm ∷ s) ws
whole-term s ws (r, (t, h), (r', h', l)) = (r', (t, h ∙ ap (term_lexemes t) h'), l)

whole-statement : (s : List Symbol) (ws : List Lexeme) → Language (Term ∷ KeepTerm ∷ s) ws → Language (APartOf AStatement ∷ s) ws
whole-statement s ws (r, (t, h), (r', h', l)) = (r', (t, h ∙ ap (term_lexemes t) h'), l)

back-part-term : (w : Lexeme) → Back (APartOf ATerm) w (step_part_of ATerm w)
back-part-term (a_name c) s us m e l = whole-term s _ (back-term (a_name c) (KeepTerm ∷ s) us _ refl l)
back-part-term (a_sign kinds.Percent) s us m e l = whole-term s _ (back-term (a_sign kinds.Percent) (KeepTerm ∷ s) us _ refl l)
back-part-term (a_sign kinds.Open) s us m e l = whole-term s _ (back-term (a_sign kinds.Open) (KeepTerm ∷ s) us _ refl l)
back-part-term _ s us m e l = absurd (cc e)

back-part-statement : (w : Lexeme) → Back (APartOf AStatement) w (step_part_of AStatement w)
back-part-statement (a_name c) s us m e l = whole-statement s _ (back-term (a_name c) (KeepTerm ∷ s) us _ refl l)
back-part-statement (a_sign kinds.Percent) s us m e l = whole-statement s _ (back-term (a_sign kinds.Percent) (KeepTerm ∷ s) us _ refl l)
back-part-statement (a_sign kinds.Open) s us m e l = whole-statement s _ (back-term (a_sign kinds.Open) (KeepTerm ∷ s) us _ refl l)
back-part-statement _ s us m e l = absurd (cc e)

the-word : (c v : Chars) → bytes_eq c v ≡ true → a_name c ≡ a_name v
the-word c v q = ap a_name ((bytes_eq-Decides c v).0 q)

is-it : (k : Fixed) (w : Lexeme) → is_fixed k w ≡ true → w ≡ fixed k
is-it signs.Semicolon (a_sign kinds.Semicolon) q = refl
is-it signs.Colon (a_sign kinds.Colon) q = refl
is-it signs.Becomes (a_sign kinds.Becomes) q = refl
is-it signs.OpenBrace (a_sign kinds.OpenBrace) q = refl
is-it signs.By (a_name c) q = the-word c (codes "by") q
is-it signs.Abs (a_name c) q = the-word c (codes "abs") q
is-it signs.Rep (a_name c) q = the-word c (codes "rep") q
is-it _ _ q = absurd (cc q)

fixed-by : (k : Fixed) (w : Lexeme) (y : Bool) → is_fixed k w ≡ y → Back (APartOf (Exactly k)) w (if y then go [] [] else None)
fixed-by k w true q s us m e l = (us, (tt, ap (λ (v : Lexeme). v ∷ us) (is-it k w q)), l)
fixed-by k w false q s us m e l = absurd (cc e)

back-label : (w : Lexeme) → Back (APartOf Label) w (step_label w)
back-label (a_name c) s us m e l = (us, (c, refl), l)
back-label _ s us m e l = absurd (cc e)

back-number : (w : Lexeme) → Back (APartOf Number) w (step_number w)
back-number (a_number (Some n)) s us m e l = (us, (n, refl), l)
back-number _ s us m e l = absurd (cc e)

back-variable : (w : Lexeme) → Back (APartOf Variable) w (step_variable w)
back-variable (a_variable a) s us m e l = (us, (a, refl), l)
back-variable _ s us m e l = absurd (cc e)

back-part-of : (p : Part) (w : Lexeme) → Back (APartOf p) w (step_part_of p w)
back-part-of Label w = back-label w
back-part-of Number w = back-number w
back-part-of Variable w = back-variable w
back-part-of Parameters w = back-parameters w
back-part-of AType w = back-part-type w
back-part-of AStatement w = back-part-statement w
back-part-of ATerm w = back-part-term w
back-part-of (Exactly k) w = fixed-by k w (is_fixed k w) refl

-- a row of symbols is the writing of parts
parts-spelt : (ps : List Part) (s : List Symbol) (ws : List Lexeme) → Language (map APartOf ps ++ s) ws → (ts : Texts ps) × (rest : List Lexeme) × (ws ≡ parts_lexemes ps ts rest) × Language s rest
parts-spelt [] s ws l = (tt, ws, refl, l)
parts-spelt (p ∷ ps) s ws (r, (a, h), l) =
    let q = parts-spelt ps s r l in
    ((a, q.0), q.1, h ∙ ap (part_lexemes p a) q.2, q.3)

row-spelt : (ps : List Part) (t s : List Symbol) (ws : List Lexeme) → Language ((map APartOf ps ++ t) ++ s) ws → (ts : Texts ps) × (rest : List Lexeme) × (ws ≡ parts_lexemes ps ts rest) × Language (t ++ s) rest
row-spelt ps t s ws l = parts-spelt ps (t ++ s) ws (subst (λ (z : List Symbol). Language z ws) (append_assoc (map APartOf ps) t s) l)

-- ---- lines

begun : (c v : Chars) (x y : List Lexeme) → c ≡ v → x ≡ y → a_name c ∷ x ≡ a_name v ∷ y
begun c v x y e f = ap₂ (λ (z : Chars) (u : List Lexeme). a_name z ∷ u) e f

is-number : (k n : ℕ) (y : Bool) → (n == k) ≡ y → Back (HeaderNumber k) (number n) (if y then go [] [] else None)
is-number k n true q s us m e l = (us, ap (λ (i : ℕ). number i ∷ us) (eqb-true n k q), l)
is-number k n false q s us m e l = absurd (cc e)

back-header-number : (k : ℕ) (w : Lexeme) → Back (HeaderNumber k) w (step_header_number k w)
back-header-number k (a_number (Some n)) = is-number k n (n == k) refl
back-header-number k _ = λ s us m e l. absurd (cc e)

lined : (c : Chars) (o : Option RuleWord) → rule_of c ≡ o → Back Lines (a_name c) (line_move o)
lined c None q s us m e l = absurd (cc e)
lined c (Some w) q s us m e l =
    let p = row-spelt (rule_row w).parts (EndLine w ∷ Lines ∷ []) s us l in
    more w p.0 p.1 p.2 (found_has rule_word all_rules c w q) p.3
  where
    more : (w : RuleWord) (ts : Texts (rule_row w).parts) (rest : List Lexeme) → us ≡ parts_lexemes (rule_row w).parts ts rest → c ≡ rule_word w → Language (EndLine w ∷ Lines ∷ s) rest → Language (Lines ∷ s) (a_name c ∷ us)
    more w ts rest h same (r, k, (r', (lines, i), g)) =
        (r', (line w ts ∷ lines, begun c (rule_word w) us _ same (h ∙ ap (parts_lexemes (rule_row w).parts ts) (k ∙ ap (λ (x : List Lexeme). a_sign kinds.Semicolon ∷ x) i))), g)

back-lines : (w : Lexeme) → Back Lines w (step_lines w)
back-lines (a_sign kinds.CloseBrace) s us m e l = (us, ([], refl), l)
back-lines (a_name w) s us m e l = lined w (rule_of w) refl s us m e l
back-lines _ s us m e l = absurd (cc e)

back-end-line : (r : RuleWord) (w : Lexeme) → Back (EndLine r) w (step_end_line r w)
back-end-line r (a_sign kinds.Semicolon) s us m e l = (us, refl, l)
back-end-line r _ s us m e l = absurd (cc e)

-- ---- parts of a text

ends : (s : List Symbol) (ws : List Lexeme) → Language (semicolon ∷ s) ws → (rest : List Lexeme) × (ws ≡ a_sign kinds.Semicolon ∷ rest) × Language s rest
ends s ws (r, (u, h), l) = (r, h, l)

-- the lexemes are those of a header, and of what is expected behind it
abbrev pub BeginsHeader : Form → List Symbol → List Lexeme → Type 0
BeginsHeader h s ws = (rest : List Lexeme) × (ws ≡ text_lexemes h header rest) × Language s rest

-- the same of a sentence
abbrev pub BeginsSentence : Form → List Symbol → List Lexeme → Type 0
BeginsSentence h s ws =
    (rest : List Lexeme) × ((p : PartText) × MayStand h p × (ws ≡ text_lexemes h p rest)) × Language s rest

one-header : (h : Form) (c : Chars) (s : List Symbol) (us : List Lexeme) → c ≡ head_word h Header → Language (expected h.number Header ++ s) us → BeginsHeader h s (a_name c ∷ us)
one-header h c s us same (r, k, l) =
    let q = ends s r l in
    (q.0, begun c (head_word h Header) us _ same (k ∙ ap (λ (x : List Lexeme). number h.number ∷ x) q.1), q.2)

one-part : (h : Form) (k : Head) (c : Chars) (s : List Symbol) (us : List Lexeme) → IsHead h k → c ≡ head_word h k
    → Language (expected h.number k ++ s) us → BeginsSentence h s (a_name c ∷ us)
one-part h Header c s us m same l = let q = one-header h c s us same l in (q.0, (header, tt, q.1), q.2)
one-part h Lemma c s us m same l =
    let p = row-spelt lemma_parts (APartOf (Exactly signs.OpenBrace) ∷ Lines ∷ semicolon ∷ []) s us l in
    more p.0 p.1 p.2 p.3
  where
    more : (ts : Texts lemma_parts) (rest : List Lexeme) → us ≡ parts_lexemes lemma_parts ts rest → Language (APartOf (Exactly signs.OpenBrace) ∷ Lines ∷ semicolon ∷ s) rest → BeginsSentence h s (a_name c ∷ us)
    more (n, (u, (t, u'))) rest e (r, (v, i), (r', (lines, j), g)) =
        let q = ends s r' g in
        (q.0, (lemma n t lines, m, begun c (codes "lemma") us _ same (e ∙ ap (parts_lexemes lemma_parts (n, (tt, (t, tt)))) (i ∙ ap (λ (x : List Lexeme). a_sign kinds.OpenBrace ∷ x) (j ∙ ap (λ (x : List Lexeme). lines_lexemes lines (a_sign kinds.CloseBrace ∷ x)) q.1)))), q.2)
one-part h (Item w) c s us m same l =
    let p = row-spelt (item_row w).parts (semicolon ∷ []) s us l in
    let q = ends s p.1 p.3 in
    (q.0, (item w p.0, m, begun c (item_row w).word us _ same (p.2 ∙ ap (parts_lexemes (item_row w).parts p.0) q.1)), q.2)
one-part h (Command w) c s us m same l =
    let p = row-spelt (command_row w).parts (semicolon ∷ []) s us l in
    let q = ends s p.1 p.3 in
    (q.0, (command w p.0, m, begun c (command_row w).word us _ same (p.2 ∙ ap (parts_lexemes (command_row w).parts p.0) q.1)), q.2)

-- ---- any symbol, any stack

back : (x : Symbol) (w : Lexeme) → Back x w (step x w)
back «Type» w = back-type w
back Constructor w = back-constructor w
back MoreTypes w = back-more-types w
back Term w = back-term w
back Inside w = back-inside w
back Brackets w = back-brackets w
back Arguments w = back-arguments w
back MoreTerms w = back-more-terms w
back BoundName w = back-bound-name w
back FreeName w = back-free-name w
back CloseFree w = back-close-free w
back LambdaName w = back-lambda-name w
back Body w = back-body w
back CloseLambda w = back-close-lambda w
back KeepType w = λ s us m e l. absurd (cc e)
back KeepTerm w = λ s us m e l. absurd (cc e)
back (APartOf p) w = back-part-of p w
back (HeaderNumber n) w = back-header-number n w
back Lines w = back-lines w
back (EndLine r) w = back-end-line r w

-- what is passed over is written by nothing
passed-empty : (x : Symbol) (n : Note) (ws : List Lexeme) → pass x ≡ Some n → Spells x ws ws
passed-empty Brackets n ws e = ([], refl)
passed-empty KeepType n ws e = refl
passed-empty KeepTerm n ws e = refl
passed-empty _ n ws e = absurd (cc e)

moved : (x : Symbol) (w : Lexeme) (s : List Symbol) (us : List Lexeme) (o : Option Move) (p : Option Note) (q : Option Move) (m : Move) → step x w ≡ o → pass x ≡ p → step_on s w ≡ q
    → ((k : Move) → step_on s w ≡ Some k → Language k.pushed us → Language s (w ∷ us))
    → or_pass (under s [] o) p q ≡ Some m → Language m.pushed us → Language (x ∷ s) (w ∷ us)
moved x w s us (Some k) p q m f g h ih e l =
    back x w s us k f (subst (λ (z : List Symbol). Language z us) (let same : m.pushed ≡ k.pushed ++ s = sym (ap pushed_by e) in same ∙ ap (λ (z : Option Move). pushed_by z ++ s) (sym f)) l)
moved x w s us None (Some n) (Some k) m f g h ih e l =
    (w ∷ us, passed-empty x n (w ∷ us) g, ih k h (subst (λ (z : List Symbol). Language z us) (sym (ap pushed_by e) ∙ append-nil k.pushed) l))
moved x w s us None (Some n) None m f g h ih e l = absurd (cc e)
moved x w s us None None q m f g h ih e l = absurd (cc e)

back-on : (s : List Symbol) (w : Lexeme) (us : List Lexeme) (m : Move) → step_on s w ≡ Some m → Language m.pushed us → Language s (w ∷ us)
back-on [] w us m e l = absurd (cc e)
back-on (x ∷ s) w us m e l = moved x w s us (step x w) (pass x) (step_on s w) m refl refl refl (λ k q g. back-on s w us k q g) e l

-- at the end nothing is expected, and what may be passed over is
abbrev finish_by : Option Note → (List Note → Option (List Note)) → List Note → Option (List Note)
finish_by None f b = None
finish_by (Some n) f b = f (n ∷ b)

abbrev pub finish : List Symbol → List Note → Option (List Note)
finish [] b = Some b
finish (x ∷ s) b = finish_by (pass x) (finish s) b

abbrev pub finished : Option State → Option (List Note)
finished None = None
finished (Some m) = finish m.stack m.made

abbrev pub accepts : List Symbol → List Note → List Lexeme → Option (List Note)
accepts s b ws = finished (run s b ws)

ended-by : (x : Symbol) (s : List Symbol) (b b' : List Note) (p : Option Note) → pass x ≡ p → ((c : List Note) → finish s c ≡ Some b' → Language s []) → finish_by p (finish s) b ≡ Some b' → Language (x ∷ s) []
ended-by x s b b' None q ih e = absurd (cc e)
ended-by x s b b' (Some n) q ih e = ([], passed-empty x n [] q, ih (n ∷ b) e)

ended : (s : List Symbol) (b b' : List Note) → finish s b ≡ Some b' → Language s []
ended [] b b' e = refl
ended (x ∷ s) b b' e = ended-by x s b b' (pass x) refl (λ c h. ended s c b' h) e

sound-by : (s : List Symbol) (w : Lexeme) (b : List Note) (ws : List Lexeme) (b' : List Note) (o : Option Move) → step_on s w ≡ o
    → ((s' : List Symbol) (c : List Note) → accepts s' c ws ≡ Some b' → Language s' ws)
    → finished (onward o (λ m. run m.pushed (m.made ++ b) ws)) ≡ Some b' → Language s (w ∷ ws)
sound-by s w b ws b' None q ih e = absurd (cc e)
sound-by s w b ws b' (Some m) q ih e = back-on s w ws m q (ih m.pushed (m.made ++ b) e)

-- what the machine takes to the end is of the stack's language
pub sound : (s : List Symbol) (b : List Note) (ws : List Lexeme) (b' : List Note) → accepts s b ws ≡ Some b' → Language s ws
sound s b [] b' e = ended s b b' e
sound s b (w ∷ ws) b' e = sound-by s w b ws b' (step_on s w) refl (λ s' c h. sound s' c ws b' h) e

-- so is what it takes from a sentence's word on
parted : (h : Form) (c : Chars) (us : List Lexeme) (b' : List Note) (o : Option Head) → head_of h c ≡ o
    → finished (onward (part_move h.number o) (λ m. run m.pushed m.made us)) ≡ Some b' → BeginsSentence h [] (a_name c ∷ us)
parted h c us b' None q e = absurd (cc e)
parted h c us b' (Some k) q e =
    let f = found_head h c k q in
    one-part h k c [] us f.1 f.0 (subst (λ (s : List Symbol). Language s us) (sym (append-nil (expected h.number k)))
    (sound (expected h.number k) [] us b' e))

pub sound_sentence : (h : Form) (w : Lexeme) (us : List Lexeme) (b' : List Note)
    → finished (first_run (step_part h) (w ∷ us)) ≡ Some b' → BeginsSentence h [] (w ∷ us)
sound_sentence h (a_name c) us b' e = parted h c us b' (head_of h c) refl e
sound_sentence h _ us b' e = absurd (cc e)

headed : (h : Form) (c : Chars) (us : List Lexeme) (b' : List Note) (o : Option Head) → head_of h c ≡ o
    → finished (onward (header_move h.number o) (λ m. run m.pushed m.made us)) ≡ Some b' → BeginsHeader h [] (a_name c ∷ us)
headed h c us b' (Some Header) q e =
    one-header h c [] us (found_head h c Header q).0 (sound (expected h.number Header) [] us b' e)
headed h c us b' _ q e = absurd (cc e)

pub sound_header : (h : Form) (w : Lexeme) (us : List Lexeme) (b' : List Note)
    → finished (first_run (step_header h) (w ∷ us)) ≡ Some b' → BeginsHeader h [] (w ∷ us)
sound_header h (a_name c) us b' e = headed h c us b' (head_of h c) refl e
sound_header h _ us b' e = absurd (cc e)
