-- What the next lexeme makes of each thing that is expected in a row of parts, or in lines.
use Rattle.std.proofs.Common.{◌≡◌, ℕ, ◌∙◌, ap, sym, refl, subst, inl, inr, Bool, true, false, List, [], ◌∷◌, ◌++◌, Option, Some, None}
use Rattle.std.specs.Prelude.{◌⊎◌, ◌==◌, map, bytes_eq, if◌then◌else◌}
use Rattle.std.proofs.lemmas.Bool.{eqb-true, eq-eqb}
use Rattle.std.proofs.lemmas.Slice.Eq.{bytes_eq-Decides}
use Rattle.lt_texts.specs.declared.lexical.TokenKind.{TokenKind}
use Rattle.lt_texts.specs.declared.lexical.TokenKind.TheVariants as kinds
use Rattle.lt_texts.specs.declared.lexical.TokenKind.TheVariants.{Open, Close, OpenSquare, CloseSquare, CloseBrace, Semicolon, Dollar, Percent, Backslash}
use Rattle.lt_definitions.specs.Types.{Chars, type_variable, no_types, type_and}
use Rattle.lt_texts.specs.Lexemes.{Lexeme, a_name, a_variable, a_number, a_sign}
use Rattle.lt_texts.specs.Writing.{word, bound, free, lambda, applied, no_more_terms, more_terms, term_lexemes, terms_lexemes}
use Rattle.lt_grammar.specs.declared.words.Part.{Part}
use Rattle.lt_grammar.specs.declared.words.Part.TheVariants.{Label, Number, Variable, Parameters, AType, AStatement, ATerm, Fixed as Exactly}
use Rattle.lt_grammar.specs.declared.words.RuleWord.{RuleWord}
use Rattle.lt_grammar.specs.Rows.{fixed, Text, Texts, number, variables_lexemes, part_lexemes, parts_lexemes}
use Rattle.lt_grammar.specs.Table.{rule_row}
use Rattle.lt_grammar.specs.Words.{all_rules, rule_of, rule_word}
use Rattle.lt_grammar.specs.RowTexts.{LineText, line, lines_lexemes}
use Rattle.lt_grammar.proofs.Distinct.{found_has, rule_found}
use Rattle.lt_grammar.proofs.OneWay.{IsClear, parts_clear, ends_clear}
use Rattle.lt_grammar.proofs.Expected.{Expected, a_type, types_to_close, types_to_square, a_term, inside, terms_to_close, brackets, any_name, any_number, any_variable, variables, lines, exactly, Spells, Spelt, join_spelt, split_spelt, IsFull, Meets}
use Rattle.lt_grammar.proofs.TypesExpected.{no-type, no-term, meets-type, meets-types, meets-arguments, meets-term, meets-inside, meets-terms}

-- ---- single lexemes, and one that stands as it is

meets-name : (w : Lexeme) → Meets any_name w
meets-name (a_name c) = inl ([], λ us mid (d, e). cc e, λ us mid e. (c, ap (λ (v : List Lexeme). a_name c ∷ v) e))
meets-name w = inr (λ us mid (d, e). absurd (cc e))

meets-number : (w : Lexeme) → Meets any_number w
meets-number (a_number (Some k)) = inl ([], λ us mid (d, e). cc e, λ us mid e. (k, ap (λ (v : List Lexeme). number k ∷ v) e))
meets-number w = inr (λ us mid (d, e). absurd (cc e))

meets-variable : (w : Lexeme) → Meets any_variable w
meets-variable (a_variable a) = inl ([], λ us mid (d, e). cc e, λ us mid e. (a, ap (λ (v : List Lexeme). a_variable a ∷ v) e))
meets-variable w = inr (λ us mid (d, e). absurd (cc e))

variable-more : (a : Chars) (us mid : List Lexeme) → Spells variables (a_variable a ∷ us) mid → Spelt (variables ∷ []) us mid
variable-more a us mid ([], e) = absurd (cc e)
variable-more a us mid (b ∷ names, e) = (_, (names, cc e), refl)

colon-variables : (us mid : List Lexeme) → Spells variables (a_sign kinds.Colon ∷ us) mid → us ≡ mid
colon-variables us mid ([], e) = cc e
colon-variables us mid (b ∷ names, e) = absurd (cc e)

abbrev BeginsVariables : List Lexeme → Type 0
BeginsVariables [] = ⊥
BeginsVariables (a_variable a ∷ ws) = Unit {0}
BeginsVariables (a_sign kinds.Colon ∷ ws) = Unit {0}
BeginsVariables (_ ∷ ws) = ⊥

variables-begin : (names : List Chars) (rest : List Lexeme) → BeginsVariables (variables_lexemes names (a_sign kinds.Colon ∷ rest))
variables-begin [] rest = tt
variables-begin (a ∷ names) rest = tt

meets-variables : (w : Lexeme) → Meets variables w
meets-variables (a_variable a) = inl (
  variables ∷ [],
  variable-more a,
  λ us mid (x, (names, p), e). (a ∷ names, ap (λ (v : List Lexeme). a_variable a ∷ v) (p ∙ ap (λ (v : List Lexeme). variables_lexemes names (a_sign kinds.Colon ∷ v)) e)),
)
meets-variables (a_sign kinds.Colon) = inl ([], colon-variables, λ us mid e. ([], ap (λ (v : List Lexeme). a_sign kinds.Colon ∷ v) e))
meets-variables w = inr (λ us mid (names, e). subst BeginsVariables (sym e) (variables-begin names mid))

-- whether two lexemes are one
abbrev Same : Lexeme → Lexeme → Type 0
Same v w = (v ≡ w) ⊎ ((v ≡ w) → ⊥)

abbrev kind_number : TokenKind → ℕ
kind_number kinds.Name = 0
kind_number kinds.TypeVariable = 1
kind_number kinds.Number = 2
kind_number Open = 3
kind_number Close = 4
kind_number OpenSquare = 5
kind_number CloseSquare = 6
kind_number kinds.OpenBrace = 7
kind_number CloseBrace = 8
kind_number Semicolon = 9
kind_number kinds.Colon = 10
kind_number kinds.Becomes = 11
kind_number Dollar = 12
kind_number Percent = 13
kind_number Backslash = 14

abbrev numbered : ℕ → TokenKind
numbered n =
    if n == 0 then kinds.Name else (if n == 1 then kinds.TypeVariable else (if n == 2 then kinds.Number
    else (if n == 3 then Open else (if n == 4 then Close else (if n == 5 then OpenSquare
    else (if n == 6 then CloseSquare else (if n == 7 then kinds.OpenBrace else (if n == 8 then CloseBrace
    else (if n == 9 then Semicolon else (if n == 10 then kinds.Colon else (if n == 11 then kinds.Becomes
    else (if n == 12 then Dollar else (if n == 13 then Percent else Backslash)))))))))))))

kind-back : (k : TokenKind) → numbered (kind_number k) ≡ k
kind-back kinds.Name = refl
kind-back kinds.TypeVariable = refl
kind-back kinds.Number = refl
kind-back Open = refl
kind-back Close = refl
kind-back OpenSquare = refl
kind-back CloseSquare = refl
kind-back kinds.OpenBrace = refl
kind-back CloseBrace = refl
kind-back Semicolon = refl
kind-back kinds.Colon = refl
kind-back kinds.Becomes = refl
kind-back Dollar = refl
kind-back Percent = refl
kind-back Backslash = refl

number-by : (n k : ℕ) (y : Bool) → (n == k) ≡ y → Same (number n) (number k)
number-by n k true e = inl (ap number (eqb-true n k e))
number-by n k false e = inr (λ f. let same : n ≡ k = cc f in let clash : true ≡ false = sym (eq-eqb n k same) ∙ e in absurd (cc clash))

name-by : (c d : Chars) (y : Bool) → bytes_eq c d ≡ y → Same (a_name c) (a_name d)
name-by c d true e = inl (ap a_name ((bytes_eq-Decides c d).0 e))
name-by c d false e = inr (λ f. let same : c ≡ d = cc f in let clash : true ≡ false = sym ((bytes_eq-Decides c d).1 same) ∙ e in absurd (cc clash))

variable-by : (c d : Chars) (y : Bool) → bytes_eq c d ≡ y → Same (a_variable c) (a_variable d)
variable-by c d true e = inl (ap a_variable ((bytes_eq-Decides c d).0 e))
variable-by c d false e = inr (λ f. let same : c ≡ d = cc f in let clash : true ≡ false = sym ((bytes_eq-Decides c d).1 same) ∙ e in absurd (cc clash))

sign-by : (k j : TokenKind) (y : Bool) → (kind_number k == kind_number j) ≡ y → Same (a_sign k) (a_sign j)
sign-by k j true e = inl (ap a_sign (sym (kind-back k) ∙ ap numbered (eqb-true (kind_number k) (kind_number j) e) ∙ kind-back j))
sign-by k j false e = inr (λ f. let same : k ≡ j = cc f in let clash : true ≡ false = sym (eq-eqb (kind_number k) (kind_number j) (ap kind_number same)) ∙ e in absurd (cc clash))

same : (v w : Lexeme) → Same v w
same (a_name c) (a_name d) = name-by c d (bytes_eq c d) refl
same (a_variable c) (a_variable d) = variable-by c d (bytes_eq c d) refl
same (a_number (Some n)) (a_number (Some k)) = number-by n k (n == k) refl
same (a_number None) (a_number None) = inl refl
same (a_sign k) (a_sign j) = sign-by k j (kind_number k == kind_number j) refl
same _ _ = inr (λ f. absurd (cc f))

exactly-by : (v w : Lexeme) → Same v w → Meets (exactly v) w
exactly-by v w (inl e) = inl ([], λ us mid h. cc h, λ us mid h. (λ i. sym e i ∷ h i))
exactly-by v w (inr n) = inr (λ us mid h. let first : v ≡ w = let f = sym h in cc f in n first)

-- ---- parts of a row, and lines

abbrev pub expected_part : Part → Expected
expected_part Label = any_name
expected_part Number = any_number
expected_part Variable = any_variable
expected_part Parameters = variables
expected_part AType = a_type
expected_part AStatement = a_term
expected_part ATerm = a_term
expected_part (Exactly k) = exactly (fixed k)

abbrev pub expected_parts : List Part → List Expected
expected_parts ps = map expected_part ps

part-spelt : (p : Part) (a : Text p) (rest : List Lexeme) → IsClear rest → Spells (expected_part p) (part_lexemes p a rest) rest
part-spelt Label a rest n = (a, refl)
part-spelt Number a rest n = (a, refl)
part-spelt Variable a rest n = (a, refl)
part-spelt Parameters a rest n = (a, refl)
part-spelt AType a rest n = (a, refl)
part-spelt AStatement a rest n = (a, refl, ends_clear a rest n)
part-spelt ATerm a rest n = (a, refl, ends_clear a rest n)
part-spelt (Exactly k) a rest n = refl

pub parts_spelt : (ps : List Part) (ts : Texts ps) (rest : List Lexeme) → IsClear rest → Spelt (expected_parts ps) (parts_lexemes ps ts rest) rest
parts_spelt [] ts rest n = refl
parts_spelt (p ∷ ps) ts rest n = (parts_lexemes ps ts.1 rest, part-spelt p ts.0 _ (parts_clear ps ts.1 rest n), parts_spelt ps ts.1 rest n)

spelt-part : (p : Part) (ws rest : List Lexeme) → Spells (expected_part p) ws rest → (a : Text p) × (ws ≡ part_lexemes p a rest)
spelt-part Label ws rest h = h
spelt-part Number ws rest h = h
spelt-part Variable ws rest h = h
spelt-part Parameters ws rest h = h
spelt-part AType ws rest h = h
spelt-part AStatement ws rest h = (h.0, h.1)
spelt-part ATerm ws rest h = (h.0, h.1)
spelt-part (Exactly k) ws rest h = (tt, h)

pub spelt_parts : (ps : List Part) (ws rest : List Lexeme) → Spelt (expected_parts ps) ws rest → (ts : Texts ps) × (ws ≡ parts_lexemes ps ts rest)
spelt_parts [] ws rest h = (tt, h)
spelt_parts (p ∷ ps) ws rest h =
    let a = spelt-part p ws h.0 h.1 in
    let r = spelt_parts ps h.0 rest h.2 in
    ((a.0, r.0), a.1 ∙ ap (part_lexemes p a.0) r.1)

abbrev line-end : List Expected
line-end = exactly (a_sign Semicolon) ∷ lines ∷ []

line-more : (c : Chars) (v : RuleWord) → rule_of c ≡ Some v → (us mid : List Lexeme) → Spells lines (a_name c ∷ us) mid → Spelt (expected_parts (rule_row v).parts ++ line-end) us mid
line-more c v q us mid ([], e) = absurd (cc e)
line-more c v q us mid (line w ts ∷ ls, e) =
    let named : rule_word w ≡ c = let f = sym e in cc f in
    let found : Some w ≡ Some v = sym (rule_found w) ∙ ap rule_of named ∙ q in
    let is : w ≡ v = cc found in
    let tail : us ≡ parts_lexemes (rule_row w).parts ts (a_sign Semicolon ∷ lines_lexemes ls (a_sign CloseBrace ∷ mid)) = cc e in
    subst (λ (x : RuleWord). Spelt (expected_parts (rule_row x).parts ++ line-end) us mid) is
    (join_spelt (expected_parts (rule_row w).parts) line-end us (a_sign Semicolon ∷ lines_lexemes ls (a_sign CloseBrace ∷ mid)) mid
    (subst (λ (z : List Lexeme). Spelt (expected_parts (rule_row w).parts) z (a_sign Semicolon ∷ lines_lexemes ls (a_sign CloseBrace ∷ mid))) (sym tail)
    (parts_spelt (rule_row w).parts ts (a_sign Semicolon ∷ lines_lexemes ls (a_sign CloseBrace ∷ mid)) tt))
    (_, refl, (_, (ls, refl), refl)))

more-line : (c : Chars) (v : RuleWord) → rule_of c ≡ Some v → (us mid : List Lexeme) → Spelt (expected_parts (rule_row v).parts ++ line-end) us mid → Spells lines (a_name c ∷ us) mid
more-line c v q us mid h =
    let named : c ≡ rule_word v = found_has rule_word all_rules c v q in
    let s = split_spelt (expected_parts (rule_row v).parts) line-end us mid h in
    let t = spelt_parts (rule_row v).parts us s.0 s.1 in
    let end = s.2 in
    let later = end.2 in
    let ls = later.1 in (
      line v t.0 ∷ ls.0,
      λ i. a_name (named i) ∷ (t.1 ∙ ap (parts_lexemes (rule_row v).parts t.0) (end.1 ∙ ap (λ (z : List Lexeme). a_sign Semicolon ∷ z)
          (ls.1 ∙ ap (λ (z : List Lexeme). lines_lexemes ls.0 (a_sign CloseBrace ∷ z)) later.2))) i,
    )

no-line : (c : Chars) → rule_of c ≡ None → (us mid : List Lexeme) → Spells lines (a_name c ∷ us) mid → ⊥
no-line c q us mid ([], e) = absurd (cc e)
no-line c q us mid (line w ts ∷ ls, e) =
    let named : rule_word w ≡ c = let f = sym e in cc f in
    let clash : Some w ≡ None = sym (rule_found w) ∙ ap rule_of named ∙ q in
    absurd (cc clash)

line-by : (c : Chars) (o : Option RuleWord) → rule_of c ≡ o → Meets lines (a_name c)
line-by c None q = inr (no-line c q)
line-by c (Some v) q = inl (expected_parts (rule_row v).parts ++ line-end, line-more c v q, more-line c v q)

close-lines : (us mid : List Lexeme) → Spells lines (a_sign CloseBrace ∷ us) mid → us ≡ mid
close-lines us mid ([], e) = cc e
close-lines us mid (line w ts ∷ ls, e) = absurd (cc e)

abbrev BeginsLines : List Lexeme → Type 0
BeginsLines [] = ⊥
BeginsLines (a_name c ∷ ws) = Unit {0}
BeginsLines (a_sign CloseBrace ∷ ws) = Unit {0}
BeginsLines (_ ∷ ws) = ⊥

lines-begin : (ls : List LineText) (rest : List Lexeme) → BeginsLines (lines_lexemes ls (a_sign CloseBrace ∷ rest))
lines-begin [] rest = tt
lines-begin (line w ts ∷ ls) rest = tt

meets-lines : (w : Lexeme) → Meets lines w
meets-lines (a_name c) = line-by c (rule_of c) refl
meets-lines (a_sign CloseBrace) = inl ([], close-lines, λ us mid e. ([], ap (λ (v : List Lexeme). a_sign CloseBrace ∷ v) e))
meets-lines w = inr (λ us mid (ls, e). subst BeginsLines (sym e) (lines-begin ls mid))

-- ---- all of these

pub meets : (x : Expected) → IsFull x → (w : Lexeme) → Meets x w
meets a_type n w = meets-type w
meets types_to_close n w = meets-types w
meets types_to_square n w = meets-arguments w
meets a_term n w = meets-term w
meets inside n w = meets-inside w
meets terms_to_close n w = meets-terms w
meets (brackets c) n w = absurd n
meets any_name n w = meets-name w
meets any_number n w = meets-number w
meets any_variable n w = meets-variable w
meets variables n w = meets-variables w
meets lines n w = meets-lines w
meets (exactly v) n w = exactly-by v w (same v w)

-- nothing is written of no lexemes, but for what may stand behind a constant
pub full : (x : Expected) → IsFull x → (mid : List Lexeme) → Spells x [] mid → ⊥
full a_type n mid (t, e) = no-type [] mid t e
full types_to_close n mid (no_types, e) = absurd (cc e)
full types_to_close n mid (type_and t ts, e) = no-type [] _ t e
full types_to_square n mid ([], e) = absurd (cc e)
full types_to_square n mid (t ∷ ts, e) = no-type [] _ t e
full a_term n mid (x, e, m) = no-term [] mid x e
full inside n mid (word c ts, e) = absurd (cc e)
full inside n mid (bound x, e) = absurd (cc e)
full inside n mid (free x ty, e) = absurd (cc e)
full inside n mid (lambda x ty b, e) = absurd (cc e)
full inside n mid (applied f a more, e) =
    let tail : [] ≡ term_lexemes f (term_lexemes a (terms_lexemes more (a_sign Close ∷ mid))) = cc e in no-term [] _ f tail
full terms_to_close n mid (no_more_terms, e) = absurd (cc e)
full terms_to_close n mid (more_terms t ts, e) = no-term [] _ t e
full (brackets c) n mid h = absurd n
full any_name n mid (c, e) = absurd (cc e)
full any_number n mid (k, e) = absurd (cc e)
full any_variable n mid (a, e) = absurd (cc e)
full variables n mid (names, e) = subst BeginsVariables (sym e) (variables-begin names mid)
full lines n mid (ls, e) = subst BeginsLines (sym e) (lines-begin ls mid)
full (exactly w) n mid e = absurd (cc e)

-- each is written of something
pub some : (x : Expected) (rest : List Lexeme) → (w : Lexeme) × (us : List Lexeme) × Spells x (w ∷ us) rest
some a_type rest = (_, _, (type_variable [], refl))
some types_to_close rest = (_, _, (no_types, refl))
some types_to_square rest = (_, _, ([], refl))
some a_term rest = (_, _, (bound [], refl, tt))
some inside rest = (_, _, (free [] (type_variable []), refl))
some terms_to_close rest = (_, _, (no_more_terms, refl))
some (brackets c) rest = (_, _, (type_variable [] ∷ [], refl, tt))
some any_name rest = (_, _, ([], refl))
some any_number rest = (_, _, (0, refl))
some any_variable rest = (_, _, ([], refl))
some variables rest = (_, _, ([], refl))
some lines rest = (_, _, ([], refl))
some (exactly w) rest = (w, rest, refl)
