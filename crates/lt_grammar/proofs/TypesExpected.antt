-- What the next lexeme makes of a type or a term that is expected.
use Rattle.std.proofs.Common.{◌≡◌, ◌∙◌, ap, sym, refl, subst, inl, inr, List, [], ◌∷◌, ◌++◌}
use Rattle.lt_texts.specs.declared.lexical.TokenKind.TheVariants.{Open, Close, CloseSquare, Dollar, Percent, Backslash}
use Rattle.lt_definitions.specs.Types.{Chars, TypeTree, type_variable, type_constructor, no_types, type_and, row}
use Rattle.lt_texts.specs.Lexemes.{Lexeme, a_name, a_variable, a_sign}
use Rattle.lt_texts.specs.Writing.{type_lexemes, types_lexemes, arguments_lexemes, TermText, word, bound, free, lambda, applied, no_more_terms, more_terms, term_lexemes, terms_lexemes}
use Rattle.lt_texts.specs.WrongPlaces.{EndsThere}
use Rattle.lt_grammar.proofs.OneWay.{term_clear, terms_clear, ends_clear}
use Rattle.lt_grammar.proofs.Expected.{Expected, a_type, types_to_close, types_to_square, a_term, inside, terms_to_close, brackets, any_name, exactly, Spells, Spelt, join_spelt, split_spelt, Meets}

-- the lexemes with which a type begins
abbrev BeginsType : List Lexeme → Type 0
BeginsType [] = ⊥
BeginsType (a_variable a ∷ ws) = Unit {0}
BeginsType (a_name c ∷ ws) = Unit {0}
BeginsType (a_sign Open ∷ ws) = Unit {0}
BeginsType (_ ∷ ws) = ⊥

type-begins : (t : TypeTree) (rest : List Lexeme) → BeginsType (type_lexemes t rest)
type-begins (type_variable a) rest = tt
type-begins (type_constructor c no_types) rest = tt
type-begins (type_constructor c (type_and t ts)) rest = tt

pub no-type : (ws rest : List Lexeme) (t : TypeTree) → ws ≡ type_lexemes t rest → BeginsType ws
no-type ws rest t e = subst BeginsType (sym e) (type-begins t rest)

open-type : (us mid : List Lexeme) → Spells a_type (a_sign Open ∷ us) mid → Spelt (any_name ∷ a_type ∷ types_to_close ∷ []) us mid
open-type us mid (type_variable a, e) = absurd (cc e)
open-type us mid (type_constructor c no_types, e) = absurd (cc e)
open-type us mid (type_constructor c (type_and t ts), e) = (_, (c, cc e), (_, (t, refl), (_, (ts, refl), refl)))

type-open : (us mid : List Lexeme) → Spelt (any_name ∷ a_type ∷ types_to_close ∷ []) us mid → Spells a_type (a_sign Open ∷ us) mid
type-open us mid (x, (c, p), (y, (t, q), (z, (ts, r), e))) = (
  type_constructor c (type_and t ts),
  ap (λ (v : List Lexeme). a_sign Open ∷ v) (p ∙ ap (λ (v : List Lexeme). a_name c ∷ v)
      (q ∙ ap (type_lexemes t) (r ∙ ap (λ (v : List Lexeme). types_lexemes ts (a_sign Close ∷ v)) e))),
)

name-type : (c : Chars) (us mid : List Lexeme) → Spells a_type (a_name c ∷ us) mid → us ≡ mid
name-type c us mid (type_variable a, e) = absurd (cc e)
name-type c us mid (type_constructor d no_types, e) = cc e
name-type c us mid (type_constructor d (type_and t ts), e) = absurd (cc e)

variable-type : (a : Chars) (us mid : List Lexeme) → Spells a_type (a_variable a ∷ us) mid → us ≡ mid
variable-type a us mid (type_variable b, e) = cc e
variable-type a us mid (type_constructor d no_types, e) = absurd (cc e)
variable-type a us mid (type_constructor d (type_and t ts), e) = absurd (cc e)

pub meets-type : (w : Lexeme) → Meets a_type w
meets-type (a_variable a) = inl ([], variable-type a, λ us mid e. (type_variable a, ap (λ (v : List Lexeme). a_variable a ∷ v) e))
meets-type (a_name c) = inl ([], name-type c, λ us mid e. (type_constructor c no_types, ap (λ (v : List Lexeme). a_name c ∷ v) e))
meets-type (a_sign Open) = inl (any_name ∷ a_type ∷ types_to_close ∷ [], open-type, type-open)
meets-type w = inr (λ us mid h. no-type (w ∷ us) mid h.0 h.1)

-- behind the first lexeme of the first of several
first-of : (x y : Expected) (w : Lexeme) → ((us mid : List Lexeme) → Spells x (w ∷ us) mid → Spelt (y ∷ x ∷ []) (w ∷ us) mid)
    → ((us mid : List Lexeme) → Spelt (y ∷ x ∷ []) (w ∷ us) mid → Spells x (w ∷ us) mid) → Meets y w → Meets x w
first-of x y w to from (inl (st, f, g)) = inl (
  st ++ x ∷ [],
  λ us mid h. let k = to us mid h in join_spelt st (x ∷ []) us k.0 mid (f us k.0 k.1) k.2,
  λ us mid h. let k = split_spelt st (x ∷ []) us mid h in from us mid (k.0, g us k.0 k.1, k.2),
)
first-of x y w to from (inr n) = inr (λ us mid h. let k = to us mid h in n us k.0 k.1)

-- types up to a closing bracket
abbrev NotClose : Lexeme → Type 0
NotClose (a_sign Close) = ⊥
NotClose w = Unit {0}

abbrev NotSquare : Lexeme → Type 0
NotSquare (a_sign CloseSquare) = ⊥
NotSquare w = Unit {0}

types-more : (w : Lexeme) → NotClose w → (us mid : List Lexeme) → Spells types_to_close (w ∷ us) mid → Spelt (a_type ∷ types_to_close ∷ []) (w ∷ us) mid
types-more w n us mid (no_types, e) = let same : a_sign Close ≡ w = let f = sym e in cc f in absurd (subst NotClose (sym same) n)
types-more w n us mid (type_and t ts, e) = (_, (t, e), (_, (ts, refl), refl))

more-types : (w : Lexeme) (us mid : List Lexeme) → Spelt (a_type ∷ types_to_close ∷ []) (w ∷ us) mid → Spells types_to_close (w ∷ us) mid
more-types w us mid (x, (t, p), (y, (ts, q), e)) = (type_and t ts, p ∙ ap (type_lexemes t) (q ∙ ap (λ (v : List Lexeme). types_lexemes ts (a_sign Close ∷ v)) e))

close-types : (us mid : List Lexeme) → Spells types_to_close (a_sign Close ∷ us) mid → us ≡ mid
close-types us mid (no_types, e) = cc e
close-types us mid (type_and t ts, e) = absurd (no-type _ _ t e)

pub meets-types : (w : Lexeme) → Meets types_to_close w
meets-types (a_sign Close) = inl ([], close-types, λ us mid e. (no_types, ap (λ (v : List Lexeme). a_sign Close ∷ v) e))
meets-types w = first-of types_to_close a_type w (types-more w tt) (more-types w) (meets-type w)

arguments-more : (w : Lexeme) → NotSquare w → (us mid : List Lexeme) → Spells types_to_square (w ∷ us) mid → Spelt (a_type ∷ types_to_square ∷ []) (w ∷ us) mid
arguments-more w n us mid ([], e) = let same : a_sign CloseSquare ≡ w = let f = sym e in cc f in absurd (subst NotSquare (sym same) n)
arguments-more w n us mid (t ∷ ts, e) = (_, (t, e), (_, (ts, refl), refl))

more-arguments : (w : Lexeme) (us mid : List Lexeme) → Spelt (a_type ∷ types_to_square ∷ []) (w ∷ us) mid → Spells types_to_square (w ∷ us) mid
more-arguments w us mid (x, (t, p), (y, (ts, q), e)) = (t ∷ ts, p ∙ ap (type_lexemes t) (q ∙ ap (λ (v : List Lexeme). types_lexemes (row ts) (a_sign CloseSquare ∷ v)) e))

close-arguments : (us mid : List Lexeme) → Spells types_to_square (a_sign CloseSquare ∷ us) mid → us ≡ mid
close-arguments us mid ([], e) = cc e
close-arguments us mid (t ∷ ts, e) = absurd (no-type _ _ t e)

pub meets-arguments : (w : Lexeme) → Meets types_to_square w
meets-arguments (a_sign CloseSquare) = inl ([], close-arguments, λ us mid e. ([], ap (λ (v : List Lexeme). a_sign CloseSquare ∷ v) e))
meets-arguments w = first-of types_to_square a_type w (arguments-more w tt) (more-arguments w) (meets-type w)

-- ---- terms

abbrev BeginsTerm : List Lexeme → Type 0
BeginsTerm [] = ⊥
BeginsTerm (a_name c ∷ ws) = Unit {0}
BeginsTerm (a_sign Percent ∷ ws) = Unit {0}
BeginsTerm (a_sign Open ∷ ws) = Unit {0}
BeginsTerm (_ ∷ ws) = ⊥

term-begins : (x : TermText) (rest : List Lexeme) → BeginsTerm (term_lexemes x rest)
term-begins (word c ts) rest = tt
term-begins (bound x) rest = tt
term-begins (free x ty) rest = tt
term-begins (lambda x ty b) rest = tt
term-begins (applied f a more) rest = tt

pub no-term : (ws rest : List Lexeme) (x : TermText) → ws ≡ term_lexemes x rest → BeginsTerm ws
no-term ws rest x e = subst BeginsTerm (sym e) (term-begins x rest)

name-term : (c : Chars) (us mid : List Lexeme) → Spells a_term (a_name c ∷ us) mid → Spelt (brackets c ∷ []) us mid
name-term c us mid (word d ts, e, n) =
    let same : d ≡ c = let f = sym e in cc f in
    (mid, (ts, cc e, subst (λ (v : Chars). EndsThere (word v ts) mid) same n), refl)
name-term c us mid (bound x, e, n) = absurd (cc e)
name-term c us mid (free x ty, e, n) = absurd (cc e)
name-term c us mid (lambda x ty b, e, n) = absurd (cc e)
name-term c us mid (applied f a more, e, n) = absurd (cc e)

term-name : (c : Chars) (us mid : List Lexeme) → Spelt (brackets c ∷ []) us mid → Spells a_term (a_name c ∷ us) mid
term-name c us mid (x, (ts, p, n), e) =
    (word c ts, ap (λ (v : List Lexeme). a_name c ∷ v) (p ∙ ap (arguments_lexemes ts) e), subst (EndsThere (word c ts)) e n)

percent-term : (us mid : List Lexeme) → Spells a_term (a_sign Percent ∷ us) mid → Spelt (any_name ∷ []) us mid
percent-term us mid (word d ts, e, n) = absurd (cc e)
percent-term us mid (bound x, e, n) = (mid, (x, cc e), refl)
percent-term us mid (free x ty, e, n) = absurd (cc e)
percent-term us mid (lambda x ty b, e, n) = absurd (cc e)
percent-term us mid (applied f a more, e, n) = absurd (cc e)

open-term : (us mid : List Lexeme) → Spells a_term (a_sign Open ∷ us) mid → Spelt (inside ∷ []) us mid
open-term us mid (x, e, n) = (mid, (x, e), refl)

-- what stands in brackets is no constant alone, and ends by itself
term-open : (us mid : List Lexeme) → Spelt (inside ∷ []) us mid → Spells a_term (a_sign Open ∷ us) mid
term-open us mid (y, (word c ts, p), e) = absurd (cc p)
term-open us mid (y, (bound x, p), e) = absurd (cc p)
term-open us mid (y, (free x ty, p), e) = (free x ty, p ∙ ap (term_lexemes (free x ty)) e, tt)
term-open us mid (y, (lambda x ty b, p), e) = (lambda x ty b, p ∙ ap (term_lexemes (lambda x ty b)) e, tt)
term-open us mid (y, (applied f a more, p), e) = (applied f a more, p ∙ ap (term_lexemes (applied f a more)) e, tt)

pub meets-term : (w : Lexeme) → Meets a_term w
meets-term (a_name c) = inl (brackets c ∷ [], name-term c, term-name c)
meets-term (a_sign Percent) = inl (
  any_name ∷ [],
  percent-term,
  λ us mid (y, (x, p), e). (bound x, ap (λ (v : List Lexeme). a_sign Percent ∷ v) (p ∙ ap (λ (v : List Lexeme). a_name x ∷ v) e), tt),
)
meets-term (a_sign Open) = inl (inside ∷ [], open-term, term-open)
meets-term w = inr (λ us mid h. no-term (w ∷ us) mid h.0 h.1)

-- behind an opening bracket
dollar-inside : (us mid : List Lexeme) → Spells inside (a_sign Dollar ∷ us) mid → Spelt (any_name ∷ a_type ∷ exactly (a_sign Close) ∷ []) us mid
dollar-inside us mid (word c ts, e) = absurd (cc e)
dollar-inside us mid (bound x, e) = absurd (cc e)
dollar-inside us mid (free x ty, e) = (_, (x, cc e), (_, (ty, refl), (_, refl, refl)))
dollar-inside us mid (lambda x ty b, e) = absurd (cc e)
dollar-inside us mid (applied f a more, e) =
    let tail : a_sign Dollar ∷ us ≡ term_lexemes f (term_lexemes a (terms_lexemes more (a_sign Close ∷ mid))) = cc e in absurd (no-term _ _ f tail)

inside-dollar : (us mid : List Lexeme) → Spelt (any_name ∷ a_type ∷ exactly (a_sign Close) ∷ []) us mid → Spells inside (a_sign Dollar ∷ us) mid
inside-dollar us mid (u, (x, p), (v, (ty, q), (z, r, e))) = (
  free x ty,
  ap (λ (y : List Lexeme). a_sign Open ∷ a_sign Dollar ∷ y) (p ∙ ap (λ (y : List Lexeme). a_name x ∷ y)
      (q ∙ ap (type_lexemes ty) (r ∙ ap (λ (y : List Lexeme). a_sign Close ∷ y) e))),
)

slash-inside : (us mid : List Lexeme) → Spells inside (a_sign Backslash ∷ us) mid → Spelt (any_name ∷ a_type ∷ a_term ∷ exactly (a_sign Close) ∷ []) us mid
slash-inside us mid (word c ts, e) = absurd (cc e)
slash-inside us mid (bound x, e) = absurd (cc e)
slash-inside us mid (free x ty, e) = absurd (cc e)
slash-inside us mid (lambda x ty b, e) = (_, (x, cc e), (_, (ty, refl), (_, (b, refl, ends_clear b (a_sign Close ∷ mid) tt), (_, refl, refl))))
slash-inside us mid (applied f a more, e) =
    let tail : a_sign Backslash ∷ us ≡ term_lexemes f (term_lexemes a (terms_lexemes more (a_sign Close ∷ mid))) = cc e in absurd (no-term _ _ f tail)

inside-slash : (us mid : List Lexeme) → Spelt (any_name ∷ a_type ∷ a_term ∷ exactly (a_sign Close) ∷ []) us mid → Spells inside (a_sign Backslash ∷ us) mid
inside-slash us mid (u, (x, p), (v, (ty, q), (t, (b, r, n), (z, s, e)))) = (
  lambda x ty b,
  ap (λ (y : List Lexeme). a_sign Open ∷ a_sign Backslash ∷ y) (p ∙ ap (λ (y : List Lexeme). a_name x ∷ y)
      (q ∙ ap (type_lexemes ty) (r ∙ ap (term_lexemes b) (s ∙ ap (λ (y : List Lexeme). a_sign Close ∷ y) e)))),
)

-- an application: its first lexeme is no dollar and no backslash
abbrev BeginsInside : Lexeme → Type 0
BeginsInside (a_sign Dollar) = ⊥
BeginsInside (a_sign Backslash) = ⊥
BeginsInside w = Unit {0}

inside-terms : (w : Lexeme) → BeginsInside w → (us mid : List Lexeme) → Spells inside (w ∷ us) mid → Spelt (a_term ∷ a_term ∷ terms_to_close ∷ []) (w ∷ us) mid
inside-terms w n us mid (word c ts, e) = absurd (cc e)
inside-terms w n us mid (bound x, e) = absurd (cc e)
inside-terms w n us mid (free x ty, e) = let same : a_sign Dollar ≡ w = let f = sym e in cc f in absurd (subst BeginsInside (sym same) n)
inside-terms w n us mid (lambda x ty b, e) = let same : a_sign Backslash ≡ w = let f = sym e in cc f in absurd (subst BeginsInside (sym same) n)
inside-terms w n us mid (applied f a more, e) = (
  _,
  (f, cc e, ends_clear f _ (term_clear a (terms_lexemes more (a_sign Close ∷ mid)))),
  (_, (a, refl, ends_clear a _ (terms_clear more (a_sign Close ∷ mid) tt)), (_, (more, refl), refl)),
)

terms-inside : (w : Lexeme) (us mid : List Lexeme) → Spelt (a_term ∷ a_term ∷ terms_to_close ∷ []) (w ∷ us) mid → Spells inside (w ∷ us) mid
terms-inside w us mid (u, (f, p, _), (v, (a, q, _), (z, (more, r), e))) =
    (applied f a more, ap (λ (y : List Lexeme). a_sign Open ∷ y) (p ∙ ap (term_lexemes f) (q ∙ ap (term_lexemes a) (r ∙ ap (λ (y : List Lexeme). terms_lexemes more (a_sign Close ∷ y)) e))))

meets-application : (w : Lexeme) → BeginsInside w → Meets a_term w → Meets inside w
meets-application w n (inl (st, f, g)) = inl (
  st ++ a_term ∷ terms_to_close ∷ [],
  λ us mid h. let k = inside-terms w n us mid h in join_spelt st (a_term ∷ terms_to_close ∷ []) us k.0 mid (f us k.0 k.1) k.2,
  λ us mid h. let k = split_spelt st (a_term ∷ terms_to_close ∷ []) us mid h in terms-inside w us mid (k.0, g us k.0 k.1, k.2),
)
meets-application w n (inr m) = inr (λ us mid h. let k = inside-terms w n us mid h in m us k.0 k.1)

pub meets-inside : (w : Lexeme) → Meets inside w
meets-inside (a_sign Dollar) = inl (any_name ∷ a_type ∷ exactly (a_sign Close) ∷ [], dollar-inside, inside-dollar)
meets-inside (a_sign Backslash) = inl (any_name ∷ a_type ∷ a_term ∷ exactly (a_sign Close) ∷ [], slash-inside, inside-slash)
meets-inside w = meets-application w tt (meets-term w)

-- terms up to a closing bracket
terms-more : (w : Lexeme) → NotClose w → (us mid : List Lexeme) → Spells terms_to_close (w ∷ us) mid → Spelt (a_term ∷ terms_to_close ∷ []) (w ∷ us) mid
terms-more w n us mid (no_more_terms, e) = let same : a_sign Close ≡ w = let f = sym e in cc f in absurd (subst NotClose (sym same) n)
terms-more w n us mid (more_terms t ts, e) = (_, (t, e, ends_clear t _ (terms_clear ts (a_sign Close ∷ mid) tt)), (_, (ts, refl), refl))

more-later : (w : Lexeme) (us mid : List Lexeme) → Spelt (a_term ∷ terms_to_close ∷ []) (w ∷ us) mid → Spells terms_to_close (w ∷ us) mid
more-later w us mid (x, (t, p, _), (y, (ts, q), e)) = (more_terms t ts, p ∙ ap (term_lexemes t) (q ∙ ap (λ (v : List Lexeme). terms_lexemes ts (a_sign Close ∷ v)) e))

close-terms : (us mid : List Lexeme) → Spells terms_to_close (a_sign Close ∷ us) mid → us ≡ mid
close-terms us mid (no_more_terms, e) = cc e
close-terms us mid (more_terms t ts, e) = absurd (no-term _ _ t e)

pub meets-terms : (w : Lexeme) → Meets terms_to_close w
meets-terms (a_sign Close) = inl ([], close-terms, λ us mid e. (no_more_terms, ap (λ (v : List Lexeme). a_sign Close ∷ v) e))
meets-terms w = first-of terms_to_close a_term w (terms-more w tt) (more-later w) (meets-term w)
