-- No two ways of writing a type, a term or the parts of a row have the same lexemes.
use Rattle.std.proofs.Common.{◌≡◌, ◌≢◌, List, [], ◌∷◌, refl, sym, ap, subst}
use Rattle.lt_texts.specs.declared.lexical.TokenKind.{TokenKind}
use Rattle.lt_texts.specs.declared.lexical.TokenKind.TheVariants as kinds
use Rattle.lt_texts.specs.declared.lexical.TokenKind.TheVariants.{Open, Close, OpenSquare, CloseSquare, Dollar, Percent, Backslash}
use Rattle.lt_definitions.specs.Types.{Chars, TypeTree, TypeTrees, type_variable, type_constructor, no_types, type_and, row}
use Rattle.lt_texts.specs.Lexemes.{Lexeme, a_name, a_sign}
use Rattle.lt_grammar.specs.declared.words.Fixed.{Fixed}
use Rattle.lt_grammar.specs.declared.words.Fixed.TheVariants.{Semicolon, Colon, Becomes, OpenBrace, By, Abs, Rep}
use Rattle.lt_grammar.specs.declared.words.Part.{Part}
use Rattle.lt_grammar.specs.declared.words.Part.TheVariants.{Label, Number, Variable, Parameters, AType, AStatement, ATerm, Fixed as Exactly}
use Rattle.lt_texts.specs.Writing.{type_lexemes, types_lexemes, arguments_lexemes, TermText, word, bound, free, lambda, applied, TermTexts, no_more_terms, more_terms, term_lexemes, terms_lexemes}
use Rattle.lt_texts.specs.WrongPlaces.{EndsThere}
use Rattle.lt_grammar.specs.Rows.{fixed, Text, variables_lexemes, part_lexemes, Texts, parts_lexemes}

-- ---- types

-- no type begins with another sign than an opening bracket
type-no-sign : (z : TokenKind) (t : TypeTree) (x y : List Lexeme) → z ≢ Open → a_sign z ∷ x ≡ type_lexemes t y → ⊥
type-no-sign z (type_variable a) x y n e = absurd (cc e)
type-no-sign z (type_constructor c no_types) x y n e = absurd (cc e)
type-no-sign z (type_constructor c (type_and t ts)) x y n e = let same : z ≡ Open = cc e in n same

mutual
  pub one_type : (s u : TypeTree) (x y : List Lexeme) → type_lexemes s x ≡ type_lexemes u y → (s ≡ u) × (x ≡ y)
  one_type (type_variable a) (type_variable b) x y e = (cc e, cc e)
  one_type (type_variable a) (type_constructor d no_types) x y e = absurd (cc e)
  one_type (type_variable a) (type_constructor d (type_and t ts)) x y e = absurd (cc e)
  one_type (type_constructor c no_types) (type_variable b) x y e = absurd (cc e)
  one_type (type_constructor c (type_and s ss)) (type_variable b) x y e = absurd (cc e)
  one_type (type_constructor c no_types) (type_constructor d no_types) x y e = (cc e, cc e)
  one_type (type_constructor c no_types) (type_constructor d (type_and t ts)) x y e = absurd (cc e)
  one_type (type_constructor c (type_and s ss)) (type_constructor d no_types) x y e = absurd (cc e)
  one_type (type_constructor c (type_and s ss)) (type_constructor d (type_and t ts)) x y e =
      let same : c ≡ d = cc e in
      let tail : type_lexemes s (types_lexemes ss (a_sign Close ∷ x)) ≡ type_lexemes t (types_lexemes ts (a_sign Close ∷ y)) = cc e in
      let p = one_type s t _ _ tail in
      let q = one_types Close ss ts x y (λ h. cc h) p.1 in
      let first = p.0 in let second = q.0 in
      (cc (same, first, second), q.1)

  pub one_types : (z : TokenKind) (m k : TypeTrees) (x y : List Lexeme) → z ≢ Open → types_lexemes m (a_sign z ∷ x) ≡ types_lexemes k (a_sign z ∷ y) → (m ≡ k) × (x ≡ y)
  one_types z no_types no_types x y n e = (refl, cc e)
  one_types z no_types (type_and t k) x y n e = absurd (type-no-sign z t _ _ n e)
  one_types z (type_and s m) no_types x y n e = absurd (type-no-sign z s _ _ n (sym e))
  one_types z (type_and s m) (type_and t k) x y n e =
      let p = one_type s t _ _ e in
      let q = one_types z m k x y n p.1 in
      let first = p.0 in let second = q.0 in
      (cc (first, second), q.1)

-- ---- terms

-- something stands there, and it does not go on a constant
abbrev pub IsClear : List Lexeme → Type 0
IsClear [] = ⊥
IsClear (a_sign OpenSquare ∷ x) = ⊥
IsClear x = Unit {0}

from-row : (ts us : List TypeTree) → row ts ≡ row us → ts ≡ us
from-row [] [] e = refl
from-row [] (u ∷ us) e = absurd (cc e)
from-row (t ∷ ts) [] e = absurd (cc e)
from-row (t ∷ ts) (u ∷ us) e = let first : t ≡ u = cc e in let rows : row ts ≡ row us = cc e in let rest = from-row ts us rows in cc (first, rest)

-- what is behind a constant doesn't go on it
no-square : (c : Chars) (x y : List Lexeme) → EndsThere (word c []) x → x ≡ a_sign OpenSquare ∷ y → ⊥
no-square c x y n e = subst (EndsThere (word c [])) e n

one-arguments : (c d : Chars) (ts us : List TypeTree) (x y : List Lexeme) → EndsThere (word c ts) x → EndsThere (word d us) y → arguments_lexemes ts x ≡ arguments_lexemes us y → (ts ≡ us) × (x ≡ y)
one-arguments c d [] [] x y m n e = (refl, e)
one-arguments c d [] (u ∷ us) x y m n e = absurd (no-square c x _ m e)
one-arguments c d (t ∷ ts) [] x y m n e = absurd (no-square d y _ n (sym e))
one-arguments c d (t ∷ ts) (u ∷ us) x y m n e =
    let tail : type_lexemes t (types_lexemes (row ts) (a_sign CloseSquare ∷ x)) ≡ type_lexemes u (types_lexemes (row us) (a_sign CloseSquare ∷ y)) = cc e in
    let p = one_type t u _ _ tail in
    let q = one_types CloseSquare (row ts) (row us) x y (λ h. cc h) p.1 in
    let first = p.0 in let second = from-row ts us q.0 in
    (cc (first, second), q.1)

-- no term begins with another sign than an opening bracket and the one of a bound name
term-no-sign : (z : TokenKind) (t : TermText) (x y : List Lexeme) → z ≢ Open → z ≢ Percent → a_sign z ∷ x ≡ term_lexemes t y → ⊥
term-no-sign z (word c ts) x y n m e = absurd (cc e)
term-no-sign z (bound c) x y n m e = let same : z ≡ Percent = cc e in m same
term-no-sign z (free c ty) x y n m e = let same : z ≡ Open = cc e in n same
term-no-sign z (lambda c ty b) x y n m e = let same : z ≡ Open = cc e in n same
term-no-sign z (applied f a more) x y n m e = let same : z ≡ Open = cc e in n same

pub term_clear : (t : TermText) (x : List Lexeme) → IsClear (term_lexemes t x)
term_clear (word c ts) x = tt
term_clear (bound c) x = tt
term_clear (free c ty) x = tt
term_clear (lambda c ty b) x = tt
term_clear (applied f a more) x = tt

pub terms_clear : (ts : TermTexts) (x : List Lexeme) → IsClear x → IsClear (terms_lexemes ts x)
terms_clear no_more_terms x n = n
terms_clear (more_terms t ts) x n = term_clear t (terms_lexemes ts x)

-- what is clear goes on no term
pub ends_clear : (t : TermText) (x : List Lexeme) → IsClear x → EndsThere t x
ends_clear (word c []) [] n = absurd n
ends_clear (word c []) (a_sign OpenSquare ∷ x) n = absurd n
ends_clear (word c []) (w ∷ x) n = tt
ends_clear (word c (t ∷ ts)) x n = tt
ends_clear (bound c) x n = tt
ends_clear (free c ty) x n = tt
ends_clear (lambda c ty b) x n = tt
ends_clear (applied f a more) x n = tt

mutual
  pub one_term_there : (s u : TermText) (x y : List Lexeme) → EndsThere s x → EndsThere u y → term_lexemes s x ≡ term_lexemes u y → (s ≡ u) × (x ≡ y)
  one_term_there (word c ts) (word d us) x y m n e =
      let same : c ≡ d = cc e in
      let tail : arguments_lexemes ts x ≡ arguments_lexemes us y = cc e in
      let p = one-arguments c d ts us x y m n tail in
      let first = p.0 in
      (cc (same, first), p.1)
  one_term_there (bound c) (bound d) x y m n e = (cc e, cc e)
  one_term_there (free c s) (free d u) x y m n e =
      let same : c ≡ d = cc e in
      let tail : type_lexemes s (a_sign Close ∷ x) ≡ type_lexemes u (a_sign Close ∷ y) = cc e in
      let p = one_type s u _ _ tail in
      let first = p.0 in let second = p.1 in
      (cc (same, first), cc second)
  one_term_there (lambda c s b) (lambda d u g) x y m n e =
      let same : c ≡ d = cc e in
      let tail : type_lexemes s (term_lexemes b (a_sign Close ∷ x)) ≡ type_lexemes u (term_lexemes g (a_sign Close ∷ y)) = cc e in
      let p = one_type s u _ _ tail in
      let q = one_term_there b g (a_sign Close ∷ x) (a_sign Close ∷ y) (ends_clear b (a_sign Close ∷ x) tt) (ends_clear g (a_sign Close ∷ y) tt) p.1 in
      let first = p.0 in let second = q.0 in let third = q.1 in
      (cc (same, first, second), cc third)
  one_term_there (applied f a i) (applied g b k) x y m n e =
      let tail : term_lexemes f (term_lexemes a (terms_lexemes i (a_sign Close ∷ x))) ≡ term_lexemes g (term_lexemes b (terms_lexemes k (a_sign Close ∷ y))) = cc e in
      let p = one_term_there f g (term_lexemes a (terms_lexemes i (a_sign Close ∷ x))) (term_lexemes b (terms_lexemes k (a_sign Close ∷ y))) (ends_clear f (term_lexemes a (terms_lexemes i (a_sign Close ∷ x))) (term_clear a (terms_lexemes i (a_sign Close ∷ x))))
      (ends_clear g (term_lexemes b (terms_lexemes k (a_sign Close ∷ y))) (term_clear b (terms_lexemes k (a_sign Close ∷ y)))) tail in
      let q = one_term_there a b (terms_lexemes i (a_sign Close ∷ x)) (terms_lexemes k (a_sign Close ∷ y)) (ends_clear a (terms_lexemes i (a_sign Close ∷ x)) (terms_clear i (a_sign Close ∷ x) tt)) (ends_clear b (terms_lexemes k (a_sign Close ∷ y)) (terms_clear k (a_sign Close ∷ y) tt)) p.1 in
      let r = one_terms i k x y q.1 in
      let first = p.0 in let second = q.0 in let third = r.0 in
      (cc (first, second, third), r.1)
  one_term_there (free c s) (applied g b k) x y m n e =
      let tail : a_sign Dollar ∷ a_name c ∷ type_lexemes s (a_sign Close ∷ x) ≡ term_lexemes g (term_lexemes b (terms_lexemes k (a_sign Close ∷ y))) = cc e in
      absurd (term-no-sign Dollar g _ _ (λ h. cc h) (λ h. cc h) tail)
  one_term_there (applied g b k) (free c s) x y m n e =
      let tail : a_sign Dollar ∷ a_name c ∷ type_lexemes s (a_sign Close ∷ y) ≡ term_lexemes g (term_lexemes b (terms_lexemes k (a_sign Close ∷ x))) = let h = sym e in cc h in
      absurd (term-no-sign Dollar g _ _ (λ h. cc h) (λ h. cc h) tail)
  one_term_there (lambda c s r) (applied g b k) x y m n e =
      let tail : a_sign Backslash ∷ a_name c ∷ type_lexemes s (term_lexemes r (a_sign Close ∷ x)) ≡ term_lexemes g (term_lexemes b (terms_lexemes k (a_sign Close ∷ y))) = cc e in
      absurd (term-no-sign Backslash g _ _ (λ h. cc h) (λ h. cc h) tail)
  one_term_there (applied g b k) (lambda c s r) x y m n e =
      let tail : a_sign Backslash ∷ a_name c ∷ type_lexemes s (term_lexemes r (a_sign Close ∷ y)) ≡ term_lexemes g (term_lexemes b (terms_lexemes k (a_sign Close ∷ x))) = let h = sym e in cc h in
      absurd (term-no-sign Backslash g _ _ (λ h. cc h) (λ h. cc h) tail)
  one_term_there _ _ x y m n e = absurd (cc e)

  pub one_terms : (m k : TermTexts) (x y : List Lexeme) → terms_lexemes m (a_sign Close ∷ x) ≡ terms_lexemes k (a_sign Close ∷ y) → (m ≡ k) × (x ≡ y)
  one_terms no_more_terms no_more_terms x y e = (refl, cc e)
  one_terms no_more_terms (more_terms t k) x y e = absurd (term-no-sign Close t _ _ (λ h. cc h) (λ h. cc h) e)
  one_terms (more_terms s m) no_more_terms x y e = absurd (term-no-sign Close s _ _ (λ h. cc h) (λ h. cc h) (sym e))
  one_terms (more_terms s m) (more_terms t k) x y e =
      let p = one_term_there s t (terms_lexemes m (a_sign Close ∷ x)) (terms_lexemes k (a_sign Close ∷ y)) (ends_clear s (terms_lexemes m (a_sign Close ∷ x)) (terms_clear m (a_sign Close ∷ x) tt)) (ends_clear t (terms_lexemes k (a_sign Close ∷ y)) (terms_clear k (a_sign Close ∷ y) tt)) e in
      let q = one_terms m k x y p.1 in
      let first = p.0 in let second = q.0 in
      (cc (first, second), q.1)

pub one_term : (s u : TermText) (x y : List Lexeme) → IsClear x → IsClear y → term_lexemes s x ≡ term_lexemes u y → (s ≡ u) × (x ≡ y)
one_term s u x y m n e = one_term_there s u x y (ends_clear s x m) (ends_clear u y n) e

-- ---- parts in a row

one-variables : (xs ys : List Chars) (x y : List Lexeme) → variables_lexemes xs (a_sign kinds.Colon ∷ x) ≡ variables_lexemes ys (a_sign kinds.Colon ∷ y) → (xs ≡ ys) × (x ≡ y)
one-variables [] [] x y e = (refl, cc e)
one-variables [] (b ∷ ys) x y e = absurd (cc e)
one-variables (a ∷ xs) [] x y e = absurd (cc e)
one-variables (a ∷ xs) (b ∷ ys) x y e =
    let first : a ≡ b = cc e in
    let tail : variables_lexemes xs (a_sign kinds.Colon ∷ x) ≡ variables_lexemes ys (a_sign kinds.Colon ∷ y) = cc e in
    let p = one-variables xs ys x y tail in
    let second = p.0 in
    (cc (first, second), p.1)

one_text : (p : Part) (a b : Text p) (x y : List Lexeme) → IsClear x → IsClear y → part_lexemes p a x ≡ part_lexemes p b y → (a ≡ b) × (x ≡ y)
one_text Label a b x y m n e = (cc e, cc e)
one_text Number a b x y m n e = (cc e, cc e)
one_text Variable a b x y m n e = (cc e, cc e)
one_text Parameters a b x y m n e = one-variables a b x y e
one_text AType a b x y m n e = one_type a b x y e
one_text AStatement a b x y m n e = one_term a b x y m n e
one_text ATerm a b x y m n e = one_term a b x y m n e
one_text (Exactly k) a b x y m n e = (refl, cc e)

pub fixed_clear : (k : Fixed) (x : List Lexeme) → IsClear (fixed k ∷ x)
fixed_clear Semicolon x = tt
fixed_clear Colon x = tt
fixed_clear Becomes x = tt
fixed_clear OpenBrace x = tt
fixed_clear By x = tt
fixed_clear Abs x = tt
fixed_clear Rep x = tt

pub type_clear : (t : TypeTree) (x : List Lexeme) → IsClear (type_lexemes t x)
type_clear (type_variable a) x = tt
type_clear (type_constructor c no_types) x = tt
type_clear (type_constructor c (type_and t ts)) x = tt

part-clear : (p : Part) (a : Text p) (x : List Lexeme) → IsClear (part_lexemes p a x)
part-clear Label a x = tt
part-clear Number a x = tt
part-clear Variable a x = tt
part-clear Parameters [] x = tt
part-clear Parameters (a ∷ more) x = tt
part-clear AType a x = type_clear a x
part-clear AStatement a x = term_clear a x
part-clear ATerm a x = term_clear a x
part-clear (Exactly k) a x = fixed_clear k x

pub parts_clear : (ps : List Part) (a : Texts ps) (x : List Lexeme) → IsClear x → IsClear (parts_lexemes ps a x)
parts_clear [] a x n = n
parts_clear (p ∷ ps) a x n = part-clear p a.0 (parts_lexemes ps a.1 x)

pub one_texts : (ps : List Part) (a b : Texts ps) (x y : List Lexeme) → IsClear x → IsClear y → parts_lexemes ps a x ≡ parts_lexemes ps b y → (a ≡ b) × (x ≡ y)
one_texts [] a b x y m n e = (refl, e)
one_texts (p ∷ ps) a b x y m n e =
    let q = one_text p a.0 b.0 _ _ (parts_clear ps a.1 x m) (parts_clear ps b.1 y n) e in
    let r = one_texts ps a.1 b.1 x y m n q.1 in
    (λ i. (q.0 i, r.0 i), r.1)

-- the same of two rows of one table, where the rows are one
pub one_row : {W T : Type 0} (parts : W → List Part) (con : (w : W) → Texts (parts w) → T) (w v : W) → w ≡ v → (a : Texts (parts w)) (b : Texts (parts v)) (x y : List Lexeme)
    → IsClear x → IsClear y → parts_lexemes (parts w) a x ≡ parts_lexemes (parts v) b y → (con w a ≡ con v b) × (x ≡ y)
one_row {W} {T} parts con w v e a b x y m n =
    subst (λ (u : W). (b : Texts (parts u)) → parts_lexemes (parts w) a x ≡ parts_lexemes (parts u) b y → (con w a ≡ con u b) × (x ≡ y)) e
    (λ b h. let p = one_texts (parts w) a b x y m n h in (ap (con w) p.0, p.1)) b
