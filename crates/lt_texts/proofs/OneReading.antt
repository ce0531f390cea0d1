-- No two ways of writing have the same lexemes, and no text two lists of lexemes.
use Rattle.std.proofs.Common.{◌≡◌, ℕ, List, [], ◌∷◌, refl, sym, ap, ◌∙◌, subst, eqb, true, false, eq-eqb}
use Rattle.lt_texts.specs.declared.lexical.TokenKind.TheVariants.{Close, OpenBrace, CloseBrace, Semicolon}
use Rattle.lt_texts.specs.declared.lexical.Token.{Token as Placed}
use Rattle.lt_texts.specs.declared.lexical.Lexed.TheVariants.{Token, End}
use Rattle.lt_definitions.specs.Items.{Item}
use Rattle.lt_texts.specs.Texts.{Left, left_of, lexed, after, spelling}
use Rattle.lt_texts.specs.Lexemes.{Lexeme, a_name, a_sign, lexeme, IsNextLexeme, Spans, HasLexemes}
use Rattle.lt_texts.specs.PlainTexts.{TypeText, alone, in_brackets, TypeTexts, no_more_types, more_types, type_lexemes, types_lexemes, TermText, word, applied, TermTexts, no_more_terms, more_terms, term_lexemes, terms_lexemes, LineText, assume_line, impI_line, mp_line, thm_line, number, line_lexemes, lines_lexemes, ItemText, type_text, const_text, axiom_text, lemma_text, item_lexemes, PartText, header, item, part_lexemes, parts_lexemes, items_of, IsPlainText, HasItems}

-- ---- the lexemes of a text

pub one_next : (s : Left) (w v : Lexeme) → IsNextLexeme s w → IsNextLexeme s v → w ≡ v
one_next s w v p q =
    let found : Token p.placed ≡ Token q.placed = sym p.found ∙ q.found in
    let placed : p.placed ≡ q.placed = cc found in
    p.same ∙ ap (λ (t : Placed). lexeme t.kind (spelling s)) placed ∙ sym q.same

pub no_next : (s : Left) (w : Lexeme) → lexed s ≡ End → IsNextLexeme s w → ⊥
no_next s w e p = let clash : End ≡ Token p.placed = sym e ∙ p.found in absurd (cc clash)

pub one_span : (s : Left) (ws vs : List Lexeme) (x y : Left) → Spans s ws x → lexed x ≡ End → Spans s vs y → lexed y ≡ End → ws ≡ vs
one_span s [] [] x y p e q f = refl
one_span s [] (v ∷ vs) x y p e q f = absurd (no_next s v (subst (λ (z : Left). lexed z ≡ End) p e) q.0)
one_span s (w ∷ ws) [] x y p e q f = absurd (no_next s w (subst (λ (z : Left). lexed z ≡ End) q f) p.0)
one_span s (w ∷ ws) (v ∷ vs) x y p e q f =
    let first = one_next s w v p.0 q.0 in
    let rest = one_span (after s) ws vs x y p.1 e q.1 f in
    cc (first, rest)

pub one_lexing : (text : List ℕ) (ws vs : List Lexeme) → HasLexemes text ws → HasLexemes text vs → ws ≡ vs
one_lexing text ws vs p q = one_span (left_of text) ws vs p.0 q.0 p.1 p.2 q.1 q.2

-- ---- types and terms

-- no type and no term begins with a closing bracket
type_not_closed : (t : TypeText) (x y : List Lexeme) → a_sign Close ∷ x ≡ type_lexemes t y → ⊥
type_not_closed (alone c) x y e = cc e
type_not_closed (in_brackets c t ts) x y e = cc e

term_not_closed : (t : TermText) (x y : List Lexeme) → a_sign Close ∷ x ≡ term_lexemes t y → ⊥
term_not_closed (word c) x y e = cc e
term_not_closed (applied f a more) x y e = cc e

mutual
  pub one_type : (s u : TypeText) (x y : List Lexeme) → type_lexemes s x ≡ type_lexemes u y → (s ≡ u) × (x ≡ y)
  one_type (alone c) (alone d) x y e = (cc, cc)
  one_type (alone c) (in_brackets d t ts) x y e = absurd (cc e)
  one_type (in_brackets c t ts) (alone d) x y e = absurd (cc e)
  one_type (in_brackets c s ss) (in_brackets d t ts) x y e =
      let tail : type_lexemes s (types_lexemes ss (a_sign Close ∷ x)) ≡ type_lexemes t (types_lexemes ts (a_sign Close ∷ y)) = cc e in
      let p = one_type s t _ _ tail in
      let q = one_types ss ts x y p.1 in
      let first = p.0 in let second = q.0 in
      (cc (first, second), q.1)

  pub one_types : (m k : TypeTexts) (x y : List Lexeme) → types_lexemes m (a_sign Close ∷ x) ≡ types_lexemes k (a_sign Close ∷ y) → (m ≡ k) × (x ≡ y)
  one_types no_more_types no_more_types x y e = (refl, cc)
  one_types no_more_types (more_types t k) x y e = absurd (type_not_closed t _ _ e)
  one_types (more_types s m) no_more_types x y e = absurd (type_not_closed s _ _ (sym e))
  one_types (more_types s m) (more_types t k) x y e =
      let p = one_type s t _ _ e in
      let q = one_types m k x y p.1 in
      let first = p.0 in let second = q.0 in
      (cc (first, second), q.1)

mutual
  pub one_term : (s u : TermText) (x y : List Lexeme) → term_lexemes s x ≡ term_lexemes u y → (s ≡ u) × (x ≡ y)
  one_term (word c) (word d) x y e = (cc, cc)
  one_term (word c) (applied g b k) x y e = absurd (cc e)
  one_term (applied f a m) (word d) x y e = absurd (cc e)
  one_term (applied f a m) (applied g b k) x y e =
      let tail : term_lexemes f (term_lexemes a (terms_lexemes m (a_sign Close ∷ x))) ≡ term_lexemes g (term_lexemes b (terms_lexemes k (a_sign Close ∷ y))) = cc e in
      let p = one_term f g _ _ tail in
      let q = one_term a b _ _ p.1 in
      let r = one_terms m k x y q.1 in
      let first = p.0 in let second = q.0 in let third = r.0 in
      (cc (first, second, third), r.1)

  pub one_terms : (m k : TermTexts) (x y : List Lexeme) → terms_lexemes m (a_sign Close ∷ x) ≡ terms_lexemes k (a_sign Close ∷ y) → (m ≡ k) × (x ≡ y)
  one_terms no_more_terms no_more_terms x y e = (refl, cc)
  one_terms no_more_terms (more_terms t k) x y e = absurd (term_not_closed t _ _ e)
  one_terms (more_terms s m) no_more_terms x y e = absurd (term_not_closed s _ _ (sym e))
  one_terms (more_terms s m) (more_terms t k) x y e =
      let p = one_term s t _ _ e in
      let q = one_terms m k x y p.1 in
      let first = p.0 in let second = q.0 in
      (cc (first, second), q.1)

-- ---- lines and items

-- two names that begin with different characters
names_differ : (a b : ℕ) (more others : List ℕ) (x y : List Lexeme) → eqb a b ≡ false → a_name (a ∷ more) ∷ x ≡ a_name (b ∷ others) ∷ y → ⊥
names_differ a b more others x y d e =
    let same : a ≡ b = cc e in
    let clash : true ≡ false = sym (eq-eqb a b same) ∙ d in
    absurd (cc clash)

pub one_line : (s u : LineText) (x y : List Lexeme) → line_lexemes s x ≡ line_lexemes u y → (s ≡ u) × (x ≡ y)
one_line (assume_line p) (assume_line q) x y e =
    let tail : term_lexemes p (a_sign Semicolon ∷ x) ≡ term_lexemes q (a_sign Semicolon ∷ y) = cc e in
    let r = one_term p q _ _ tail in let first = r.0 in let second = r.1 in (cc first, cc second)
one_line (impI_line p i) (impI_line q j) x y e =
    let tail : term_lexemes p (number i ∷ a_sign Semicolon ∷ x) ≡ term_lexemes q (number j ∷ a_sign Semicolon ∷ y) = cc e in
    let r = one_term p q _ _ tail in let first = r.0 in let second = r.1 in (cc (first, second), cc second)
one_line (mp_line i j) (mp_line k l) x y e = (cc e, cc e)
one_line (thm_line l) (thm_line m) x y e = (cc e, cc e)
one_line (assume_line p) (impI_line q j) x y e = absurd (names_differ 97 105 _ _ _ _ refl e)
one_line (assume_line p) (mp_line k l) x y e = absurd (names_differ 97 109 _ _ _ _ refl e)
one_line (assume_line p) (thm_line l) x y e = absurd (names_differ 97 116 _ _ _ _ refl e)
one_line (impI_line p i) (assume_line q) x y e = absurd (names_differ 105 97 _ _ _ _ refl e)
one_line (impI_line p i) (mp_line k l) x y e = absurd (names_differ 105 109 _ _ _ _ refl e)
one_line (impI_line p i) (thm_line l) x y e = absurd (names_differ 105 116 _ _ _ _ refl e)
one_line (mp_line i j) (assume_line q) x y e = absurd (names_differ 109 97 _ _ _ _ refl e)
one_line (mp_line i j) (impI_line q l) x y e = absurd (names_differ 109 105 _ _ _ _ refl e)
one_line (mp_line i j) (thm_line l) x y e = absurd (names_differ 109 116 _ _ _ _ refl e)
one_line (thm_line l) (assume_line q) x y e = absurd (names_differ 116 97 _ _ _ _ refl e)
one_line (thm_line l) (impI_line q m) x y e = absurd (names_differ 116 105 _ _ _ _ refl e)
one_line (thm_line l) (mp_line i j) x y e = absurd (names_differ 116 109 _ _ _ _ refl e)

-- no line begins with a closing brace
line_not_closed : (line : LineText) (x y : List Lexeme) → a_sign CloseBrace ∷ x ≡ line_lexemes line y → ⊥
line_not_closed (assume_line p) x y e = absurd (cc e)
line_not_closed (impI_line p i) x y e = absurd (cc e)
line_not_closed (mp_line i j) x y e = absurd (cc e)
line_not_closed (thm_line l) x y e = absurd (cc e)

pub one_lines : (m k : List LineText) (x y : List Lexeme) → lines_lexemes m (a_sign CloseBrace ∷ x) ≡ lines_lexemes k (a_sign CloseBrace ∷ y) → (m ≡ k) × (x ≡ y)
one_lines [] [] x y e = (refl, cc)
one_lines [] (l ∷ k) x y e = absurd (line_not_closed l _ _ e)
one_lines (l ∷ m) [] x y e = absurd (line_not_closed l _ _ (sym e))
one_lines (l ∷ m) (n ∷ k) x y e =
    let p = one_line l n _ _ e in
    let q = one_lines m k x y p.1 in
    let first = p.0 in let second = q.0 in
    (cc (first, second), q.1)

one_item : (s u : ItemText) (x y : List Lexeme) → item_lexemes s x ≡ item_lexemes u y → (s ≡ u) × (x ≡ y)
one_item (type_text n k) (type_text m j) x y e = (cc e, cc e)
one_item (const_text n s) (const_text m t) x y e =
    let tail : type_lexemes s (a_sign Semicolon ∷ x) ≡ type_lexemes t (a_sign Semicolon ∷ y) = cc e in
    let same : n ≡ m = cc e in
    let r = one_type s t _ _ tail in let first = r.0 in let second = r.1 in (cc (same, first), cc second)
one_item (axiom_text n p) (axiom_text m q) x y e =
    let tail : term_lexemes p (a_sign Semicolon ∷ x) ≡ term_lexemes q (a_sign Semicolon ∷ y) = cc e in
    let same : n ≡ m = cc e in
    let r = one_term p q _ _ tail in let first = r.0 in let second = r.1 in (cc (same, first), cc second)
one_item (lemma_text n p ms) (lemma_text m q ks) x y e =
    let tail : term_lexemes p (a_sign OpenBrace ∷ lines_lexemes ms (a_sign CloseBrace ∷ a_sign Semicolon ∷ x)) ≡ term_lexemes q (a_sign OpenBrace ∷ lines_lexemes ks (a_sign CloseBrace ∷ a_sign Semicolon ∷ y)) = cc e in
    let same : n ≡ m = cc e in
    let r = one_term p q _ _ tail in
    let first = r.0 in
    let inner : lines_lexemes ms (a_sign CloseBrace ∷ a_sign Semicolon ∷ x) ≡ lines_lexemes ks (a_sign CloseBrace ∷ a_sign Semicolon ∷ y) = let h = r.1 in cc h in
    let l = one_lines ms ks _ _ inner in
    let second = l.0 in let third = l.1 in
    (cc (same, first, second), cc third)
one_item (type_text n k) (const_text m t) x y e = absurd (names_differ 116 99 _ _ _ _ refl e)
one_item (type_text n k) (axiom_text m q) x y e = absurd (names_differ 116 97 _ _ _ _ refl e)
one_item (type_text n k) (lemma_text m q ks) x y e = absurd (names_differ 116 108 _ _ _ _ refl e)
one_item (const_text n s) (type_text m j) x y e = absurd (names_differ 99 116 _ _ _ _ refl e)
one_item (const_text n s) (axiom_text m q) x y e = absurd (names_differ 99 97 _ _ _ _ refl e)
one_item (const_text n s) (lemma_text m q ks) x y e = absurd (names_differ 99 108 _ _ _ _ refl e)
one_item (axiom_text n p) (type_text m j) x y e = absurd (names_differ 97 116 _ _ _ _ refl e)
one_item (axiom_text n p) (const_text m t) x y e = absurd (names_differ 97 99 _ _ _ _ refl e)
one_item (axiom_text n p) (lemma_text m q ks) x y e = absurd (names_differ 97 108 _ _ _ _ refl e)
one_item (lemma_text n p ms) (type_text m j) x y e = absurd (names_differ 108 116 _ _ _ _ refl e)
one_item (lemma_text n p ms) (const_text m t) x y e = absurd (names_differ 108 99 _ _ _ _ refl e)
one_item (lemma_text n p ms) (axiom_text m q) x y e = absurd (names_differ 108 97 _ _ _ _ refl e)

-- an item's word is not the header's
not_header : (i : ItemText) (x y : List Lexeme) → part_lexemes header x ≡ item_lexemes i y → ⊥
not_header (type_text m j) x y e = absurd (names_differ 112 116 _ _ _ _ refl e)
not_header (const_text m t) x y e = absurd (names_differ 112 99 _ _ _ _ refl e)
not_header (axiom_text m q) x y e = absurd (names_differ 112 97 _ _ _ _ refl e)
not_header (lemma_text m q ks) x y e = absurd (names_differ 112 108 _ _ _ _ refl e)

pub one_part : (s u : PartText) (x y : List Lexeme) → part_lexemes s x ≡ part_lexemes u y → (s ≡ u) × (x ≡ y)
one_part header header x y e = (refl, cc)
one_part header (item i) x y e = absurd (not_header i _ _ e)
one_part (item i) header x y e = absurd (not_header i _ _ (sym e))
one_part (item i) (item j) x y e = let r = one_item i j x y e in let first = r.0 in (cc first, r.1)

item_not_empty : (i : ItemText) (y : List Lexeme) → [] ≡ item_lexemes i y → ⊥
item_not_empty (type_text n k) y e = absurd (cc e)
item_not_empty (const_text n s) y e = absurd (cc e)
item_not_empty (axiom_text n p) y e = absurd (cc e)
item_not_empty (lemma_text n p ms) y e = absurd (cc e)

pub part_not_empty : (s : PartText) (y : List Lexeme) → [] ≡ part_lexemes s y → ⊥
part_not_empty header y e = absurd (cc e)
part_not_empty (item i) y e = item_not_empty i y e

pub one_parts : (m k : List PartText) → parts_lexemes m [] ≡ parts_lexemes k [] → m ≡ k
one_parts [] [] e = refl
one_parts [] (s ∷ k) e = absurd (part_not_empty s _ e)
one_parts (s ∷ m) [] e = absurd (part_not_empty s _ (sym e))
one_parts (s ∷ m) (u ∷ k) e =
    let p = one_part s u _ _ e in
    let rest = one_parts m k p.1 in
    let first = p.0 in
    cc (first, rest)

pub one_writing : (ws : List Lexeme) (items others : List Item) → IsPlainText ws items → IsPlainText ws others → items ≡ others
one_writing ws items others p q =
    let same : header ∷ p.0 ≡ header ∷ q.0 = one_parts (header ∷ p.0) (header ∷ q.0) (sym p.1 ∙ q.1) in
    let parts : p.0 ≡ q.0 = cc same in
    p.2 ∙ ap items_of parts ∙ sym q.2

pub one_reading : (text : List ℕ) (items others : List Item) → HasItems text items → HasItems text others → items ≡ others
one_reading text items others p q =
    one_writing q.0 items others (subst (λ (ws : List Lexeme). IsPlainText ws items) (one_lexing text p.0 q.0 p.1 q.1) p.2) q.2
