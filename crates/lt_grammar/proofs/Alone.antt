-- A type alone and a term alone: at each place one of an answer and a fault, in one way. And a header.
use Rattle.std.proofs.Common.{◌≡◌, ℕ, ◌∙◌, ap, sym, refl, subst, inl, inr, true, false, List, [], ◌∷◌, ◌++◌, append_assoc}
use Rattle.std.specs.Prelude.{◌⊎◌, Some}
use Rattle.lt_definitions.specs.Types.{Chars, TypeTree, type_variable}
use Rattle.lt_definitions.specs.Terms.{TermTree}
use Rattle.lt_texts.specs.declared.lexical.TokenKind.{TokenKind}
use Rattle.lt_texts.specs.declared.lexical.TokenKind.TheVariants as kinds
use Rattle.lt_texts.specs.declared.lexical.TokenKind.TheVariants.{OpenSquare, CloseSquare}
use Rattle.lt_texts.specs.Tokens.{Scanned}
use Rattle.lt_texts.specs.Spelling.{is_spelt}
use Rattle.lt_texts.specs.Texts.{Left}
use Rattle.lt_texts.specs.Lexemes.{Lexeme, a_name, a_variable, a_number, a_sign, lexeme}
use Rattle.lt_texts.specs.Reading.{IsNextToken, Reads}
use Rattle.lt_texts.specs.Writing.{type_lexemes, TermText, word, bound, free, lambda, applied, term_lexemes, term_of_text}
use Rattle.lt_texts.specs.Pieces.{AreWritten}
use Rattle.lt_texts.specs.Forms.{Form, without_header, header_again, header_text}
use Rattle.lt_texts.specs.WrongPlaces.{Wrong, bad_header, bad_syntax, Language, IsWhole, IsViable, IsFront, IsWrong, Stands, HeaderFailsAt, BeginsWithType, BeginsWithTerm, EndsThere, EndsAt, IsTypeAt, IsTermAt, TypeFailsAt, TermFailsAt}
use Rattle.lt_texts.proofs.ReadingOrder.{one_token, GoesOn, reads_compare}
use Rattle.lt_grammar.proofs.OneWay.{one_type, one_term_there}
use Rattle.lt_grammar.proofs.Splits.{type_splits, term_splits}
use Rattle.lt_grammar.proofs.Sentences.{sentence_goes_on}
use Rattle.lt_grammar.proofs.FirstWrong.{one-row, no-whole, stop-behind, same-wrong}
use Rattle.lt_grammar.proofs.Expected.{a_type, a_term, Spelt}
use Rattle.lt_grammar.proofs.Standing.{Standing, standing, wrong_there}

-- ---- one of the two stands

abbrev pub TypeOr : Left → Type 0
TypeOr s = ((ty : TypeTree) × (s' : Left) × IsTypeAt s ty s') ⊎ ((e : Wrong) × TypeFailsAt s e)

pub type_or_fault : (s : Left) → TypeOr s
type_or_fault s = by (standing (a_type ∷ []) s)
  where
    by : Standing (a_type ∷ []) s → TypeOr s
    by (inl (ws, s', r, (mid, (t, e), q), _)) = inl (t, s', subst (λ (z : List Lexeme). Reads s z s') (e ∙ ap (type_lexemes t) q) r)
    by (inr (ws, at, r, (v, more, (mid, (t, e), q)), o, b)) =
        let wrong = wrong_there BeginsWithType bad_syntax ws (a_type ∷ []) ws at (λ us g. (g.1, (g.1, (g.0, g.2), refl))) o b in
        inr (wrong.0, (ws, at, r, (v ∷ more, (t, mid, e)), (λ g. o g.1 (g.1, (g.0, g.2), refl)), wrong.1))

abbrev pub TermOr : Left → Type 0
TermOr s = ((t : TermTree) × (s' : Left) × IsTermAt s t s') ⊎ ((e : Wrong) × TermFailsAt s e)

-- nothing goes on what is written whole
abbrev Ends : List Lexeme → Left → Type 0
Ends ws s = (u : Scanned) → IsNextToken s u → (us rest : List Lexeme) → Spelt (a_term ∷ []) (ws ++ lexeme u.kind u.spelling ∷ us) rest → lexeme u.kind u.spelling ∷ us ≡ rest

square-next : (c : Chars) (w : Lexeme) → w ≡ a_sign OpenSquare → Spelt (a_term ∷ []) (a_name c ∷ w ∷ a_variable [] ∷ a_sign CloseSquare ∷ []) []
square-next c w e = ([], (word c (type_variable [] ∷ []), (λ i. a_name c ∷ e i ∷ a_variable [] ∷ a_sign CloseSquare ∷ []), tt), refl)

whole-ends : (x : TermText) (ws : List Lexeme) (s : Left) → ws ≡ term_lexemes x [] → Ends ws s → EndsAt x s
whole-ends (word c []) ws s e k = λ t n q.
    let is : lexeme t.kind t.spelling ≡ a_sign OpenSquare = ap (λ (z : TokenKind). lexeme z t.spelling) q in
    let more : List Lexeme = a_variable [] ∷ a_sign CloseSquare ∷ [] in
    let clash : lexeme t.kind t.spelling ∷ more ≡ [] = k t n more []
    (subst (λ (z : List Lexeme). Spelt (a_term ∷ []) (z ++ lexeme t.kind t.spelling ∷ more) []) (sym e) (square-next c (lexeme t.kind t.spelling) is)) in
    absurd (cc clash)
whole-ends (word c (t ∷ ts)) ws s e k = tt
whole-ends (bound x) ws s e k = tt
whole-ends (free x ty) ws s e k = tt
whole-ends (lambda x ty b) ws s e k = tt
whole-ends (applied f a more) ws s e k = tt

pub term_or_fault : (s : Left) → TermOr s
term_or_fault s = by (standing (a_term ∷ []) s)
  where
    by : Standing (a_term ∷ []) s → TermOr s
    by (inl (ws, s', r, (mid, (x, e, n), q), k)) =
        let text : ws ≡ term_lexemes x [] = e ∙ ap (term_lexemes x) q in
        inl (term_of_text x, s', (x, refl, subst (λ (z : List Lexeme). Reads s z s') text r, whole-ends x ws s' text k))
    by (inr (ws, at, r, (v, more, (mid, (x, e, n), q)), o, b)) =
        let wrong = wrong_there BeginsWithTerm bad_syntax ws (a_term ∷ []) ws at (λ us g. (g.1, (g.1, (g.0, g.2, g.3), refl))) o b in
        inr (wrong.0, (ws, at, r, (v ∷ more, (x, mid, e, n)), (λ g. o g.1 (g.1, (g.0, g.2, g.3), refl)), wrong.1))

-- ---- and in one way

-- one thing is wrong behind lexemes that begin something of a language
abbrev Failing : Language → (ℕ → Wrong) → Left → Wrong → Type 0
Failing L call s e = (ws : List Lexeme) × (at : Left) × Reads s ws at × IsViable L ws × IsWrong L call ws at e

viable-longer : (L : Language) (ws vs : List Lexeme) (v : Lexeme) (more : List Lexeme) → vs ≡ ws ++ v ∷ more → IsViable L vs → IsViable L (ws ++ v ∷ [])
viable-longer L ws vs v more e (us, l) =
    (more ++ us, subst L (ap (λ (z : List Lexeme). z ++ us) (e ∙ sym (append_assoc ws (v ∷ []) more)) ∙ append_assoc (ws ++ v ∷ []) more us) l)

one-failing : (L : Language) (call : ℕ → Wrong) (s : Left) (e d : Wrong) → Failing L call s e → Failing L call s d → e ≡ d
one-failing L call s e d (ws, at, r, viable, wrong) (vs, to, q, other, refused) = by (reads_compare s at to ws vs r q)
  where
    by : GoesOn at to ws vs → e ≡ d
    by (inl ([], p, g)) = same-wrong L L call call ws vs at e d refl wrong (subst (λ (z : Left). IsWrong L call vs z d) g refused)
    by (inl (v ∷ more, p, g)) = absurd (stop-behind L call ws at to e v more wrong g (viable-longer L ws vs v more p other))
    by (inr (v, more, p, g)) = absurd (stop-behind L call vs to at d v more refused g (viable-longer L vs ws v more p viable))

-- lexemes from one place end at one place
pub one_end : (s a b : Left) (ws : List Lexeme) → Reads s ws a → Reads s ws b → a ≡ b
one_end s a b [] e f = e ∙ sym f
one_end s a b (w ∷ ws) (t, n, q, r) (u, m, p, k) =
    one_end (record s { ahead = t.rest }) a b ws r (subst (λ (z : Scanned). Reads (record s { ahead = z.rest }) ws b) (sym (one_token s t u n m)) k)

-- what is behind something whole is nothing where it ends too
pub ended : (a b : Left) (more : List Lexeme) → more ≡ [] → Reads a more b → a ≡ b
ended a b more e r = sym (subst (λ (z : List Lexeme). Reads a z b) e r)

pub one_type_at : (s : Left) (t u : TypeTree) (a b : Left) → IsTypeAt s t a → IsTypeAt s u b → (t ≡ u) × (a ≡ b)
one_type_at s t u a b h k = by (reads_compare s a b (type_lexemes t []) (type_lexemes u []) h k)
  where
    by : GoesOn a b (type_lexemes t []) (type_lexemes u []) → (t ≡ u) × (a ≡ b)
    by (inl (more, e, g)) =
        let r = one_type t u more [] (type_splits t [] more ∙ sym e) in
        (r.0, ended a b more r.1 g)
    by (inr (w, more, e, g)) =
        let r = one_type u t (w ∷ more) [] (type_splits u [] (w ∷ more) ∙ sym e) in
        let clash = r.1 in
        absurd (cc clash)

pub type_no_fault : (s : Left) (t : TypeTree) (s' : Left) (e : Wrong) → IsTypeAt s t s' → TypeFailsAt s e → ⊥
type_no_fault s t s' e h (ws, at, r, viable, o, wrong) = by (reads_compare s s' at (type_lexemes t []) ws h r)
  where
    by : GoesOn s' at (type_lexemes t []) ws → ⊥
    by (inl (more, q, g)) = o (t, more, q ∙ sym (type_splits t [] more))
    by (inr (w, more, q, g)) =
        stop-behind BeginsWithType bad_syntax ws at s' e w more wrong g (more, (t, [], append_assoc ws (w ∷ []) more ∙ sym q))

pub one_type_fault : (s : Left) (e d : Wrong) → TypeFailsAt s e → TypeFailsAt s d → e ≡ d
one_type_fault s e d (ws, at, r, v, o, w) (us, to, q, u, n, x) = one-failing BeginsWithType bad_syntax s e d (ws, at, r, v, w) (us, to, q, u, x)

-- a sign of this kind is that token
is-square : (k : TokenKind) (cs : List ℕ) → a_sign OpenSquare ≡ lexeme k cs → k ≡ OpenSquare
is-square kinds.Name cs e = absurd (cc e)
is-square kinds.TypeVariable cs e = absurd (cc e)
is-square kinds.Number cs e = absurd (cc e)
is-square OpenSquare cs e = refl
is-square k cs e = let same : OpenSquare ≡ k = cc e in sym same

-- what is read behind a term doesn't go on it
behind-there : (x : TermText) (s at : Left) (more : List Lexeme) → EndsAt x s → Reads s more at → EndsThere x more
behind-there (word c []) s at [] n r = tt
behind-there (word c []) s at (a_sign OpenSquare ∷ more) n (t, m, q, r) = n t m (is-square t.kind t.spelling q)
behind-there (word c []) s at (w ∷ more) n r = tt
behind-there (word c (t ∷ ts)) s at more n r = tt
behind-there (bound x) s at more n r = tt
behind-there (free x ty) s at more n r = tt
behind-there (lambda x ty b) s at more n r = tt
behind-there (applied f a later) s at more n r = tt

nothing-there : (x : TermText) → EndsThere x []
nothing-there (word c []) = tt
nothing-there (word c (t ∷ ts)) = tt
nothing-there (bound x) = tt
nothing-there (free x ty) = tt
nothing-there (lambda x ty b) = tt
nothing-there (applied f a later) = tt

pub one_term_at : (s : Left) (t u : TermTree) (a b : Left) → IsTermAt s t a → IsTermAt s u b → (t ≡ u) × (a ≡ b)
one_term_at s t u a b (x, p, h, n) (y, q, k, m) = by (reads_compare s a b (term_lexemes x []) (term_lexemes y []) h k)
  where
    by : GoesOn a b (term_lexemes x []) (term_lexemes y []) → (t ≡ u) × (a ≡ b)
    by (inl (more, e, g)) =
        let r = one_term_there x y more [] (behind-there x a b more n g) (nothing-there y) (term_splits x [] more ∙ sym e) in
        (sym p ∙ ap term_of_text r.0 ∙ q, ended a b more r.1 g)
    by (inr (w, more, e, g)) =
        let r = one_term_there y x (w ∷ more) [] (behind-there y b a (w ∷ more) m g) (nothing-there x) (term_splits y [] (w ∷ more) ∙ sym e) in
        let clash = r.1 in
        absurd (cc clash)

pub term_no_fault : (s : Left) (t : TermTree) (s' : Left) (e : Wrong) → IsTermAt s t s' → TermFailsAt s e → ⊥
term_no_fault s t s' e (x, p, h, n) (ws, at, r, viable, o, wrong) = by (reads_compare s s' at (term_lexemes x []) ws h r)
  where
    by : GoesOn s' at (term_lexemes x []) ws → ⊥
    by (inl (more, q, g)) = o (x, more, q ∙ sym (term_splits x [] more), behind-there x s' at more n g)
    by (inr (w, more, q, g)) =
        stop-behind BeginsWithTerm bad_syntax ws at s' e w more wrong g (more, (x, [], append_assoc ws (w ∷ []) more ∙ sym q, nothing-there x))

pub one_term_fault : (s : Left) (e d : Wrong) → TermFailsAt s e → TermFailsAt s d → e ≡ d
one_term_fault s e d (ws, at, r, v, o, w) (us, to, q, u, n, x) = one-failing BeginsWithTerm bad_syntax s e d (ws, at, r, v, w) (us, to, q, u, x)

-- ---- a header

-- its lexemes
header-lexemes : (f : Form) (ws : List Lexeme) → AreWritten (header_text f) ws [] → (vs : List Lexeme) → AreWritten (header_text f) vs [] → ws ≡ vs
header-lexemes f ws (a, p, (b, q, (c, r, e))) vs (x, l, (y, m, (z, n, d))) =
    (p ∙ ap (λ (v : List Lexeme). a_name f.word ∷ v) (q ∙ ap (λ (v : List Lexeme). a_number (Some f.number) ∷ v) (r ∙ ap (λ (v : List Lexeme). a_sign kinds.Semicolon ∷ v) e)))
    ∙ sym (l ∙ ap (λ (v : List Lexeme). a_name f.word ∷ v) (m ∙ ap (λ (v : List Lexeme). a_number (Some f.number) ∷ v) (n ∙ ap (λ (v : List Lexeme). a_sign kinds.Semicolon ∷ v) d)))

pub one_header : (f : Form) (s a b : Left) → Stands s (header_text f) a → Stands s (header_text f) b → a ≡ b
one_header f s a b (ws, h, r) (vs, k, q) = one_end s a b ws r (subst (λ (z : List Lexeme). Reads s z b) (header-lexemes f vs k ws h) q)

front-viable : (f : Form) (ws : List Lexeme) → IsFront (header_text f) ws → IsViable (IsWhole f) ws
front-viable f ws (w, more, h) = (w ∷ more, ([], tt, one-row f header_again (ws ++ w ∷ more) [] h))

pub header_no_fault : (f : Form) (s a : Left) (e : Wrong) → Stands s (header_text f) a → HeaderFailsAt f s e → ⊥
header_no_fault f s a e (hs, g, q) (ws, front, at, r, wrong) = by (reads_compare s a at hs ws q r)
  where
    by : GoesOn a at hs ws → ⊥
    by (inl (more, p, k)) =
        no-whole f header_again header_again ws more tt tt front
        (subst (λ (z : List Lexeme). AreWritten (header_text f) z more) (sym p) (sentence_goes_on f header_again hs [] more g))
    by (inr (v, more, p, k)) =
        stop-behind (IsWhole f) bad_header ws at a e v more wrong k
        (more, ([], tt, one-row f header_again ((ws ++ v ∷ []) ++ more) [] (subst (λ (z : List Lexeme). AreWritten (header_text f) z []) (p ∙ sym (append_assoc ws (v ∷ []) more)) g)))

pub one_header_fault : (f : Form) (s : Left) (e d : Wrong) → HeaderFailsAt f s e → HeaderFailsAt f s d → e ≡ d
one_header_fault f s e d (ws, p, at, r, w) (us, q, to, k, x) =
    one-failing (IsWhole f) bad_header s e d (ws, at, r, front-viable f ws p, w) (us, to, k, front-viable f us q, x)

-- where no header was read, its word would be empty, which no token is
no-empty : (k : TokenKind) (cs : List ℕ) → a_name [] ≡ lexeme k cs → is_spelt k cs ≡ true → ⊥
no-empty kinds.Name cs e h =
    let same : [] ≡ cs = cc e in
    let clash : false ≡ true = ap (is_spelt kinds.Name) same ∙ h in
    absurd (cc clash)
no-empty k cs e h = absurd (cc e)

pub no_header_stands : (words : List Chars) (s a : Left) → Stands s (header_text (without_header words)) a → ⊥
no_header_stands words s a (ws, (mid, e, h), r) =
    let read : Reads s (a_name [] ∷ mid) a = subst (λ (z : List Lexeme). Reads s z a) e r in
    let t = read.0 in let n = read.1 in
    no-empty t.kind t.spelling read.2 n.longest.spelt
