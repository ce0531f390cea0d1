-- What stands next by the longest gap and token is what the functions that go through a text find, and each text has such lexemes.
use Rattle.std.proofs.Common.{◌≡◌, ◌↔◌, ℕ, zero, suc, ◌<◌, ◌≤◌, ◌∙◌, ap, sym, refl, subst, Bool, true, false, List, [], ◌∷◌, ◌++◌, length, arith, Option, Some, None, eq-eqb}
use Rattle.std.specs.Prelude.{◌==◌, if◌then◌else◌, IsUtf8, MatchOption}
use Rattle.std.proofs.lemmas.Str.{utf8_valid_len-IsUtf8}
use Rattle.std.proofs.lemmas.Bool.{eqb-true, ne_eqb}
use Rattle.lt_texts.specs.declared.lexical.Token.{Token as Placed}
use Rattle.lt_texts.specs.declared.lexical.Lexed.{Lexed}
use Rattle.lt_texts.specs.declared.lexical.Lexed.TheVariants.{Token, End, BadByte, BadChar}
use Rattle.lt_texts.specs.Tokens.{Scanned, token_at}
use Rattle.lt_texts.specs.Spelling.{is_spelt, NoToken, IsLongest}
use Rattle.lt_texts.specs.Gaps.{IsPast}
use Rattle.lt_texts.specs.Texts.{Left, left_of, end_of, place_of, past_gap, lexed, lexed_at, lexed_by, after, after_by, spelling, spelling_by, IsToken}
use Rattle.lt_texts.specs.Lexemes.{Lexeme, lexeme, Spans, HasLexemes}
use Rattle.lt_texts.specs.Reading.{IsNextToken, Shows, Reads, IsRead}
use Rattle.lt_texts.proofs.GapLemmas.{gap_exact}
use Rattle.lt_texts.proofs.OneReading.{one_lexing}
use Rattle.lt_texts.proofs.TokenEnds.{longest_found}
use Rattle.lt_texts.proofs.TokenTexts.{nothing_spelt, token_shortens}

-- ---- the longest token is the one that is found

-- fronts of one text with one length are one
same-front : (a b x y : List ℕ) → a ++ x ≡ b ++ y → length a ≡ length b → (a ≡ b) × (x ≡ y)
same-front [] [] x y e n = (refl, e)
same-front [] (d ∷ b) x y e n = absurd (omega (arith, n))
same-front (c ∷ a) [] x y e n = absurd (omega (arith, n))
same-front (c ∷ a) (d ∷ b) x y e n =
    let first : c ≡ d = cc e in
    let tail : a ++ x ≡ b ++ y = cc e in
    let r = same-front a b x y tail (omega (arith, n)) in
    (λ i. first i ∷ r.0 i, r.1)

one-longest : (text : List ℕ) (t u : Scanned) → IsLongest text t → IsLongest text u → u ≡ t
one-longest text t u p q =
    let n : length u.spelling ≡ length t.spelling = omega (arith, p.longest u.kind u.spelling u.rest q.front q.spelt, q.longest t.kind t.spelling t.rest p.front p.spelt) in
    let r = same-front u.spelling t.spelling u.rest t.rest (sym q.front ∙ p.front) n in
    let kind : u.kind ≡ t.kind = p.only u.kind (subst (λ (z : List ℕ). is_spelt u.kind z ≡ true) r.0 q.spelt) in
    λ i. record { kind = kind i; spelling = r.0 i; rest = r.1 i }

token-of : (text : List ℕ) (t : Scanned) → IsLongest text t → (o : Option Scanned) → MatchOption o (NoToken text) (λ u. IsLongest text u) → o ≡ Some t
token-of text t p None m = absurd (m t.kind t.spelling t.rest p.front p.spelt)
token-of text t p (Some u) m = ap (λ (x : Scanned). let o : Option Scanned = Some x in o) (one-longest text t u p m)

pub longest_token : (text : List ℕ) (t : Scanned) → IsLongest text t → token_at text ≡ Some t
longest_token text t p = token-of text t p (token_at text) (longest_found text)

none-of : (text : List ℕ) → NoToken text → (o : Option Scanned) → MatchOption o (NoToken text) (λ u. IsLongest text u) → o ≡ None
none-of text n None m = refl
none-of text n (Some u) m = absurd (n u.kind u.spelling u.rest m.front m.spelt)

-- ---- what stands next

-- what is found of a token that stands next
pub record Finds (s : Left) (t : Scanned) (cs : List ℕ) : Type 0 where
  pub token : lexed s ≡ Token (record { kind = t.kind; from = place_of s cs; to = place_of s t.rest })
  pub spelling : spelling s ≡ t.spelling
  pub after : after s ≡ record s { ahead = t.rest }

by-found : (s : Left) (cs : List ℕ) (t : Scanned) → IsLongest cs t → lexed_at s cs ≡ lexed_by s cs (Some t)
by-found s [] t p = absurd (empty t.spelling t.rest p.front p.spelt)
  where
    empty : (word rest : List ℕ) → [] ≡ word ++ rest → is_spelt t.kind word ≡ true → ⊥
    empty [] rest e h = absurd (cc (nothing_spelt t.kind, h))
    empty (c ∷ word) rest e h = absurd (cc e)
by-found s (c ∷ cs) t p = ap (lexed_by s (c ∷ cs)) (longest_token (c ∷ cs) t p)

pub next_found : (s : Left) (t : Scanned) (n : IsNextToken s t) → Finds s t n.found
next_found s t n =
    let gap : past_gap s ≡ n.found = (gap_exact s.ahead n.found).0 n.past in
    let found : token_at n.found ≡ Some t = longest_token n.found t n.longest in
    record {
      token = ap (lexed_at s) gap ∙ by-found s n.found t n.longest;
      spelling = ap (λ (cs : List ℕ). spelling_by (token_at cs)) gap ∙ ap spelling_by found;
      after = ap (λ (cs : List ℕ). after_by s (token_at cs)) gap ∙ ap (after_by s) found;
    }

-- the end, or the first byte that is no UTF-8
end-shown : (s : Left) → IsPast s.ahead [] → (y : Bool) → (end_of s == length s.source) ≡ y → Shows s (if y then End else BadByte (end_of s))
end-shown s p true e = (p, eqb-true (end_of s) (length s.source) e)
end-shown s p false e = (p, (λ q. let clash : true ≡ false = sym (eq-eqb (end_of s) (length s.source) q) ∙ e in absurd (cc clash)), refl)

token-shown : (s : Left) (c : ℕ) (cs : List ℕ) → IsPast s.ahead (c ∷ cs) → (o : Option Scanned) → MatchOption o (NoToken (c ∷ cs)) (λ u. IsLongest (c ∷ cs) u)
    → Shows s (lexed_by s (c ∷ cs) o)
token-shown s c cs p None m = (c, cs, p, m, refl)
token-shown s c cs p (Some t) m = (t, record { found = c ∷ cs; past = p; longest = m }, refl)

found-shown : (s : Left) (cs : List ℕ) → IsPast s.ahead cs → Shows s (lexed_at s cs)
found-shown s [] p = end-shown s p (end_of s == length s.source) refl
found-shown s (c ∷ cs) p = token-shown s c cs p (token_at (c ∷ cs)) (longest_found (c ∷ cs))

pub lexed_shown : (s : Left) → Shows s (lexed s)
lexed_shown s = found-shown s (past_gap s) ((gap_exact s.ahead (past_gap s)).1 refl)

pub shown_lexed : (s : Left) (l : Lexed) → Shows s l → lexed s ≡ l
shown_lexed s (Token p) (t, n, e) = (next_found s t n).token ∙ ap (λ (q : Placed). Token q) (sym e)
shown_lexed s End (p, e) =
    ap (lexed_at s) ((gap_exact s.ahead []).0 p) ∙ ap (λ (y : Bool). if y then End else BadByte (end_of s)) (eq-eqb (end_of s) (length s.source) e)
shown_lexed s (BadByte n) (p, e, q) =
    ap (lexed_at s) ((gap_exact s.ahead []).0 p) ∙ ap (λ (y : Bool). if y then End else BadByte (end_of s)) (ne_eqb (end_of s) (length s.source) e)
    ∙ ap (λ (k : ℕ). BadByte k) (sym q)
shown_lexed s (BadChar n) (c, cs, p, k, q) =
    ap (lexed_at s) ((gap_exact s.ahead (c ∷ cs)).0 p) ∙ ap (lexed_by s (c ∷ cs)) (none-of (c ∷ cs) k (token_at (c ∷ cs)) (longest_found (c ∷ cs)))
    ∙ ap (λ (k : ℕ). BadChar k) (sym q)

-- ---- lexemes

pub reads_spans : (s : Left) (ws : List Lexeme) (s' : Left) → Reads s ws s' → Spans s ws s'
reads_spans s [] s' e = e
reads_spans s (w ∷ ws) s' (t, n, q, r) =
    let f = next_found s t n in (
      record { placed = _; found = f.token; same = q ∙ ap (lexeme t.kind) (sym f.spelling) },
      subst (λ (x : Left). Spans x ws s') (sym f.after) (reads_spans (record s { ahead = t.rest }) ws s' r),
    )

-- the token that is found stands next
token-next : (s : Left) (p : Placed) → lexed s ≡ Token p → (t : Scanned) × (n : IsNextToken s t) × (p ≡ record { kind = t.kind; from = place_of s n.found; to = place_of s t.rest })
token-next s p e = subst (Shows s) e (lexed_shown s)

pub spans_reads : (s : Left) (ws : List Lexeme) (s' : Left) → Spans s ws s' → Reads s ws s'
spans_reads s [] s' e = e
spans_reads s (w ∷ ws) s' (p, r) =
    let k = token-next s p.placed p.found in
    let f = next_found s k.0 k.1 in
    let kinds : p.placed.kind ≡ k.0.kind = ap (λ (q : Placed). q.kind) k.2 in
    (k.0, k.1, p.same ∙ (λ i. lexeme (kinds i) (f.spelling i)), spans_reads (record s { ahead = k.0.rest }) ws s' (subst (λ (x : Left). Spans x ws s') f.after r))

pub read_lexemes : (text : List ℕ) (ws : List Lexeme) → IsRead text ws → HasLexemes text ws
read_lexemes text ws (s, r, e) = (s, reads_spans (left_of text) ws s r, shown_lexed s End e)

pub lexemes_read : (text : List ℕ) (ws : List Lexeme) → HasLexemes text ws → IsRead text ws
lexemes_read text ws (s, r, e) = (s, spans_reads (left_of text) ws s r, subst (Shows s) e (lexed_shown s))

-- ---- each text has lexemes up to where none stands

-- lexemes as far as there are some, and what stands behind them
abbrev pub ReadsOut : Left → Type 0
ReadsOut s = (ws : List Lexeme) × (s' : Left) × Reads s ws s' × (l : Lexed) × Shows s' l × (IsToken l → ⊥)

out-by : (n : ℕ) (s : Left) (l : Lexed) → lexed s ≡ l → length s.ahead ≤ n → ((r : Left) → length r.ahead < length s.ahead → ReadsOut r) → ReadsOut s
out-by n s (Token p) e h later =
    let k = token-next s p e in
    let f = next_found s k.0 k.1 in
    let shorter : length (after s).ahead < length s.ahead = token_shortens s (subst IsToken (sym e) tt) in
    let rest : Left = record s { ahead = k.0.rest } in
    let r = later rest (subst (λ (x : Left). length x.ahead < length s.ahead) f.after shorter) in
    (lexeme k.0.kind k.0.spelling ∷ r.0, r.1, (k.0, k.1, refl, r.2), r.3, r.4, r.5)
out-by n s End e h later = ([], s, refl, End, subst (Shows s) e (lexed_shown s), λ t. t)
out-by n s (BadByte k) e h later = ([], s, refl, BadByte k, subst (Shows s) e (lexed_shown s), λ t. t)
out-by n s (BadChar k) e h later = ([], s, refl, BadChar k, subst (Shows s) e (lexed_shown s), λ t. t)

out : (n : ℕ) (s : Left) → length s.ahead < n → ReadsOut s
out zero s h = absurd (omega (arith, h))
out (suc n) s h = out-by n s (lexed s) refl (omega (arith, h)) (λ r k. out n r (omega (arith, h, k)))

pub reads_out : (s : Left) → ReadsOut s
reads_out s = out (suc (length s.ahead)) s (omega arith)

pub reads_source : (s : Left) (ws : List Lexeme) (s' : Left) → Reads s ws s' → s'.source ≡ s.source
reads_source s [] s' e = ap (λ (x : Left). x.source) e
reads_source s (w ∷ ws) s' (t, n, q, r) = reads_source (record s { ahead = t.rest }) ws s' r

pub no_bad_byte : (text : List ℕ) (ws : List Lexeme) (s : Left) (n : ℕ) → IsUtf8 text → Reads (left_of text) ws s → Shows s (BadByte n) → ⊥
no_bad_byte text ws s n u r (p, e, q) =
    let source : s.source ≡ text = reads_source (left_of text) ws s r in
    e (subst (λ (x : List ℕ). end_of (record s { source = x }) ≡ length x) (sym source) (utf8_valid_len-IsUtf8 text u))

-- ---- the laws

pub next_is_found : (s : Left) (l : Lexed) → Shows s l ↔ (lexed s ≡ l)
next_is_found s l = (shown_lexed s l, λ e. subst (Shows s) e (lexed_shown s))

pub lexemes_are_found : (s : Left) (ws : List Lexeme) (s' : Left) → Reads s ws s' ↔ Spans s ws s'
lexemes_are_found s ws s' = (reads_spans s ws s', spans_reads s ws s')

pub texts_are_found : (text : List ℕ) (ws : List Lexeme) → IsRead text ws ↔ HasLexemes text ws
texts_are_found text ws = (read_lexemes text ws, lexemes_read text ws)

pub read_once : (text : List ℕ) (ws vs : List Lexeme) → IsRead text ws → IsRead text vs → ws ≡ vs
read_once text ws vs p q = one_lexing text ws vs (read_lexemes text ws p) (read_lexemes text vs q)
