-- Lexemes from one place on: they stand in one way, one row of them behind another, and one row goes on the other.
use Rattle.std.proofs.Common.{◌≡◌, ℕ, ◌∙◌, ap, sym, refl, subst, inl, inr, List, [], ◌∷◌, ◌++◌}
use Rattle.std.specs.Prelude.{◌⊎◌}
use Rattle.lt_texts.specs.declared.lexical.Token.{Token as Placed}
use Rattle.lt_texts.specs.declared.lexical.Lexed.{Lexed}
use Rattle.lt_texts.specs.declared.lexical.Lexed.TheVariants.{Token, End, BadByte, BadChar}
use Rattle.lt_texts.specs.Tokens.{Scanned}
use Rattle.lt_texts.specs.Texts.{Left, place_of}
use Rattle.lt_texts.specs.Lexemes.{Lexeme, lexeme}
use Rattle.lt_texts.specs.Reading.{IsNextToken, Shows, Reads}
use Rattle.lt_texts.proofs.GapLemmas.{gap_exact}
use Rattle.lt_texts.proofs.Readings.{next_found, shown_lexed}

-- what is found behind the gap is one
pub one_found : (s : Left) (t u : Scanned) (n : IsNextToken s t) (m : IsNextToken s u) → n.found ≡ m.found
one_found s t u n m = sym ((gap_exact s.ahead n.found).0 n.past) ∙ (gap_exact s.ahead m.found).0 m.past

-- the token by its kind and places
abbrev placed : (s : Left) (t : Scanned) → IsNextToken s t → Placed
placed s t n = record { kind = t.kind; from = place_of s n.found; to = place_of s t.rest }

abbrev behind : Left → Scanned → Left
behind s t = record s { ahead = t.rest }

pub one_token : (s : Left) (t u : Scanned) → IsNextToken s t → IsNextToken s u → t ≡ u
one_token s t u n m =
    let a = next_found s t n in
    let b = next_found s u m in
    let tokens : Token (placed s t n) ≡ Token (placed s u m) = sym a.token ∙ b.token in
    let spellings : t.spelling ≡ u.spelling = sym a.spelling ∙ b.spelling in
    let rests : behind s t ≡ behind s u = sym a.after ∙ b.after in
    let same : placed s t n ≡ placed s u m = cc tokens in
    λ i. record { kind = (same i).kind; spelling = spellings i; rest = (rests i).ahead }

pub one_shown : (s : Left) (l k : Lexed) → Shows s l → Shows s k → l ≡ k
one_shown s l k p q = sym (shown_lexed s l p) ∙ shown_lexed s k q

-- where a token stands next, nothing else does
pub token_shown : (s : Left) (t : Scanned) (n : IsNextToken s t) → Shows s (Token (record { kind = t.kind; from = place_of s n.found; to = place_of s t.rest }))
token_shown s t n = (t, n, refl)

pub token_no_end : (s : Left) (t : Scanned) → IsNextToken s t → Shows s End → ⊥
token_no_end s t n e = let clash : Token (placed s t n) ≡ End = one_shown s (Token (placed s t n)) End (token_shown s t n) e in absurd (cc clash)

pub token_no_byte : (s : Left) (t : Scanned) (k : ℕ) → IsNextToken s t → Shows s (BadByte k) → ⊥
token_no_byte s t k n e = let clash : Token (placed s t n) ≡ BadByte k = one_shown s (Token (placed s t n)) (BadByte k) (token_shown s t n) e in absurd (cc clash)

pub token_no_char : (s : Left) (t : Scanned) (k : ℕ) → IsNextToken s t → Shows s (BadChar k) → ⊥
token_no_char s t k n e = let clash : Token (placed s t n) ≡ BadChar k = one_shown s (Token (placed s t n)) (BadChar k) (token_shown s t n) e in absurd (cc clash)

pub reads_append : (s m s' : Left) (xs ys : List Lexeme) → Reads s xs m → Reads m ys s' → Reads s (xs ++ ys) s'
reads_append s m s' [] ys e f = subst (λ (x : Left). Reads x ys s') e f
reads_append s m s' (x ∷ xs) ys (t, n, q, r) f = (t, n, q, reads_append (record s { ahead = t.rest }) m s' xs ys r f)

pub reads_split : (s s' : Left) (xs ys : List Lexeme) → Reads s (xs ++ ys) s' → (m : Left) × Reads s xs m × Reads m ys s'
reads_split s s' [] ys f = (s, refl, f)
reads_split s s' (x ∷ xs) ys (t, n, q, r) = let k = reads_split (record s { ahead = t.rest }) s' xs ys r in (k.0, (t, n, q, k.1), k.2)

-- of two rows of lexemes from one place the one goes on the other
abbrev pub GoesOn : Left → Left → List Lexeme → List Lexeme → Type 0
GoesOn a b xs ys = ((more : List Lexeme) × (ys ≡ xs ++ more) × Reads a more b) ⊎ ((w : Lexeme) × (more : List Lexeme) × (xs ≡ ys ++ w ∷ more) × Reads b (w ∷ more) a)

pub reads_compare : (s a b : Left) (xs ys : List Lexeme) → Reads s xs a → Reads s ys b → GoesOn a b xs ys
reads_compare s a b [] ys e f = inl (ys, refl, subst (λ (x : Left). Reads x ys b) (sym e) f)
reads_compare s a b (x ∷ xs) [] e f = inr (x, xs, refl, subst (λ (z : Left). Reads z (x ∷ xs) a) (sym f) e)
reads_compare s a b (x ∷ xs) (y ∷ ys) (t, n, q, r) (u, m, p, k) =
    let same = one_token s t u n m in
    let first : x ≡ y = q ∙ ap (λ (z : Scanned). lexeme z.kind z.spelling) same ∙ sym p in
    let rest : Reads (record s { ahead = t.rest }) ys b = subst (λ (z : Scanned). Reads (record s { ahead = z.rest }) ys b) (sym same) k in
    longer first (reads_compare (record s { ahead = t.rest }) a b xs ys r rest)
  where
    longer : x ≡ y → GoesOn a b xs ys → GoesOn a b (x ∷ xs) (y ∷ ys)
    longer f (inl (more, e, g)) = inl (more, (λ i. sym f i ∷ e i), g)
    longer f (inr (w, more, e, g)) = inr (w, more, (λ i. f i ∷ e i), g)
