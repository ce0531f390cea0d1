-- From each place on stands what is expected there, or lexemes with which it begins and something wrong behind them.
use Rattle.std.proofs.Common.{◌≡◌, ℕ, zero, suc, ◌<◌, ◌∙◌, ap, sym, refl, subst, inl, inr, List, [], ◌∷◌, ◌++◌, length, arith, append_assoc, append-nil}
use Rattle.std.specs.Prelude.{◌⊎◌}
use Rattle.lt_definitions.specs.Types.{Chars}
use Rattle.lt_texts.specs.declared.lexical.Lexed.{Lexed}
use Rattle.lt_texts.specs.declared.lexical.Lexed.TheVariants.{Token, End, BadByte, BadChar}
use Rattle.lt_texts.specs.declared.lexical.TokenKind.TheVariants.{OpenSquare}
use Rattle.lt_texts.specs.Tokens.{Scanned}
use Rattle.lt_texts.specs.Texts.{Left, lexed, after, place_of, IsToken}
use Rattle.lt_texts.specs.Lexemes.{Lexeme, a_sign, lexeme}
use Rattle.lt_texts.specs.Reading.{IsNextToken, Shows, Reads}
use Rattle.lt_texts.specs.Writing.{type_lexemes, word}
use Rattle.lt_texts.specs.WrongPlaces.{Wrong, bad_byte, bad_char, Language, IsWrong, EndsThere}
use Rattle.lt_texts.proofs.ReadingOrder.{one_token, token_no_end, token_no_byte, token_no_char}
use Rattle.lt_texts.proofs.Readings.{next_found, lexed_shown}
use Rattle.lt_texts.proofs.TokenTexts.{token_shortens}
use Rattle.lt_grammar.proofs.Expected.{Expected, a_type, types_to_square, brackets, Spelt, join_spelt, split_spelt, IsFull, Meets}
use Rattle.lt_grammar.proofs.RowsExpected.{meets, full, some}

-- ---- what a lexeme makes of all that is expected

-- something is written of it, and there is more to come
abbrev pub IsOpen : List Expected → Type 0
IsOpen st = (rest : List Lexeme) → Spelt st [] rest → ⊥

-- what is expected behind the lexeme, both ways
abbrev pub GoesOn : List Expected → Lexeme → Type 0
GoesOn st w = (tu : List Expected) × ((us rest : List Lexeme) → Spelt st (w ∷ us) rest → Spelt tu us rest)
    × ((us rest : List Lexeme) → Spelt tu us rest → Spelt st (w ∷ us) rest)

-- nothing of it goes on with the lexeme
abbrev pub StopsBefore : List Expected → Lexeme → Type 0
StopsBefore st w = IsOpen st × ((us rest : List Lexeme) → Spelt st (w ∷ us) rest → ⊥)

-- all of it may have been written before the lexeme, and what goes on with it has been
abbrev pub EndsBefore : List Expected → Lexeme → Type 0
EndsBefore st w = Spelt st [] [] × ((us rest : List Lexeme) → Spelt st (w ∷ us) rest → w ∷ us ≡ rest)

abbrev pub Takes : List Expected → Lexeme → Type 0
Takes st w = GoesOn st w ⊎ StopsBefore st w ⊎ EndsBefore st w

-- no arguments of a constant begin with it
abbrev NoSquare : Lexeme → Type 0
NoSquare (a_sign OpenSquare) = ⊥
NoSquare w = Unit {0}

clear-of : (c : Chars) (w : Lexeme) (us : List Lexeme) → NoSquare w → EndsThere (word c []) (w ∷ us)
clear-of c (a_sign OpenSquare) us n = absurd n
clear-of c w us n = tt

-- behind a constant that has no arguments
passed : (c : Chars) (st : List Expected) (w : Lexeme) → NoSquare w → (us rest : List Lexeme) → Spelt (brackets c ∷ st) (w ∷ us) rest → Spelt st (w ∷ us) rest
passed c st w n us rest (mid, ([], e, m), l) = subst (λ (z : List Lexeme). Spelt st z rest) (sym e) l
passed c st w n us rest (mid, (t ∷ ts, e, m), l) = let same : a_sign OpenSquare ≡ w = let f = sym e in cc f in absurd (subst NoSquare (sym same) n)

nothing-passed : (c : Chars) (st : List Expected) (rest : List Lexeme) → Spelt (brackets c ∷ st) [] rest → Spelt st [] rest
nothing-passed c st rest (mid, ([], e, m), l) = subst (λ (z : List Lexeme). Spelt st z rest) (sym e) l
nothing-passed c st rest (mid, (t ∷ ts, e, m), l) = absurd (cc e)

pass-by : (c : Chars) (st : List Expected) (w : Lexeme) → NoSquare w → Takes st w → Takes (brackets c ∷ st) w
pass-by c st w n (inl (tu, f, g)) =
    inl (tu, (λ us rest h. f us rest (passed c st w n us rest h)), λ us rest h. (w ∷ us, ([], refl, clear-of c w us n), g us rest h))
pass-by c st w n (inr (inl (o, f))) =
    inr (inl ((λ rest h. o rest (nothing-passed c st rest h)), λ us rest h. f us rest (passed c st w n us rest h)))
pass-by c st w n (inr (inr (e, f))) = inr (inr (([], ([], refl, tt), e), λ us rest h. f us rest (passed c st w n us rest h)))

-- the arguments of a constant
square-more : (c : Chars) (st : List Expected) (us rest : List Lexeme) → Spelt (brackets c ∷ st) (a_sign OpenSquare ∷ us) rest → Spelt (a_type ∷ types_to_square ∷ st) us rest
square-more c st us rest (mid, ([], e, m), l) = absurd (subst (EndsThere (word c [])) (sym e) m)
square-more c st us rest (mid, (t ∷ ts, e, m), l) = (_, (t, cc e), (mid, (ts, refl), l))

more-square : (c : Chars) (st : List Expected) (us rest : List Lexeme) → Spelt (a_type ∷ types_to_square ∷ st) us rest → Spelt (brackets c ∷ st) (a_sign OpenSquare ∷ us) rest
more-square c st us rest (x, (t, p), (y, (ts, q), l)) =
    (y, (t ∷ ts, ap (λ (z : List Lexeme). a_sign OpenSquare ∷ z) (p ∙ ap (type_lexemes t) q), tt), l)

meet-by : (x : Expected) (st : List Expected) (w : Lexeme) → IsFull x → Meets x w → Takes (x ∷ st) w
meet-by x st w n (inl (tu, f, g)) = inl (
  tu ++ st,
  λ us rest h. join_spelt tu st us h.0 rest (f us h.0 h.1) h.2,
  λ us rest h. let k = split_spelt tu st us rest h in (k.0, g us k.0 k.1, k.2),
)
meet-by x st w n (inr f) = inr (inl ((λ rest h. full x n h.0 h.1), λ us rest h. f us h.0 h.1))

takes-square : (c : Chars) (st : List Expected) (w : Lexeme) → Takes st w → Takes (brackets c ∷ st) w
takes-square c st (a_sign OpenSquare) k = inl (a_type ∷ types_to_square ∷ st, square-more c st, more-square c st)
takes-square c st w k = pass-by c st w tt k

pub takes : (st : List Expected) (w : Lexeme) → Takes st w
takes [] w = inr (inr (refl, λ us rest h. h))
takes (brackets c ∷ st) w = takes-square c st w (takes st w)
takes (x ∷ st) w = meet-by x st w tt (meets x tt w)

-- at the end of what is read, all has been written or there is more to come
pub ends_or_open : (st : List Expected) → Spelt st [] [] ⊎ IsOpen st
ends_or_open [] = inl refl
ends_or_open (brackets c ∷ st) = by (ends_or_open st)
  where
    by : Spelt st [] [] ⊎ IsOpen st → Spelt (brackets c ∷ st) [] [] ⊎ IsOpen (brackets c ∷ st)
    by (inl e) = inl ([], ([], refl, tt), e)
    by (inr o) = inr (λ rest h. o rest (nothing-passed c st rest h))
ends_or_open (x ∷ st) = inr (λ rest h. full x tt h.0 h.1)

-- what is expected can be met
some-all : (st : List Expected) → (us : List Lexeme) × Spelt st us []
some-all [] = ([], refl)
some-all (x ∷ st) = let r = some-all st in let k = some x r.0 in (k.0 ∷ k.1, (r.0, k.2, r.1))

open-some : (st : List Expected) → IsOpen st → (w : Lexeme) × (us : List Lexeme) × Spelt st (w ∷ us) []
open-some [] o = absurd (o [] refl)
open-some (x ∷ st) o = let r = some-all st in let k = some x r.0 in (k.0, k.1, (r.0, k.2, r.1))

-- ---- what stands from a place on

-- it stands there whole, and the token behind it doesn't go on it
abbrev pub StandsWhole : List Expected → Left → Type 0
StandsWhole st s = (ws : List Lexeme) × (s' : Left) × Reads s ws s' × Spelt st ws []
    × ((u : Scanned) → IsNextToken s' u → (us rest : List Lexeme) → Spelt st (ws ++ lexeme u.kind u.spelling ∷ us) rest → lexeme u.kind u.spelling ∷ us ≡ rest)

-- what is next is wrong behind these lexemes
abbrev pub IsBad : List Expected → List Lexeme → Left → Type 0
IsBad st ws s = ((n : ℕ) × Shows s (BadByte n)) ⊎ ((n : ℕ) × Shows s (BadChar n))
    ⊎ ((u : Scanned) × IsNextToken s u × ((us rest : List Lexeme) → Spelt st (ws ++ lexeme u.kind u.spelling ∷ us) rest → ⊥))
    ⊎ Shows s End

-- its first lexemes stand there, more is to come, and what is next is wrong
abbrev pub StandsInPart : List Expected → Left → Type 0
StandsInPart st s = (ws : List Lexeme) × (at : Left) × Reads s ws at
    × ((w : Lexeme) × (more : List Lexeme) × Spelt st (ws ++ w ∷ more) [])
    × ((rest : List Lexeme) → Spelt st ws rest → ⊥) × IsBad st ws at

abbrev pub Standing : List Expected → Left → Type 0
Standing st s = StandsWhole st s ⊎ StandsInPart st s

-- behind one lexeme more
bad-behind : (st tu : List Expected) (w : Lexeme) (ws : List Lexeme) (at : Left) → ((us rest : List Lexeme) → Spelt st (w ∷ us) rest → Spelt tu us rest) → IsBad tu ws at → IsBad st (w ∷ ws) at
bad-behind st tu w ws at f (inl h) = inl h
bad-behind st tu w ws at f (inr (inl h)) = inr (inl h)
bad-behind st tu w ws at f (inr (inr (inl (u, n, k)))) = inr (inr (inl (u, n, λ us rest h. k us rest (f (ws ++ lexeme u.kind u.spelling ∷ us) rest h))))
bad-behind st tu w ws at f (inr (inr (inr h))) = inr (inr (inr h))

token-first : (st : List Expected) (s : Left) (t : Scanned) → IsNextToken s t → GoesOn st (lexeme t.kind t.spelling)
    → ((tu : List Expected) → Standing tu (record s { ahead = t.rest })) → Standing st s
token-first st s t n (tu, f, g) later = by (later tu)
  where
    w : Lexeme
    w = lexeme t.kind t.spelling

    by : Standing tu (record s { ahead = t.rest }) → Standing st s
    by (inl (ws, s', r, l, k)) =
        inl (w ∷ ws, s', (t, n, refl, r), g ws [] l, λ u m us rest h. k u m us rest (f (ws ++ lexeme u.kind u.spelling ∷ us) rest h))
    by (inr (ws, at, r, (v, more, l), o, b)) =
        inr (w ∷ ws, at, (t, n, refl, r), (v, more, g (ws ++ v ∷ more) [] l), (λ rest h. o rest (f ws rest h)), bad-behind st tu w ws at f b)

-- the token stands next
token-by : (st : List Expected) (s : Left) (t : Scanned) → IsNextToken s t → Takes st (lexeme t.kind t.spelling)
    → ((tu : List Expected) → Standing tu (record s { ahead = t.rest })) → Standing st s
token-by st s t n (inl k) later = token-first st s t n k later
token-by st s t n (inr (inl (o, f))) later = inr ([], s, refl, open-some st o, o, inr (inr (inl (t, n, f))))
token-by st s t n (inr (inr (e, f))) later = inl ([], s, refl, e, λ u m us rest h. by (one_token s t u n m) us rest h)
  where
    by : {u : Scanned} → t ≡ u → (us rest : List Lexeme) → Spelt st (lexeme u.kind u.spelling ∷ us) rest → lexeme u.kind u.spelling ∷ us ≡ rest
    by q us rest h = subst (λ (x : Scanned). Spelt st (lexeme x.kind x.spelling ∷ us) rest → lexeme x.kind x.spelling ∷ us ≡ rest) q (f us rest) h

-- no token stands next
none-by : (st : List Expected) (s : Left) → ((u : Scanned) → IsNextToken s u → ⊥) → IsBad st [] s → Spelt st [] [] ⊎ IsOpen st → Standing st s
none-by st s n b (inl e) = inl ([], s, refl, e, λ u m us rest h. absurd (n u m))
none-by st s n b (inr o) = inr ([], s, refl, open-some st o, o, b)

standing-by : (n : ℕ) (st : List Expected) (s : Left) (l : Lexed) → lexed s ≡ l → Shows s l
    → ((tu : List Expected) (r : Left) → length r.ahead < length s.ahead → Standing tu r) → Standing st s
standing-by n st s (Token p) e (t, m, _) later =
    let f = next_found s t m in
    let shorter : length (after s).ahead < length s.ahead = token_shortens s (subst IsToken (sym e) tt) in
    token-by st s t m (takes st (lexeme t.kind t.spelling))
    (λ tu. later tu (record s { ahead = t.rest }) (subst (λ (x : Left). length x.ahead < length s.ahead) f.after shorter))
standing-by n st s End e h later = none-by st s (λ u m. token_no_end s u m h) (inr (inr (inr h))) (ends_or_open st)
standing-by n st s (BadByte k) e h later = none-by st s (λ u m. token_no_byte s u k m h) (inl (k, h)) (ends_or_open st)
standing-by n st s (BadChar k) e h later = none-by st s (λ u m. token_no_char s u k m h) (inr (inl (k, h))) (ends_or_open st)

standing-in : (n : ℕ) (st : List Expected) (s : Left) → length s.ahead < n → Standing st s
standing-in zero st s h = absurd (omega (arith, h))
standing-in (suc n) st s h = standing-by n st s (lexed s) refl (lexed_shown s) (λ tu r k. standing-in n tu r (omega (arith, h, k)))

pub standing : (st : List Expected) (s : Left) → Standing st s
standing st s = standing-in (suc (length s.ahead)) st s (omega arith)

-- ---- what is wrong, in the words of a language

-- what of the language goes on with these lexemes is written of what is expected
abbrev pub Within : Language → List Lexeme → List Expected → List Lexeme → Type 0
Within L vs st ws = (us : List Lexeme) → L (vs ++ us) → (rest : List Lexeme) × Spelt st (ws ++ us) rest

pub wrong_there : (L : Language) (call : ℕ → Wrong) (vs : List Lexeme) (st : List Expected) (ws : List Lexeme) (at : Left)
    → Within L vs st ws → ((rest : List Lexeme) → Spelt st ws rest → ⊥) → IsBad st ws at → (e : Wrong) × IsWrong L call vs at e
wrong_there L call vs st ws at f o (inl (n, h)) = (bad_byte n, inl (n, h, refl))
wrong_there L call vs st ws at f o (inr (inl (n, h))) = (bad_char n, inr (inl (n, h, refl)))
wrong_there L call vs st ws at f o (inr (inr (inl (u, m, k)))) = (
  call (place_of at m.found),
  inr (inr (
    place_of at m.found,
    inl (
      u,
      m,
      refl,
      λ v.
          let more : List Lexeme = lexeme u.kind u.spelling ∷ v.0 in
          let r = f more (subst L (append_assoc vs (lexeme u.kind u.spelling ∷ []) v.0) v.1) in
          k v.0 r.0 r.1,
    ),
    refl,
  )),
)
wrong_there L call vs st ws at f o (inr (inr (inr h))) = (
  call (length at.source),
  inr (inr (
    length at.source,
    inr (h, refl, λ l. let r = f [] (subst L (sym (append-nil vs)) l) in o r.0 (subst (λ (z : List Lexeme). Spelt st z r.0) (append-nil ws) r.1)),
    refl,
  )),
)
