-- ASCII characters in names.
use Rattle.std.proofs.Common.{◌≡◌, ◌∙◌, ℕ, zero, suc, ◌+◌, ◌<◌, ◌^◌, [], ◌∷◌, List, Bool, true, false, ◌&&◌, ◌||◌, ◌==◌, ◌-◌, ◌≤◌, nat_le, ◌⊎◌, inl, inr, nat_lt, replicate, refl, sym, ap, arith, IsAscii}
use Rattle.std.specs.Char.{is_ascii_alphabetic, is_ascii_alphanumeric}
use Rattle.std.specs.List.{list_all}
use Rattle.std.specs.Fmt.{decimal}
use Rattle.std.specs.Str.{chars}
use Rattle.std.specs.Str.Parse.{AllDigits}
use Rattle.std.proofs.lemmas.Bool.{agree_below_at, true≢false, and_parts, and_from, or_cases, ltb-true, leb-true}
use Rattle.std.proofs.lemmas.Fmt.{decimal_is_IsNumeral, IsAscii-decimal}
use Rattle.std.proofs.lemmas.Str.{chars-IsAscii}
use Rattle.std.proofs.lemmas.Str.Ascii.{IsAscii-cons}
use Rattle.std.proofs.lemmas.Str.Parse.{digit_from_value}
use Rattle.unicode_ident.specs.Ident.{is_xid_start, is_xid_continue}
use Rattle.ucd_table.specs.Rows.{in_ranges}
use Rattle.ucd_derived.specs.XidStartRanges.{xid_start_ranges}
use Rattle.ucd_derived.specs.XidContinueRanges.{xid_continue_ranges}
use Rattle.lt_definitions.specs.Characters.{is_name, starts_name}

pub ascii-starts : (c : ℕ) → c < 128 → starts_name c ≡ (is_ascii_alphabetic c || (c == 95))
unfolding is_xid_start in_ranges xid_start_ranges
ascii-starts c h = agree_below_at starts_name (λ d. is_ascii_alphabetic d || (d == 95)) 128 c refl h

pub ascii-continues : (c : ℕ) → c < 128 → is_xid_continue c ≡ (is_ascii_alphanumeric c || (c == 95))
unfolding is_xid_continue in_ranges xid_continue_ranges
ascii-continues c h = agree_below_at is_xid_continue (λ d. is_ascii_alphanumeric d || (d == 95)) 128 c refl h

-- a list of ASCII characters as bytes
pub all-ascii : (w : List ℕ) → list_all (λ c. nat_lt c 128) w ≡ true → IsAscii w
all-ascii [] h i = omega arith
all-ascii (c ∷ cs) h zero = ltb-true c 128 (and_parts _ _ h).0
all-ascii (c ∷ cs) h (suc i) = all-ascii cs (and_parts _ _ h).1 i

pub ascii-chars : (w : List ℕ) → list_all (λ c. nat_lt c 128) w ≡ true → chars w ≡ w
ascii-chars w h = chars-IsAscii w (all-ascii w h)

-- ---- letters

pub letter-below : (c : ℕ) → is_ascii_alphabetic c ≡ true → c < 128
letter-below c h = by (or_cases _ _ h)
  where
    by : ((nat_le 65 c && nat_le c 90) ≡ true) ⊎ ((nat_le 97 c && nat_le c 122) ≡ true) → c < 128
    by (inl e) = let le : c ≤ 90 = leb-true c 90 (and_parts _ _ e).1 in omega (arith, le)
    by (inr e) = let le : c ≤ 122 = leb-true c 122 (and_parts _ _ e).1 in omega (arith, le)

pub letter-starts : (c : ℕ) → is_ascii_alphabetic c ≡ true → starts_name c ≡ true
letter-starts c h = ascii-starts c (letter-below c h) ∙ ap (λ (b : Bool). b || (c == 95)) h

any-letter : (a b d e : Bool) → (a || b) ≡ true → (((d || a) || b) || e) ≡ true
any-letter true b true e h = refl
any-letter true b false e h = refl
any-letter false true true e h = refl
any-letter false true false e h = refl
any-letter false false d e h = absurd (true≢false (sym h))

pub letter-continues : (c : ℕ) → is_ascii_alphabetic c ≡ true → is_xid_continue c ≡ true
letter-continues c h =
    ascii-continues c (letter-below c h)
    ∙ any-letter (nat_le 65 c && nat_le c 90) (nat_le 97 c && nat_le c 122) (nat_le 48 c && nat_le c 57) (c == 95) h

letters-continue : (w : List ℕ) → list_all is_ascii_alphabetic w ≡ true → list_all is_xid_continue w ≡ true
letters-continue [] h = refl
letters-continue (c ∷ w) h = let k = and_parts _ _ h in and_from _ _ (letter-continues c k.0) (letters-continue w k.1)

letters-below : (w : List ℕ) → list_all is_ascii_alphabetic w ≡ true → IsAscii w
letters-below [] h i = omega arith
letters-below (c ∷ w) h zero = letter-below c (and_parts _ _ h).0
letters-below (c ∷ w) h (suc i) = letters-below w (and_parts _ _ h).1 i

-- a word of letters is a name, as characters and as a text
pub letters-are-name : (c : ℕ) (w : List ℕ) → list_all is_ascii_alphabetic (c ∷ w) ≡ true → is_name (c ∷ w) ≡ true
letters-are-name c w h = let k = and_parts _ _ h in and_from _ _ (letter-starts c k.0) (letters-continue w k.1)

pub word-chars : (w : List ℕ) → list_all is_ascii_alphabetic w ≡ true → chars w ≡ w
word-chars w h = chars-IsAscii w (letters-below w h)

pub word-is-name : (c : ℕ) (w : List ℕ) → list_all is_ascii_alphabetic (c ∷ w) ≡ true → is_name (chars (c ∷ w)) ≡ true
word-is-name c w h = ap is_name (word-chars (c ∷ w) h) ∙ letters-are-name c w h

pub repeated-letter : (n c : ℕ) → is_ascii_alphabetic c ≡ true → list_all is_ascii_alphabetic (replicate n c) ≡ true
repeated-letter zero c h = refl
repeated-letter (suc n) c h = and_from _ _ h (repeated-letter n c h)

-- ---- a letter and a number

digit-continues : (d : ℕ) → 48 ≤ d → d < 58 → is_xid_continue d ≡ true
digit-continues d low high =
    ap is_xid_continue at ∙ ascii-continues (48 + (d - 48)) (omega (arith, low, high))
    ∙ agree_below_at (λ k. is_ascii_alphanumeric (48 + k) || ((48 + k) == 95)) (λ k. true) 10 (d - 48) refl (omega (arith, low, high))
  where
    at : d ≡ 48 + (d - 48)
    at = omega (arith, low)

digits-continue : (ds : List ℕ) → AllDigits 10 ds → list_all is_xid_continue ds ≡ true
digits-continue [] h = refl
digits-continue (d ∷ ds) h =
    let digit = digit_from_value d h.0 in
    and_from _ _ (digit-continues d digit.0 (omega (arith, digit.1))) (digits-continue ds h.1)

pub number-chars : (c k : ℕ) (bytes : List ℕ) → is_ascii_alphabetic c ≡ true → k < 2 ^ 64 → bytes ≡ c ∷ decimal k → chars bytes ≡ c ∷ decimal k
number-chars c k bytes l h e = ap chars e ∙ chars-IsAscii (c ∷ decimal k) (IsAscii-cons c (decimal k) (letter-below c l) (IsAscii-decimal k h))

pub number-is-name : (c k : ℕ) (bytes : List ℕ) → is_ascii_alphabetic c ≡ true → k < 2 ^ 64 → bytes ≡ c ∷ decimal k → is_name (chars bytes) ≡ true
number-is-name c k bytes l h e =
    ap is_name (number-chars c k bytes l h e) ∙ and_from _ _ (letter-starts c l) (digits-continue (decimal k) (decimal_is_IsNumeral k h).0.1)
