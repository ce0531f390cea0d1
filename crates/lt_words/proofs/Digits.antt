-- Words of decimal digits, up to a place.
use Rattle.std.proofs.Common.{◌≡◌, ℕ, zero, suc, ◌+◌, ◌<◌, ◌≤◌, ◌^◌, Bool, true, false, ◌&&◌, List, [], ◌∷◌, length, take, get_or, refl, sym, ◌∙◌, ap, arith}
use Rattle.std.specs.Char.{is_ascii_digit}
use Rattle.std.specs.Str.{all_ascii_digits}
use Rattle.std.specs.List.{list_all}
use Rattle.std.proofs.lemmas.List.Folds.{list_all_more}
use Rattle.std.proofs.lemmas.Str.Parse.{numerals_by_value, parse_digits, tells_all_ascii_digits}
use Rattle.std.specs.Prelude.{Some, None, Result, Ok, Err, nat_le, if◌then◌else◌}
use Rattle.std.specs.Result.{OkIff}
use Rattle.std.specs.Str.Parse.{ParsesUnsigned, digits_value}
use Rattle.std.proofs.lemmas.Bool.{leb-true}
use Rattle.lt_words.specs.Numbers.{number}

as_list_all : (cs : List ℕ) → all_ascii_digits cs ≡ list_all is_ascii_digit cs
as_list_all [] = refl
as_list_all (c ∷ cs) = ap (λ b. is_ascii_digit c && b) (as_list_all cs)

and-true : (a b : Bool) → a ≡ true → b ≡ true → (a && b) ≡ true
and-true true b h k = k
and-true false b h k = h

-- one more
pub digits_more : (cs : List ℕ) (i d : ℕ) → i < length cs → all_ascii_digits (take i cs) ≡ true → is_ascii_digit (get_or cs i d) ≡ true → all_ascii_digits (take (i + 1) cs) ≡ true
digits_more cs i d h before this =
    as_list_all (take (i + 1) cs) ∙ list_all_more is_ascii_digit cs i d h
    ∙ and-true (list_all is_ascii_digit (take i cs)) (is_ascii_digit (get_or cs i d)) (sym (as_list_all (take i cs)) ∙ before) this

and-false : (a b : Bool) → b ≡ false → (a && b) ≡ false
and-false true b h = h
and-false false b h = refl

-- one that is none
pub no_digit : (cs : List ℕ) (i d : ℕ) → i < length cs → is_ascii_digit (get_or cs i d) ≡ false → all_ascii_digits cs ≡ false
no_digit [] i d h e = absurd (omega (arith, h))
no_digit (c ∷ cs) zero d h e = ap (λ b. b && all_ascii_digits cs) e
no_digit (c ∷ cs) (suc i) d h e = and-false (is_ascii_digit c) (all_ascii_digits cs) (no_digit cs i d (omega (arith, h)) e)

-- ---- numbers that can't be read

-- the number of a word, by the four tests
number-by : (a b c d : Bool) (n : ℕ) → (a ≡ true → b ≡ true → c ≡ true → d ≡ true → ⊥) → None ≡ (if a && (b && (c && d)) then Some n else None)
number-by true true true true n h = absurd (h refl refl refl refl)
number-by true true true false n h = refl
number-by true true false d n h = refl
number-by true false c d n h = refl
number-by false b c d n h = refl

no-digits : (word : List ℕ) → 1 ≤ digits_value 10 word → 0 < length word
no-digits [] h = absurd (omega (arith, h))
no-digits (c ∷ cs) h = omega arith

not-read : {E : Type 0} (r : Result ℕ E) (e : E) (P : Type 0) (v : ℕ) → r ≡ Err e → OkIff r P v → P → ⊥
not-read (Ok x) e P v is h p = absurd (cc is)
not-read (Err f) e P v is h p = h p

-- a word of digits that isn't read names no number from 1 on that fits
pub unread : {E : Type 0} (digits most : ℕ) (word : List ℕ) (r : Result ℕ E) (e : E) → r ≡ Err e → most < 2 ^ 32 → all_ascii_digits word ≡ true → ParsesUnsigned 32 10 word r → None ≡ number digits most word
unread digits most word r e is fits all parses =
    number-by (all_ascii_digits word) (nat_le (length word) digits) (nat_le 1 (digits_value 10 word)) (nat_le (digits_value 10 word) most) (digits_value 10 word)
    (λ a b c d.
    let some = no-digits word (leb-true 1 (digits_value 10 word) c) in
    let small = leb-true (digits_value 10 word) most d in
    not-read r e _ _ is (parse_digits (numerals_by_value (λ ds. all_ascii_digits ds ≡ true) tells_all_ascii_digits) 32 word r parses all) (some, omega (arith, small, fits)))
