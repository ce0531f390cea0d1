-- A number by its digits from the left.
use Rattle.std.proofs.Common.{◌≡◌, ℕ, ◌+◌, ◌-◌, ◌*◌, ◌^◌, ◌<◌, ◌≤◌, ap, sym, refl, Bool, true, false, List, [], ◌∷◌, Option, Some, None, arith, length}
use Rattle.std.specs.Prelude.{◌&&◌, if◌then◌else◌, nat_lt, chars, IsUtf8, encode_utf8_all}
use Rattle.std.proofs.lemmas.Str.{encodes-chars, chars-nil}
use Rattle.std.proofs.lemmas.Bool.{le-ltb, lt-ltb, ltb-true, ltb-false}
use Rattle.std.specs.Char.{is_ascii_digit}
use Rattle.std.specs.List.{list_all}
use Rattle.lt_definitions.specs.Characters.{more_digits, number_of}
use Rattle.lt_lex.specs.Numbers.{with_digit, with_digits}

-- more digits make a number no smaller
grows : (n : ℕ) (cs : List ℕ) → n ≤ more_digits n cs
grows n [] = omega arith
grows n (c ∷ cs) = omega (arith, grows (n * 10 + (c - 48)) cs)

none_by : (d l : Bool) (c m : ℕ) (cs : List ℕ) → (let o : Option ℕ = if d && nat_lt m (2 ^ 32) then Some m else None in o) ≡ None
    → (let o : Option ℕ = if (d && l) && nat_lt (more_digits m cs) (2 ^ 32) then Some (more_digits m cs) else None in o) ≡ None
none_by false l c m cs e = refl
none_by true false c m cs e = refl
none_by true true c m cs e = small (nat_lt m (2 ^ 32)) refl e
  where
    small : (y : Bool) → nat_lt m (2 ^ 32) ≡ y → (let o : Option ℕ = if y then Some m else None in o) ≡ None → (let o : Option ℕ = if nat_lt (more_digits m cs) (2 ^ 32) then Some (more_digits m cs) else None in o) ≡ None
    small true h k = absurd (cc k)
    small false h k =
        ap (λ (y : Bool). let o : Option ℕ = if y then Some (more_digits m cs) else None in o)
        (le-ltb (more_digits m cs) (2 ^ 32) (omega (arith, ltb-false m (2 ^ 32) h, grows m cs)))

pub none_told : (n c : ℕ) (cs : List ℕ) → with_digit n c ≡ None → with_digits n (c ∷ cs) ≡ None
none_told n c cs e = none_by (is_ascii_digit c) (list_all is_ascii_digit cs) c (n * 10 + (c - 48)) cs e

abbrev value_or : ℕ → Option ℕ → ℕ
value_or d None = d
value_or d (Some v) = v

some_by : (d y l : Bool) (k m : ℕ) (cs : List ℕ) → (let o : Option ℕ = if d && y then Some m else None in o) ≡ Some k
    → (let o : Option ℕ = if (d && l) && nat_lt (more_digits m cs) (2 ^ 32) then Some (more_digits m cs) else None in o)
    ≡ (if l && nat_lt (more_digits k cs) (2 ^ 32) then Some (more_digits k cs) else None)
some_by false y l k m cs e = absurd (cc e)
some_by true false l k m cs e = absurd (cc e)
some_by true true l k m cs e =
    ap (λ (o : Option ℕ). let x : ℕ = value_or k o in if l && nat_lt (more_digits x cs) (2 ^ 32) then Some (more_digits x cs) else None) e

pub some_told : (n c k : ℕ) (cs : List ℕ) → with_digit n c ≡ Some k → with_digits n (c ∷ cs) ≡ with_digits k cs
some_told n c k cs e = some_by (is_ascii_digit c) (nat_lt (n * 10 + (c - 48)) (2 ^ 32)) (list_all is_ascii_digit cs) k (n * 10 + (c - 48)) cs e

small_by : (d y : Bool) (m k : ℕ) → nat_lt m (2 ^ 32) ≡ y → (let o : Option ℕ = if d && y then Some m else None in o) ≡ Some k → k < 2 ^ 32
small_by false y m k h e = absurd (cc e)
small_by true false m k h e = absurd (cc e)
small_by true true m k h e = omega (arith, ltb-true m (2 ^ 32) h, ap (value_or k) e)

pub small_told : (n c k : ℕ) → with_digit n c ≡ Some k → k < 2 ^ 32
small_told n c k e = small_by (is_ascii_digit c) (nat_lt (n * 10 + (c - 48)) (2 ^ 32)) (n * 10 + (c - 48)) k refl e

pub end_told : (n : ℕ) → n < 2 ^ 32 → with_digits n [] ≡ Some n
end_told n h = ap (λ (y : Bool). let o : Option ℕ = if y then Some n else None in o) (lt-ltb n (2 ^ 32) h)

-- a text without bytes is no number
pub empty_told : (text : List ℕ) → length text ≡ 0 → None ≡ number_of (chars text)
empty_told [] e = ap number_of (sym chars-nil)
empty_told (b ∷ bs) e = absurd (omega (arith, e))

some_chars : (cs : List ℕ) → 0 < length (encode_utf8_all cs) → 0 < length cs
some_chars [] h = absurd (omega (arith, h))
some_chars (c ∷ cs) h = omega arith

start_by : (cs : List ℕ) → 0 < length cs → with_digits 0 cs ≡ number_of cs
start_by [] h = absurd (omega (arith, h))
start_by (c ∷ cs) h = refl

pub start_told : (text : List ℕ) → IsUtf8 text → (length text ≡ 0 → ⊥) → with_digits 0 (chars text) ≡ number_of (chars text)
start_told text u n = start_by (chars text) (some_chars (chars text) (omega (arith, n, ap length (encodes-chars text u))))
