-- Names that are one letter, repeated.
use Rattle.std.proofs.Common.{◌≡◌, ℕ, zero, suc, ◌+◌, ◌≤◌, List, [], ◌∷◌, ◌++◌, true, replicate, refl, sym, ◌∙◌, ap, arith, add-one}
use Rattle.std.specs.Char.{encode_utf8, is_ascii_alphabetic}
use Rattle.std.specs.Str.{chars}
use Rattle.std.proofs.lemmas.Str.Ascii.{encode_ascii}
use Rattle.lt_definitions.specs.Characters.{is_name}
use Rattle.lt_types.specs.TypeVariables.{long_names}
use Rattle.lt_types.proofs.Ascii.{letter-below, repeated-letter, word-chars, word-is-name}

-- a text of that letter
abbrev pub IsLong : ℕ → ℕ → List ℕ → Type 0
IsLong c n bytes = bytes ≡ replicate (suc n) c

turn : (c n : ℕ) → replicate n c ++ c ∷ [] ≡ c ∷ replicate n c
turn c zero = refl
turn c (suc n) = ap (λ (bs : List ℕ). c ∷ bs) (turn c n)

pub long-first : (c : ℕ) (empty bytes : List ℕ) → is_ascii_alphabetic c ≡ true → empty ≡ [] → bytes ≡ empty ++ encode_utf8 c → IsLong c 0 bytes
long-first c empty bytes l e b = b ∙ (λ i. e i ++ encode_ascii c (letter-below c l) i)

pub long-next : (c n : ℕ) (old bytes : List ℕ) → is_ascii_alphabetic c ≡ true → IsLong c n old → bytes ≡ old ++ encode_utf8 c → IsLong c (n + 1) bytes
long-next c n old bytes l h b =
    b ∙ (λ i. h i ++ encode_ascii c (letter-below c l) i) ∙ turn c (suc n) ∙ ap (λ (k : ℕ). c ∷ replicate k c) (sym (add-one n))

pub long-name : (c n : ℕ) (bytes : List ℕ) → is_ascii_alphabetic c ≡ true → IsLong c n bytes → is_name (chars bytes) ≡ true
long-name c n bytes l h = ap (λ (bs : List ℕ). is_name (chars bs)) h ∙ word-is-name c (replicate n c) (repeated-letter (suc n) c l)

pub long-whole : (c n m : ℕ) (bytes name : List ℕ) → is_ascii_alphabetic c ≡ true → IsLong c n bytes → name ≡ chars bytes → n ≤ m → m ≤ n → name ≡ replicate (m + 1) c
long-whole c n m bytes name l h e below above =
    let same : suc n ≡ m + 1 = omega (arith, below, above) in
    e ∙ ap chars h ∙ word-chars (replicate (suc n) c) (repeated-letter (suc n) c l) ∙ ap (λ (k : ℕ). replicate k c) same

-- names, one more
pub long-more : (l k : ℕ) → long_names l (k + 1) ≡ long_names l k ++ replicate (l + k + 1) 116 ∷ []
long-more l k = ap (long_names l) (add-one k) ∙ more l k
  where
    more : (l k : ℕ) → long_names l (suc k) ≡ long_names l k ++ replicate (l + k + 1) 116 ∷ []
    more l zero = let n : suc l ≡ l + 0 + 1 = omega arith in ap (λ m. replicate m 116 ∷ []) n
    more l (suc k) = let n : suc l + k + 1 ≡ l + suc k + 1 = omega arith in
        ap (λ ns. replicate (suc l) 116 ∷ ns) (more (suc l) k ∙ ap (λ m. long_names (suc l) k ++ replicate m 116 ∷ []) n)
