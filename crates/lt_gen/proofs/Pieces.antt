-- Texts that are made piece by piece.
use Rattle.std.proofs.Common.{◌≡◌, ℕ, zero, suc, ◌+◌, List, [], ◌∷◌, ◌++◌, refl, sym, ◌∙◌, ap, arith, append_assoc, append-nil, codes}
use Rattle.std.specs.List.{flat_map, range_with_len}
use Rattle.std.proofs.lemmas.Grind.{flat_map-append}
use Rattle.lt_definitions.specs.Types.{Chars}
use Rattle.lt_transport_definitions.specs.GeneratedTexts.{inside_applications}
use Rattle.lt_gen.specs.Repeats.{repeated}

-- the first of several may as well stand last
repeated-last : (n : ℕ) (cs : Chars) → cs ++ repeated n cs ≡ repeated n cs ++ cs
repeated-last zero cs = append-nil cs
repeated-last (suc n) cs = ap (λ (z : Chars). cs ++ z) (repeated-last n cs) ∙ sym (append_assoc cs (repeated n cs) cs)

-- one more at the end
pub repeated_more : (n : ℕ) (cs old : Chars) → (old ++ repeated n cs) ++ cs ≡ old ++ repeated (n + 1) cs
repeated_more n cs old =
    let next : suc n ≡ n + 1 = omega arith in
    append_assoc old (repeated n cs) cs ∙ ap (λ (z : Chars). old ++ z) (sym (repeated-last n cs) ∙ ap (λ (k : ℕ). repeated k cs) next)

-- the applications are opened, and then closed
inside-is : (k : ℕ) → repeated k (codes "(g ") ++ (codes "z" ++ repeated k (codes ")")) ≡ inside_applications k
inside-is zero = refl
inside-is (suc k) =
    let o = codes "(g " in let c = codes ")" in let z = codes "z" in
    append_assoc o (repeated k o) (z ++ (c ++ repeated k c))
    ∙ ap (λ (t : Chars). o ++ t)
    (ap (λ (t : Chars). repeated k o ++ (z ++ t)) (repeated-last k c)
    ∙ ap (λ (t : Chars). repeated k o ++ t) (sym (append_assoc z (repeated k c) c))
    ∙ sym (append_assoc (repeated k o) (z ++ repeated k c) c) ∙ ap (λ (t : Chars). t ++ c) (inside-is k))

pub applications_are : (k : ℕ) (old : Chars) → ((old ++ repeated k (codes "(g ")) ++ codes "z") ++ repeated k (codes ")") ≡ old ++ inside_applications k
applications_are k old =
    append_assoc (old ++ repeated k (codes "(g ")) (codes "z") (repeated k (codes ")"))
    ∙ append_assoc old (repeated k (codes "(g ")) (codes "z" ++ repeated k (codes ")")) ∙ ap (λ (t : Chars). old ++ t) (inside-is k)

range-more : (a n : ℕ) → range_with_len a (suc n) ≡ range_with_len a n ++ (a + n) ∷ []
range-more a zero = ap (λ (k : ℕ). k ∷ []) (omega arith)
range-more a (suc n) =
    let next : (a + 1) + n ≡ a + suc n = omega arith in
    ap (λ (ks : List ℕ). a ∷ ks) (range-more (a + 1) n ∙ ap (λ (k : ℕ). range_with_len (a + 1) n ++ k ∷ []) next)

-- the text of one more number
pub numbered_more : (f : ℕ → Chars) (k : ℕ) (old : Chars) → (old ++ flat_map f (range_with_len 1 k)) ++ f (k + 1) ≡ old ++ flat_map f (range_with_len 1 (k + 1))
numbered_more f k old =
    let next : suc k ≡ k + 1 = omega arith in
    let same : 1 + k ≡ k + 1 = omega arith in
    let last : flat_map f ((1 + k) ∷ []) ≡ f (k + 1) = append-nil (f (1 + k)) ∙ ap f same in
    let more : flat_map f (range_with_len 1 k) ++ f (k + 1) ≡ flat_map f (range_with_len 1 (k + 1)) =
    ap (λ (z : Chars). flat_map f (range_with_len 1 k) ++ z) (sym last) ∙ sym (flat_map-append f (range_with_len 1 k) ((1 + k) ∷ [])) ∙ ap (flat_map f) (sym (range-more 1 k))
    ∙ ap (λ (n : ℕ). flat_map f (range_with_len 1 n)) next in
    append_assoc old (flat_map f (range_with_len 1 k)) (f (k + 1)) ∙ ap (λ (z : Chars). old ++ z) more
