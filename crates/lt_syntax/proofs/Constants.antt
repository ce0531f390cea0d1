-- A constant's type arguments, one after another.
use Rattle.std.proofs.Common.{◌≡◌, ◌∙◌, ℕ, zero, suc, ◌+◌, ◌-◌, ◌<◌, ◌≤◌, List, [], ◌∷◌, ◌++◌, length, get_or, take, drop, codes, refl, sym, ap, arith, append_assoc, drop-cons}
use Rattle.std.proofs.Math.Seq.{take-length}
use Rattle.lt_definitions.specs.Types.{Chars, TypeTree}
use Rattle.lt_definitions.specs.Printing.{printed_type, printed_later_arguments, printed_constant}

past : (ts : List TypeTree) (i : ℕ) → length ts ≤ i → drop i ts ≡ []
past [] zero h = refl
past [] (suc i) h = refl
past (t ∷ ts) zero h = absurd (omega arith)
past (t ∷ ts) (suc i) h = past ts i (omega arith)

-- one more argument behind a space
pub one-more : (ts : List TypeTree) (i : ℕ) (t : TypeTree) (text spaced more whole : Chars) → i < length ts → t ≡ get_or ts i t
    → text ++ printed_later_arguments (drop i ts) ≡ whole → spaced ≡ text ++ codes " " → more ≡ spaced ++ printed_type t
    → more ++ printed_later_arguments (drop (i + 1) ts) ≡ whole
one-more ts i t text spaced more whole below at h s m =
    (λ k. (m ∙ ap (λ x. x ++ printed_type t) s) k ++ printed_later_arguments (drop (i + 1) ts))
    ∙ regroup text (codes " ") (printed_type t) (printed_later_arguments (drop (i + 1) ts))
    ∙ ap (λ (r : List TypeTree). text ++ printed_later_arguments r) (sym split)
    ∙ h
  where
    regroup : (a b c d : Chars) → ((a ++ b) ++ c) ++ d ≡ a ++ (b ++ (c ++ d))
    regroup a b c d = simp append_assoc

    next : suc i ≡ i + 1
    next = omega arith

    split : drop i ts ≡ t ∷ drop (i + 1) ts
    split = drop-cons ts i t below ∙ (λ k. sym at k ∷ drop (next k) ts)

-- all arguments are there
pub all-there : (ts : List TypeTree) (i : ℕ) (old text more : Chars) → length ts ≤ i → text ++ printed_later_arguments (drop i ts) ≡ old ++ printed_later_arguments ts
    → more ≡ text ++ codes "]" → more ≡ old ++ printed_later_arguments ts
all-there ts i old text more end h m = m ∙ ap (λ (r : List TypeTree). text ++ printed_later_arguments r) (sym (past ts i end)) ∙ h

-- a constant with a first argument
pub argued : (ts later : List TypeTree) (first : TypeTree) (c old named opened begun whole : Chars) → 1 ≤ length ts → first ≡ get_or ts 0 first → later ≡ take (length ts - 1) (drop 1 ts)
    → named ≡ old ++ c → opened ≡ named ++ codes "[" → begun ≡ opened ++ printed_type first → whole ≡ begun ++ printed_later_arguments later → whole ≡ old ++ printed_constant c ts
argued [] later first c old named opened begun whole some f l n o b w = absurd (omega arith)
argued (t ∷ ts) later first c old named opened begun whole some f l n o b w =
    w ∙ (λ i. (b ∙ (λ k. (o ∙ ap (λ x. x ++ codes "[") n) k ++ printed_type (f k))) i ++ printed_later_arguments (rest i))
    ∙ regroup old c (codes "[") (printed_type t) (printed_later_arguments ts)
  where
    rest : later ≡ ts
    rest = l ∙ (let e : length (t ∷ ts) - 1 ≡ length ts = omega arith in ap (λ k. take k ts) e ∙ take-length ts)

    regroup : (a b c d f : Chars) → (((a ++ b) ++ c) ++ d) ++ f ≡ a ++ (b ++ (c ++ (d ++ f)))
    regroup a b c d f = simp append_assoc
