-- What a sink got in several pieces.
use Rattle.std.proofs.Common.{◌≡◌, ℕ, suc, ◌+◌, List, [], ◌∷◌, ◌++◌, length, take, Option, Some, None, refl, sym, ◌∙◌, ap, subst, arith, length-append, append-nil}
use Rattle.std.proofs.lemmas.List.{take-append-le}
use Rattle.std.proofs.Math.Seq.{take-length}
use Rattle.lt_io.specs.Written.{Grew, GrewByFront}
use Rattle.lt_io.proofs.WriteLemmas.{Grew-append}

-- nothing was written
pub Grew-none : (a : Option (List ℕ)) → Grew a a []
Grew-none None = tt
Grew-none (Some xs) = (xs, refl, sym (append-nil xs))

-- behind nothing
pub Grew-after_none : (a b c : Option (List ℕ)) (xs : List ℕ) → Grew a b [] → Grew b c xs → Grew a c xs
Grew-after_none a b c xs p q = Grew-append a b c [] xs p q

-- all of it is a front of it
pub front_all : (a b : Option (List ℕ)) (xs : List ℕ) → Grew a b xs → GrewByFront a b xs
front_all a b xs p = (length xs, omega arith, subst (λ (z : List ℕ). Grew a b z) (sym (take-length xs)) p)

-- a front of a piece is one of a longer piece
pub front_longer : (a b : Option (List ℕ)) (xs ys : List ℕ) → GrewByFront a b xs → GrewByFront a b (xs ++ ys)
front_longer a b xs ys (n, h, p) =
    (n, omega (arith, length-append xs ys), subst (λ (z : List ℕ). Grew a b z) (sym (take-append-le n xs ys h)) p)

-- the first pieces are a front
pub front_first : (a b : Option (List ℕ)) (xs ys : List ℕ) → Grew a b xs → GrewByFront a b (xs ++ ys)
front_first a b xs ys p = front_longer a b xs ys (front_all a b xs p)

take-over : (n : ℕ) (xs ys : List ℕ) → take (length xs + n) (xs ++ ys) ≡ xs ++ take n ys
take-over n [] ys = ap (λ (k : ℕ). take k ys) (omega arith)
take-over n (x ∷ xs) ys =
    let e : length (x ∷ xs) + n ≡ suc (length xs + n) = omega arith in
    ap (λ (k : ℕ). take k (x ∷ xs ++ ys)) e ∙ ap (λ (z : List ℕ). x ∷ z) (take-over n xs ys)

-- a piece, and a front of the next
pub front_behind : (a b c : Option (List ℕ)) (xs ys : List ℕ) → Grew a b xs → GrewByFront b c ys → GrewByFront a c (xs ++ ys)
front_behind a b c xs ys p (n, h, q) = (
  length xs + n,
  omega (arith, length-append xs ys),
  subst (λ (z : List ℕ). Grew a c z) (sym (take-over n xs ys)) (Grew-append a b c xs (take n ys) p q),
)

-- nothing is a front of everything
pub front_none : (a b : Option (List ℕ)) (xs : List ℕ) → Grew a b [] → GrewByFront a b xs
front_none a b xs p = (0, omega arith, p)
