-- A constructor closed over the last types: as many as lie behind its place.
use Rattle.std.proofs.Common.{◌≡◌, ℕ, ◌-◌, List, [], ◌∷◌, ◌++◌, length, take, drop, reverse, min, sym, ◌∙◌, ap, arith}
use Rattle.std.proofs.lemmas.List.{reverse-append, take_min, drop_min}
use Rattle.lt_definitions.specs.Types.{Chars, TypeTree, type_constructor, row}
use Rattle.lt_commands.specs.Making.{Made, closed, close_type}

-- what lies before the last n places, where n is what lies behind the first k
before-last : (k n m : ℕ) → n ≡ m - k → m - n ≡ min k m
before-last k n m e = omega (arith, e)

-- the last n types as arguments, as n is said by the place k behind which they lie
closed-last : (c : Chars) (k n : ℕ) (ts : List TypeTree) → n ≡ length ts - k
    → take (length ts - n) ts ++ type_constructor c (row (drop (length ts - n) ts)) ∷ [] ≡ closed k c ts
closed-last c k n ts e =
    let at = before-last k n (length ts) e in
    ap (λ i. take i ts ++ type_constructor c (row (drop i ts)) ∷ []) at
    ∙ ap (λ us. us ++ type_constructor c (row (drop (min k (length ts)) ts)) ∷ []) (take_min k ts)
    ∙ ap (λ us. take k ts ++ type_constructor c (row us) ∷ []) (drop_min k ts)

pub closing : (m : Made) (ps rest : List (Chars × ℕ)) (c : Chars) (k n l : ℕ) (old made : List TypeTree)
    → ps ≡ rest ++ (c, k) ∷ [] → l ≡ length m.forming → n ≡ l - k → old ≡ m.forming
    → made ≡ take (length old - n) old ++ type_constructor c (row (drop (length old - n) old)) ∷ []
    → record m { forming = made; pending = reverse rest } ≡ close_type (reverse ps) m
closing m ps rest c k n l old made p at e was is =
    let whole = is ∙ closed-last c k n old (e ∙ ap (λ i. i - k) (at ∙ ap length (sym was))) ∙ ap (closed k c) was in
    ap (λ ts. record m { forming = ts; pending = reverse rest }) whole
    ∙ ap (λ os. close_type os m) (sym (ap reverse p ∙ reverse-append rest ((c, k) ∷ [])))
