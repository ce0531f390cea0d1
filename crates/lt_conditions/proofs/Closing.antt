-- The steps that close a statement over its one bound name.
use Rattle.std.proofs.Common.{◌≡◌, ℕ, List, [], ◌∷◌, length, refl, ◌∙◌, ap, subst, sym, arith}
use Rattle.lt_definitions.specs.Types.{Chars, TypeTree}
use Rattle.lt_definitions.specs.Terms.{TermTree}
use Rattle.lt_terms.specs.Layout.{applied, abstracted}
use Rattle.lt_conditions.specs.Building.{closed_up}

pub closed-two : (x : Chars) (ty : TypeTree) (builder : List TermTree) → length builder ≡ 2 → applied (abstracted x ty builder) ≡ closed_up x ty builder
closed-two x ty [] e = absurd (omega (arith, e))
closed-two x ty (b ∷ []) e = absurd (omega (arith, e))
closed-two x ty (b ∷ a ∷ []) e = refl
closed-two x ty (b ∷ a ∷ c ∷ rest) e = absurd (omega (arith, e))

pub closed-one : (x : Chars) (ty : TypeTree) (builder : List TermTree) → length builder ≡ 2 → length (closed_up x ty builder) ≡ 1
closed-one x ty [] e = absurd (omega (arith, e))
closed-one x ty (b ∷ []) e = absurd (omega (arith, e))
closed-one x ty (b ∷ a ∷ []) e = refl
closed-one x ty (b ∷ a ∷ c ∷ rest) e = absurd (omega (arith, e))

-- what the two steps make
pub closed-steps : (x y : Chars) (ty uy : TypeTree) (builder lambda closed : List TermTree) → length builder ≡ 2 → y ≡ x → uy ≡ ty → lambda ≡ abstracted y uy builder → closed ≡ applied lambda → closed ≡ closed_up x ty builder
closed-steps x y ty uy builder lambda closed two e f l a =
    a ∙ ap applied (l ∙ (λ i. abstracted (e i) (f i) builder)) ∙ closed-two x ty builder two
