-- Tests that say the same, and the test of two terms.
use Rattle.std.proofs.Common.{◌≡◌, Bool, true, false, refl, ap, sym, subst, arith}
use Rattle.std.proofs.lemmas.Bool.Decides.{nat_tests}
use Rattle.std.proofs.lemmas.Grind.{common_steps}
use Rattle.lt_definitions.specs.Types.{same_name, same_type, same_types, row}
use Rattle.lt_definitions.proofs.SameNames.{true-false, both-true, true-both, name-true, true-name, type-true, true-type, row-true, true-row}
use Rattle.lt_nameless.specs.Nameless.{Nameless, nameless_free, nameless_bound, nameless_loose, nameless_constant, nameless_application, nameless_abstraction}
use Rattle.lt_nameless.specs.NamelessRules.{same_nameless}

-- two tests of which each follows from the other are one
pub one_test : (a b : Bool) → (a ≡ true → b ≡ true) → (b ≡ true → a ≡ true) → a ≡ b
one_test true b f g = sym (f refl)
one_test false true f g = g refl
one_test false false f g = refl

-- the test of two terms says that they are one
pub nameless-true : (s t : Nameless) → same_nameless s t ≡ true → s ≡ t
nameless-true (nameless_free x t) (nameless_free y u) e =
    let h = both-true (same_name x y) (same_type t u) e in
    let p : x ≡ y = name-true x y h.0 in let q : t ≡ u = type-true t u h.1 in λ i. nameless_free (p i) (q i)
nameless-true (nameless_bound i) (nameless_bound j) e = let p : i ≡ j = grind (arith, common_steps, nat_tests) in ap nameless_bound p
nameless-true (nameless_loose x) (nameless_loose y) e = ap nameless_loose (name-true x y e)
nameless-true (nameless_constant c ts) (nameless_constant d us) e =
    let h = both-true (same_name c d) (same_types (row ts) (row us)) e in
    let p : c ≡ d = name-true c d h.0 in let q : ts ≡ us = row-true ts us h.1 in λ i. nameless_constant (p i) (q i)
nameless-true (nameless_application f a) (nameless_application g b) e =
    let h = both-true (same_nameless f g) (same_nameless a b) e in
    let p : f ≡ g = nameless-true f g h.0 in let q : a ≡ b = nameless-true a b h.1 in λ i. nameless_application (p i) (q i)
nameless-true (nameless_abstraction t b) (nameless_abstraction u c) e =
    let h = both-true (same_type t u) (same_nameless b c) e in
    let p : t ≡ u = type-true t u h.0 in let q : b ≡ c = nameless-true b c h.1 in λ i. nameless_abstraction (p i) (q i)
nameless-true s t e = absurd (true-false (sym e))

nameless-refl : (t : Nameless) → same_nameless t t ≡ true
nameless-refl (nameless_free x t) = true-both (same_name x x) (same_type t t) (true-name x x refl) (true-type t t refl)
nameless-refl (nameless_bound i) = grind (arith, common_steps, nat_tests)
nameless-refl (nameless_loose x) = true-name x x refl
nameless-refl (nameless_constant c ts) = true-both (same_name c c) (same_types (row ts) (row ts)) (true-name c c refl) (true-row ts ts refl)
nameless-refl (nameless_application f a) = true-both (same_nameless f f) (same_nameless a a) (nameless-refl f) (nameless-refl a)
nameless-refl (nameless_abstraction t b) = true-both (same_type t t) (same_nameless b b) (true-type t t refl) (nameless-refl b)

pub true-nameless : (s t : Nameless) → s ≡ t → same_nameless s t ≡ true
true-nameless s t e = subst (λ (n : Nameless). same_nameless s n ≡ true) e (nameless-refl s)
