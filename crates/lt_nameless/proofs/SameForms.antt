-- What the test on nameless forms says.
use Rattle.std.proofs.Common.{◌≡◌, ℕ, ◌<◌, ◌&&◌, true, false, nat_eq, ap, refl, sym, arith}
use Rattle.std.proofs.lemmas.Bool.{true≢false, and_parts, and_from}
use Rattle.std.proofs.lemmas.Bool.Decides.{nat_tests}
use Rattle.lt_definitions.specs.Types.{Chars, same_name, TypeTree, same_type, same_types, row}
use Rattle.lt_nameless.specs.Nameless.{Nameless, nameless_free, nameless_bound, nameless_loose, nameless_constant, nameless_application, nameless_abstraction}
use Rattle.lt_nameless.specs.NamelessRules.{same_nameless}
use Rattle.lt_definitions.proofs.SameNames.{name-true, true-name, type-true, type-refl, row-true, types-refl}

-- two numbers
pub number-true : (i j : ℕ) → nat_eq i j ≡ true → i ≡ j
number-true i j e = grind (arith, nat_tests)

pub true-number : (i j : ℕ) → i ≡ j → nat_eq i j ≡ true
true-number i j e = grind (arith, nat_tests)

pub number-same : (i : ℕ) → nat_eq i i ≡ true
number-same i = grind (arith, nat_tests)

pub number-less : (i j : ℕ) → i < j → nat_eq i j ≡ false
number-less i j h = grind (arith, nat_tests)

-- two forms
pub same-is : (a b : Nameless) → same_nameless a b ≡ true → a ≡ b
same-is (nameless_free x t) (nameless_free y u) e =
    let h = and_parts (same_name x y) (same_type t u) e in
    λ i. nameless_free (name-true x y h.0 i) (type-true t u h.1 i)
same-is (nameless_bound i) (nameless_bound j) e = ap nameless_bound (number-true i j e)
same-is (nameless_loose x) (nameless_loose y) e = ap nameless_loose (name-true x y e)
same-is (nameless_constant c ts) (nameless_constant d us) e =
    let h = and_parts (same_name c d) (same_types (row ts) (row us)) e in
    λ i. nameless_constant (name-true c d h.0 i) (row-true ts us h.1 i)
same-is (nameless_application f a) (nameless_application g b) e =
    let h = and_parts (same_nameless f g) (same_nameless a b) e in
    λ i. nameless_application (same-is f g h.0 i) (same-is a b h.1 i)
same-is (nameless_abstraction t b) (nameless_abstraction u c) e =
    let h = and_parts (same_type t u) (same_nameless b c) e in
    λ i. nameless_abstraction (type-true t u h.0 i) (same-is b c h.1 i)
same-is a b e = absurd (true≢false (sym e))

pub same-refl : (a : Nameless) → same_nameless a a ≡ true
same-refl (nameless_free x t) = and_from (same_name x x) (same_type t t) (true-name x x refl) (type-refl t)
same-refl (nameless_bound i) = number-same i
same-refl (nameless_loose x) = true-name x x refl
same-refl (nameless_constant c ts) =
    and_from (same_name c c) (same_types (row ts) (row ts)) (true-name c c refl) (types-refl (row ts))
same-refl (nameless_application f a) = and_from (same_nameless f f) (same_nameless a a) (same-refl f) (same-refl a)
same-refl (nameless_abstraction t b) = and_from (same_type t t) (same_nameless b b) (type-refl t) (same-refl b)

-- one variable
pub variable-is : (x y : Chars) (ty u : TypeTree) → (same_name x y && same_type ty u) ≡ true
    → nameless_free x ty ≡ nameless_free y u
variable-is x y ty u e = same-is (nameless_free x ty) (nameless_free y u) e
