-- What holds of each block to which a row may come, given what its tests have found.
use Rattle.std.specs.Prelude.{◌≡◌, [], Option, Some, None, Result, Ok, Err, option_map}
use Rattle.std.proofs.Common.{refl, subst, inl, inr}
use Rattle.lt_definitions.specs.Types.{row}
use Rattle.lt_definitions.specs.Terms.{TermTree}
use Rattle.lt_transport_definitions.specs.Reduction.{as_printed}
use Rattle.lt_transport_definitions.specs.Sessions.{Session}
use Rattle.lt_transport_definitions.specs.Quotients.{Quot, missing_pair}
use Rattle.lt_transport_definitions.specs.Commands.{CommandRefusal, Block}
use Rattle.lt_transport_definitions.specs.Rows.{BlockOutcome, Row, ◌⊳◌, with_value, with_form, with_quotient, with_image, with_normal_form, adds}
use Rattle.lt_transport_definitions.specs.Blocks.{no_quotient, Unless, OfValue, OfForm, ComesOfRow}

-- P holds of each block to which a row may come, where its tests hold.
abbrev pub EachBlock : (Block → Type 0) → Row → Type 0
EachBlock P (test ⊳ rest) = test ≡ None → EachBlock P rest
EachBlock P (with_value {A} x r row) = (y : A) → x ≡ Some y → EachBlock P (row y)
EachBlock P (with_form {A} x refusal_for row) = (y : A) → x ≡ Ok y → EachBlock P (row y)
EachBlock P (with_quotient abs raw row) = (q : Quot) → EachBlock P (row q)
EachBlock P (with_image q limit row) = (image : TermTree) → EachBlock P (row image)
EachBlock P (with_normal_form t row) = (u : TermTree) → EachBlock P (row u)
EachBlock P (adds items registered) = P (record { additions = items; registrations = registered })

not-err : (b : Block) (e : CommandRefusal) → ◌≡◌ {A = BlockOutcome} (Ok b) (Err e) → ⊥
not-err b e h = cc

same-block : (x y : Block) → ◌≡◌ {A = BlockOutcome} (Ok x) (Ok y) → y ≡ x
same-block x y e = cc

unless-none : (r : Option CommandRefusal) (Is : BlockOutcome → Type 0) (b : Block) → Unless r Is (Ok b) → (r ≡ None) × Is (Ok b)
unless-none (Some r) Is b h = absurd (not-err b r h)
unless-none None Is b h = (refl, h)

value-some : {A : Type 0} (x : Option A) (r : CommandRefusal) (Is : A → BlockOutcome → Type 0) (b : Block) → OfValue x r Is (Ok b)
    → (y : A) × (x ≡ Some y) × Is y (Ok b)
value-some (Some y) r Is b h = (y, refl, h)
value-some None r Is b h = absurd (not-err b r h)

form-ok : {A E : Type 0} (x : Result A E) (f : E → CommandRefusal) (Is : A → BlockOutcome → Type 0) (b : Block) → OfForm x f Is (Ok b)
    → (y : A) × (x ≡ Ok y) × Is y (Ok b)
form-ok (Ok y) f Is b h = (y, refl, h)
form-ok (Err e) f Is b h = absurd (not-err b (f e) h)

pub comes-block : (P : Block → Type 0) (s : Session) (row : Row) (b : Block) → EachBlock P row → ComesOfRow s row (Ok b) → P b
comes-block P s (test ⊳ rest) b h c = let y = unless-none test (ComesOfRow s rest) b c in comes-block P s rest b (h y.0) y.1
comes-block P s (with_value x r row) b h c = let y = value-some x r (λ z. ComesOfRow s (row z)) b c in comes-block P s (row y.0) b (h y.0 y.1) y.2
comes-block P s (with_form x f row) b h c = let y = form-ok x f (λ z. ComesOfRow s (row z)) b c in comes-block P s (row y.0) b (h y.0 y.1) y.2
comes-block P s (with_quotient abs raw row) b h c =
    comes-block P s (row c.0) b (h c.0) (unless-none (option_map (λ p. no_quotient p.0 p.1) (missing_pair c.0)) (ComesOfRow s (row c.0)) b c.2).1
comes-block P s (with_image q limit row) b h (inl c) = absurd (not-err b _ c.1)
comes-block P s (with_image q limit row) b h (inr (inl c)) = absurd (not-err b _ c.1)
comes-block P s (with_image q limit row) b h (inr (inr c)) = comes-block P s (row c.0) b (h c.0) c.2
comes-block P s (with_normal_form t row) b h (inl c) = absurd (not-err b _ c.2)
comes-block P s (with_normal_form t row) b h (inr c) = let u = as_printed [] c.0 in comes-block P s (row u) b (h u) c.2
comes-block P s (adds items registered) b h c = subst P (same-block b (record { additions = items; registrations = registered }) c) h
