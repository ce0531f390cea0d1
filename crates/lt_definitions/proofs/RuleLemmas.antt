-- What follows from the words in which the rules are written.
use Rattle.std.proofs.Common.{◌≡◌, ℕ, List, Bool, true, false, Option, Some, None, if◌then◌else◌, Result, Err, refl, ◌∙◌, ap}
use Rattle.lt_definitions.specs.declared.reason.Reason.{Reason}
use Rattle.lt_definitions.specs.declared.reason.Reason.TheVariants.{MissingLine}
use Rattle.lt_definitions.specs.Rules.{line_at, where_holds, with_found, with_line, with_lines}

-- there is such a thing, or there isn't
pub found-on : {A S : Type 0} (r : Reason) (o : Option A) (x : A) (f : A → Result S Reason)
    → o ≡ Some x → with_found r o f ≡ f x
found-on r o x f e = ap (λ p. with_found r p f) e

pub missing-on : {A S : Type 0} (r : Reason) (o : Option A) (f : A → Result S Reason)
    → o ≡ None → with_found r o f ≡ Err r
missing-on r o f e = ap (λ p. with_found r p f) e

-- the test holds, or fails
pub holds-on : {S : Type 0} (b : Bool) (r : Reason) (o : Result S Reason) → b ≡ true → where_holds b r o ≡ o
holds-on b r o e = ap (λ c. where_holds c r o) e

pub fails-on : {S : Type 0} (b : Bool) (r : Reason) (o : Result S Reason) → b ≡ false → where_holds b r o ≡ Err r
fails-on b r o e = ap (λ c. where_holds c r o) e

-- there is such a line, or there are such lines
pub line-on : {A S : Type 0} (done : List A) (i : ℕ) (s : A) (f : A → Result S Reason)
    → line_at done i ≡ Some s → with_line done i f ≡ f s
line-on done i s f e = found-on MissingLine (line_at done i) s f e

pub lines-on : {A S : Type 0} (done : List A) (i j : ℕ) (s u : A) (f : A → A → Result S Reason)
    → line_at done i ≡ Some s → line_at done j ≡ Some u → with_lines done i j f ≡ f s u
lines-on done i j s u f e d =
    line-on done i s (λ v. with_line done j (λ w. f v w)) e ∙ line-on done j u (λ w. f s w) d

-- a form that is read where a test holds
pub some-if : {A : Type 0} (b : Bool) (x y : A) → (if b then Some x else None) ≡ Some y → (b ≡ true) × (x ≡ y)
some-if true x y e = (refl, let same : x ≡ y = cc e in same)
some-if false x y e = absurd (cc e)
