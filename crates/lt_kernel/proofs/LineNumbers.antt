-- Lines by their numbers, while further ones come.
use Rattle.std.proofs.Common.{◌≡◌, ℕ, zero, suc, ◌-◌, ◌<◌, ◌≤◌, List, [], ◌∷◌, ◌++◌, length, get_or, slice_get, map, true, false, is_some, Option, Some, None, option_map, refl, ap, sym, ◌∙◌, subst, arith}
use Rattle.std.proofs.lemmas.List.{length-map}
use Rattle.std.proofs.lemmas.Option.{slice_get_read, slice_get_past, slice_get-map, none-some, get_or_from_slice_get, slice_get_within}
use Rattle.lt_definitions.specs.Rules.{line_at}
use Rattle.lt_store.specs.declared.node.Node.{Node}
use Rattle.lt_kernel.specs.declared.sequent.Sequent.{Sequent}
use Rattle.lt_kernel.specs.declared.sequent.Step.{Step}
use Rattle.lt_kernel.specs.Sequents.{sequent_at, sequents_at, AreWithin, IsWithin}
use Rattle.lt_kernel.specs.State.{State, sequents}

pub number-past : {A : Type 0} (xs : List A) (n : ℕ) → length xs < n → None ≡ line_at xs n
number-past xs zero h = absurd (omega arith)
number-past xs (suc n) h = sym (slice_get_past xs n (omega arith))

pub number-read : {A : Type 0} (xs : List A) (n : ℕ) (x : A) → (n ≡ 0 → ⊥) → n ≤ length xs → x ≡ get_or xs (n - 1) x → Some x ≡ line_at xs n
number-read xs zero x h l e = absurd (h refl)
number-read xs (suc n) x h l e = let k : suc n - 1 ≡ n = omega arith in sym (slice_get_read xs (length xs) n x refl (omega arith) (subst (λ m. x ≡ get_or xs m x) k e))

-- the line of a number, as a sequent of terms
pub sequent-line : (ns : List Node) (steps : List Step) (n : ℕ) (o : Option Step) → o ≡ line_at steps n → option_map (λ s. sequent_at ns s.sequent) o ≡ line_at (sequents_at ns steps) n
sequent-line ns steps zero o e = ap (option_map (λ s. sequent_at ns s.sequent)) e
sequent-line ns steps (suc n) o e = ap (option_map (λ s. sequent_at ns s.sequent)) e ∙ sym (slice_get-map (λ (s : Step). sequent_at ns s.sequent) steps n)

pub sequent-within : (n : ℕ) (steps : List Step) (k : ℕ) (s : Step) → AreWithin n steps → Some s ≡ line_at steps k → IsWithin n s.sequent
sequent-within n steps zero s h e = absurd (none-some s (sym e))
sequent-within n steps (suc k) s h e =
    subst (λ (u : Step). IsWithin n u.sequent) (get_or_from_slice_get steps k s s (sym e)) (h k s (slice_get_within steps k s (sym e)))

slice-kept : {A : Type 0} (xs ys : List A) (n : ℕ) (x : A) → slice_get xs n ≡ Some x → slice_get (xs ++ ys) n ≡ Some x
slice-kept [] ys n x e = absurd (none-some x e)
slice-kept (y ∷ xs) ys zero x e = e
slice-kept (y ∷ xs) ys (suc n) x e = slice-kept xs ys n x e

-- a line stays where others follow
pub line-kept : {A : Type 0} (xs ys : List A) (n : ℕ) (x : A) → line_at xs n ≡ Some x → line_at (xs ++ ys) n ≡ Some x
line-kept xs ys zero x e = absurd (none-some x e)
line-kept xs ys (suc n) x e = slice-kept xs ys n x e

slice-last : {A : Type 0} (xs : List A) (x : A) → slice_get (xs ++ x ∷ []) (length xs) ≡ Some x
slice-last [] x = refl
slice-last (y ∷ xs) x = slice-last xs x

pub length-last : {A : Type 0} (xs : List A) (x : A) → length (xs ++ x ∷ []) ≡ suc (length xs)
length-last [] x = refl
length-last (y ∷ xs) x = ap suc (length-last xs x)

-- the last line
pub line-last : {A : Type 0} (xs : List A) (x : A) (n : ℕ) → n ≡ suc (length xs) → line_at (xs ++ x ∷ []) n ≡ Some x
line-last xs x n e = ap (line_at (xs ++ x ∷ [])) e ∙ slice-last xs x

-- lines of what things are seen as
pub line-map : {A B : Type 0} (f : A → B) (xs : List A) (n : ℕ) → line_at (map f xs) n ≡ option_map f (line_at xs n)
line-map f xs zero = refl
line-map f xs (suc n) = slice_get-map f xs n

slice-there : {A : Type 0} (xs : List A) (n : ℕ) → n < length xs → (x : A) × (slice_get xs n ≡ Some x)
slice-there [] n h = absurd (omega arith)
slice-there (x ∷ xs) zero h = (x, refl)
slice-there (y ∷ xs) (suc n) h = slice-there xs n (omega arith)

-- there is a line, or its number is 0
pub line-there : {A : Type 0} (xs : List A) (n : ℕ) → suc n ≤ length xs → (x : A) × (line_at xs (suc n) ≡ Some x)
line-there xs n h = slice-there xs n (omega arith)

-- the number of sequents is that of the lines
pub as-many-lines : (s : State) → length (sequents s) ≡ length s.steps
as-many-lines s = length-map s.steps _

pub some-of : {A : Type 0} (o : Option A) → is_some o ≡ true → (x : A) × (o ≡ Some x)
some-of (Some x) e = (x, refl)
some-of None e = absurd (cc e)

twice : {A B C : Type 0} (f : A → B) (g : B → C) (o : Option A) → option_map (λ x. g (f x)) o ≡ option_map g (option_map f o)
twice f g None = refl
twice f g (Some x) = refl

-- what a proof shows of a line
pub seen : (s : State) (n : ℕ) (o : Option Sequent) → o ≡ option_map (λ t. t.sequent) (line_at s.steps n) → line_at (sequents s) n ≡ option_map (sequent_at s.nodes) o
seen s n o e = line-map (λ (t : Step). sequent_at s.nodes t.sequent) s.steps n
    ∙ twice (λ (t : Step). t.sequent) (sequent_at s.nodes) (line_at s.steps n) ∙ sym (ap (option_map (sequent_at s.nodes)) e)

pub seen-there : (s : State) (n : ℕ) (o : Option Sequent) (q : Sequent) → o ≡ option_map (λ t. t.sequent) (line_at s.steps n) → o ≡ Some q → true ≡ is_some (line_at (sequents s) n)
seen-there s n o q e d = sym (ap is_some (seen s n o e) ∙ ap (λ p. is_some (option_map (sequent_at s.nodes) p)) d)

pub seen-not : (s : State) (n : ℕ) (o : Option Sequent) → o ≡ option_map (λ t. t.sequent) (line_at s.steps n) → o ≡ None → false ≡ is_some (line_at (sequents s) n)
seen-not s n o e d = sym (ap is_some (seen s n o e) ∙ ap (λ p. is_some (option_map (sequent_at s.nodes) p)) d)
