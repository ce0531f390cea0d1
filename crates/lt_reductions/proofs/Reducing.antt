-- Steps, and closing over a free variable.
use Rattle.std.proofs.Common.{◌≡◌, ℕ, suc, Bool, true, false, ◌&&◌, if◌then◌else◌, Option, Some, None, option_map, refl, sym, ◌∙◌, ap, arith}
use Rattle.lt_definitions.specs.Types.{Chars, same_name, TypeTree, same_type}
use Rattle.lt_nameless.specs.Nameless.{Nameless, nameless_free, nameless_bound, nameless_loose, nameless_constant, nameless_application, nameless_abstraction}
use Rattle.lt_nameless.specs.NamelessRules.{abstracted}
use Rattle.lt_reductions.specs.Reducts.{is_abstraction, in_parts, reduct}
use Rattle.lt_reductions.proofs.Putting.{put-closed}

pub true-false : true ≡ false → ⊥
true-false e = cc e

-- an application that is no redex
pub reduct-apart : (f a : Nameless) → is_abstraction f ≡ false → reduct (nameless_application f a) ≡ in_parts f a (reduct f) (reduct a)
reduct-apart (nameless_free x ty) a e = refl
reduct-apart (nameless_bound i) a e = refl
reduct-apart (nameless_loose x) a e = refl
reduct-apart (nameless_constant c ts) a e = refl
reduct-apart (nameless_application g b) a e = refl
reduct-apart (nameless_abstraction ty b) a e = absurd (true-false e)

variable-apart : (b : Bool) (d : ℕ) (y : Chars) (u : TypeTree) → is_abstraction (if b then nameless_bound d else nameless_free y u) ≡ false
variable-apart true d y u = refl
variable-apart false d y u = refl

variable-normal : (b : Bool) (d : ℕ) (y : Chars) (u : TypeTree) → reduct (if b then nameless_bound d else nameless_free y u) ≡ None
variable-normal true d y u = refl
variable-normal false d y u = refl

pub closed-abstraction : (d : ℕ) (x : Chars) (ty : TypeTree) (t : Nameless) → is_abstraction (abstracted d x ty t) ≡ is_abstraction t
closed-abstraction d x ty (nameless_free y u) = variable-apart (same_name x y && same_type ty u) d y u
closed-abstraction d x ty (nameless_bound i) = refl
closed-abstraction d x ty (nameless_loose y) = refl
closed-abstraction d x ty (nameless_constant c ts) = refl
closed-abstraction d x ty (nameless_application f a) = refl
closed-abstraction d x ty (nameless_abstraction u b) = refl

parts-closed : (d : ℕ) (x : Chars) (ty : TypeTree) (f a : Nameless) (o p : Option Nameless)
    → in_parts (abstracted d x ty f) (abstracted d x ty a) (option_map (abstracted d x ty) o) (option_map (abstracted d x ty) p) ≡ option_map (abstracted d x ty) (in_parts f a o p)
parts-closed d x ty f a (Some g) p = refl
parts-closed d x ty f a None (Some c) = refl
parts-closed d x ty f a None None = refl

under-closed : (d : ℕ) (x : Chars) (ty u : TypeTree) (o : Option Nameless)
    → option_map (nameless_abstraction u) (option_map (abstracted (suc d) x ty) o) ≡ option_map (abstracted d x ty) (option_map (nameless_abstraction u) o)
under-closed d x ty u (Some b) = refl
under-closed d x ty u None = refl

apart-closed : (d : ℕ) (x : Chars) (ty : TypeTree) (f a : Nameless) → is_abstraction f ≡ false
    → reduct (abstracted d x ty f) ≡ option_map (abstracted d x ty) (reduct f) → reduct (abstracted d x ty a) ≡ option_map (abstracted d x ty) (reduct a)
    → reduct (abstracted d x ty (nameless_application f a)) ≡ option_map (abstracted d x ty) (reduct (nameless_application f a))
apart-closed d x ty f a e h k =
    reduct-apart (abstracted d x ty f) (abstracted d x ty a) (closed-abstraction d x ty f ∙ e)
    ∙ (λ i. in_parts (abstracted d x ty f) (abstracted d x ty a) (h i) (k i))
    ∙ parts-closed d x ty f a (reduct f) (reduct a) ∙ sym (ap (option_map (abstracted d x ty)) (reduct-apart f a e))

-- a step of a term that is closed
pub reduct-closed : (d : ℕ) (x : Chars) (ty : TypeTree) (t : Nameless) → reduct (abstracted d x ty t) ≡ option_map (abstracted d x ty) (reduct t)
reduct-closed d x ty (nameless_free y u) = variable-normal (same_name x y && same_type ty u) d y u
reduct-closed d x ty (nameless_bound i) = refl
reduct-closed d x ty (nameless_loose y) = refl
reduct-closed d x ty (nameless_constant c ts) = refl
reduct-closed d x ty (nameless_abstraction u b) = ap (option_map (nameless_abstraction u)) (reduct-closed (suc d) x ty b) ∙ under-closed d x ty u (reduct b)
reduct-closed d x ty (nameless_application (nameless_abstraction u b) a) = ap (λ (t : Nameless). Some t) (put-closed 0 d x ty a b (omega arith))
reduct-closed d x ty (nameless_application (nameless_free y u) a) = apart-closed d x ty (nameless_free y u) a refl (reduct-closed d x ty (nameless_free y u)) (reduct-closed d x ty a)
reduct-closed d x ty (nameless_application (nameless_bound i) a) = apart-closed d x ty (nameless_bound i) a refl refl (reduct-closed d x ty a)
reduct-closed d x ty (nameless_application (nameless_loose y) a) = apart-closed d x ty (nameless_loose y) a refl refl (reduct-closed d x ty a)
reduct-closed d x ty (nameless_application (nameless_constant c ts) a) = apart-closed d x ty (nameless_constant c ts) a refl refl (reduct-closed d x ty a)
reduct-closed d x ty (nameless_application (nameless_application g b) a) = apart-closed d x ty (nameless_application g b) a refl (reduct-closed d x ty (nameless_application g b)) (reduct-closed d x ty a)
