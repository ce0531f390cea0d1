-- Conversions at every place: what they make of an application, of an abstraction and of a leaf; and new names.
use Rattle.std.proofs.Common.{◌≡◌, inl, inr, ℕ, zero, suc, ◌+◌, ◌<◌, ◌≤◌, false, nat_eq, Option, refl, sym, ◌∙◌, ap, arith}
use Rattle.std.proofs.lemmas.Bool.{cases_Bool, cond-true, cond-false}
use Rattle.lt_definitions.specs.Types.{Chars, TypeTree}
use Rattle.lt_nameless.specs.Nameless.{Nameless, nameless_free, nameless_bound, nameless_loose, nameless_constant, nameless_application, nameless_abstraction}
use Rattle.lt_nameless.specs.NamelessRules.{instance_at}
use Rattle.lt_store.specs.Trees.{tree_size}
use Rattle.lt_formulas.specs.Shapes.{is_application}
use Rattle.lt_reductions.specs.Reducts.{is_abstraction}
use Rattle.lt_definitions.proofs.SameNames.{true-false}
use Rattle.lt_conv.specs.Everywhere.{new_name, settled, opened_new, closed_new, settled_within, everywhere}

pub size-positive : (t : Nameless) → 0 < tree_size t
size-positive (nameless_free x ty) = omega arith
size-positive (nameless_bound i) = omega arith
size-positive (nameless_loose x) = omega arith
size-positive (nameless_constant c ts) = omega arith
size-positive (nameless_application f a) = omega arith
size-positive (nameless_abstraction ty b) = omega arith

-- an opened body has as many nodes
pub opened-size : (d : ℕ) (x : Chars) (ty : TypeTree) (b : Nameless) → tree_size (instance_at d (nameless_free x ty) b) ≡ tree_size b
opened-size d x ty (nameless_free y u) = refl
opened-size d x ty (nameless_bound i) = elim (cases_Bool (nat_eq i d)) [
  | inl h ↦ ap tree_size (cond-true (nat_eq i d) (nameless_free x ty) (nameless_bound i) h)
  | inr h ↦ ap tree_size (cond-false (nat_eq i d) (nameless_free x ty) (nameless_bound i) h)
]
opened-size d x ty (nameless_loose y) = refl
opened-size d x ty (nameless_constant c ts) = refl
opened-size d x ty (nameless_application f a) = λ i. 1 + opened-size d x ty f i + opened-size d x ty a i
opened-size d x ty (nameless_abstraction u b) = λ i. 1 + opened-size (suc d) x ty b i

-- as many levels as there are nodes are enough
enough : (f : Nameless → Option Nameless) (n m : ℕ) (t : Nameless) → tree_size t ≤ n → tree_size t ≤ m → settled_within f n t ≡ settled_within f m t
enough f zero m t h k = let p = size-positive t in absurd (omega (arith, h, p))
enough f (suc n) zero t h k = let p = size-positive t in absurd (omega (arith, k, p))
enough f (suc n) (suc m) (nameless_free x ty) h k = refl
enough f (suc n) (suc m) (nameless_bound i) h k = refl
enough f (suc n) (suc m) (nameless_loose x) h k = refl
enough f (suc n) (suc m) (nameless_constant c ts) h k = refl
enough f (suc n) (suc m) (nameless_application g a) h k =
    let function : settled_within f n g ≡ settled_within f m g = enough f n m g (omega (arith, h)) (omega (arith, k)) in
    let argument : settled_within f n a ≡ settled_within f m a = enough f n m a (omega (arith, h)) (omega (arith, k)) in
    λ i. settled f (nameless_application (function i) (argument i))
enough f (suc n) (suc m) (nameless_abstraction ty b) h k =
    let same = opened-size 0 (new_name b) ty b in
    ap (λ c. settled f (closed_new ty b c)) (enough f n m (opened_new ty b) (omega (arith, h, same)) (omega (arith, k, same)))

everywhere-is : (f : Nameless → Option Nameless) (t : Nameless) → everywhere f t ≡ settled_within f (tree_size t) t
unfolding everywhere
everywhere-is f t = refl

within : (f : Nameless → Option Nameless) (n : ℕ) (t : Nameless) → tree_size t ≤ n → settled_within f n t ≡ everywhere f t
within f n t h = enough f n (tree_size t) t h (omega arith) ∙ sym (everywhere-is f t)

pub everywhere-application : (f : Nameless → Option Nameless) (g a : Nameless)
    → everywhere f (nameless_application g a) ≡ settled f (nameless_application (everywhere f g) (everywhere f a))
everywhere-application f g a =
    sym (within f (suc (tree_size g + tree_size a)) (nameless_application g a) (omega arith))
    ∙ (λ i. settled f (nameless_application (within f (tree_size g + tree_size a) g (omega arith) i) (within f (tree_size g + tree_size a) a (omega arith) i)))

pub everywhere-abstraction : (f : Nameless → Option Nameless) (ty : TypeTree) (b : Nameless)
    → everywhere f (nameless_abstraction ty b) ≡ settled f (closed_new ty b (everywhere f (opened_new ty b)))
everywhere-abstraction f ty b =
    let same = opened-size 0 (new_name b) ty b in
    sym (within f (suc (tree_size b)) (nameless_abstraction ty b) (omega arith))
    ∙ ap (λ c. settled f (closed_new ty b c)) (within f (tree_size b) (opened_new ty b) (omega (arith, same)))

-- what is neither an application nor an abstraction
pub everywhere-leaf : (f : Nameless → Option Nameless) (t : Nameless) → is_application t ≡ false → is_abstraction t ≡ false → everywhere f t ≡ settled f t
everywhere-leaf f (nameless_free x ty) h k = everywhere-is f (nameless_free x ty)
everywhere-leaf f (nameless_bound i) h k = everywhere-is f (nameless_bound i)
everywhere-leaf f (nameless_loose x) h k = everywhere-is f (nameless_loose x)
everywhere-leaf f (nameless_constant c ts) h k = everywhere-is f (nameless_constant c ts)
everywhere-leaf f (nameless_application g a) h k = absurd (true-false h)
everywhere-leaf f (nameless_abstraction ty b) h k = absurd (true-false k)
