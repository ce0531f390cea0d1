-- Steps in place: what a step of the term that is worked on does to the whole.
use Rattle.std.proofs.Common.{◌≡◌, inl, inr, ◌||◌, nat_eq, ℕ, zero, suc, ◌+◌, ◌*◌, ◌≤◌, ◌<◌, List, [], ◌∷◌, length, Bool, true, false, ◌&&◌, if◌then◌else◌, nat_lt, Some, None, option_map, Ok, Err, refl, sym, ◌∙◌, ap, arith}
use Rattle.std.proofs.lemmas.Bool.{cases_Bool, and_from, cond-true, cond-false}
use Rattle.std.proofs.lemmas.Bool.Decides.{nat_tests}
use Rattle.lt_definitions.specs.Types.{Chars, same_name, TypeTree, same_type, type_nodes}
use Rattle.lt_nameless.specs.Nameless.{Nameless, nameless_free, nameless_bound, nameless_loose, nameless_constant, nameless_application, nameless_abstraction, IsWhole}
use Rattle.lt_nameless.specs.NamelessRules.{abstracted, instance_at, nameless_has_free}
use Rattle.lt_definitions.proofs.SameNames.{true-name, type-refl}
use Rattle.lt_reductions.specs.Reducts.{is_abstraction, in_parts, reduct, nodes_over, checked, normal_from, Around, at_function, at_argument, at_body, plug, MayStand, IsWay, weight}
use Rattle.lt_nameless.proofs.SameForms.{variable-is}
use Rattle.lt_reductions.proofs.Putting.{less-is, less-not, is-eq}
use Rattle.lt_reductions.proofs.Reducing.{reduct-apart, reduct-closed}

-- closing over a variable with a name longer than the floor keeps the number of nodes
pub closed-nodes : (floor d : ℕ) (x : Chars) (ty : TypeTree) (t : Nameless) → floor < length x → nodes_over floor (abstracted d x ty t) ≡ nodes_over floor t
closed-nodes floor d x ty (nameless_free y u) h = elim (cases_Bool (same_name x y && same_type ty u)) [
  | inl e ↦ ap (nodes_over floor) (cond-true (same_name x y && same_type ty u) (nameless_bound d) (nameless_free y u) e)
      ∙ sym (cond-true (nat_lt floor (length x)) 1 (1 + type_nodes ty) (less-is floor (length x) h)) ∙ ap (nodes_over floor) (variable-is x y ty u e)
  | inr e ↦ ap (nodes_over floor) (cond-false (same_name x y && same_type ty u) (nameless_bound d) (nameless_free y u) e)
]
closed-nodes floor d x ty (nameless_bound i) h = refl
closed-nodes floor d x ty (nameless_loose y) h = refl
closed-nodes floor d x ty (nameless_constant c ts) h = refl
closed-nodes floor d x ty (nameless_application f a) h = λ i. 1 + (closed-nodes floor d x ty f h i + closed-nodes floor d x ty a h i)
closed-nodes floor d x ty (nameless_abstraction u b) h = ap (λ n. 1 + (type_nodes u + n)) (closed-nodes floor (suc d) x ty b h)

-- a step in place is a step of the whole
pub plug-step : (floor : ℕ) (fs : List Around) (t u : Nameless) → IsWay floor fs → MayStand fs (is_abstraction t) → reduct t ≡ Some u → reduct (plug fs t) ≡ Some (plug fs u)
plug-step floor [] t u w m e = e
plug-step floor (at_function a ∷ fs) t u w m e =
    plug-step floor fs (nameless_application t a) (nameless_application u a) w.1 (stands fs)
    (reduct-apart t a m ∙ ap (λ o. in_parts t a o (reduct a)) e)
  where
    stands : (fs : List Around) → MayStand fs false
    stands [] = tt
    stands (at_function b ∷ fs) = refl
    stands (at_argument f ∷ fs) = tt
    stands (at_body x ty ∷ fs) = tt
plug-step floor (at_argument f ∷ fs) t u w m e =
    plug-step floor fs (nameless_application f t) (nameless_application f u) w.3 (stands fs)
    (reduct-apart f t w.1 ∙ (λ i. in_parts f t (w.2 i) (e i)))
  where
    stands : (fs : List Around) → MayStand fs false
    stands [] = tt
    stands (at_function b ∷ fs) = refl
    stands (at_argument f ∷ fs) = tt
    stands (at_body x ty ∷ fs) = tt
plug-step floor (at_body x ty ∷ fs) t u w m e =
    plug-step floor fs (nameless_abstraction ty (abstracted 0 x ty t)) (nameless_abstraction ty (abstracted 0 x ty u)) w.2 w.0
    (ap (option_map (nameless_abstraction ty)) (reduct-closed 0 x ty t ∙ ap (option_map (abstracted 0 x ty)) e))

-- a term has a node
pub nodes-positive : (floor : ℕ) (t : Nameless) → 1 ≤ nodes_over floor t
nodes-positive floor (nameless_free x ty) = either (nat_lt floor (length x))
  where
    either : (c : Bool) → 1 ≤ (if c then 1 else 1 + type_nodes ty)
    either true = omega arith
    either false = omega arith
nodes-positive floor (nameless_bound i) = omega arith
nodes-positive floor (nameless_loose x) = omega arith
nodes-positive floor (nameless_constant c ts) = omega arith
nodes-positive floor (nameless_application f a) = omega arith
nodes-positive floor (nameless_abstraction u b) = omega arith

-- how the number of nodes changes
pub plug-nodes : (floor : ℕ) (fs : List Around) (t u : Nameless) → IsWay floor fs
    → nodes_over floor (plug fs t) + nodes_over floor u ≡ nodes_over floor (plug fs u) + nodes_over floor t
plug-nodes floor [] t u w = omega arith
plug-nodes floor (at_function a ∷ fs) t u w = let h = plug-nodes floor fs (nameless_application t a) (nameless_application u a) w.1 in omega (arith, h)
plug-nodes floor (at_argument f ∷ fs) t u w = let h = plug-nodes floor fs (nameless_application f t) (nameless_application f u) w.3 in omega (arith, h)
plug-nodes floor (at_body x ty ∷ fs) t u w =
    let h = plug-nodes floor fs (nameless_abstraction ty (abstracted 0 x ty t)) (nameless_abstraction ty (abstracted 0 x ty u)) w.2 in
    let p = closed-nodes floor 0 x ty t w.1 in
    let q = closed-nodes floor 0 x ty u w.1 in omega (arith, h, p, q)

-- what is left to be visited is less than three times the nodes
pub plug-weight : (floor : ℕ) (fs : List Around) (t : Nameless) → IsWay floor fs → weight floor fs + 3 * nodes_over floor t ≤ 3 * nodes_over floor (plug fs t)
plug-weight floor [] t w = omega arith
plug-weight floor (at_function a ∷ fs) t w = let h = plug-weight floor fs (nameless_application t a) w.1 in omega (arith, h)
plug-weight floor (at_argument f ∷ fs) t w = let h = plug-weight floor fs (nameless_application f t) w.3 in
    let k = nodes-positive floor f in omega (arith, h, k)
plug-weight floor (at_body x ty ∷ fs) t w = let h = plug-weight floor fs (nameless_abstraction ty (abstracted 0 x ty t)) w.2 in
    let p = closed-nodes floor 0 x ty t w.1 in omega (arith, h, p)

-- what the limits make of a term: it goes on
module _ (size : Nameless → ℕ) where
  pub goes-on : (left most k : ℕ) (t u : Nameless) → size t ≤ most → reduct t ≡ Some u → normal_from size (suc left) most k t ≡ normal_from size left most (suc k) u
  goes-on left most k t u h e = (λ i. checked (less-not most (size t) h i) k t (e i) (λ v. normal_from size left most (suc k) v))

  -- .. is normal
  pub is-normal : (left most k : ℕ) (t : Nameless) → size t ≤ most → reduct t ≡ None → normal_from size left most k t ≡ Ok t
  is-normal zero most k t h e = (λ i. checked (less-not most (size t) h i) k t (e i) (λ v. Err k))
  is-normal (suc left) most k t h e = (λ i. checked (less-not most (size t) h i) k t (e i) (λ v. normal_from size left most (suc k) v))

  -- .. has too many nodes
  pub is-large : (left most k : ℕ) (t : Nameless) → nat_lt most (size t) ≡ true → normal_from size left most k t ≡ Err k
  is-large zero most k t e = (λ i. checked (e i) k t (reduct t) (λ v. Err k))
  is-large (suc left) most k t e = (λ i. checked (e i) k t (reduct t) (λ v. normal_from size left most (suc k) v))

  -- .. or isn't normal at the last step
  pub is-last : (most k : ℕ) (t u : Nameless) → reduct t ≡ Some u → normal_from size zero most k t ≡ Err k
  is-last most k t u e = last (nat_lt most (size t))
    where
      last : (b : Bool) → checked b k t (reduct t) (λ v. Err k) ≡ Err k
      last true = refl
      last false = ap (λ o. checked false k t o (λ v. Err k)) e

both-false : (a b : Bool) → (a || b) ≡ false → (a ≡ false) × (b ≡ false)
both-false false b e = (refl, e)
both-false true b e = absurd (cc e)

below : (i d : ℕ) → i < suc d → nat_eq i d ≡ false → i < d
below i d h e = grind (arith, nat_tests)

-- an opened body closed again, where the variable isn't in it
pub opened-closed : (d : ℕ) (x : Chars) (ty : TypeTree) (b : Nameless) → nameless_has_free x ty b ≡ false → IsWhole (suc d) b → abstracted d x ty (instance_at d (nameless_free x ty) b) ≡ b
opened-closed d x ty (nameless_free y u) e w = cond-false (same_name x y && same_type ty u) _ _ e
opened-closed d x ty (nameless_bound i) e w = elim (cases_Bool (nat_eq i d)) [
  | inl q ↦ ap (abstracted d x ty) (cond-true (nat_eq i d) (nameless_free x ty) (nameless_bound i) q)
      ∙ cond-true (same_name x x && same_type ty ty) _ _ (and_from _ _ (true-name x x refl) (type-refl ty)) ∙ ap nameless_bound (sym (is-eq i d q))
  | inr q ↦ ap (abstracted d x ty) (cond-false (nat_eq i d) (nameless_free x ty) (nameless_bound i) q)
]
opened-closed d x ty (nameless_loose y) e w = refl
opened-closed d x ty (nameless_constant c ts) e w = refl
opened-closed d x ty (nameless_application f a) e w =
    let h = both-false (nameless_has_free x ty f) (nameless_has_free x ty a) e in λ i. nameless_application (opened-closed d x ty f h.0 w.0 i) (opened-closed d x ty a h.1 w.1 i)
opened-closed d x ty (nameless_abstraction u b) e w = ap (nameless_abstraction u) (opened-closed (suc d) x ty b e w)

-- opening by a variable with a name longer than the floor keeps the number of nodes
pub opened-nodes : (floor d : ℕ) (x : Chars) (ty : TypeTree) (b : Nameless) → floor < length x
    → nodes_over floor (instance_at d (nameless_free x ty) b) ≡ nodes_over floor b
opened-nodes floor d x ty (nameless_free y u) h = refl
opened-nodes floor d x ty (nameless_bound i) h = either (nat_eq i d)
  where
    either : (c : Bool) → nodes_over floor (if c then nameless_free x ty else nameless_bound i) ≡ 1
    either true = cond-true (nat_lt floor (length x)) 1 (1 + type_nodes ty) (less-is floor (length x) h)
    either false = refl
opened-nodes floor d x ty (nameless_loose y) h = refl
opened-nodes floor d x ty (nameless_constant c ts) h = refl
opened-nodes floor d x ty (nameless_application f a) h = λ i. 1 + (opened-nodes floor d x ty f h i + opened-nodes floor d x ty a h i)
opened-nodes floor d x ty (nameless_abstraction u b) h = ap (λ n. 1 + (type_nodes u + n)) (opened-nodes floor (suc d) x ty b h)

-- normal terms made of normal parts
pub normal-application : (f a : Nameless) → is_abstraction f ≡ false → reduct f ≡ None → reduct a ≡ None → reduct (nameless_application f a) ≡ None
normal-application f a e h k = reduct-apart f a e ∙ (λ i. in_parts f a (h i) (k i))

pub normal-closed : (x : Chars) (ty : TypeTree) (t : Nameless) → reduct t ≡ None → reduct (nameless_abstraction ty (abstracted 0 x ty t)) ≡ None
normal-closed x ty t h = ap (option_map (nameless_abstraction ty)) (reduct-closed 0 x ty t ∙ ap (option_map (abstracted 0 x ty)) h)

-- no redex comes of what is no abstraction
pub stands-false : (fs : List Around) → MayStand fs false
stands-false [] = tt
stands-false (at_function b ∷ fs) = refl
stands-false (at_argument f ∷ fs) = tt
stands-false (at_body x ty ∷ fs) = tt

-- the whole has no fewer nodes
pub plug-least : (floor : ℕ) (fs : List Around) (t : Nameless) → IsWay floor fs → nodes_over floor t ≤ nodes_over floor (plug fs t)
plug-least floor [] t w = omega arith
plug-least floor (at_function a ∷ fs) t w = let h = plug-least floor fs (nameless_application t a) w.1 in omega (arith, h)
plug-least floor (at_argument f ∷ fs) t w = let h = plug-least floor fs (nameless_application f t) w.3 in omega (arith, h)
plug-least floor (at_body x ty ∷ fs) t w = let h = plug-least floor fs (nameless_abstraction ty (abstracted 0 x ty t)) w.2 in
    let p = closed-nodes floor 0 x ty t w.1 in omega (arith, h, p)
