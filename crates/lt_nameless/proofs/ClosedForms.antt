-- Nameless terms and the named ones that stand for them.
use Rattle.std.proofs.Common.{◌≡◌, inl, inr, ℕ, zero, suc, ◌<◌, ◌≤◌, List, [], ◌∷◌, length, map, get_or, Some, refl, sym, ◌∙◌, ap, subst, arith}
use Rattle.lt_definitions.specs.Types.{Chars, same_name, found, TypeTree}
use Rattle.lt_definitions.specs.Terms.{TermTree, free_variable, bound_name, constant, application, abstraction}
use Rattle.lt_definitions.specs.Typing.{Signature, HasType}
use Rattle.lt_nameless.specs.Nameless.{Nameless, nameless_free, nameless_bound, nameless_loose, nameless_constant, nameless_application, nameless_abstraction, deeper, nameless_name, nameless, IsWhole, binder_at, binders_at, named}
use Rattle.lt_definitions.proofs.SameNames.{bool_cases, true-name, false-name}
use Rattle.lt_nameless.proofs.Alphas.{name-hit, name-miss}
use Rattle.lt_nameless.proofs.BindingLemmas.{if-false, length-replicate}

short : (d i : ℕ) → i < d → length (get_or (binders_at d) i []) ≤ d
short zero i h = absurd (omega arith)
short (suc d) zero h = let l = length-replicate (suc d) 120 in omega (arith, l)
short (suc d) (suc i) h = let l = short d i (omega arith) in omega (arith, l)

name-at : (d i : ℕ) → i < d → nameless_name (binders_at d) (get_or (binders_at d) i []) ≡ nameless_bound i
name-at zero i h = absurd (omega arith)
name-at (suc d) zero h = name-hit (binder_at d) (binders_at d) (binder_at d) (true-name (binder_at d) (binder_at d) refl)
name-at (suc d) (suc i) h =
    let in_range : i < d = omega arith in
    let l = short d i in_range in
    let m = length-replicate (suc d) 120 in
    name-miss (binder_at d) (binders_at d) (get_or (binders_at d) i [])
    (false-name (get_or (binders_at d) i []) (binder_at d)
    (λ q. let k : length (get_or (binders_at d) i []) ≡ length (binder_at d) = ap length q in absurd (omega (arith, l, m, k))))
    ∙ ap deeper (name-at d i in_range)

named-back : (d : ℕ) (n : Nameless) → IsWhole d n → nameless (binders_at d) (named d n) ≡ n
named-back d (nameless_free x ty) h = refl
named-back d (nameless_bound i) h = name-at d i h
named-back d (nameless_loose x) h = absurd h
named-back d (nameless_constant c ts) h = refl
named-back d (nameless_application f a) h = λ i. nameless_application (named-back d f h.0 i) (named-back d a h.1 i)
named-back d (nameless_abstraction ty b) h = ap (nameless_abstraction ty) (named-back (suc d) b h)

pub nameless_of_named : (n : Nameless) → IsWhole 0 n → nameless [] (named 0 n) ≡ n
nameless_of_named n h = named-back 0 n h

abbrev names : List (Chars × TypeTree) → List Chars
names env = map (λ p. p.0) env

deeper-whole : (d : ℕ) (n : Nameless) → IsWhole d n → (i : ℕ) → n ≡ nameless_bound i → IsWhole (suc d) (deeper n)
deeper-whole d (nameless_bound j) h i e = omega arith
deeper-whole d n h i e = absurd (cc e)

-- a name that is found is an index
is_index : (env : List (Chars × TypeTree)) (x : Chars) (ty : TypeTree) → found x env ≡ Some ty
    → (i : ℕ) × (nameless_name (names env) x ≡ nameless_bound i) × (i < length env)
is_index [] x ty e = absurd (cc e)
is_index (p ∷ env) x ty e = elim (bool_cases (same_name x p.0)) [
  | inl h ↦ (0, name-hit p.0 (names env) x h, omega arith)
  | inr h ↦ let rest = is_index env x ty (sym (if-false (same_name x p.0) (Some p.1) (found x env) h) ∙ e) in
      (suc rest.0, name-miss p.0 (names env) x h ∙ ap deeper rest.1, omega (arith, rest.2))
]

whole : (sig : Signature) (env : List (Chars × TypeTree)) (t : TermTree) (ty : TypeTree) → HasType sig env t ty → IsWhole (length env) (nameless (names env) t)
whole sig env (free_variable x u) ty h = tt
whole sig env (bound_name x) ty h = let k = is_index env x ty h in subst (λ (n : Nameless). IsWhole (length env) n) (sym k.1) k.2
whole sig env (constant c ts) ty h = tt
whole sig env (application f a) ty h = (whole sig env f _ h.1, whole sig env a h.0 h.2)
whole sig env (abstraction x u b) ty h = whole sig ((x, u) ∷ env) b h.0 h.2

pub typed_is_whole : (sig : Signature) (t : TermTree) (ty : TypeTree) → HasType sig [] t ty → IsWhole 0 (nameless [] t)
typed_is_whole sig t ty h = whole sig [] t ty h
