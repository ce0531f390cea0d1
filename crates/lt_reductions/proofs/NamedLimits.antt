-- The limits over indices are those over named terms.
use Rattle.std.proofs.Common.{◌≡◌, inl, inr, ℕ, zero, suc, ◌+◌, ◌<◌, ◌≤◌, [], length, replicate, max, Bool, true, false, ◌||◌, ◌&&◌, if◌then◌else◌, is_some, nat_lt, Option, Some, None, Result, Ok, Err, refl, sym, ◌∙◌, ap, subst, arith}
use Rattle.std.proofs.lemmas.Bool.{cases_Bool, true≢false, or_from}
use Rattle.std.proofs.lemmas.List.{length-replicate}
use Rattle.std.proofs.lemmas.Bool.Decides.{nat_tests}
use Rattle.lt_definitions.specs.Types.{Chars, same_name, same_type, TypeTree, fun}
use Rattle.lt_definitions.proofs.SameNames.{longer-differs}
use Rattle.lt_definitions.specs.Terms.{TermTree, free_variable, bound_name, constant, application, abstraction, has_free}
use Rattle.lt_definitions.specs.Typing.{Signature, HasType}
use Rattle.lt_definitions.specs.Binding.{opened, closed_over}
use Rattle.lt_nameless.specs.Nameless.{Nameless, nameless}
use Rattle.lt_nameless.proofs.Alphas.{alpha-nameless}
use Rattle.lt_nameless.proofs.AlphaLaws.{alpha_is_reflexive}
use Rattle.lt_nameless.proofs.Closings.{closing_is_one}
use Rattle.lt_nameless.proofs.TypeLaws.{opening_keeps_types}
use Rattle.lt_transport_definitions.specs.Reduction.{has_redex, is_abstraction, Steps, opens, in_head, in_argument, in_body, LeadsTo, PassesLimit, NonePassesBefore, IsNormLimit, IsNormalForm}
use Rattle.lt_reductions.specs.Reducts.{reduct, nodes, checked, normal_from, normal_form_of}
use Rattle.lt_reductions.proofs.NamedSteps.{nodes-same, redex-same, redex-apart, opened-redex, steps-typed, steps-reduct}

-- ---- steps in a row

abbrev after : Option Nameless → (Nameless → Option Nameless) → Option Nameless
after None f = None
after (Some n) f = f n

abbrev reducts : ℕ → Nameless → Option Nameless
reducts zero n = Some n
reducts (suc k) n = after (reduct n) (reducts k)

abbrev Chain : ℕ → TermTree → TermTree → Type 0
Chain zero t u = t ≡ u
Chain (suc k) t u = (v : TermTree) × Steps t v × Chain k v u

chain-more : (k : ℕ) (t u v : TermTree) → Chain k t u → Steps u v → Chain (suc k) t v
chain-more zero t u v c s = (v, subst (λ w. Steps w v) (sym c) s, refl)
chain-more (suc k) t u v c s = (c.0, c.1, chain-more k c.0 u v c.2 s)

chain-leads : (k : ℕ) (t u : TermTree) → Chain k t u → LeadsTo k t u
chain-leads zero t u c = subst (λ w. LeadsTo zero t w) c (alpha_is_reflexive t)
chain-leads (suc k) t u c = (c.0, c.1, chain-leads k c.0 u c.2)

leads-reducts : (sig : Signature) (k : ℕ) (t u : TermTree) (ty : TypeTree) → HasType sig [] t ty → LeadsTo k t u → reducts k (nameless [] t) ≡ Some (nameless [] u)
leads-reducts sig zero t u ty h l = ap (λ (n : Nameless). Some n) (alpha-nameless [] t u l)
leads-reducts sig (suc k) t u ty h l =
    ap (λ o. after o (reducts k)) (steps-reduct sig t l.0 ty h l.1) ∙ leads-reducts sig k l.0 u ty (steps-typed sig t l.0 ty h l.1) l.2

chain-typed : (sig : Signature) (k : ℕ) (t u : TermTree) (ty : TypeTree) → HasType sig [] t ty → Chain k t u → HasType sig [] u ty
chain-typed sig zero t u ty h c = subst (λ w. HasType sig [] w ty) c h
chain-typed sig (suc k) t u ty h c = chain-typed sig k c.0 u ty (steps-typed sig t c.0 ty h c.1) c.2

-- ---- a term with a redex takes a step

-- a variable that isn't in a term: its name is longer than each
abbrev reach : TermTree → ℕ
reach (free_variable y u) = length y
reach (bound_name y) = 0
reach (constant c ts) = 0
reach (application f a) = max (reach f) (reach a)
reach (abstraction y u b) = reach b

longer-absent : (x : Chars) (ty : TypeTree) (t : TermTree) → reach t < length x → has_free x ty t ≡ false
longer-absent x ty (free_variable y u) h = ap (λ b. b && same_type ty u) (longer-differs x y h)
longer-absent x ty (bound_name y) h = refl
longer-absent x ty (constant c ts) h = refl
longer-absent x ty (application f a) h = or_from (has_free x ty f) (has_free x ty a) (longer-absent x ty f (omega (arith, h))) (longer-absent x ty a (omega (arith, h)))
longer-absent x ty (abstraction y u b) h = longer-absent x ty b h

abbrev variable : TermTree → Chars
variable t = replicate (suc (reach t)) 120

variable-absent : (ty : TypeTree) (t : TermTree) → has_free (variable t) ty t ≡ false
variable-absent ty t = let l = length-replicate {A = ℕ} (suc (reach t)) 120 in longer-absent (variable t) ty t (omega (arith, l))

-- opening by a variable keeps what bounds the recursion
abbrev size : TermTree → ℕ
size (free_variable y u) = 1
size (bound_name y) = 1
size (constant c ts) = 1
size (application f a) = suc (size f + size a)
size (abstraction y u b) = suc (size b)

opened-size : (x v : Chars) (ty : TypeTree) (t : TermTree) → size (opened x (free_variable v ty) t) ≡ size t
opened-size x v ty (free_variable y u) = refl
opened-size x v ty (bound_name y) = either (same_name x y)
  where
    either : (b : Bool) → size (if b then free_variable v ty else bound_name y) ≡ 1
    either true = refl
    either false = refl
opened-size x v ty (constant c ts) = refl
opened-size x v ty (application f a) = λ i. suc (opened-size x v ty f i + opened-size x v ty a i)
opened-size x v ty (abstraction y u b) = ap suc (either (same_name x y) (opened-size x v ty b))
  where
    either : (c : Bool) → size (opened x (free_variable v ty) b) ≡ size b → size (if c then b else opened x (free_variable v ty) b) ≡ size b
    either true e = refl
    either false e = e

abbrev Step : TermTree → Type 0
Step t = (u : TermTree) × Steps t u

apart-step : (f a : TermTree) → is_abstraction f ≡ false → has_redex (application f a) ≡ true → (has_redex f ≡ true → Step f) → (has_redex a ≡ true → Step a) → Step (application f a)
apart-step f a e r first second = elim (cases_Bool (has_redex f)) [
  | inl h ↦ let s = first h in (application s.0 a, in_head f s.0 a e s.1)
  | inr h ↦ let s = second (sym (ap (λ b. b || has_redex a) h) ∙ sym (redex-apart f a e) ∙ r) in (application f s.0, in_argument f a s.0 e h s.1)
]

takes-step : (sig : Signature) (fuel : ℕ) (t : TermTree) (ty : TypeTree) → size t ≤ fuel → HasType sig [] t ty → has_redex t ≡ true → Step t
takes-step sig zero (free_variable x u) ty l h r = absurd (true≢false (sym r))
takes-step sig zero (bound_name x) ty l h r = absurd (true≢false (sym r))
takes-step sig zero (constant c ts) ty l h r = absurd (true≢false (sym r))
takes-step sig zero (application f a) ty l h r = absurd (omega (arith, l))
takes-step sig zero (abstraction x u b) ty l h r = absurd (omega (arith, l))
takes-step sig (suc n) (free_variable x u) ty l h r = absurd (true≢false (sym r))
takes-step sig (suc n) (bound_name x) ty l h r = absurd (true≢false (sym r))
takes-step sig (suc n) (constant c ts) ty l h r = absurd (true≢false (sym r))
takes-step sig (suc n) (abstraction x u b) ty l h r =
    let v = variable b in
    let same = opened-size x v u b in
    let s = takes-step sig n (opened x (free_variable v u) b) h.0 (omega (arith, l, same)) (opening_keeps_types sig x u (free_variable v u) b h.0 (h.1, refl) h.2) (opened-redex x v u b ∙ r) in
    (closed_over v u s.0, in_body x v u b s.0 (closed_over v u s.0) (variable-absent u b) s.1 (closing_is_one v u s.0))
takes-step sig (suc n) (application (abstraction x u b) a) ty l h r = (opened x a b, opens x u b a)
takes-step sig (suc n) (application (free_variable x u) a) ty l h r =
    apart-step (free_variable x u) a refl r (λ e. absurd (true≢false (sym e))) (λ e. takes-step sig n a h.0 (omega (arith, l)) h.2 e)
takes-step sig (suc n) (application (bound_name x) a) ty l h r =
    apart-step (bound_name x) a refl r (λ e. absurd (true≢false (sym e))) (λ e. takes-step sig n a h.0 (omega (arith, l)) h.2 e)
takes-step sig (suc n) (application (constant c ts) a) ty l h r =
    apart-step (constant c ts) a refl r (λ e. absurd (true≢false (sym e))) (λ e. takes-step sig n a h.0 (omega (arith, l)) h.2 e)
takes-step sig (suc n) (application (application g b) a) ty l h r =
    apart-step (application g b) a refl r (λ e. takes-step sig n (application g b) (fun h.0 ty) (omega (arith, l)) h.1 e) (λ e. takes-step sig n a h.0 (omega (arith, l)) h.2 e)

-- ---- the limits

some-same : (t u : Nameless) → Some t ≡ Some u → t ≡ u
some-same t u e = cc e

is-more : (a b : ℕ) → nat_lt a b ≡ true → a < b
is-more a b e = grind (arith, nat_tests)

not-more : (a b : ℕ) → nat_lt a b ≡ false → b ≤ a
not-more a b e = grind (arith, nat_tests)

-- what passes a limit after k steps
module _ (sig : Signature) (t0 : TermTree) (ty : TypeTree) (h0 : HasType sig [] t0 ty) where
  same-after : (k : ℕ) (t u : TermTree) → Chain k t0 t → LeadsTo k t0 u → nameless [] u ≡ nameless [] t
  same-after k t u c l = some-same (nameless [] u) (nameless [] t) (sym (leads-reducts sig k t0 u ty h0 l) ∙ leads-reducts sig k t0 t ty h0 (chain-leads k t0 t c))

  none-passes : (k : ℕ) (t : TermTree) → Chain k t0 t → nodes (nameless [] t) ≤ 65536 → (k ≡ 10000 → reduct (nameless [] t) ≡ None) → (u : TermTree) → LeadsTo k t0 u → PassesLimit k u → ⊥
  none-passes k t c few normal u l (inl large) =
      let e = sym (nodes-same [] u) ∙ ap nodes (same-after k t u c l) in omega (arith, e, few, large)
  none-passes k t c few normal u l (inr p) =
      let e = sym (redex-same [] u) ∙ ap (λ n. is_some (reduct n)) (same-after k t u c l) ∙ ap is_some (normal p.0) in true≢false (sym p.1 ∙ e)

  one-more : (k : ℕ) (t : TermTree) → NonePassesBefore k t0 → ((u : TermTree) → LeadsTo k t0 u → PassesLimit k u → ⊥) → NonePassesBefore (suc k) t0
  one-more k t before here j u l leads passes = elim (cases_Bool (nat_lt j k)) [
    | inl e ↦ before j u (is-less j k e) leads passes
    | inr e ↦ let same : j ≡ k = not-less j k e l in here u (subst (λ i. LeadsTo i t0 u) same leads) (subst (λ i. PassesLimit i u) same passes)
  ]
    where
      is-less : (j k : ℕ) → nat_lt j k ≡ true → j < k
      is-less j k e = grind (arith, nat_tests)

      not-less : (j k : ℕ) → nat_lt j k ≡ false → j < suc k → j ≡ k
      not-less j k e l = grind (arith, nat_tests)

  abbrev Ends : Result Nameless ℕ → Type 0
  Ends (Ok n) = (u : TermTree) × (nameless [] u ≡ n) × IsNormalForm t0 u
  Ends (Err k) = IsNormLimit t0 k

  module _ (k : ℕ) (t : TermTree) (c : Chain k t0 t) (before : NonePassesBefore k t0) where
    abbrev n : Nameless
    n = nameless [] t

    is-large : nat_lt 65536 (nodes n) ≡ true → IsNormLimit t0 k
    is-large e = (t, chain-leads k t0 t c, inl (let l = is-more 65536 (nodes n) e in let s = nodes-same [] t in omega (arith, l, s)), before)

    is-few : nat_lt 65536 (nodes n) ≡ false → nodes n ≤ 65536
    is-few e = not-more 65536 (nodes n) e

    is-normal : nat_lt 65536 (nodes n) ≡ false → reduct n ≡ None → IsNormalForm t0 t
    is-normal e d = (
      k,
      chain-leads k t0 t c,
      sym (redex-same [] t) ∙ ap is_some d,
      none-passes k t c (is-few e) (λ q. d) t (chain-leads k t0 t c),
      before,
    )

    has-step : (m : Nameless) → reduct n ≡ Some m → has_redex t ≡ true
    has-step m d = sym (redex-same [] t) ∙ ap is_some d

    is-last : k ≡ 10000 → (m : Nameless) → reduct n ≡ Some m → IsNormLimit t0 k
    is-last q m d = (t, chain-leads k t0 t c, inr (q, has-step m d), before)

    at-last : k ≡ 10000 → (b : Bool) (o : Option Nameless) → nat_lt 65536 (nodes n) ≡ b → reduct n ≡ o → Ends (checked b k n o (λ u. Err k))
    at-last q true o e d = is-large e
    at-last q false None e d = (t, refl, is-normal e d)
    at-last q false (Some m) e d = is-last q m d

    goes-on : (l : ℕ) → suc l + k ≡ 10000
        → ((v : TermTree) → Steps t v → NonePassesBefore (suc k) t0 → Ends (normal_from nodes l 65536 (suc k) (nameless [] v)))
        → (b : Bool) (o : Option Nameless) → nat_lt 65536 (nodes n) ≡ b → reduct n ≡ o → Ends (checked b k n o (λ u. normal_from nodes l 65536 (suc k) u))
    goes-on l q on true o e d = is-large e
    goes-on l q on false None e d = (t, refl, is-normal e d)
    goes-on l q on false (Some m) e d =
        let h = chain-typed sig k t0 t ty h0 c in
        let s = takes-step sig (size t) t ty (omega arith) h (has-step m d) in
        let same : nameless [] s.0 ≡ m = some-same (nameless [] s.0) m (sym (steps-reduct sig t s.0 ty h s.1) ∙ d) in
        subst (λ (u : Nameless). Ends (normal_from nodes l 65536 (suc k) u)) same
        (on s.0 s.1 (one-more k t before (none-passes k t c (is-few e) (λ q2. absurd (omega (arith, q, q2))))))

  ends : (left k : ℕ) (t : TermTree) → left + k ≡ 10000 → (c : Chain k t0 t) → NonePassesBefore k t0 → Ends (normal_from nodes left 65536 k (nameless [] t))
  ends zero k t e c before = at-last k t c before (omega (arith, e)) (nat_lt 65536 (nodes (nameless [] t))) (reduct (nameless [] t)) refl refl
  ends (suc l) k t e c before =
      goes-on k t c before l e (λ v s b. ends l (suc k) v (omega (arith, e)) (chain-more k t0 t v c s) b)
      (nat_lt 65536 (nodes (nameless [] t))) (reduct (nameless [] t)) refl refl

  none-yet : NonePassesBefore 0 t0
  none-yet j u l leads passes = absurd (omega (arith, l))

  -- the limits over indices
  pub limits-named : Ends (normal_form_of (nameless [] t0))
  unfolding normal_form_of
  limits-named = ends 10000 0 t0 refl refl none-yet

  pub normal-named : (m : Nameless) → normal_form_of (nameless [] t0) ≡ Ok m → (u : TermTree) × (nameless [] u ≡ m) × IsNormalForm t0 u
  normal-named m e = subst Ends e limits-named

  pub limit-named : (k : ℕ) → normal_form_of (nameless [] t0) ≡ Err k → IsNormLimit t0 k
  limit-named k e = subst Ends e limits-named
