-- Types, sequents and parts of terms, and the same of their nameless forms.
use Rattle.std.proofs.Common.{◌≡◌, inl, inr, ℕ, zero, suc, List, [], ◌∷◌, ◌++◌, Bool, true, false, ◌&&◌, ◌||◌, not, if◌then◌else◌, map, slice_get, Option, Some, None, Ok, codes, refl, sym, ◌∙◌, ap, subst}
use Rattle.std.specs.List.{list_any}
use Rattle.std.specs.Result.{result_unwrap_or}
use Rattle.std.proofs.lemmas.List.{map-append}
use Rattle.lt_definitions.specs.Types.{Chars, same_name, found, TypeTree, TypeMap, bool, fun}
use Rattle.lt_definitions.specs.Terms.{TermTree, free_variable, bound_name, constant, application, abstraction, has_free, has_loose, term_instance}
use Rattle.lt_definitions.specs.Typing.{Signature, type_fault, with_ok, unless, bound_type, applied_type, is_of_type, has_type, typed, HasType}
use Rattle.lt_definitions.specs.Alpha.{is_alpha}
use Rattle.lt_definitions.specs.Binding.{replaced}
use Rattle.lt_definitions.specs.Rules.{Sequent, has_term, union, without, line_at, as_equation, as_implication, as_forall, at_argument, beta_of, eta_of, type_of, selection}
use Rattle.lt_definitions.specs.Derivations.{term_fault}
use Rattle.lt_nameless.specs.Nameless.{Nameless, nameless_bound, nameless_loose, nameless_application, nameless_abstraction, deeper, nameless_name, nameless, nameless_sequent}
use Rattle.lt_nameless.specs.NamelessRules.{nameless_replaced, nameless_instance, nameless_has_free, has_index, same_nameless, nameless_typed, nameless_has_type, nameless_type_of, nameless_as_equation, nameless_as_implication, nameless_as_forall, nameless_at, nameless_beta, nameless_eta, nameless_union, nameless_without, nameless_selection, nameless_statements}
use Rattle.lt_definitions.proofs.SameNames.{true-false, bool_cases, name-true, true-name, name-false, false-name}
use Rattle.lt_nameless.proofs.Alphas.{name-hit, name-miss, IsPlace, place, alpha-nameless, nameless-alpha, alpha-is, is-alpha as alpha-tested}
use Rattle.lt_nameless.proofs.Typings.{typed-has}
use Rattle.lt_nameless.proofs.BindingLemmas.{if-true, if-false, IsScoped, opened-nameless, replaced-nameless, instance-nameless, free-nameless, loose-nameless, not-loose}
use Rattle.lt_definitions.proofs.TypingLemmas.{typed-some}
use Rattle.lt_nameless.proofs.SameForms.{same-is, same-refl}

abbrev names : List (Chars × TypeTree) → List Chars
names env = map (λ p. p.0) env

abbrev types : List (Chars × TypeTree) → List TypeTree
types env = map (λ p. p.1) env

-- typing

deeper-typed : (sig : Signature) (ty : TypeTree) (tys : List TypeTree) (n : Nameless) → IsPlace n → nameless_typed sig (ty ∷ tys) (deeper n) ≡ nameless_typed sig tys n
deeper-typed sig ty tys (nameless_bound i) h = refl
deeper-typed sig ty tys (nameless_loose x) h = refl
deeper-typed sig ty tys n h = absurd h

name-typed : (sig : Signature) (env : List (Chars × TypeTree)) (x : Chars) → bound_type x (found x env) ≡ nameless_typed sig (types env) (nameless_name (names env) x)
name-typed sig [] x = refl
name-typed sig (p ∷ env) x = elim (bool_cases (same_name x p.0)) [
  | inl h ↦ ap (bound_type x) (if-true (same_name x p.0) (Some p.1) (found x env) h)
      ∙ sym (ap (nameless_typed sig (types (p ∷ env))) (name-hit p.0 (names env) x h))
  | inr h ↦ ap (bound_type x) (if-false (same_name x p.0) (Some p.1) (found x env) h) ∙ name-typed sig env x
      ∙ sym (deeper-typed sig p.1 (types env) (nameless_name (names env) x) (place (names env) x))
      ∙ sym (ap (nameless_typed sig (types (p ∷ env))) (name-miss p.0 (names env) x h))
]

pub typed-nameless : (sig : Signature) (env : List (Chars × TypeTree)) (t : TermTree) → typed sig env t ≡ nameless_typed sig (types env) (nameless (names env) t)
typed-nameless sig env (free_variable x u) = refl
typed-nameless sig env (bound_name x) = name-typed sig env x
typed-nameless sig env (constant c ts) = refl
typed-nameless sig env (application f a) = λ i. with_ok (typed-nameless sig env f i) (λ t. with_ok (typed-nameless sig env a i) (λ u. applied_type t u))
typed-nameless sig env (abstraction x u b) = λ i. unless (type_fault sig u) (with_ok (typed-nameless sig ((x, u) ∷ env) b i) (λ v. Ok (fun u v)))

name-scoped : (env : List (Chars × TypeTree)) (cs : List Chars) (x : Chars) (ty : TypeTree) → found x env ≡ Some ty → nameless_name (names env ++ cs) x ≡ nameless_name (names env) x
name-scoped [] cs x ty e = absurd (cc e)
name-scoped (p ∷ env) cs x ty e = elim (bool_cases (same_name x p.0)) [
  | inl h ↦ name-hit p.0 (names env ++ cs) x h ∙ sym (name-hit p.0 (names env) x h)
  | inr h ↦ name-miss p.0 (names env ++ cs) x h ∙ ap deeper (name-scoped env cs x ty (sym (if-false (same_name x p.0) (Some p.1) (found x env) h) ∙ e))
      ∙ sym (name-miss p.0 (names env) x h)
]

has-scoped : (sig : Signature) (env : List (Chars × TypeTree)) (cs : List Chars) (t : TermTree) (ty : TypeTree) → HasType sig env t ty
    → nameless (names env ++ cs) t ≡ nameless (names env) t
has-scoped sig env cs (free_variable x u) ty h = refl
has-scoped sig env cs (bound_name x) ty h = name-scoped env cs x ty h
has-scoped sig env cs (constant c ts) ty h = refl
has-scoped sig env cs (application f a) ty h =
    λ i. nameless_application (has-scoped sig env cs f (fun h.0 ty) h.1 i) (has-scoped sig env cs a h.0 h.2 i)
has-scoped sig env cs (abstraction x u b) ty h = ap (nameless_abstraction u) (has-scoped sig ((x, u) ∷ env) cs b h.0 h.2)

pub typed-scoped : (sig : Signature) (t : TermTree) (ty : TypeTree) → HasType sig [] t ty → IsScoped t
typed-scoped sig t ty h cs = has-scoped sig [] cs t ty h

pub typed-of : (sig : Signature) (t : TermTree) → term_fault sig t ≡ None → (ty : TypeTree) × HasType sig [] t ty
typed-of sig t e = let h = typed-some (typed sig [] t) e in (h.0, typed-has sig [] t h.0 h.1)

pub scoped-of : (sig : Signature) (t : TermTree) → term_fault sig t ≡ None → IsScoped t
scoped-of sig t e = let h = typed-of sig t e in typed-scoped sig t h.0 h.1

pub has_type-nameless : (sig : Signature) (t : TermTree) (ty : TypeTree) → has_type sig t ty ≡ nameless_has_type sig (nameless [] t) ty
has_type-nameless sig t ty = ap (is_of_type ty) (typed-nameless sig [] t)

pub type_of-nameless : (sig : Signature) (t : TermTree) → type_of sig t ≡ nameless_type_of sig (nameless [] t)
type_of-nameless sig t = ap (λ r. result_unwrap_or r bool) (typed-nameless sig [] t)

-- alpha equality

both_ways : (a b : Bool) → (a ≡ true → b ≡ true) → (b ≡ true → a ≡ true) → a ≡ b
both_ways true b f g = sym (f refl)
both_ways false true f g = g refl
both_ways false false f g = refl

pub alpha-same : (s t : TermTree) → is_alpha s t ≡ same_nameless (nameless [] s) (nameless [] t)
alpha-same s t = both_ways (is_alpha s t) (same_nameless (nameless [] s) (nameless [] t))
    (λ e. let p = alpha-nameless [] s t (alpha-is [] s t e) in
    subst (λ (n : Nameless). same_nameless (nameless [] s) n ≡ true) p (same-refl (nameless [] s)))
    (λ e. alpha-tested [] s t (nameless-alpha [] s t (same-is (nameless [] s) (nameless [] t) e)))

-- lists of hypotheses

abbrev pub all_nameless : List TermTree → List Nameless
all_nameless hs = map (nameless []) hs

has-nameless : (k : TermTree) (hs : List TermTree) → has_term k hs ≡ list_any (same_nameless (nameless [] k)) (all_nameless hs)
has-nameless k [] = refl
has-nameless k (h ∷ hs) = λ i. alpha-same k h i || has-nameless k hs i

either-nameless : (b c : Bool) (k : TermTree) (hs : List TermTree) → b ≡ c
    → all_nameless (if b then hs else hs ++ k ∷ []) ≡ (if c then all_nameless hs else all_nameless hs ++ nameless [] k ∷ [])
either-nameless true true k hs e = refl
either-nameless false false k hs e = map-append (nameless []) hs (k ∷ [])
either-nameless true false k hs e = absurd (true-false e)
either-nameless false true k hs e = absurd (true-false (sym e))

pub union-nameless : (hs ks : List TermTree) → all_nameless (union hs ks) ≡ nameless_union (all_nameless hs) (all_nameless ks)
union-nameless hs [] = refl
union-nameless hs (k ∷ ks) =
    union-nameless (if has_term k hs then hs else hs ++ k ∷ []) ks
    ∙ ap (λ gs. nameless_union gs (all_nameless ks)) (either-nameless (has_term k hs) (list_any (same_nameless (nameless [] k)) (all_nameless hs)) k hs (has-nameless k hs))

pub without-nameless : (p : TermTree) (hs : List TermTree) → all_nameless (without p hs) ≡ nameless_without (nameless [] p) (all_nameless hs)
without-nameless p [] = refl
without-nameless p (h ∷ hs) = elim (bool_cases (is_alpha p h)) [
  | inl e ↦ ap all_nameless (ap (λ v. if not v then h ∷ without p hs else without p hs) e) ∙ without-nameless p hs
      ∙ sym (ap (λ v. if not v then nameless [] h ∷ nameless_without (nameless [] p) (all_nameless hs) else nameless_without (nameless [] p) (all_nameless hs)) (sym (alpha-same p h) ∙ e))
  | inr e ↦ ap all_nameless (ap (λ v. if not v then h ∷ without p hs else without p hs) e) ∙ ap (λ gs. nameless [] h ∷ gs) (without-nameless p hs)
      ∙ sym (ap (λ v. if not v then nameless [] h ∷ nameless_without (nameless [] p) (all_nameless hs) else nameless_without (nameless [] p) (all_nameless hs)) (sym (alpha-same p h) ∙ e))
]

pub free-in : (x : Chars) (ty : TypeTree) (hs : List TermTree) → list_any (has_free x ty) hs ≡ list_any (nameless_has_free x ty) (all_nameless hs)
free-in x ty [] = refl
free-in x ty (h ∷ hs) = λ i. free-nameless x ty [] h i || free-in x ty hs i

pub replaced-in : (x : Chars) (ty : TypeTree) (t : TermTree) (hs : List TermTree) → IsScoped t
    → all_nameless (map (replaced x ty t) hs) ≡ map (nameless_replaced x ty (nameless [] t)) (all_nameless hs)
replaced-in x ty t [] s = refl
replaced-in x ty t (h ∷ hs) s = λ i. replaced-nameless x ty t [] h s i ∷ replaced-in x ty t hs s i

pub instance-in : (m : TypeMap) (hs : List TermTree) → all_nameless (map (term_instance m) hs) ≡ map (nameless_instance m) (all_nameless hs)
instance-in m [] = refl
instance-in m (h ∷ hs) = λ i. instance-nameless m [] h i ∷ instance-in m hs i

-- parts of terms

abbrev pub in_option : {A B : Type 0} → (A → B) → Option A → Option B
in_option g None = None
in_option g (Some x) = Some (g x)

slice_get-map : {A B : Type 0} (g : A → B) (xs : List A) (k : ℕ) → in_option g (slice_get xs k) ≡ slice_get (map g xs) k
slice_get-map g [] k = refl
slice_get-map g (x ∷ xs) zero = refl
slice_get-map g (x ∷ xs) (suc k) = slice_get-map g xs k

pub line-nameless : (done : List Sequent) (i : ℕ) → in_option nameless_sequent (line_at done i) ≡ line_at (map nameless_sequent done) i
line-nameless done zero = refl
line-nameless done (suc k) = slice_get-map nameless_sequent done k

pub found-nameless : (l : Chars) (named : List (Chars × TermTree)) → in_option (nameless []) (found l named) ≡ found l (nameless_statements named)
found-nameless l [] = refl
found-nameless l (p ∷ named) = elim (bool_cases (same_name l p.0)) [
  | inl h ↦ ap (in_option (nameless [])) (if-true (same_name l p.0) (Some p.1) (found l named) h)
      ∙ sym (if-true (same_name l p.0) (Some (nameless [] p.1)) (found l (nameless_statements named)) h)
  | inr h ↦ ap (in_option (nameless [])) (if-false (same_name l p.0) (Some p.1) (found l named) h) ∙ found-nameless l named
      ∙ sym (if-false (same_name l p.0) (Some (nameless [] p.1)) (found l (nameless_statements named)) h)
]

abbrev pub sides : TypeTree × TermTree × TermTree → TypeTree × Nameless × Nameless
sides e = (e.0, nameless [] e.1, nameless [] e.2)

abbrev pub both_sides : TermTree × TermTree → Nameless × Nameless
both_sides e = (nameless [] e.0, nameless [] e.1)

abbrev pub typed_side : TypeTree × TermTree → TypeTree × Nameless
typed_side e = (e.0, nameless [] e.1)

option-if : {A B : Type 0} (g : A → B) (b : Bool) (x : A) → in_option g (if b then Some x else None) ≡ (if b then Some (g x) else None)
option-if g true x = refl
option-if g false x = refl

pub equation-nameless : (t : TermTree) → in_option sides (as_equation t) ≡ nameless_as_equation (nameless [] t)
equation-nameless (application (application (constant c (ty ∷ [])) s) t) = option-if sides (same_name c (codes "eq")) (ty, s, t)
equation-nameless t = refl

pub implication-nameless : (t : TermTree) → in_option both_sides (as_implication t) ≡ nameless_as_implication (nameless [] t)
implication-nameless (application (application (constant c []) p) q) = option-if both_sides (same_name c (codes "imp")) (p, q)
implication-nameless t = refl

pub forall-nameless : (t : TermTree) → in_option typed_side (as_forall t) ≡ nameless_as_forall (nameless [] t)
forall-nameless (application (constant c (ty ∷ [])) p) = option-if typed_side (same_name c (codes "all")) (ty, p)
forall-nameless t = refl

pub at-nameless : (p t : TermTree) → IsScoped t → nameless [] (at_argument p t) ≡ nameless_at (nameless [] p) (nameless [] t)
at-nameless (abstraction x u b) t s = opened-nameless x t [] b s refl
at-nameless p t s = refl

pub beta-nameless : (sig : Signature) (t : TermTree) (ty : TypeTree) → HasType sig [] t ty → in_option (nameless []) (beta_of t) ≡ nameless_beta (nameless [] t)
beta-nameless sig (application (abstraction x u b) a) ty h = ap Some (opened-nameless x a [] b (typed-scoped sig a h.0 h.2) refl)
beta-nameless sig t ty h = refl

eta-case : (x : Chars) (f : TermTree) (b c : Bool) → b ≡ c → has_loose x f ≡ b
    → in_option (nameless []) (if not b then Some f else None) ≡ (if not c then Some (nameless (x ∷ []) f) else None)
eta-case x f true true e h = refl
eta-case x f false false e h = ap Some (sym (not-loose x [] f h))
eta-case x f true false e h = absurd (true-false e)
eta-case x f false true e h = absurd (true-false (sym e))

no_eta : (x : Chars) (u : TypeTree) (n : Nameless) → IsPlace n → nameless_eta (nameless_abstraction u n) ≡ None
no_eta x u (nameless_bound i) h = refl
no_eta x u (nameless_loose y) h = refl
no_eta x u n h = absurd h

pub eta-nameless : (t : TermTree) → in_option (nameless []) (eta_of t) ≡ nameless_eta (nameless [] t)
eta-nameless (abstraction x u (application f (bound_name y))) = elim (bool_cases (same_name x y)) [
  | inl h ↦ ap (λ v. in_option (nameless []) (if v && not (has_loose x f) then Some f else None)) h
      ∙ eta-case x f (has_loose x f) (has_index 0 (nameless (x ∷ []) f)) (loose-nameless x [] f refl) refl
      ∙ sym (ap (λ n. nameless_eta (nameless_abstraction u (nameless_application (nameless (x ∷ []) f) n))) (name-hit x [] y (true-name y x (sym (name-true x y h)))))
  | inr h ↦ ap (λ v. in_option (nameless []) (if v && not (has_loose x f) then Some f else None)) h
      ∙ sym (ap (λ n. nameless_eta (nameless_abstraction u (nameless_application (nameless (x ∷ []) f) n)))
      (name-miss x [] y (false-name y x (λ q. name-false x y h (sym q)))))
]
eta-nameless (abstraction x u (bound_name y)) = sym (no_eta x u (nameless_name (x ∷ []) y) (place (x ∷ []) y))
eta-nameless t = refl

pub selection-nameless : (ty : TypeTree) (p : TermTree) → IsScoped p → nameless [] (selection ty p) ≡ nameless_selection ty (nameless [] p)
selection-nameless ty p s = ap (nameless_selection ty) (s (codes "x" ∷ []))
