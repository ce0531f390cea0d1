-- A step over indices is a step over named terms.
use Rattle.std.proofs.Common.{◌≡◌, inl, inr, ◌+◌, List, [], ◌∷◌, Bool, true, false, ◌||◌, if◌then◌else◌, is_some, Option, Some, None, refl, sym, ◌∙◌, ap, subst}
use Rattle.std.specs.Option.{option_map}
use Rattle.std.proofs.lemmas.Bool.{cases_Bool, true≢false}
use Rattle.lt_definitions.specs.Types.{Chars, same_name, TypeTree, fun, type_nodes}
use Rattle.lt_definitions.specs.Terms.{TermTree, free_variable, bound_name, constant, application, abstraction, term_nodes}
use Rattle.lt_definitions.specs.Typing.{Signature, HasType}
use Rattle.lt_definitions.specs.Binding.{opened, closed_over}
use Rattle.lt_nameless.specs.Nameless.{Nameless, nameless_free, nameless_bound, nameless_loose, nameless_constant, nameless_application, nameless_abstraction, nameless, nameless_name, deeper, IsWhole}
use Rattle.lt_nameless.specs.NamelessRules.{instance_at, abstracted}
use Rattle.lt_nameless.proofs.Alphas.{alpha-nameless}
use Rattle.lt_nameless.proofs.BindingLemmas.{opened-nameless, closed-nameless, free-nameless}
use Rattle.lt_nameless.proofs.ClosedForms.{typed_is_whole}
use Rattle.lt_nameless.proofs.Closings.{closings_are_alpha}
use Rattle.lt_nameless.proofs.NamelessTyping.{typed-scoped}
use Rattle.lt_nameless.proofs.TypeLaws.{opening_keeps_types, closing_keeps_types}
use Rattle.lt_transport_definitions.specs.Reduction.{has_redex, Steps, opens, in_head, in_argument, in_body, is_abstraction as is_lambda}
use Rattle.lt_reductions.specs.Reducts.{is_abstraction, in_parts, reduct, nodes}
use Rattle.lt_reductions.proofs.Putting.{put-instance}
use Rattle.lt_reductions.proofs.Reducing.{reduct-apart, reduct-closed}
use Rattle.lt_reductions.proofs.Placing.{opened-closed}

-- ---- a bound name

abbrev IsPlace : Nameless → Type 0
IsPlace (nameless_bound i) = Unit {0}
IsPlace (nameless_loose x) = Unit {0}
IsPlace _ = ⊥

deeper-place : (n : Nameless) → IsPlace n → IsPlace (deeper n)
deeper-place (nameless_bound i) h = tt
deeper-place (nameless_loose x) h = tt
deeper-place (nameless_free x ty) h = absurd h
deeper-place (nameless_constant c ts) h = absurd h
deeper-place (nameless_application f a) h = absurd h
deeper-place (nameless_abstraction ty b) h = absurd h

either-place : (b : Bool) (n : Nameless) → IsPlace n → IsPlace (if b then nameless_bound 0 else deeper n)
either-place true n h = tt
either-place false n h = deeper-place n h

name-place : (bs : List Chars) (x : Chars) → IsPlace (nameless_name bs x)
name-place [] x = tt
name-place (b ∷ bs) x = either-place (same_name x b) (nameless_name bs x) (name-place bs x)

place-facts : (n : Nameless) → IsPlace n → (is_abstraction n ≡ false) × (is_some (reduct n) ≡ false) × (nodes n ≡ 1)
place-facts (nameless_bound i) h = (refl, refl, refl)
place-facts (nameless_loose x) h = (refl, refl, refl)
place-facts (nameless_free x ty) h = absurd h
place-facts (nameless_constant c ts) h = absurd h
place-facts (nameless_application f a) h = absurd h
place-facts (nameless_abstraction ty b) h = absurd h

-- ---- forms, redexes and nodes of a term and its nameless form

lambda-same : (bs : List Chars) (t : TermTree) → is_abstraction (nameless bs t) ≡ is_lambda t
lambda-same bs (free_variable x ty) = refl
lambda-same bs (bound_name x) = (place-facts (nameless_name bs x) (name-place bs x)).0
lambda-same bs (constant c ts) = refl
lambda-same bs (application f a) = refl
lambda-same bs (abstraction x ty b) = refl

pub nodes-same : (bs : List Chars) (t : TermTree) → nodes (nameless bs t) ≡ term_nodes t
nodes-same bs (free_variable x ty) = refl
nodes-same bs (bound_name x) = (place-facts (nameless_name bs x) (name-place bs x)).2
nodes-same bs (constant c ts) = refl
nodes-same bs (application f a) = λ i. 1 + (nodes-same bs f i + nodes-same bs a i)
nodes-same bs (abstraction x ty b) = ap (λ n. 1 + (type_nodes ty + n)) (nodes-same (x ∷ bs) b)

parts-some : (f a : Nameless) (o p : Option Nameless) → is_some (in_parts f a o p) ≡ (is_some o || is_some p)
parts-some f a (Some g) p = refl
parts-some f a None (Some c) = refl
parts-some f a None None = refl

under-some : (ty : TypeTree) (o : Option Nameless) → is_some (option_map (nameless_abstraction ty) o) ≡ is_some o
under-some ty (Some b) = refl
under-some ty None = refl

pub redex-apart : (f a : TermTree) → is_lambda f ≡ false → has_redex (application f a) ≡ (has_redex f || has_redex a)
redex-apart (free_variable x ty) a e = refl
redex-apart (bound_name x) a e = refl
redex-apart (constant c ts) a e = refl
redex-apart (application f b) a e = refl
redex-apart (abstraction x ty b) a e = absurd (true≢false e)

at-redex : (bs : List Chars) (f a : TermTree) → is_lambda f ≡ true → is_some (reduct (nameless bs (application f a))) ≡ has_redex (application f a)
at-redex bs (abstraction x ty b) a e = refl
at-redex bs (free_variable x ty) a e = absurd (true≢false (sym e))
at-redex bs (bound_name x) a e = absurd (true≢false (sym e))
at-redex bs (constant c ts) a e = absurd (true≢false (sym e))
at-redex bs (application f b) a e = absurd (true≢false (sym e))

pub redex-same : (bs : List Chars) (t : TermTree) → is_some (reduct (nameless bs t)) ≡ has_redex t
redex-same bs (free_variable x ty) = refl
redex-same bs (bound_name x) = (place-facts (nameless_name bs x) (name-place bs x)).1
redex-same bs (constant c ts) = refl
redex-same bs (abstraction x ty b) = under-some ty (reduct (nameless (x ∷ bs) b)) ∙ redex-same (x ∷ bs) b
redex-same bs (application f a) = either (is_lambda f) refl (redex-same bs f) (redex-same bs a)
  where
    either : (b : Bool) → is_lambda f ≡ b → is_some (reduct (nameless bs f)) ≡ has_redex f → is_some (reduct (nameless bs a)) ≡ has_redex a
        → is_some (reduct (nameless bs (application f a))) ≡ has_redex (application f a)
    either true e h k = at-redex bs f a e
    either false e h k =
        ap is_some (reduct-apart (nameless bs f) (nameless bs a) (lambda-same bs f ∙ e))
        ∙ parts-some (nameless bs f) (nameless bs a) (reduct (nameless bs f)) (reduct (nameless bs a)) ∙ (λ i. h i || k i) ∙ sym (redex-apart f a e)

none-of : (o : Option Nameless) → is_some o ≡ false → o ≡ None
none-of (Some x) e = absurd (true≢false e)
none-of None e = refl

-- ---- steps

fun-parts : (a b c d : TypeTree) → fun a b ≡ fun c d → (a ≡ c) × (b ≡ d)
fun-parts a b c d e = (cc e, cc e)

-- a step keeps the type
pub steps-typed : (sig : Signature) (t u : TermTree) (ty : TypeTree) → HasType sig [] t ty → Steps t u → HasType sig [] u ty
steps-typed sig t u ty h (opens x v b a) =
    let lambda = h.1 in
    let same = fun-parts v lambda.0 h.0 ty lambda.3 in
    opening_keeps_types sig x v a b ty (subst (HasType sig [] a) (sym same.0) h.2) (subst (HasType sig ((x, v) ∷ []) b) same.1 lambda.2)
steps-typed sig t u ty h (in_head f g a e k) = (h.0, steps-typed sig f g (fun h.0 ty) h.1 k, h.2)
steps-typed sig t u ty h (in_argument f a c e m k) = (h.0, h.1, steps-typed sig a c h.0 h.2 k)
steps-typed sig t u ty h (in_body x v w b c closing n k cl) =
    let inner = steps-typed sig (opened x (free_variable v w) b) c h.0 (opening_keeps_types sig x w (free_variable v w) b h.0 (h.1, refl) h.2) k in
    subst (HasType sig [] closing) h.3 (closing_keeps_types sig v w c closing h.0 h.1 inner cl)

-- and is that over indices
pub steps-reduct : (sig : Signature) (t u : TermTree) (ty : TypeTree) → HasType sig [] t ty → Steps t u → reduct (nameless [] t) ≡ Some (nameless [] u)
steps-reduct sig t u ty h (opens x v b a) =
    let whole = typed_is_whole sig t ty h in
    ap (λ (n : Nameless). Some n) (put-instance 0 (nameless [] a) (nameless (x ∷ []) b) whole.1 whole.0
    ∙ sym (opened-nameless x a [] b (typed-scoped sig a h.0 h.2) refl))
steps-reduct sig t u ty h (in_head f g a e k) =
    reduct-apart (nameless [] f) (nameless [] a) (lambda-same [] f ∙ e)
    ∙ ap (λ o. in_parts (nameless [] f) (nameless [] a) o (reduct (nameless [] a))) (steps-reduct sig f g (fun h.0 ty) h.1 k)
steps-reduct sig t u ty h (in_argument f a c e m k) =
    reduct-apart (nameless [] f) (nameless [] a) (lambda-same [] f ∙ e)
    ∙ (λ i. in_parts (nameless [] f) (nameless [] a) (none-of (reduct (nameless [] f)) (redex-same [] f ∙ m) i) (steps-reduct sig a c h.0 h.2 k i))
steps-reduct sig t u ty h (in_body x v w b c closing n k cl) =
    let body : Nameless = nameless (x ∷ []) b in
    let whole : IsWhole 1 body = typed_is_whole sig t ty h in
    let at : Nameless = instance_at 0 (nameless_free v w) body in
    let opens-to : nameless [] (opened x (free_variable v w) b) ≡ at = opened-nameless x (free_variable v w) [] b (λ cs. refl) refl in
    let step : reduct at ≡ Some (nameless [] c) =
    ap reduct (sym opens-to) ∙ steps-reduct sig (opened x (free_variable v w) b) c h.0 (opening_keeps_types sig x w (free_variable v w) b h.0 (h.1, refl) h.2) k in
    let back : abstracted 0 v w at ≡ body = opened-closed 0 v w body (sym (free-nameless v w (x ∷ []) b) ∙ n) whole in
    let closes : nameless [] closing ≡ nameless_abstraction w (abstracted 0 v w (nameless [] c)) =
    alpha-nameless [] closing (closed_over v w c) (closings_are_alpha v w c closing cl) ∙ closed-nameless v w c in
    ap (λ m. option_map (nameless_abstraction w) (reduct m)) (sym back)
    ∙ ap (option_map (nameless_abstraction w)) (reduct-closed 0 v w at ∙ ap (option_map (abstracted 0 v w)) step)
    ∙ ap (λ (m : Nameless). Some m) (sym closes)

-- opening by a variable makes no redex
opened-lambda : (x v : Chars) (ty : TypeTree) (t : TermTree) → is_lambda (opened x (free_variable v ty) t) ≡ is_lambda t
opened-lambda x v ty (free_variable y u) = refl
opened-lambda x v ty (bound_name y) = either (same_name x y)
  where
    either : (b : Bool) → is_lambda (if b then free_variable v ty else bound_name y) ≡ false
    either true = refl
    either false = refl
opened-lambda x v ty (constant c ts) = refl
opened-lambda x v ty (application f a) = refl
opened-lambda x v ty (abstraction y u b) = refl

lambda-redex : (f a : TermTree) → is_lambda f ≡ true → has_redex (application f a) ≡ true
lambda-redex (abstraction x ty b) a e = refl
lambda-redex (free_variable x ty) a e = absurd (true≢false (sym e))
lambda-redex (bound_name x) a e = absurd (true≢false (sym e))
lambda-redex (constant c ts) a e = absurd (true≢false (sym e))
lambda-redex (application f b) a e = absurd (true≢false (sym e))

pub opened-redex : (x v : Chars) (ty : TypeTree) (t : TermTree) → has_redex (opened x (free_variable v ty) t) ≡ has_redex t
opened-redex x v ty (free_variable y u) = refl
opened-redex x v ty (bound_name y) = either (same_name x y)
  where
    either : (b : Bool) → has_redex (if b then free_variable v ty else bound_name y) ≡ false
    either true = refl
    either false = refl
opened-redex x v ty (constant c ts) = refl
opened-redex x v ty (application f a) = elim (cases_Bool (is_lambda f)) [
  | inl e ↦ lambda-redex (opened x (free_variable v ty) f) (opened x (free_variable v ty) a) (opened-lambda x v ty f ∙ e) ∙ sym (lambda-redex f a e)
  | inr e ↦ redex-apart (opened x (free_variable v ty) f) (opened x (free_variable v ty) a) (opened-lambda x v ty f ∙ e)
      ∙ (λ i. opened-redex x v ty f i || opened-redex x v ty a i) ∙ sym (redex-apart f a e)
]
opened-redex x v ty (abstraction y u b) = either (same_name x y) (opened-redex x v ty b)
  where
    either : (c : Bool) → has_redex (opened x (free_variable v ty) b) ≡ has_redex b → has_redex (if c then b else opened x (free_variable v ty) b) ≡ has_redex b
    either true e = refl
    either false e = e
