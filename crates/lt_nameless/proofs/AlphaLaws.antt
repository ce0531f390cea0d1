-- Alpha equality is an equivalence, and is kept by opening, closing, replacing and type instances.
use Rattle.std.proofs.Common.{◌≡◌, inl, inr, List, [], ◌∷◌, ◌++◌, Bool, true, false, ◌&&◌, ◌||◌, not, refl, sym, ◌∙◌, ap, append_assoc, append-nil}
use Rattle.std.proofs.lemmas.Bool.{and_right}
use Rattle.lt_definitions.specs.Types.{Chars, same_name, has_name, TypeTree, TypeMap}
use Rattle.lt_definitions.specs.Terms.{TermTree, free_variable, bound_name, constant, application, abstraction, has_free, has_loose, term_instance}
use Rattle.lt_definitions.specs.Alpha.{AreAlpha}
use Rattle.lt_definitions.specs.Binding.{opened, replaced, Closes, closed_over}
use Rattle.lt_nameless.specs.Nameless.{Nameless, nameless_bound, nameless_loose, nameless_application, nameless_abstraction, deeper, nameless_name, nameless}
use Rattle.lt_nameless.specs.NamelessRules.{instance_at, abstracted, nameless_replaced, nameless_instance, nameless_has_free}
use Rattle.lt_definitions.proofs.SameNames.{bool_cases, name-true, name-false, false-name}
use Rattle.lt_nameless.proofs.Alphas.{name-hit, name-miss, alpha-nameless, nameless-alpha}
use Rattle.lt_nameless.proofs.BindingLemmas.{IsScoped, opened-nameless, closed-nameless, replaced-nameless, instance-nameless, free-nameless, not-loose}
use Rattle.lt_nameless.proofs.Closings.{closings_are_alpha}

pub alpha_is_reflexive : (t : TermTree) → AreAlpha [] t t
alpha_is_reflexive t = nameless-alpha [] t t refl

pub alpha_is_symmetric : (s t : TermTree) → AreAlpha [] s t → AreAlpha [] t s
alpha_is_symmetric s t h = nameless-alpha [] t s (sym (alpha-nameless [] s t h))

pub alpha_is_transitive : (r s t : TermTree) → AreAlpha [] r s → AreAlpha [] s t → AreAlpha [] r t
alpha_is_transitive r s t h k = nameless-alpha [] r t (alpha-nameless [] r s h ∙ alpha-nameless [] s t k)

pub alpha_keeps_free_variables : (s t : TermTree) (x : Chars) (ty : TypeTree) → AreAlpha [] s t → has_free x ty s ≡ has_free x ty t
alpha_keeps_free_variables s t x ty h = free-nameless x ty [] s ∙ ap (nameless_has_free x ty) (alpha-nameless [] s t h) ∙ sym (free-nameless x ty [] t)

-- loose names

abbrev is_loose : Chars → Nameless → Bool
is_loose x (nameless_loose y) = same_name x y
is_loose x (nameless_application f a) = is_loose x f || is_loose x a
is_loose x (nameless_abstraction u b) = is_loose x b
is_loose x _ = false

deeper-loose : (x : Chars) (n : Nameless) → is_loose x (deeper n) ≡ is_loose x n
deeper-loose x (nameless_bound i) = refl
deeper-loose x n = refl

-- a bound name is loose where no binder has it
name-loose : (x : Chars) (bs : List Chars) (y : Chars) → is_loose x (nameless_name bs y) ≡ (not (has_name x bs) && same_name x y)
name-loose x [] y = refl
name-loose x (b ∷ bs) y = elim (bool_cases (same_name y b)) [
  | inl h ↦ ap (is_loose x) (name-hit b bs y h) ∙ sym (elim (bool_cases (same_name x b)) [
    | inl k ↦ ap (λ v. not (v || has_name x bs) && same_name x y) k
    | inr k ↦ ap (λ v. not (v || has_name x bs) && same_name x y) k
        ∙ ap (λ v. not (has_name x bs) && v) (false-name x y (λ q. name-false x b k (q ∙ name-true y b h)))
        ∙ and_right (not (has_name x bs)) false refl
  ])
  | inr h ↦ ap (is_loose x) (name-miss b bs y h) ∙ deeper-loose x (nameless_name bs y) ∙ name-loose x bs y ∙ sym (elim (bool_cases (same_name x b)) [
    | inl k ↦ ap (λ v. not (v || has_name x bs) && same_name x y) k
        ∙ sym (ap (λ v. not (has_name x bs) && v) (false-name x y (λ q. name-false y b h (sym q ∙ name-true x b k))) ∙ and_right (not (has_name x bs)) false refl)
    | inr k ↦ ap (λ v. not (v || has_name x bs) && same_name x y) k
  ])
]

and-either : (a b c : Bool) → (a && (b || c)) ≡ ((a && b) || (a && c))
and-either true b c = refl
and-either false b c = refl

and-neither : (a b c : Bool) → (not (a || b) && c) ≡ (not b && (not a && c))
and-neither true true c = refl
and-neither true false c = refl
and-neither false true c = refl
and-neither false false c = refl

loose-places : (x : Chars) (bs : List Chars) (t : TermTree) → is_loose x (nameless bs t) ≡ (not (has_name x bs) && has_loose x t)
loose-places x bs (free_variable y u) = sym (and_right (not (has_name x bs)) false refl)
loose-places x bs (bound_name y) = name-loose x bs y
loose-places x bs (constant c ts) = sym (and_right (not (has_name x bs)) false refl)
loose-places x bs (application f a) =
    (λ i. loose-places x bs f i || loose-places x bs a i) ∙ sym (and-either (not (has_name x bs)) (has_loose x f) (has_loose x a))
loose-places x bs (abstraction y u b) = loose-places x (y ∷ bs) b ∙ and-neither (same_name x y) (has_name x bs) (has_loose x b)

pub alpha_keeps_loose_names : (s t : TermTree) (x : Chars) → AreAlpha [] s t → has_loose x s ≡ has_loose x t
alpha_keeps_loose_names s t x h = sym (loose-places x [] s) ∙ ap (is_loose x) (alpha-nameless [] s t h) ∙ loose-places x [] t

-- a term without loose names is the same under all binders

scoped-from : (t : TermTree) → ((x : Chars) → has_loose x t ≡ false) → (bs cs : List Chars) → nameless (bs ++ cs) t ≡ nameless bs t
scoped-from t h bs [] = ap (λ (ns : List Chars). nameless ns t) (append-nil bs)
scoped-from t h bs (c ∷ cs) =
    ap (λ (ns : List Chars). nameless ns t) (sym (append_assoc bs (c ∷ []) cs)) ∙ scoped-from t h (bs ++ c ∷ []) cs ∙ not-loose c bs t (h c)

pub scoped : (t : TermTree) → ((x : Chars) → has_loose x t ≡ false) → IsScoped t
scoped t h cs = scoped-from t h [] cs

-- the operations

pub alpha_kept_by_opening : (x y : Chars) (ty u : TypeTree) (b c by also : TermTree) → AreAlpha [] (abstraction x ty b) (abstraction y u c) → AreAlpha [] by also
    → ((z : Chars) → has_loose z by ≡ false) → AreAlpha [] (opened x by b) (opened y also c)
alpha_kept_by_opening x y ty u b c by also h k l =
    let m : (z : Chars) → has_loose z also ≡ false = λ z. sym (alpha_keeps_loose_names by also z k) ∙ l z in
    let inner : nameless (x ∷ []) b ≡ nameless (y ∷ []) c = alpha-nameless ((x, y) ∷ []) b c h.1 in
    nameless-alpha [] (opened x by b) (opened y also c)
    (opened-nameless x by [] b (scoped by l) refl
    ∙ (λ i. instance_at 0 (alpha-nameless [] by also k i) (inner i))
    ∙ sym (opened-nameless y also [] c (scoped also m) refl))

pub alpha_kept_by_closing : (x : Chars) (ty : TypeTree) (s t c d : TermTree) → AreAlpha [] s t → Closes x ty s c → Closes x ty t d → AreAlpha [] c d
alpha_kept_by_closing x ty s t c d h k l =
    let same : AreAlpha [] (closed_over x ty s) (closed_over x ty t) = nameless-alpha [] (closed_over x ty s) (closed_over x ty t)
    (closed-nameless x ty s ∙ ap (λ n. nameless_abstraction ty (abstracted 0 x ty n)) (alpha-nameless [] s t h) ∙ sym (closed-nameless x ty t)) in
    alpha_is_transitive c (closed_over x ty s) d (closings_are_alpha x ty s c k)
    (alpha_is_transitive (closed_over x ty s) (closed_over x ty t) d same (alpha_is_symmetric d (closed_over x ty t) (closings_are_alpha x ty t d l)))

pub alpha_kept_by_replacing : (x : Chars) (ty : TypeTree) (s t by also : TermTree) → AreAlpha [] s t → AreAlpha [] by also
    → ((z : Chars) → has_loose z by ≡ false) → AreAlpha [] (replaced x ty by s) (replaced x ty also t)
alpha_kept_by_replacing x ty s t by also h k l =
    let m : (z : Chars) → has_loose z also ≡ false = λ z. sym (alpha_keeps_loose_names by also z k) ∙ l z in
    nameless-alpha [] (replaced x ty by s) (replaced x ty also t)
    (replaced-nameless x ty by [] s (scoped by l)
    ∙ (λ i. nameless_replaced x ty (alpha-nameless [] by also k i) (alpha-nameless [] s t h i))
    ∙ sym (replaced-nameless x ty also [] t (scoped also m)))

pub alpha_kept_by_instances : (m : TypeMap) (s t : TermTree) → AreAlpha [] s t → AreAlpha [] (term_instance m s) (term_instance m t)
alpha_kept_by_instances m s t h = nameless-alpha [] (term_instance m s) (term_instance m t)
    (instance-nameless m [] s ∙ ap (nameless_instance m) (alpha-nameless [] s t h) ∙ sym (instance-nameless m [] t))
