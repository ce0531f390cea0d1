-- What a rule gives from boolean sequents is a boolean sequent.
use Rattle.std.proofs.Common.{◌≡◌, ℕ, zero, suc, List, [], ◌∷◌, ◌++◌, Bool, true, false, ◌&&◌, not, if◌then◌else◌, map, slice_get, Option, Some, None, Result, Ok, Err, codes, refl, sym, ◌∙◌, ap, subst, arith}
use Rattle.std.specs.List.{All, list_any}
use Rattle.std.specs.Result.{result_ok, result_unwrap_or}
use Rattle.std.proofs.lemmas.Bool.{not-true}
use Rattle.lt_definitions.specs.Items.{Item, empty, context_of}
use Rattle.lt_definitions.specs.Types.{Chars, same_name, found, TypeTree, TypeMap, type_variable, type_constructor, no_types, type_and, bool, fun, row, same_type}
use Rattle.lt_definitions.specs.Terms.{TermTree, bound_name, constant, application, abstraction, equation, implies, for_all, some_of, falsity, has_free, has_loose, term_instance}
use Rattle.lt_definitions.specs.Typing.{Signature, built_in, Fault, type_fault, types_fault, at_types, applied_type, typed, HasType, is_of_type, has_type}
use Rattle.lt_definitions.specs.Alpha.{AreAlpha, is_alpha}
use Rattle.lt_definitions.specs.Binding.{opened, replaced, new_binder, closed_over}
use Rattle.lt_definitions.specs.Rules.{Sequent, Rule, by_assume, by_weaken, by_refl, by_sym, by_trans, by_cong, by_abs, by_beta, by_eta, by_eqmp, by_impI, by_mp, by_allI, by_allE, by_iff, by_inst, by_tinst, by_select, by_ccontr, by_thm, has_term, union, without, distinct, Outcome, gives, where_holds, with_found, line_at, as_equation, as_implication, as_forall, at_argument, beta_of, eta_of, type_of, predicate_over, joined_type, selection, step}
use Rattle.lt_definitions.specs.declared.reason.Reason.{Reason}
use Rattle.lt_definitions.specs.declared.reason.Reason.TheVariants.{MissingLine, NotBool, NotEquation, MiddleDiffers, TypeDiffers, VariableInHypothesis, NotRedex, NotImplication, NotForall, UnknownLabel}
use Rattle.lt_definitions.specs.Derivations.{Derives, rule_fault, term_fault, IsPartOf}
use Rattle.lt_nameless.specs.Booleans.{IsSoundSignature, IsBoolean, IsBooleanSequent, AreBooleanStatements}
use Rattle.lt_nameless.specs.NamelessRules.{nameless_typed}
use Rattle.lt_definitions.specs.Theory.{IsPlainTheory}
use Rattle.lt_definitions.proofs.SameNames.{true-false, both-true, name-true, type-true}
use Rattle.lt_nameless.proofs.Alphas.{alpha-nameless, alpha-is}
use Rattle.lt_nameless.proofs.Typings.{typed-has, has-typed, applied-ok, ok_type, ok-inj}
use Rattle.lt_nameless.proofs.NamelessTyping.{typed-nameless, typed-of}
use Rattle.lt_nameless.proofs.StatementTypes.{IsSound, found-first, sound-items, sound-empty, more-binders, typed-sound, bool-sound, sound-fun, equation-typed, implies-typed, for_all-typed}
use Rattle.lt_nameless.proofs.Substitutions.{opened-has, not-loose-has, replaced-has, closed-inner, closed-has, instance-has}
use Rattle.lt_definitions.proofs.TypingLemmas.{none-both}
use Rattle.lt_definitions.proofs.RuleLemmas.{some-if}

-- lists of boolean terms

abbrev AreBoolean : Signature → List TermTree → Type 0
AreBoolean sig [] = Unit {0}
AreBoolean sig (t ∷ ts) = HasType sig [] t bool × AreBoolean sig ts

all-are : (sig : Signature) (ts : List TermTree) → All (IsBoolean sig) ts → AreBoolean sig ts
all-are sig [] h = tt
all-are sig (t ∷ ts) h = (h 0 t (omega arith), all-are sig ts (λ k d l. h (suc k) d (omega arith)))

are-all : (sig : Signature) (ts : List TermTree) → AreBoolean sig ts → All (IsBoolean sig) ts
are-all sig [] h k d l = absurd (omega arith)
are-all sig (t ∷ ts) h zero d l = h.0
are-all sig (t ∷ ts) h (suc k) d l = are-all sig ts h.1 k d (omega arith)

append-boolean : (sig : Signature) (hs ks : List TermTree) → AreBoolean sig hs → AreBoolean sig ks → AreBoolean sig (hs ++ ks)
append-boolean sig [] ks h k = k
append-boolean sig (t ∷ hs) ks h k = (h.0, append-boolean sig hs ks h.1 k)

either-boolean : (sig : Signature) (b : Bool) (k : TermTree) (hs : List TermTree) → AreBoolean sig hs → HasType sig [] k bool
    → AreBoolean sig (if b then hs else hs ++ k ∷ [])
either-boolean sig true k hs h w = h
either-boolean sig false k hs h w = append-boolean sig hs (k ∷ []) h (w, tt)

union-boolean : (sig : Signature) (hs ks : List TermTree) → AreBoolean sig hs → AreBoolean sig ks → AreBoolean sig (union hs ks)
union-boolean sig hs [] h k = h
union-boolean sig hs (t ∷ ks) h k =
    union-boolean sig (if has_term t hs then hs else hs ++ t ∷ []) ks (either-boolean sig (has_term t hs) t hs h k.0) k.1

without-boolean : (sig : Signature) (p : TermTree) (hs : List TermTree) → AreBoolean sig hs → AreBoolean sig (without p hs)
without-boolean sig p [] h = tt
without-boolean sig p (t ∷ hs) h = pick (not (is_alpha p t)) (without-boolean sig p hs h.1) where
  pick : (b : Bool) → AreBoolean sig (without p hs) → AreBoolean sig (if b then t ∷ without p hs else without p hs)
  pick true w = (h.0, w)
  pick false w = w

map-boolean : (sig : Signature) (f : TermTree → TermTree) → ((t : TermTree) → HasType sig [] t bool → HasType sig [] (f t) bool)
    → (hs : List TermTree) → AreBoolean sig hs → AreBoolean sig (map f hs)
map-boolean sig f k [] h = tt
map-boolean sig f k (t ∷ hs) h = (k t h.0, map-boolean sig f k hs h.1)

-- sequents

abbrev IsGood : Signature → Sequent → Type 0
IsGood sig s = AreBoolean sig s.hyps × HasType sig [] s.concl bool

abbrev AreGood : Signature → List Sequent → Type 0
AreGood sig [] = Unit {0}
AreGood sig (s ∷ ss) = IsGood sig s × AreGood sig ss

good-of : (sig : Signature) (s : Sequent) → IsBooleanSequent sig s → IsGood sig s
good-of sig s h = (all-are sig s.hyps h.hyps, h.concl)

of-good : (sig : Signature) (s : Sequent) → IsGood sig s → IsBooleanSequent sig s
of-good sig s h = record { hyps = are-all sig s.hyps h.0; concl = h.1 }

goods-of : (sig : Signature) (ss : List Sequent) → All (IsBooleanSequent sig) ss → AreGood sig ss
goods-of sig [] h = tt
goods-of sig (s ∷ ss) h = (good-of sig s (h 0 s (omega arith)), goods-of sig ss (λ k d l. h (suc k) d (omega arith)))

of-goods : (sig : Signature) (ss : List Sequent) → AreGood sig ss → All (IsBooleanSequent sig) ss
of-goods sig [] h k d l = absurd (omega arith)
of-goods sig (s ∷ ss) h zero d l = of-good sig s h.0
of-goods sig (s ∷ ss) h (suc k) d l = of-goods sig ss h.1 k d (omega arith)

append-good : (sig : Signature) (ss us : List Sequent) → AreGood sig ss → AreGood sig us → AreGood sig (ss ++ us)
append-good sig [] us h k = k
append-good sig (s ∷ ss) us h k = (h.0, append-good sig ss us h.1 k)

get-good : (sig : Signature) (done : List Sequent) (k : ℕ) (s : Sequent) → AreGood sig done → slice_get done k ≡ Some s → IsGood sig s
get-good sig [] k s h e = absurd (cc e)
get-good sig (u ∷ done) zero s h e = let same : u ≡ s = cc e in subst (IsGood sig) same h.0
get-good sig (u ∷ done) (suc k) s h e = get-good sig done k s h.1 e

line-good : (sig : Signature) (done : List Sequent) (i : ℕ) (s : Sequent) → AreGood sig done → line_at done i ≡ Some s → IsGood sig s
line-good sig done zero s h e = absurd (cc e)
line-good sig done (suc k) s h e = get-good sig done k s h e

-- outcomes

abbrev Good : Signature → Outcome → Type 0
Good sig (Ok s) = IsGood sig s
Good sig (Err r) = Unit {0}

good-found : {A : Type 0} (sig : Signature) (r : Reason) (o : Option A) (f : A → Outcome) → ((x : A) → o ≡ Some x → Good sig (f x)) → Good sig (with_found r o f)
good-found sig r None f h = tt
good-found sig r (Some x) f h = h x refl

good-holds : (sig : Signature) (b : Bool) (r : Reason) (o : Outcome) → (b ≡ true → Good sig o) → Good sig (where_holds b r o)
good-holds sig true r o h = h refl
good-holds sig false r o h = tt

-- the parts of equations, implications and quantified terms

equation-is : (t : TermTree) (e : TypeTree × TermTree × TermTree) → as_equation t ≡ Some e → t ≡ equation e.0 e.1 e.2
equation-is (application (application (constant c (ty ∷ [])) s) t) e q =
    let k = some-if (same_name c (codes "eq")) (ty, s, t) e q in
    let name : c ≡ codes "eq" = name-true c (codes "eq") k.0 in
    λ i. application (application (constant (name i) ((k.1 i).0 ∷ [])) (k.1 i).1) (k.1 i).2
equation-is t e q = absurd (cc q)

implication-is : (t : TermTree) (e : TermTree × TermTree) → as_implication t ≡ Some e → t ≡ implies e.0 e.1
implication-is (application (application (constant c []) p) q) e h =
    let k = some-if (same_name c (codes "imp")) (p, q) e h in
    let name : c ≡ codes "imp" = name-true c (codes "imp") k.0 in
    λ i. application (application (constant (name i) []) (k.1 i).0) (k.1 i).1
implication-is t e h = absurd (cc h)

forall-is : (t : TermTree) (e : TypeTree × TermTree) → as_forall t ≡ Some e → t ≡ for_all e.0 e.1
forall-is (application (constant c (ty ∷ [])) p) e q =
    let k = some-if (same_name c (codes "all")) (ty, p) e q in
    let name : c ≡ codes "all" = name-true c (codes "all") k.0 in
    λ i. application (constant (name i) ((k.1 i).0 ∷ [])) (k.1 i).1
forall-is t e q = absurd (cc q)

-- the type of a built-in constant
built-type : (sig : Signature) → IsPartOf built_in sig → (c : Chars) (d : TypeTree) (ts : List TypeTree) (ty : TypeTree)
    → found c built_in.consts ≡ Some d → HasType sig [] (constant c ts) ty → at_types d ts ≡ ty
built-type sig b c d ts ty e h =
    let some : Some d ≡ Some h.0 = sym (b.consts c d e) ∙ h.1 in
    let same : d ≡ h.0 = cc some in
    ap (λ (u : TypeTree). at_types u ts) same ∙ h.4

equation-parts : (sig : Signature) → IsPartOf built_in sig → (ty : TypeTree) (s t : TermTree) → HasType sig [] (equation ty s t) bool
    → HasType sig [] s ty × HasType sig [] t ty
equation-parts sig b ty s t h =
    let a : TypeTree = type_variable (codes "a") in
    let same : fun ty (fun ty bool) ≡ fun h.1.0 (fun h.0 bool) =
    built-type sig b (codes "eq") (fun a (fun a bool)) (ty ∷ []) (fun h.1.0 (fun h.0 bool)) refl h.1.1 in
    let first : h.1.0 ≡ ty = cc same in
    let second : h.0 ≡ ty = cc same in
    (subst (λ (u : TypeTree). HasType sig [] s u) first h.1.2, subst (λ (u : TypeTree). HasType sig [] t u) second h.2)

implies-parts : (sig : Signature) → IsPartOf built_in sig → (p q : TermTree) → HasType sig [] (implies p q) bool → HasType sig [] p bool × HasType sig [] q bool
implies-parts sig b p q h =
    let same : fun bool (fun bool bool) ≡ fun h.1.0 (fun h.0 bool) =
    built-type sig b (codes "imp") (fun bool (fun bool bool)) [] (fun h.1.0 (fun h.0 bool)) refl h.1.1 in
    let first : h.1.0 ≡ bool = cc same in
    let second : h.0 ≡ bool = cc same in
    (subst (λ (u : TypeTree). HasType sig [] p u) first h.1.2, subst (λ (u : TypeTree). HasType sig [] q u) second h.2)

for_all-part : (sig : Signature) → IsPartOf built_in sig → (ty : TypeTree) (p : TermTree) → HasType sig [] (for_all ty p) bool → HasType sig [] p (fun ty bool)
for_all-part sig b ty p h =
    let a : TypeTree = type_variable (codes "a") in
    let same : fun (fun ty bool) bool ≡ fun h.0 bool = built-type sig b (codes "all") (fun (fun a bool) bool) (ty ∷ []) (fun h.0 bool) refl h.1 in
    let first : h.0 ≡ fun ty bool = cc same in
    subst (λ (u : TypeTree). HasType sig [] p u) first h.2

equation-sides : (sig : Signature) → IsPartOf built_in sig → (t : TermTree) (e : TypeTree × TermTree × TermTree) → HasType sig [] t bool → as_equation t ≡ Some e
    → HasType sig [] e.1 e.0 × HasType sig [] e.2 e.0
equation-sides sig b t e h q =
    equation-parts sig b e.0 e.1 e.2 (subst (λ (t : TermTree). HasType sig [] t bool) (equation-is t e q) h)

implication-sides : (sig : Signature) → IsPartOf built_in sig → (t : TermTree) (e : TermTree × TermTree) → HasType sig [] t bool → as_implication t ≡ Some e
    → HasType sig [] e.0 bool × HasType sig [] e.1 bool
implication-sides sig b t e h q =
    implies-parts sig b e.0 e.1 (subst (λ (t : TermTree). HasType sig [] t bool) (implication-is t e q) h)

forall-side : (sig : Signature) → IsPartOf built_in sig → (t : TermTree) (e : TypeTree × TermTree) → HasType sig [] t bool → as_forall t ≡ Some e
    → HasType sig [] e.1 (fun e.0 bool)
forall-side sig b t e h q = for_all-part sig b e.0 e.1 (subst (λ (t : TermTree). HasType sig [] t bool) (forall-is t e q) h)

-- types of terms

pub typed-alpha : (sig : Signature) (s t : TermTree) → AreAlpha [] s t → typed sig [] s ≡ typed sig [] t
typed-alpha sig s t h =
    typed-nameless sig [] s ∙ ap (nameless_typed sig []) (alpha-nameless [] s t h) ∙ sym (typed-nameless sig [] t)

one-type : (sig : Signature) (s t : TermTree) (ty u : TypeTree) → is_alpha s t ≡ true → HasType sig [] s ty → HasType sig [] t u → ty ≡ u
one-type sig s t ty u e h k =
    ok-inj ty u (sym (has-typed sig [] s ty h) ∙ typed-alpha sig s t (alpha-is [] s t e) ∙ has-typed sig [] t u k)

tested : (ty : TypeTree) (r : Result TypeTree Fault) → is_of_type ty r ≡ true → r ≡ Ok ty
tested ty (Ok u) e = ap ok_type (sym (type-true ty u e))
tested ty (Err f) e = absurd (true-false (sym e))

has-of : (sig : Signature) (t : TermTree) (ty : TypeTree) → has_type sig t ty ≡ true → HasType sig [] t ty
has-of sig t ty e = typed-has sig [] t ty (tested ty (typed sig [] t) e)

-- a typed term has the type that the rules compute
typed-as : (sig : Signature) (t : TermTree) → term_fault sig t ≡ None → HasType sig [] t (type_of sig t)
typed-as sig t e =
    let h = typed-of sig t e in
    subst (λ (u : TypeTree). HasType sig [] t u) (sym (ap (λ r. result_unwrap_or r bool) (has-typed sig [] t h.0 h.1))) h.1

joined-ok : (r : Result TypeTree Fault) (ty : TypeTree) → result_ok r ≡ Some ty → r ≡ Ok ty
joined-ok (Ok u) ty e = let same : u ≡ ty = cc e in ap ok_type same
joined-ok (Err f) ty e = absurd (cc e)

predicate-is : (t ty : TypeTree) → predicate_over t ≡ Some ty → t ≡ fun ty bool
predicate-is (type_constructor c (type_and from (type_and to no_types))) ty e =
    let h = some-if (same_name c (codes "fun") && same_type to bool) from ty e in
    let k = both-true (same_name c (codes "fun")) (same_type to bool) h.0 in
    let name : c ≡ codes "fun" = name-true c (codes "fun") k.0 in
    let res : to ≡ bool = type-true to bool k.1 in
    let arg : from ≡ ty = h.1 in
    λ i. type_constructor (name i) (type_and (arg i) (type_and (res i) no_types))
predicate-is t ty e = absurd (cc e)

-- redexes

at-typed : (sig : Signature) (p t : TermTree) (ty : TypeTree) → HasType sig [] p (fun ty bool) → HasType sig [] t ty → HasType sig [] (at_argument p t) bool
at-typed sig (abstraction x u b) t ty h k =
    let same : fun u h.0 ≡ fun ty bool = h.3 in
    let arg : ty ≡ u = cc same in
    let res : h.0 ≡ bool = cc same in
    opened-has sig [] x u t b bool refl (subst (λ (v : TypeTree). HasType sig [] t v) arg k)
    (subst (λ (v : TypeTree). HasType sig ((x, u) ∷ []) b v) res h.2)
at-typed sig p t ty h k = (ty, h, k)

beta-typed : (sig : Signature) (t b : TermTree) (ty : TypeTree) → HasType sig [] t ty → beta_of t ≡ Some b → HasType sig [] b ty
beta-typed sig (application (abstraction x u c) a) b ty h e =
    let same : fun u h.1.0 ≡ fun h.0 ty = h.1.3 in
    let arg : h.0 ≡ u = cc same in
    let res : h.1.0 ≡ ty = cc same in
    let is : opened x a c ≡ b = cc e in
    subst (λ (t : TermTree). HasType sig [] t ty) is
    (opened-has sig [] x u a c ty refl (subst (λ (v : TypeTree). HasType sig [] a v) arg h.2)
    (subst (λ (v : TypeTree). HasType sig ((x, u) ∷ []) c v) res h.1.2))
beta-typed sig t b ty h e = absurd (cc e)

eta-typed : (sig : Signature) (t f : TermTree) (ty : TypeTree) → HasType sig [] t ty → eta_of t ≡ Some f → HasType sig [] f ty
eta-typed sig (abstraction x u (application g (bound_name y))) f ty h e =
    let k = some-if (same_name x y && not (has_loose x g)) g f e in
    let l = both-true (same_name x y) (not (has_loose x g)) k.0 in
    let bound : found x ((x, u) ∷ []) ≡ Some h.2.0 = ap (λ n. found n ((x, u) ∷ [])) (name-true x y l.0) ∙ h.2.2 in
    let some : Some u ≡ Some h.2.0 = sym (found-first x u []) ∙ bound in
    let arg : h.2.0 ≡ u = cc some in
    let whole : fun h.2.0 h.0 ≡ ty = ap (λ (v : TypeTree). fun v h.0) arg ∙ h.3 in
    subst (λ (t : TermTree). HasType sig [] t ty) k.1
    (not-loose-has sig [] x u g ty (not-true (has_loose x g) l.1) (subst (λ (v : TypeTree). HasType sig ((x, u) ∷ []) g v) whole h.2.1))
eta-typed sig t f ty h e = absurd (cc e)

-- the rules

sound-of : (sig : Signature) → IsSoundSignature sig → (t : TermTree) (ty : TypeTree) → HasType sig [] t ty → type_fault sig ty ≡ None
sound-of sig s t ty h = typed-sound sig s.built s.consts [] (λ c u e. absurd (cc e)) t ty h

equal : (sig : Signature) → IsSoundSignature sig → (ty : TypeTree) (s t : TermTree) → HasType sig [] s ty → HasType sig [] t ty → HasType sig [] (equation ty s t) bool
equal sig s ty a b h k = equation-typed sig s.built [] ty a b (sound-of sig s a ty h) h k

all-closed : (sig : Signature) → IsSoundSignature sig → (x : Chars) (ty : TypeTree) (t : TermTree) → type_fault sig ty ≡ None → HasType sig [] t bool
    → HasType sig [] (for_all ty (closed_over x ty t)) bool
all-closed sig s x ty t e h =
    for_all-typed sig s.built [] (new_binder t) ty (replaced x ty (bound_name (new_binder t)) t) e (closed-inner sig x ty t bool h)

falsity-typed : (sig : Signature) → IsPartOf built_in sig → HasType sig [] falsity bool
falsity-typed sig b = for_all-typed sig b [] (codes "q") bool (bound_name (codes "q")) (bool-sound sig b) refl

selection-typed : (sig : Signature) → IsPartOf built_in sig → (ty : TypeTree) (p : TermTree) → type_fault sig ty ≡ None → HasType sig [] p (fun ty bool)
    → HasType sig [] (selection ty p) bool
selection-typed sig b ty p e h =
    let a : TypeTree = type_variable (codes "a") in
    let env : List (Chars × TypeTree) = (codes "x", ty) ∷ [] in
    let inner : HasType sig env p (fun ty bool) = more-binders sig [] env p (fun ty bool) h in
    let some : HasType sig env (some_of ty p) ty =
    (fun ty bool, (fun (fun a bool) a, b.consts (codes "eps") (fun (fun a bool) a) refl, refl, none-both (type_fault sig ty) None e refl, refl), inner) in
    for_all-typed sig b [] (codes "x") ty (implies (application p (bound_name (codes "x"))) (application p (some_of ty p))) e
    (implies-typed sig b env (application p (bound_name (codes "x"))) (application p (some_of ty p)) (ty, inner, refl) (ty, inner, some))

good-step : (sig : Signature) (named : List (Chars × TermTree)) (done : List Sequent) (line : Rule TermTree) → IsSoundSignature sig
    → AreBooleanStatements sig named → AreGood sig done → rule_fault sig (term_fault sig) line ≡ None → Good sig (step sig named done line)
good-step sig named done (by_assume p) s n d t = good-holds sig (has_type sig p bool) NotBool (gives (p ∷ []) p)
    (λ e. let h = has-of sig p bool e in ((h, tt), h))
good-step sig named done (by_weaken p i) s n d t = good-found sig MissingLine (line_at done i) _ (λ u e. let h = line-good sig done i u d e in
    good-holds sig (has_type sig p bool) NotBool (gives (union u.hyps (p ∷ [])) u.concl)
    (λ f. (union-boolean sig u.hyps (p ∷ []) h.0 (has-of sig p bool f, tt), h.1)))
good-step sig named done (by_refl p) s n d t = let h = typed-as sig p t in
    (tt, equal sig s (type_of sig p) p p h h)
good-step sig named done (by_sym i) s n d t = good-found sig MissingLine (line_at done i) _ (λ u e. let h = line-good sig done i u d e in
    good-found sig NotEquation (as_equation u.concl) _ (λ q f. let k = equation-sides sig s.built u.concl q h.1 f in
    (h.0, equal sig s q.0 q.2 q.1 k.1 k.0)))
good-step sig named done (by_trans i j) s n d t = good-found sig MissingLine (line_at done i) _ (λ u e. good-found sig MissingLine (line_at done j) _ (λ v f.
    let h = line-good sig done i u d e in let g = line-good sig done j v d f in
    good-found sig NotEquation (as_equation u.concl) _ (λ q a. good-found sig NotEquation (as_equation v.concl) _ (λ r b.
    let k = equation-sides sig s.built u.concl q h.1 a in let l = equation-sides sig s.built v.concl r g.1 b in
    good-holds sig (is_alpha q.2 r.1) MiddleDiffers (gives (union u.hyps v.hyps) (equation q.0 q.1 r.2)) (λ c.
    let same : r.0 ≡ q.0 = sym (one-type sig q.2 r.1 q.0 r.0 c k.1 l.0) in
    (union-boolean sig u.hyps v.hyps h.0 g.0, equal sig s q.0 q.1 r.2 k.0 (subst (λ (ty : TypeTree). HasType sig [] r.2 ty) same l.1)))))))
good-step sig named done (by_cong i j) s n d t = good-found sig MissingLine (line_at done i) _ (λ u e. good-found sig MissingLine (line_at done j) _ (λ v f.
    let h = line-good sig done i u d e in let g = line-good sig done j v d f in
    good-found sig NotEquation (as_equation u.concl) _ (λ q a. good-found sig NotEquation (as_equation v.concl) _ (λ r b.
    let k = equation-sides sig s.built u.concl q h.1 a in let l = equation-sides sig s.built v.concl r g.1 b in
    good-found sig TypeDiffers (joined_type q.0 r.0) _ (λ ty c.
    let is : q.0 ≡ fun r.0 ty = applied-ok q.0 r.0 ty (joined-ok (applied_type q.0 r.0) ty c) in (
      union-boolean sig u.hyps v.hyps h.0 g.0,
      equal sig s ty (application q.1 r.1) (application q.2 r.2)
          (r.0, subst (λ (w : TypeTree). HasType sig [] q.1 w) is k.0, l.0) (r.0, subst (λ (w : TypeTree). HasType sig [] q.2 w) is k.1, l.1),
    ))))))
good-step sig named done (by_abs x ty i) s n d t = good-found sig MissingLine (line_at done i) _ (λ u e. let h = line-good sig done i u d e in
    good-found sig NotEquation (as_equation u.concl) _ (λ q f. let k = equation-sides sig s.built u.concl q h.1 f in
    good-holds sig (not (list_any (has_free x ty) u.hyps)) VariableInHypothesis (gives u.hyps (equation (fun ty q.0) (closed_over x ty q.1) (closed_over x ty q.2)))
    (λ c. (h.0, equal sig s (fun ty q.0) (closed_over x ty q.1) (closed_over x ty q.2) (closed-has sig x ty q.1 q.0 t k.0) (closed-has sig x ty q.2 q.0 t k.1)))))
good-step sig named done (by_beta p) s n d t = let h = typed-as sig p t in
    good-found sig NotRedex (beta_of p) _ (λ b e. (tt, equal sig s (type_of sig p) p b h (beta-typed sig p b (type_of sig p) h e)))
good-step sig named done (by_eta p) s n d t = let h = typed-as sig p t in
    good-found sig NotRedex (eta_of p) _ (λ f e. (tt, equal sig s (type_of sig p) p f h (eta-typed sig p f (type_of sig p) h e)))
good-step sig named done (by_eqmp i j) s n d t = good-found sig MissingLine (line_at done i) _ (λ u e. good-found sig MissingLine (line_at done j) _ (λ v f.
    let h = line-good sig done i u d e in let g = line-good sig done j v d f in
    good-found sig NotEquation (as_equation u.concl) _ (λ q a. let k = equation-sides sig s.built u.concl q h.1 a in
    good-holds sig (is_alpha q.1 v.concl) MiddleDiffers (gives (union u.hyps v.hyps) q.2) (λ c.
    (union-boolean sig u.hyps v.hyps h.0 g.0, subst (λ (ty : TypeTree). HasType sig [] q.2 ty) (one-type sig q.1 v.concl q.0 bool c k.0 g.1) k.1)))))
good-step sig named done (by_impI p i) s n d t = good-found sig MissingLine (line_at done i) _ (λ u e. let h = line-good sig done i u d e in
    good-holds sig (has_type sig p bool) NotBool (gives (without p u.hyps) (implies p u.concl))
    (λ c. (without-boolean sig p u.hyps h.0, implies-typed sig s.built [] p u.concl (has-of sig p bool c) h.1)))
good-step sig named done (by_mp i j) s n d t = good-found sig MissingLine (line_at done i) _ (λ u e. good-found sig MissingLine (line_at done j) _ (λ v f.
    let h = line-good sig done i u d e in let g = line-good sig done j v d f in
    good-found sig NotImplication (as_implication u.concl) _ (λ q a.
    good-holds sig (is_alpha q.0 v.concl) MiddleDiffers (gives (union u.hyps v.hyps) q.1) (λ c.
    (union-boolean sig u.hyps v.hyps h.0 g.0, (implication-sides sig s.built u.concl q h.1 a).1)))))
good-step sig named done (by_allI x ty i) s n d t = good-found sig MissingLine (line_at done i) _ (λ u e. let h = line-good sig done i u d e in
    good-holds sig (not (list_any (has_free x ty) u.hyps)) VariableInHypothesis (gives u.hyps (for_all ty (closed_over x ty u.concl)))
    (λ c. (h.0, all-closed sig s x ty u.concl t h.1)))
good-step sig named done (by_allE p i) s n d t = good-found sig MissingLine (line_at done i) _ (λ u e. let h = line-good sig done i u d e in
    good-found sig NotForall (as_forall u.concl) _ (λ a f.
    good-holds sig (has_type sig p a.0) TypeDiffers (gives u.hyps (at_argument a.1 p))
    (λ c. (h.0, at-typed sig a.1 p a.0 (forall-side sig s.built u.concl a h.1 f) (has-of sig p a.0 c)))))
good-step sig named done (by_iff i j) s n d t = good-found sig MissingLine (line_at done i) _ (λ u e. good-found sig MissingLine (line_at done j) _ (λ v f.
    let h = line-good sig done i u d e in let g = line-good sig done j v d f in
    good-found sig NotImplication (as_implication u.concl) _ (λ q a. good-found sig NotImplication (as_implication v.concl) _ (λ r b.
    let k = implication-sides sig s.built u.concl q h.1 a in
    good-holds sig (is_alpha q.0 r.1 && is_alpha q.1 r.0) MiddleDiffers (gives (union u.hyps v.hyps) (equation bool q.0 q.1)) (λ c.
    (union-boolean sig u.hyps v.hyps h.0 g.0, equal sig s bool q.0 q.1 k.0 k.1))))))
good-step sig named done (by_inst x ty p i) s n d t = good-found sig MissingLine (line_at done i) _ (λ u e. let h = line-good sig done i u d e in
    good-holds sig (has_type sig p ty) TypeDiffers (gives (distinct (map (replaced x ty p) u.hyps)) (replaced x ty p u.concl)) (λ c.
    let k = has-of sig p ty c in (
      union-boolean sig [] (map (replaced x ty p) u.hyps) tt (map-boolean sig (replaced x ty p) (λ w l. replaced-has sig [] x ty p w bool k l) u.hyps h.0),
      replaced-has sig [] x ty p u.concl bool k h.1,
    )))
good-step sig named done (by_tinst a ty i) s n d t = let m : TypeMap = (a, ty) ∷ [] in
    let sound : types_fault sig (row (ty ∷ [])) ≡ None = none-both (type_fault sig ty) None t refl in
    good-found sig MissingLine (line_at done i) _ (λ u e. let h = line-good sig done i u d e in (
      union-boolean sig [] (map (term_instance m) u.hyps) tt (map-boolean sig (term_instance m) (λ w l. instance-has sig (a ∷ []) (ty ∷ []) [] w bool sound l) u.hyps h.0),
      instance-has sig (a ∷ []) (ty ∷ []) [] u.concl bool sound h.1,
    ))
good-step sig named done (by_select p) s n d t = let h = typed-as sig p t in
    good-found sig TypeDiffers (predicate_over (type_of sig p)) _ (λ ty e.
    let k = subst (λ (w : TypeTree). HasType sig [] p w) (predicate-is (type_of sig p) ty e) h in
    (tt, selection-typed sig s.built ty p (sound-fun sig ty bool (sound-of sig s p (fun ty bool) k)).0 k))
good-step sig named done (by_ccontr p) s n d t = good-holds sig (has_type sig p bool) NotBool (gives [] (implies (implies (implies p falsity) falsity) p)) (λ c.
    let h = has-of sig p bool c in let f = falsity-typed sig s.built in (
      tt,
      implies-typed sig s.built [] (implies (implies p falsity) falsity) p
          (implies-typed sig s.built [] (implies p falsity) falsity (implies-typed sig s.built [] p falsity h f) f) h,
    ))
good-step sig named done (by_thm l) s n d t = good-found sig UnknownLabel (found l named) _ (λ p e. (tt, n l p e))

pub rules_keep_booleans : (sig : Signature) (named : List (Chars × TermTree)) (done : List Sequent) (line : Rule TermTree) (s : Sequent)
    → IsSoundSignature sig → AreBooleanStatements sig named → All (IsBooleanSequent sig) done → rule_fault sig (term_fault sig) line ≡ None → step sig named done line ≡ Ok s
    → IsBooleanSequent sig s
rules_keep_booleans sig named done line s h n d t e = of-good sig s (subst (Good sig) e (good-step sig named done line h n (goods-of sig done d) t))

derives-good : (sig : Signature) (named : List (Chars × TermTree)) (done : List Sequent) (lines : List (Rule TermTree)) (ss : List Sequent) → IsSoundSignature sig
    → AreBooleanStatements sig named → AreGood sig done → Derives sig named done lines ss → AreGood sig ss
derives-good sig named done [] [] h n g d = tt
derives-good sig named done (line ∷ lines) (s ∷ ss) h n g d =
    let k : IsGood sig s = subst (Good sig) d.1 (good-step sig named done line h n g d.0) in
    (k, derives-good sig named (done ++ s ∷ []) lines ss h n (append-good sig done (s ∷ []) g (k, tt)) d.2)
derives-good sig named done lines ss h n g d = absurd d

pub derivations_keep_booleans : (sig : Signature) (named : List (Chars × TermTree)) (done : List Sequent) (lines : List (Rule TermTree)) (ss : List Sequent)
    → IsSoundSignature sig → AreBooleanStatements sig named → All (IsBooleanSequent sig) done → Derives sig named done lines ss → All (IsBooleanSequent sig) ss
derivations_keep_booleans sig named done lines ss h n g d = of-goods sig ss (derives-good sig named done lines ss h n (goods-of sig done g) d)

pub signatures_are_sound : (items : List Item) → IsPlainTheory items → IsSoundSignature (context_of empty items).signature
signatures_are_sound items v =
    let s : IsSound (context_of empty items) = sound-items empty items sound-empty v in
    record { built = s.built; consts = s.consts }
