-- What a rule gives from terms whose indices have binders is such a sequent.
use Rattle.std.proofs.Common.{◌≡◌, inl, inr, ℕ, zero, suc, ◌<◌, ◌≤◌, List, [], ◌∷◌, ◌++◌, Bool, true, false, ◌&&◌, not, if◌then◌else◌, length, map, nat_eq, slice_get, Option, Some, None, Result, Ok, Err, codes, refl, sym, ◌∙◌, ap, subst, arith}
use Rattle.std.specs.List.{list_any}
use Rattle.std.proofs.lemmas.Bool.Decides.{nat_tests}
use Rattle.std.proofs.lemmas.Bool.{or_parts}
use Rattle.lt_definitions.specs.Types.{Chars, same_name, found, TypeTree, TypeMap, bool, fun, same_type}
use Rattle.lt_definitions.specs.Typing.{Signature, Fault, type_fault, with_ok, unless, bound_type, applied_type}
use Rattle.lt_definitions.specs.Derivations.{rule_fault}
use Rattle.lt_definitions.specs.Rules.{where_holds, with_found, line_at, joined_type, predicate_over, Rule}
use Rattle.lt_definitions.specs.declared.reason.Reason.{Reason}
use Rattle.lt_definitions.specs.declared.reason.Reason.TheVariants.{MissingLine, NotBool, NotEquation, MiddleDiffers, TypeDiffers, VariableInHypothesis, NotRedex, NotImplication, NotForall, UnknownLabel}
use Rattle.lt_nameless.specs.Nameless.{Nameless, nameless_free, nameless_bound, nameless_loose, nameless_constant, nameless_application, nameless_abstraction, NamelessSequent, IsWhole}
use Rattle.lt_nameless.specs.NamelessRules.{nameless_has_type, nameless_has_free, nameless_implies, nameless_for_all, nameless_falsity, instance_at, abstracted, nameless_replaced, nameless_instance, has_index, same_nameless, nameless_typed, nameless_fault, nameless_equation, nameless_as_equation, nameless_as_implication, nameless_as_forall, nameless_at, nameless_beta, nameless_eta, nameless_union, nameless_without, nameless_type_of, NamelessOutcome, nameless_gives, nameless_step, AreWhole, IsWholeSequent, AreWholeSequents, AreWholeStatements}
use Rattle.lt_definitions.specs.Rules.{Rule, by_assume, by_weaken, by_refl, by_sym, by_trans, by_cong, by_abs, by_beta, by_eta, by_eqmp, by_impI, by_mp, by_allI, by_allE, by_iff, by_inst, by_tinst, by_select, by_ccontr, by_thm}
use Rattle.lt_definitions.proofs.SameNames.{bool_cases, true-false}
use Rattle.lt_nameless.proofs.BindingLemmas.{if-true, if-false}
use Rattle.lt_definitions.proofs.TypingLemmas.{both-none, typed-some}
use Rattle.lt_definitions.proofs.RuleLemmas.{some-if}

number-false : (i d : ℕ) → nat_eq i d ≡ false → i < suc d → i < d
number-false i d e h = grind (arith, nat_tests)

pub further : (d e : ℕ) (n : Nameless) → d ≤ e → IsWhole d n → IsWhole e n
further d e (nameless_free x ty) h w = tt
further d e (nameless_bound i) h w = omega arith
further d e (nameless_loose x) h w = w
further d e (nameless_constant c ts) h w = tt
further d e (nameless_application f a) h w = (further d e f h w.0, further d e a h w.1)
further d e (nameless_abstraction ty b) h w = further (suc d) (suc e) b (omega arith) w

whole-if : (d : ℕ) (b : Bool) (m n : Nameless) → (b ≡ true → IsWhole d m) → (b ≡ false → IsWhole d n) → IsWhole d (if b then m else n)
whole-if d true m n h k = h refl
whole-if d false m n h k = k refl

pub instance-whole : (d : ℕ) (by n : Nameless) → IsWhole 0 by → IsWhole (suc d) n → IsWhole d (instance_at d by n)
instance-whole d by (nameless_free x ty) h w = tt
instance-whole d by (nameless_bound i) h w =
    whole-if d (nat_eq i d) by (nameless_bound i) (λ e. further 0 d by (omega arith) h) (λ e. number-false i d e w)
instance-whole d by (nameless_loose x) h w = w
instance-whole d by (nameless_constant c ts) h w = tt
instance-whole d by (nameless_application f a) h w = (instance-whole d by f h w.0, instance-whole d by a h w.1)
instance-whole d by (nameless_abstraction ty b) h w = instance-whole (suc d) by b h w

pub abstracted-whole : (d : ℕ) (x : Chars) (ty : TypeTree) (n : Nameless) → IsWhole d n → IsWhole (suc d) (abstracted d x ty n)
abstracted-whole d x ty (nameless_free y u) w =
    whole-if (suc d) (same_name x y && same_type ty u) (nameless_bound d) (nameless_free y u) (λ e. omega arith) (λ e. tt)
abstracted-whole d x ty (nameless_bound i) w = omega arith
abstracted-whole d x ty (nameless_loose y) w = w
abstracted-whole d x ty (nameless_constant c ts) w = tt
abstracted-whole d x ty (nameless_application f a) w = (abstracted-whole d x ty f w.0, abstracted-whole d x ty a w.1)
abstracted-whole d x ty (nameless_abstraction u b) w = abstracted-whole (suc d) x ty b w

pub replaced-whole : (d : ℕ) (x : Chars) (ty : TypeTree) (by n : Nameless) → IsWhole 0 by → IsWhole d n → IsWhole d (nameless_replaced x ty by n)
replaced-whole d x ty by (nameless_free y u) h w =
    whole-if d (same_name x y && same_type ty u) by (nameless_free y u) (λ e. further 0 d by (omega arith) h) (λ e. tt)
replaced-whole d x ty by (nameless_bound i) h w = w
replaced-whole d x ty by (nameless_loose y) h w = w
replaced-whole d x ty by (nameless_constant c ts) h w = tt
replaced-whole d x ty by (nameless_application f a) h w = (replaced-whole d x ty by f h w.0, replaced-whole d x ty by a h w.1)
replaced-whole d x ty by (nameless_abstraction u b) h w = replaced-whole (suc d) x ty by b h w

pub types-whole : (d : ℕ) (m : TypeMap) (n : Nameless) → IsWhole d n → IsWhole d (nameless_instance m n)
types-whole d m (nameless_free y u) w = tt
types-whole d m (nameless_bound i) w = w
types-whole d m (nameless_loose y) w = w
types-whole d m (nameless_constant c ts) w = tt
types-whole d m (nameless_application f a) w = (types-whole d m f w.0, types-whole d m a w.1)
types-whole d m (nameless_abstraction u b) w = types-whole (suc d) m b w

-- a function of an eta redex doesn't have the index
pub lower-whole : (d : ℕ) (n : Nameless) → has_index d n ≡ false → IsWhole (suc d) n → IsWhole d n
lower-whole d (nameless_free x ty) e w = tt
lower-whole d (nameless_bound i) e w = number-false i d e w
lower-whole d (nameless_loose x) e w = w
lower-whole d (nameless_constant c ts) e w = tt
lower-whole d (nameless_application f a) e w =
    let h = or_parts (has_index d f) (has_index d a) e in (lower-whole d f h.0 w.0, lower-whole d a h.1 w.1)
lower-whole d (nameless_abstraction ty b) e w = lower-whole (suc d) b e w

-- typed terms

in-range : (tys : List TypeTree) (i : ℕ) (ty : TypeTree) → bound_type [] (slice_get tys i) ≡ Ok ty → i < length tys
in-range [] i ty e = absurd (cc e)
in-range (u ∷ tys) zero ty e = omega arith
in-range (u ∷ tys) (suc i) ty e = let h = in-range tys i ty e in omega (arith, h)

ok-of : {A B : Type 0} (r : Result A Fault) (f : A → Result B Fault) (y : B) → with_ok r f ≡ Ok y → (x : A) × (r ≡ Ok x) × (f x ≡ Ok y)
ok-of (Ok x) f y e = (x, refl, e)
ok-of (Err d) f y e = absurd (cc e)

unless-of : {A : Type 0} (o : Option Fault) (r : Result A Fault) (x : A) → unless o r ≡ Ok x → r ≡ Ok x
unless-of None r x e = e
unless-of (Some f) r x e = absurd (cc e)

pub typed-whole : (sig : Signature) (tys : List TypeTree) (n : Nameless) (ty : TypeTree) → nameless_typed sig tys n ≡ Ok ty → IsWhole (length tys) n
typed-whole sig tys (nameless_free x u) ty e = tt
typed-whole sig tys (nameless_bound i) ty e = in-range tys i ty e
typed-whole sig tys (nameless_loose x) ty e = absurd (cc e)
typed-whole sig tys (nameless_constant c ts) ty e = tt
typed-whole sig tys (nameless_application f a) ty e =
    let h = ok-of (nameless_typed sig tys f) (λ t. with_ok (nameless_typed sig tys a) (λ u. applied_type t u)) ty e in
    let k = ok-of (nameless_typed sig tys a) (λ u. applied_type h.0 u) ty h.2 in
    (typed-whole sig tys f h.0 h.1, typed-whole sig tys a k.0 k.1)
typed-whole sig tys (nameless_abstraction u b) ty e =
    let h = unless-of (type_fault sig u) (with_ok (nameless_typed sig (u ∷ tys) b) (λ v. Ok (fun u v))) ty e in
    let k = ok-of (nameless_typed sig (u ∷ tys) b) (λ v. Ok (fun u v)) ty h in typed-whole sig (u ∷ tys) b k.0 k.1

pub term-whole : (sig : Signature) (n : Nameless) → nameless_fault sig n ≡ None → IsWhole 0 n
term-whole sig n e = let h = typed-some (nameless_typed sig [] n) e in typed-whole sig [] n h.0 h.1

-- lists

pub append-whole : (hs ks : List Nameless) → AreWhole hs → AreWhole ks → AreWhole (hs ++ ks)
append-whole [] ks h k = k
append-whole (n ∷ hs) ks h k = (h.0, append-whole hs ks h.1 k)

either-whole : (b : Bool) (k : Nameless) (hs : List Nameless) → AreWhole hs → IsWhole 0 k → AreWhole (if b then hs else hs ++ k ∷ [])
either-whole true k hs h w = h
either-whole false k hs h w = append-whole hs (k ∷ []) h (w, tt)

pub union-whole : (hs ks : List Nameless) → AreWhole hs → AreWhole ks → AreWhole (nameless_union hs ks)
union-whole hs [] h k = h
union-whole hs (n ∷ ks) h k =
    union-whole (if list_any (same_nameless n) hs then hs else hs ++ n ∷ []) ks (either-whole (list_any (same_nameless n) hs) n hs h k.0) k.1

pub without-whole : (p : Nameless) (hs : List Nameless) → AreWhole hs → AreWhole (nameless_without p hs)
without-whole p [] h = tt
without-whole p (n ∷ hs) h = pick (not (same_nameless p n)) (without-whole p hs h.1) where
  pick : (b : Bool) → AreWhole (nameless_without p hs) → AreWhole (if b then n ∷ nameless_without p hs else nameless_without p hs)
  pick true w = (h.0, w)
  pick false w = w

pub map-whole : (f : Nameless → Nameless) → ((n : Nameless) → IsWhole 0 n → IsWhole 0 (f n)) → (hs : List Nameless) → AreWhole hs → AreWhole (map f hs)
map-whole f k [] h = tt
map-whole f k (n ∷ hs) h = (k n h.0, map-whole f k hs h.1)

line-whole : (done : List NamelessSequent) (k : ℕ) (s : NamelessSequent) → AreWholeSequents done → slice_get done k ≡ Some s → IsWholeSequent s
line-whole [] k s h e = absurd (cc e)
line-whole (u ∷ done) zero s h e = let same : u ≡ s = cc e in subst IsWholeSequent same h.0
line-whole (u ∷ done) (suc k) s h e = line-whole done k s h.1 e

number-whole : (done : List NamelessSequent) (k : ℕ) (s : NamelessSequent) → AreWholeSequents done → line_at done k ≡ Some s → IsWholeSequent s
number-whole done zero s h e = absurd (cc e)
number-whole done (suc k) s h e = line-whole done k s h e

statement-whole : (named : List (Chars × Nameless)) (l : Chars) (p : Nameless) → AreWholeStatements named → found l named ≡ Some p → IsWhole 0 p
statement-whole [] l p h e = absurd (cc e)
statement-whole (q ∷ named) l p h e = elim (bool_cases (same_name l q.0)) [
  | inl k ↦ let some : Some q.1 ≡ Some p = sym (if-true (same_name l q.0) (Some q.1) (found l named) k) ∙ e in
      let same : q.1 ≡ p = cc some in subst (λ (n : Nameless). IsWhole 0 n) same h.0
  | inr k ↦ statement-whole named l p h.1 (sym (if-false (same_name l q.0) (Some q.1) (found l named) k) ∙ e)
]

-- outcomes

-- what an outcome gives is whole
abbrev Good : NamelessOutcome → Type 0
Good (Ok s) = IsWholeSequent s
Good (Err r) = Unit {0}

good-found : {A : Type 0} (r : Reason) (o : Option A) (f : A → NamelessOutcome) → ((x : A) → o ≡ Some x → Good (f x)) → Good (with_found r o f)
good-found r None f h = tt
good-found r (Some x) f h = h x refl

good-holds : (b : Bool) (r : Reason) (o : NamelessOutcome) → Good o → Good (where_holds b r o)
good-holds true r o h = h
good-holds false r o h = tt

pub equation-whole : (n : Nameless) (e : TypeTree × Nameless × Nameless) → IsWhole 0 n → nameless_as_equation n ≡ Some e → IsWhole 0 e.1 × IsWhole 0 e.2
equation-whole (nameless_application (nameless_application (nameless_constant c (ty ∷ [])) s) t) e w q =
    let k = (some-if (same_name c (codes "eq")) (ty, s, t) e q).1 in
    (subst (λ (n : Nameless). IsWhole 0 n) (ap (λ p. p.1) k) w.0.1, subst (λ (n : Nameless). IsWhole 0 n) (ap (λ p. p.2) k) w.1)
equation-whole n e w q = absurd (cc q)

pub implication-whole : (n : Nameless) (e : Nameless × Nameless) → IsWhole 0 n → nameless_as_implication n ≡ Some e → IsWhole 0 e.0 × IsWhole 0 e.1
implication-whole (nameless_application (nameless_application (nameless_constant c []) p) q) e w h =
    let k = (some-if (same_name c (codes "imp")) (p, q) e h).1 in
    (subst (λ (n : Nameless). IsWhole 0 n) (ap (λ p. p.0) k) w.0.1, subst (λ (n : Nameless). IsWhole 0 n) (ap (λ p. p.1) k) w.1)
implication-whole n e w q = absurd (cc q)

pub forall-whole : (n : Nameless) (e : TypeTree × Nameless) → IsWhole 0 n → nameless_as_forall n ≡ Some e → IsWhole 0 e.1
forall-whole (nameless_application (nameless_constant c (ty ∷ [])) p) e w q =
    let k = (some-if (same_name c (codes "all")) (ty, p) e q).1 in subst (λ (n : Nameless). IsWhole 0 n) (ap (λ p. p.1) k) w.1
forall-whole n e w q = absurd (cc q)

pub at-whole : (p t : Nameless) → IsWhole 0 p → IsWhole 0 t → IsWhole 0 (nameless_at p t)
at-whole (nameless_abstraction u b) t w h = instance-whole 0 t b h w
at-whole p t w h = (w, h)

pub beta-whole : (n b : Nameless) → IsWhole 0 n → nameless_beta n ≡ Some b → IsWhole 0 b
beta-whole (nameless_application (nameless_abstraction u c) a) b w e =
    let same : instance_at 0 a c ≡ b = cc e in subst (λ (n : Nameless). IsWhole 0 n) same (instance-whole 0 a c w.1 w.0)
beta-whole n b w e = absurd (cc e)

pub eta-whole : (n f : Nameless) → IsWhole 0 n → nameless_eta n ≡ Some f → IsWhole 0 f
eta-whole (nameless_abstraction u (nameless_application g (nameless_bound zero))) f w e =
    let k = some-if (not (has_index 0 g)) g f e in
    subst (λ (n : Nameless). IsWhole 0 n) k.1 (lower-whole 0 g (true-not (has_index 0 g) k.0) w.0) where
      true-not : (b : Bool) → not b ≡ true → b ≡ false
      true-not false e = refl
      true-not true e = absurd (true-false (sym e))
eta-whole n f w e = absurd (cc e)

good-step : (sig : Signature) (named : List (Chars × Nameless)) (done : List NamelessSequent) (line : Rule Nameless)
    → AreWholeStatements named → AreWholeSequents done → rule_fault sig (nameless_fault sig) line ≡ None → Good (nameless_step sig named done line)
good-step sig named done (by_assume p) n d t = let w = term-whole sig p t in good-holds (nameless_has_type sig p bool) NotBool (nameless_gives (p ∷ []) p) ((w, tt), w)
good-step sig named done (by_weaken p i) n d t = good-found MissingLine (line_at done i) _ (λ s e. let h = number-whole done i s d e in
    good-holds (nameless_has_type sig p bool) NotBool (nameless_gives (nameless_union s.hyps (p ∷ [])) s.concl) (union-whole s.hyps (p ∷ []) h.0 (term-whole sig p t, tt), h.1))
good-step sig named done (by_refl p) n d t = let w = term-whole sig p t in (tt, ((tt, w), w))
good-step sig named done (by_sym i) n d t = good-found MissingLine (line_at done i) _ (λ s e. let h = number-whole done i s d e in
    good-found NotEquation (nameless_as_equation s.concl) _ (λ q f. let k = equation-whole s.concl q h.1 f in (h.0, ((tt, k.1), k.0))))
good-step sig named done (by_trans i j) n d t = good-found MissingLine (line_at done i) _ (λ s e. good-found MissingLine (line_at done j) _ (λ u f.
    let h = number-whole done i s d e in let g = number-whole done j u d f in
    good-found NotEquation (nameless_as_equation s.concl) _ (λ q a. good-found NotEquation (nameless_as_equation u.concl) _ (λ r b.
    let k = equation-whole s.concl q h.1 a in let l = equation-whole u.concl r g.1 b in
    good-holds (same_nameless q.2 r.1) MiddleDiffers (nameless_gives (nameless_union s.hyps u.hyps) (nameless_equation q.0 q.1 r.2)) (union-whole s.hyps u.hyps h.0 g.0, ((tt, k.0), l.1))))))
good-step sig named done (by_cong i j) n d t = good-found MissingLine (line_at done i) _ (λ s e. good-found MissingLine (line_at done j) _ (λ u f.
    let h = number-whole done i s d e in let g = number-whole done j u d f in
    good-found NotEquation (nameless_as_equation s.concl) _ (λ q a. good-found NotEquation (nameless_as_equation u.concl) _ (λ r b.
    let k = equation-whole s.concl q h.1 a in let l = equation-whole u.concl r g.1 b in
    good-found TypeDiffers (joined_type q.0 r.0) _ (λ ty c. (union-whole s.hyps u.hyps h.0 g.0, ((tt, (k.0, l.0)), (k.1, l.1))))))))
good-step sig named done (by_abs x ty i) n d t = good-found MissingLine (line_at done i) _ (λ s e. let h = number-whole done i s d e in
    good-found NotEquation (nameless_as_equation s.concl) _ (λ q f. let k = equation-whole s.concl q h.1 f in
    good-holds (not (list_any (nameless_has_free x ty) s.hyps)) VariableInHypothesis (nameless_gives s.hyps (nameless_equation (fun ty q.0) (nameless_abstraction ty (abstracted 0 x ty q.1)) (nameless_abstraction ty (abstracted 0 x ty q.2)))) (h.0, ((tt, abstracted-whole 0 x ty q.1 k.0), abstracted-whole 0 x ty q.2 k.1))))
good-step sig named done (by_beta p) n d t = let w = term-whole sig p t in
    good-found NotRedex (nameless_beta p) _ (λ b e. (tt, ((tt, w), beta-whole p b w e)))
good-step sig named done (by_eta p) n d t = let w = term-whole sig p t in
    good-found NotRedex (nameless_eta p) _ (λ f e. (tt, ((tt, w), eta-whole p f w e)))
good-step sig named done (by_eqmp i j) n d t = good-found MissingLine (line_at done i) _ (λ s e. good-found MissingLine (line_at done j) _ (λ u f.
    let h = number-whole done i s d e in let g = number-whole done j u d f in
    good-found NotEquation (nameless_as_equation s.concl) _ (λ q a.
    good-holds (same_nameless q.1 u.concl) MiddleDiffers (nameless_gives (nameless_union s.hyps u.hyps) q.2) (union-whole s.hyps u.hyps h.0 g.0, (equation-whole s.concl q h.1 a).1))))
good-step sig named done (by_impI p i) n d t = good-found MissingLine (line_at done i) _ (λ s e. let h = number-whole done i s d e in
    good-holds (nameless_has_type sig p bool) NotBool (nameless_gives (nameless_without p s.hyps) (nameless_implies p s.concl)) (without-whole p s.hyps h.0, ((tt, term-whole sig p t), h.1)))
good-step sig named done (by_mp i j) n d t = good-found MissingLine (line_at done i) _ (λ s e. good-found MissingLine (line_at done j) _ (λ u f.
    let h = number-whole done i s d e in let g = number-whole done j u d f in
    good-found NotImplication (nameless_as_implication s.concl) _ (λ q a.
    good-holds (same_nameless q.0 u.concl) MiddleDiffers (nameless_gives (nameless_union s.hyps u.hyps) q.1) (union-whole s.hyps u.hyps h.0 g.0, (implication-whole s.concl q h.1 a).1))))
good-step sig named done (by_allI x ty i) n d t = good-found MissingLine (line_at done i) _ (λ s e. let h = number-whole done i s d e in
    good-holds (not (list_any (nameless_has_free x ty) s.hyps)) VariableInHypothesis (nameless_gives s.hyps (nameless_for_all ty (nameless_abstraction ty (abstracted 0 x ty s.concl)))) (h.0, (tt, abstracted-whole 0 x ty s.concl h.1)))
good-step sig named done (by_allE p i) n d t = good-found MissingLine (line_at done i) _ (λ s e. let h = number-whole done i s d e in
    good-found NotForall (nameless_as_forall s.concl) _ (λ a f.
    good-holds (nameless_has_type sig p a.0) TypeDiffers (nameless_gives s.hyps (nameless_at a.1 p)) (h.0, at-whole a.1 p (forall-whole s.concl a h.1 f) (term-whole sig p t))))
good-step sig named done (by_iff i j) n d t = good-found MissingLine (line_at done i) _ (λ s e. good-found MissingLine (line_at done j) _ (λ u f.
    let h = number-whole done i s d e in let g = number-whole done j u d f in
    good-found NotImplication (nameless_as_implication s.concl) _ (λ q a. good-found NotImplication (nameless_as_implication u.concl) _ (λ r b.
    let k = implication-whole s.concl q h.1 a in
    good-holds (same_nameless q.0 r.1 && same_nameless q.1 r.0) MiddleDiffers (nameless_gives (nameless_union s.hyps u.hyps) (nameless_equation bool q.0 q.1)) (union-whole s.hyps u.hyps h.0 g.0, ((tt, k.0), k.1))))))
good-step sig named done (by_inst x ty p i) n d t =
    let w = term-whole sig p (both-none (type_fault sig ty) (nameless_fault sig p) t).1 in
    good-found MissingLine (line_at done i) _ (λ s e. let h = number-whole done i s d e in
    good-holds (nameless_has_type sig p ty) TypeDiffers (nameless_gives (nameless_union [] (map (nameless_replaced x ty p) s.hyps)) (nameless_replaced x ty p s.concl)) (
      union-whole [] (map (nameless_replaced x ty p) s.hyps) tt
          (map-whole (nameless_replaced x ty p) (λ m v. replaced-whole 0 x ty p m w v) s.hyps h.0),
      replaced-whole 0 x ty p s.concl w h.1,
    ))
good-step sig named done (by_tinst a ty i) n d t = let m : TypeMap = (a, ty) ∷ [] in
    good-found MissingLine (line_at done i) _ (λ s e. let h = number-whole done i s d e in
    (union-whole [] (map (nameless_instance m) s.hyps) tt (map-whole (nameless_instance m) (λ k v. types-whole 0 m k v) s.hyps h.0), types-whole 0 m s.concl h.1))
good-step sig named done (by_select p) n d t = let w = term-whole sig p t in let v = further 0 1 p (omega arith) w in
    good-found TypeDiffers (predicate_over (nameless_type_of sig p)) _ (λ ty e. (tt, (tt, ((tt, (v, omega arith)), (v, (tt, v))))))
good-step sig named done (by_ccontr p) n d t = let w = term-whole sig p t in
    good-holds (nameless_has_type sig p bool) NotBool (nameless_gives [] (nameless_implies (nameless_implies (nameless_implies p nameless_falsity) nameless_falsity) p)) (tt, ((tt, ((tt, ((tt, w), (tt, omega arith))), (tt, omega arith))), w))
good-step sig named done (by_thm l) n d t = good-found UnknownLabel (found l named) _ (λ p e. (tt, statement-whole named l p n e))

pub step_stays_whole : (sig : Signature) (named : List (Chars × Nameless)) (done : List NamelessSequent) (line : Rule Nameless) (s : NamelessSequent)
    → AreWholeStatements named → AreWholeSequents done → rule_fault sig (nameless_fault sig) line ≡ None → nameless_step sig named done line ≡ Ok s → IsWholeSequent s
step_stays_whole sig named done line s n d t e = subst Good e (good-step sig named done line n d t)
