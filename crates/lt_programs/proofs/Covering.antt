-- What is typed and derived over few declarations is so over any that cover them.
use Rattle.std.proofs.Common.{◌≡◌, ℕ, inl, inr, List, [], ◌∷◌, ◌++◌, length, Bool, true, false, map, if◌then◌else◌, nat_eq, Option, Some, None, Result, Ok, Err, refl, sym, ◌∙◌, ap}
use Rattle.std.specs.Result.{result_err, result_unwrap_or}
use Rattle.std.proofs.lemmas.Option.{same_Some, none-some}
use Rattle.std.proofs.lemmas.Bool.{cases_Bool, cond-true, cond-false}
use Rattle.lt_definitions.specs.Types.{Chars, same_name, found, TypeTree, TypeTrees, type_variable, type_constructor, no_types, type_and, bool, fun, listed, row, type_variables}
use Rattle.lt_definitions.specs.Typing.{Signature, built_in, Fault, constructor_fault, type_fault, types_fault, with_ok, unless, at_types, constant_type, applied_type, is_of_type}
use Rattle.lt_definitions.specs.Rules.{Rule, by_assume, by_weaken, by_refl, by_sym, by_trans, by_cong, by_abs, by_beta, by_eta, by_eqmp, by_impI, by_mp, by_allI, by_allE, by_iff, by_inst, by_tinst, by_select, by_ccontr, by_thm, where_holds, with_found, with_line, predicate_over}
use Rattle.lt_definitions.specs.declared.reason.Reason.TheVariants.{NotBool, TypeDiffers, NotRedex, NotForall}
use Rattle.lt_definitions.specs.Derivations.{IsPartOf, rule_fault}
use Rattle.lt_definitions.proofs.TypingLemmas.{both-none, none-both, typed-some}
use Rattle.lt_nameless.specs.Booleans.{IsSoundSignature}
use Rattle.lt_nameless.specs.Nameless.{Nameless, nameless_free, nameless_bound, nameless_loose, nameless_constant, nameless_application, nameless_abstraction, NamelessSequent}
use Rattle.lt_nameless.specs.NamelessRules.{NamelessOutcome, nameless_typed, nameless_has_type, nameless_type_of, nameless_fault, nameless_step, nameless_gives, nameless_union, nameless_without, nameless_implies, nameless_equation, nameless_for_all, nameless_falsity, nameless_selection, nameless_as_forall, nameless_at, nameless_beta, nameless_eta, nameless_replaced}
use Rattle.lt_programs.specs.Programs.{followed, AreGood}

-- What has no fault over the first has none over the second, and each constant that has a type there has it here.
pub record Covers (small sig : Signature) : Type 0 where
  pub types : (c : Chars) (k : ℕ) → found c small.types ≡ Some k → found c sig.types ≡ Some k
  pub consts : (c : Chars) (ts : List TypeTree) (ty : TypeTree) → constant_type small c ts (found c small.consts) ≡ Ok ty
      → constant_type sig c ts (found c sig.consts) ≡ Ok ty

ok-of : {A B : Type 0} (r : Result A Fault) (f : A → Result B Fault) (y : B) → with_ok r f ≡ Ok y → (x : A) × (r ≡ Ok x) × (f x ≡ Ok y)
ok-of (Ok x) f y e = (x, refl, e)
ok-of (Err d) f y e = absurd (cc e)

unless-of : {A : Type 0} (o : Option Fault) (r : Result A Fault) (x : A) → unless o r ≡ Ok x → (o ≡ None) × (r ≡ Ok x)
unless-of None r x e = (refl, e)
unless-of (Some f) r x e = absurd (cc e)

constructor-covers : (c : Chars) (n : ℕ) (o p : Option ℕ) → ((k : ℕ) → o ≡ Some k → p ≡ Some k) → constructor_fault c n o ≡ None → constructor_fault c n p ≡ None
constructor-covers c n None p h e = absurd (cc e)
constructor-covers c n (Some k) p h e = ap (constructor_fault c n) (h k refl) ∙ e

module _ (small sig : Signature) (h : (c : Chars) (k : ℕ) → found c small.types ≡ Some k → found c sig.types ≡ Some k) where
  mutual
    pub type-covers : (t : TypeTree) → type_fault small t ≡ None → type_fault sig t ≡ None
    type-covers (type_variable a) e = refl
    type-covers (type_constructor c ts) e =
        let k = both-none (constructor_fault c (length (listed ts)) (found c small.types)) (types_fault small ts) e in
        none-both (constructor_fault c (length (listed ts)) (found c sig.types)) (types_fault sig ts)
        (constructor-covers c (length (listed ts)) (found c small.types) (found c sig.types) (h c) k.0) (types-covers ts k.1)

    pub types-covers : (ts : TypeTrees) → types_fault small ts ≡ None → types_fault sig ts ≡ None
    types-covers no_types e = refl
    types-covers (type_and t ts) e =
        let k = both-none (type_fault small t) (types_fault small ts) e in
        none-both (type_fault sig t) (types_fault sig ts) (type-covers t k.0) (types-covers ts k.1)

module _ (small sig : Signature) (h : Covers small sig) where
  pub typed-covers : (tys : List TypeTree) (n : Nameless) (ty : TypeTree) → nameless_typed small tys n ≡ Ok ty → nameless_typed sig tys n ≡ Ok ty
  typed-covers tys (nameless_free x u) ty e =
      let k = unless-of (type_fault small u) (Ok u) ty e in
      ap (λ o. unless o (Ok u)) (type-covers small sig h.types u k.0) ∙ k.1
  typed-covers tys (nameless_bound i) ty e = e
  typed-covers tys (nameless_loose x) ty e = absurd (cc e)
  typed-covers tys (nameless_constant c ts) ty e = h.consts c ts ty e
  typed-covers tys (nameless_application f a) ty e =
      let k = ok-of (nameless_typed small tys f) (λ t. with_ok (nameless_typed small tys a) (λ u. applied_type t u)) ty e in
      let l = ok-of (nameless_typed small tys a) (λ u. applied_type k.0 u) ty k.2 in
      (λ i. with_ok (typed-covers tys f k.0 k.1 i) (λ t. with_ok (typed-covers tys a l.0 l.1 i) (λ u. applied_type t u))) ∙ l.2
  typed-covers tys (nameless_abstraction u b) ty e =
      let k = unless-of (type_fault small u) (with_ok (nameless_typed small (u ∷ tys) b) (λ v. Ok (fun u v))) ty e in
      let l = ok-of (nameless_typed small (u ∷ tys) b) (λ v. Ok (fun u v)) ty k.1 in
      (λ i. unless (type-covers small sig h.types u k.0 i) (with_ok (typed-covers (u ∷ tys) b l.0 l.1 i) (λ v. Ok (fun u v)))) ∙ l.2

  -- a term has one type over both
  same-typed : (n : Nameless) → nameless_fault small n ≡ None → nameless_typed sig [] n ≡ nameless_typed small [] n
  same-typed n e = let k = typed-some (nameless_typed small [] n) e in typed-covers [] n k.0 k.1 ∙ sym k.1

  pub fault-covers : (n : Nameless) → nameless_fault small n ≡ None → nameless_fault sig n ≡ None
  fault-covers n e = ap result_err (same-typed n e) ∙ e

  pub rule-covers : (r : Rule Nameless) → rule_fault small (nameless_fault small) r ≡ None → rule_fault sig (nameless_fault sig) r ≡ None
  rule-covers (by_assume p) e = fault-covers p e
  rule-covers (by_weaken p i) e = fault-covers p e
  rule-covers (by_refl t) e = fault-covers t e
  rule-covers (by_sym i) e = refl
  rule-covers (by_trans i j) e = refl
  rule-covers (by_cong i j) e = refl
  rule-covers (by_abs x ty i) e = type-covers small sig h.types ty e
  rule-covers (by_beta t) e = fault-covers t e
  rule-covers (by_eta t) e = fault-covers t e
  rule-covers (by_eqmp i j) e = refl
  rule-covers (by_impI p i) e = fault-covers p e
  rule-covers (by_mp i j) e = refl
  rule-covers (by_allI x ty i) e = type-covers small sig h.types ty e
  rule-covers (by_allE t i) e = fault-covers t e
  rule-covers (by_iff i j) e = refl
  rule-covers (by_inst x ty t i) e =
      let k = both-none (type_fault small ty) (nameless_fault small t) e in
      none-both (type_fault sig ty) (nameless_fault sig t) (type-covers small sig h.types ty k.0) (fault-covers t k.1)
  rule-covers (by_tinst a ty i) e = type-covers small sig h.types ty e
  rule-covers (by_select p) e = fault-covers p e
  rule-covers (by_ccontr p) e = fault-covers p e
  rule-covers (by_thm l) e = refl

  -- a rule gives the same over both
  pub step-covers : (done : List NamelessSequent) (r : Rule Nameless) → rule_fault small (nameless_fault small) r ≡ None → nameless_step sig [] done r ≡ nameless_step small [] done r
  step-covers done (by_assume p) e = ap (λ t. where_holds (is_of_type bool t) NotBool (nameless_gives (p ∷ []) p)) (same-typed p e)
  step-covers done (by_weaken p i) e =
      ap (λ t. with_line done i (λ s. where_holds (is_of_type bool t) NotBool (nameless_gives (nameless_union s.hyps (p ∷ [])) s.concl))) (same-typed p e)
  step-covers done (by_refl t) e = ap (λ r. nameless_gives [] (nameless_equation (result_unwrap_or r bool) t t)) (same-typed t e)
  step-covers done (by_sym i) e = refl
  step-covers done (by_trans i j) e = refl
  step-covers done (by_cong i j) e = refl
  step-covers done (by_abs x ty i) e = refl
  step-covers done (by_beta t) e =
      ap (λ r. with_found NotRedex (nameless_beta t) (λ b. nameless_gives [] (nameless_equation (result_unwrap_or r bool) t b))) (same-typed t e)
  step-covers done (by_eta t) e =
      ap (λ r. with_found NotRedex (nameless_eta t) (λ f. nameless_gives [] (nameless_equation (result_unwrap_or r bool) t f))) (same-typed t e)
  step-covers done (by_eqmp i j) e = refl
  step-covers done (by_impI p i) e =
      ap (λ t. with_line done i (λ s. where_holds (is_of_type bool t) NotBool (nameless_gives (nameless_without p s.hyps) (nameless_implies p s.concl)))) (same-typed p e)
  step-covers done (by_mp i j) e = refl
  step-covers done (by_allI x ty i) e = refl
  step-covers done (by_allE t i) e =
      ap (λ r. with_line done i (λ s. with_found NotForall (nameless_as_forall s.concl) (λ a. where_holds (is_of_type a.0 r) TypeDiffers (nameless_gives s.hyps (nameless_at a.1 t))))) (same-typed t e)
  step-covers done (by_iff i j) e = refl
  step-covers done (by_inst x ty t i) e =
      let k = both-none (type_fault small ty) (nameless_fault small t) e in
      ap (λ r. with_line done i (λ s. where_holds (is_of_type ty r) TypeDiffers (nameless_gives (nameless_union [] (map (nameless_replaced x ty t) s.hyps)) (nameless_replaced x ty t s.concl)))) (same-typed t k.1)
  step-covers done (by_tinst a ty i) e = refl
  step-covers done (by_select p) e =
      ap (λ r. with_found TypeDiffers (predicate_over (result_unwrap_or r bool)) (λ ty. nameless_gives [] (nameless_selection ty p))) (same-typed p e)
  step-covers done (by_ccontr p) e =
      ap (λ t. where_holds (is_of_type bool t) NotBool (nameless_gives [] (nameless_implies (nameless_implies (nameless_implies p nameless_falsity) nameless_falsity) p))) (same-typed p e)
  step-covers done (by_thm l) e = refl

  pub good-covers : (rs : List (Rule Nameless)) → AreGood small rs → AreGood sig rs
  good-covers [] g = tt
  good-covers (r ∷ rs) g = (rule-covers r g.0, good-covers rs g.1)

  pub followed-covers : (done : List NamelessSequent) (rs : List (Rule Nameless)) → AreGood small rs → followed sig done rs ≡ followed small done rs
  followed-covers done [] g = refl
  followed-covers done (r ∷ rs) g =
      ap (λ o. with_ok o (λ s. followed sig (done ++ s ∷ []) rs)) (step-covers done r g.0)
      ∙ further (nameless_step small [] done r) (λ s. followed-covers (done ++ s ∷ []) rs g.1)
    where
      further : (o : NamelessOutcome) → ((s : NamelessSequent) → followed sig (done ++ s ∷ []) rs ≡ followed small (done ++ s ∷ []) rs)
          → with_ok o (λ s. followed sig (done ++ s ∷ []) rs) ≡ with_ok o (λ s. followed small (done ++ s ∷ []) rs)
      further (Ok s) k = k s
      further (Err e) k = refl
