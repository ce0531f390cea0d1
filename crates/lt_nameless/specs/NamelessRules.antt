-- The rules over nameless terms, as a store of nameless nodes meets them. Nobody has to believe
-- this file: that these are the rules over named terms is a law.
-- Source: de Bruijn, for the operations; the rules are those of Rules.
use Rattle.std.specs.Prelude.{◌≡◌, ℕ, zero, suc, List, [], ◌∷◌, ◌++◌, Bool, false, ◌&&◌, ◌||◌, not, if◌then◌else◌, filter, map, slice_get, nat_eq, Option, Some, None, Result, Ok, Err, codes}
use Rattle.std.specs.Result.{result_unwrap_or, result_err}
use Rattle.std.specs.List.{All, list_any}
use Rattle.lt_definitions.specs.Types.{Chars, same_name, found, TypeTree, TypeMap, bool, fun, row, same_type, same_types, type_instance}
use Rattle.lt_definitions.specs.Terms.{TermTree}
use Rattle.lt_definitions.specs.Typing.{Signature, Fault, unbound, type_fault, with_ok, unless, bound_type, constant_type, applied_type, is_of_type}
use Rattle.lt_definitions.specs.Rules.{Rule, rule_map, by_assume, by_weaken, by_refl, by_sym, by_trans, by_cong, by_abs, by_beta, by_eta, by_eqmp, by_impI, by_mp, by_allI, by_allE, by_iff, by_inst, by_tinst, by_select, by_ccontr, by_thm, Outcome, where_holds, with_found, with_line, with_lines, joined_type, predicate_over}
use Rattle.lt_definitions.specs.declared.reason.Reason.{Reason}
use Rattle.lt_definitions.specs.declared.reason.Reason.TheVariants.{NotBool, NotEquation, MiddleDiffers, TypeDiffers, VariableInHypothesis, NotRedex, NotImplication, NotForall, UnknownLabel}
use Rattle.lt_nameless.specs.Nameless.{Nameless, nameless_free, nameless_bound, nameless_loose, nameless_constant, nameless_application, nameless_abstraction, nameless, NamelessSequent, nameless_sequent, IsWhole}

-- a term without loose indices put for the index that belongs to no binder, under d binders
abbrev pub instance_at : ℕ → Nameless → Nameless → Nameless
instance_at d by (nameless_free x ty) = nameless_free x ty
instance_at d by (nameless_bound i) = if nat_eq i d then by else nameless_bound i
instance_at d by (nameless_loose x) = nameless_loose x
instance_at d by (nameless_constant c ts) = nameless_constant c ts
instance_at d by (nameless_application f a) =
    nameless_application (instance_at d by f) (instance_at d by a)
instance_at d by (nameless_abstraction ty b) = nameless_abstraction ty (instance_at (suc d) by b)

-- that index put for a free variable, under d binders
abbrev pub abstracted : ℕ → Chars → TypeTree → Nameless → Nameless
abstracted d x ty (nameless_free y u) =
    if same_name x y && same_type ty u then nameless_bound d else nameless_free y u
abstracted d x ty (nameless_bound i) = nameless_bound i
abstracted d x ty (nameless_loose y) = nameless_loose y
abstracted d x ty (nameless_constant c ts) = nameless_constant c ts
abstracted d x ty (nameless_application f a) =
    nameless_application (abstracted d x ty f) (abstracted d x ty a)
abstracted d x ty (nameless_abstraction u b) = nameless_abstraction u (abstracted (suc d) x ty b)

-- a term without loose indices put for a free variable
abbrev pub nameless_replaced : Chars → TypeTree → Nameless → Nameless → Nameless
nameless_replaced x ty by (nameless_free y u) =
    if same_name x y && same_type ty u then by else nameless_free y u
nameless_replaced x ty by (nameless_bound i) = nameless_bound i
nameless_replaced x ty by (nameless_loose y) = nameless_loose y
nameless_replaced x ty by (nameless_constant c ts) = nameless_constant c ts
nameless_replaced x ty by (nameless_application f a) =
    nameless_application (nameless_replaced x ty by f) (nameless_replaced x ty by a)
nameless_replaced x ty by (nameless_abstraction u b) =
    nameless_abstraction u (nameless_replaced x ty by b)

-- types put for type variables
abbrev pub nameless_instance : TypeMap → Nameless → Nameless
nameless_instance m (nameless_free x ty) = nameless_free x (type_instance m ty)
nameless_instance m (nameless_bound i) = nameless_bound i
nameless_instance m (nameless_loose x) = nameless_loose x
nameless_instance m (nameless_constant c ts) = nameless_constant c (map (type_instance m) ts)
nameless_instance m (nameless_application f a) =
    nameless_application (nameless_instance m f) (nameless_instance m a)
nameless_instance m (nameless_abstraction ty b) =
    nameless_abstraction (type_instance m ty) (nameless_instance m b)

-- whether the free variable of that name and type occurs
abbrev pub nameless_has_free : Chars → TypeTree → Nameless → Bool
nameless_has_free x ty (nameless_free y u) = same_name x y && same_type ty u
nameless_has_free x ty (nameless_application f a) =
    nameless_has_free x ty f || nameless_has_free x ty a
nameless_has_free x ty (nameless_abstraction u b) = nameless_has_free x ty b
nameless_has_free x ty _ = false

-- whether the index that belongs to no binder occurs, under d binders
abbrev pub has_index : ℕ → Nameless → Bool
has_index d (nameless_bound i) = nat_eq i d
has_index d (nameless_application f a) = has_index d f || has_index d a
has_index d (nameless_abstraction u b) = has_index (suc d) b
has_index d _ = false

-- whether two terms are one tree
abbrev pub same_nameless : Nameless → Nameless → Bool
same_nameless (nameless_free x t) (nameless_free y u) = same_name x y && same_type t u
same_nameless (nameless_bound i) (nameless_bound j) = nat_eq i j
same_nameless (nameless_loose x) (nameless_loose y) = same_name x y
same_nameless (nameless_constant c ts) (nameless_constant d us) =
    same_name c d && same_types (row ts) (row us)
same_nameless (nameless_application f a) (nameless_application g b) =
    same_nameless f g && same_nameless a b
same_nameless (nameless_abstraction t b) (nameless_abstraction u c) =
    same_type t u && same_nameless b c
same_nameless _ _ = false

-- the type under binders of these types, the innermost first
abbrev pub nameless_typed : Signature → List TypeTree → Nameless → Result TypeTree Fault
nameless_typed sig tys (nameless_free x ty) = unless (type_fault sig ty) (Ok ty)
nameless_typed sig tys (nameless_bound i) = bound_type [] (slice_get tys i)
nameless_typed sig tys (nameless_loose x) = Err (unbound x)
nameless_typed sig tys (nameless_constant c ts) = constant_type sig c ts (found c sig.consts)
nameless_typed sig tys (nameless_application f a) =
    with_ok (nameless_typed sig tys f) (λ t.
    with_ok (nameless_typed sig tys a) (λ u. applied_type t u))
nameless_typed sig tys (nameless_abstraction ty b) =
    unless (type_fault sig ty) (with_ok (nameless_typed sig (ty ∷ tys) b) (λ u. Ok (fun ty u)))

-- whether a term under no binder has the type
abbrev pub nameless_has_type : Signature → Nameless → TypeTree → Bool
nameless_has_type sig t ty = is_of_type ty (nameless_typed sig [] t)

-- the type of a typed term
abbrev pub nameless_type_of : Signature → Nameless → TypeTree
nameless_type_of sig t = result_unwrap_or (nameless_typed sig [] t) bool

-- s = t at a type
abbrev pub nameless_equation : TypeTree → Nameless → Nameless → Nameless
nameless_equation ty s t =
    nameless_application (nameless_application (nameless_constant (codes "eq") (ty ∷ [])) s) t

-- p --> q
abbrev pub nameless_implies : Nameless → Nameless → Nameless
nameless_implies p q =
    nameless_application (nameless_application (nameless_constant (codes "imp") []) p) q

-- all p, where p is a predicate over the type
abbrev pub nameless_for_all : TypeTree → Nameless → Nameless
nameless_for_all ty p = nameless_application (nameless_constant (codes "all") (ty ∷ [])) p

-- F: all q. q at bool
abbrev pub nameless_falsity : Nameless
nameless_falsity = nameless_for_all bool (nameless_abstraction bool (nameless_bound 0))

-- all x. p x --> p (eps p)
abbrev pub nameless_selection : TypeTree → Nameless → Nameless
nameless_selection ty p = nameless_for_all ty (nameless_abstraction ty
    (nameless_implies (nameless_application p (nameless_bound 0))
    (nameless_application p (nameless_application (nameless_constant (codes "eps") (ty ∷ [])) p))))

-- the type and the sides of an equation
abbrev pub nameless_as_equation : Nameless → Option (TypeTree × Nameless × Nameless)
nameless_as_equation (nameless_application (nameless_application (nameless_constant c (ty
    ∷ [])) s) t) =
    if same_name c (codes "eq") then Some (ty, s, t) else None
nameless_as_equation _ = None

-- the sides of an implication
abbrev pub nameless_as_implication : Nameless → Option (Nameless × Nameless)
nameless_as_implication (nameless_application (nameless_application (nameless_constant c []) p) q) =
    if same_name c (codes "imp") then Some (p, q) else None
nameless_as_implication _ = None

-- the type and the predicate of an all
abbrev pub nameless_as_forall : Nameless → Option (TypeTree × Nameless)
nameless_as_forall (nameless_application (nameless_constant c (ty ∷ [])) p) =
    if same_name c (codes "all") then Some (ty, p) else None
nameless_as_forall _ = None

-- an abstraction opened by the argument, or else the application to it
abbrev pub nameless_at : Nameless → Nameless → Nameless
nameless_at (nameless_abstraction u b) t = instance_at 0 t b
nameless_at p t = nameless_application p t

-- what an abstraction that is applied opens to
abbrev pub nameless_beta : Nameless → Option Nameless
nameless_beta (nameless_application (nameless_abstraction u b) a) = Some (instance_at 0 a b)
nameless_beta _ = None

-- f, of an abstraction of f applied to its index, where f doesn't have that index
abbrev pub nameless_eta : Nameless → Option Nameless
nameless_eta (nameless_abstraction u (nameless_application f (nameless_bound zero))) =
    if not (has_index 0 f) then Some f else None
nameless_eta _ = None

-- the union: hs, then those of ks that aren't there
abbrev pub nameless_union : List Nameless → List Nameless → List Nameless
nameless_union hs [] = hs
nameless_union hs (k ∷ ks) =
    nameless_union (if list_any (same_nameless k) hs then hs else hs ++ k ∷ []) ks

-- the removal: hs without p
abbrev pub nameless_without : Nameless → List Nameless → List Nameless
nameless_without p hs = filter (λ h. not (same_nameless p h)) hs

-- the nameless form of a line
abbrev pub nameless_rule : Rule TermTree → Rule Nameless
nameless_rule = rule_map (nameless [])

-- the first fault of a term under no binder
abbrev pub nameless_fault : Signature → Nameless → Option Fault
nameless_fault sig t = result_err (nameless_typed sig [] t)

-- A sequent, or the first reason why there is none.
abbrev pub NamelessOutcome : Type 0
NamelessOutcome = Result NamelessSequent Reason

-- the sequent of these hypotheses and this conclusion
abbrev pub nameless_gives : List Nameless → Nameless → NamelessOutcome
nameless_gives hs p = Ok (record { hyps = hs; concl = p })

-- the nameless form of an outcome
abbrev pub nameless_outcome : Outcome → NamelessOutcome
nameless_outcome (Ok s) = Ok (nameless_sequent s)
nameless_outcome (Err r) = Err r

-- the nameless forms of named statements
abbrev pub nameless_statements : List (Chars × TermTree) → List (Chars × Nameless)
nameless_statements named = map (λ p. (p.0, nameless [] p.1)) named

-- p |- p
abbrev pub nameless_assume_gives : Signature → Nameless → NamelessOutcome
nameless_assume_gives sig p =
    where_holds (nameless_has_type sig p bool) NotBool (nameless_gives (p ∷ []) p)

-- from H |- q: H and p |- q
abbrev pub weakened : Signature → Nameless → NamelessSequent → NamelessOutcome
weakened sig p s =
    where_holds (nameless_has_type sig p bool) NotBool
    (nameless_gives (nameless_union s.hyps (p ∷ [])) s.concl)

abbrev pub nameless_weaken_gives : Signature → List NamelessSequent → Nameless → ℕ → NamelessOutcome
nameless_weaken_gives sig done p i = with_line done i (weakened sig p)

-- |- t = t
abbrev pub nameless_refl_gives : Signature → Nameless → NamelessOutcome
nameless_refl_gives sig t =
    nameless_gives [] (nameless_equation (nameless_type_of sig t) t t)

-- from H |- s = t: H |- t = s
abbrev pub turned : NamelessSequent → NamelessOutcome
turned s = with_found NotEquation (nameless_as_equation s.concl) (λ e.
    nameless_gives s.hyps (nameless_equation e.0 e.2 e.1))

abbrev pub nameless_sym_gives : List NamelessSequent → ℕ → NamelessOutcome
nameless_sym_gives done i = with_line done i turned

-- from H |- r = s and K |- s = t: H and K |- r = t
abbrev pub linked : NamelessSequent → NamelessSequent → NamelessOutcome
linked s u =
    with_found NotEquation (nameless_as_equation s.concl) (λ e.
    with_found NotEquation (nameless_as_equation u.concl) (λ d.
    where_holds (same_nameless e.2 d.1) MiddleDiffers
    (nameless_gives (nameless_union s.hyps u.hyps) (nameless_equation e.0 e.1 d.2))))

abbrev pub nameless_trans_gives : List NamelessSequent → ℕ → ℕ → NamelessOutcome
nameless_trans_gives done i j = with_lines done i j linked

-- from H |- f = g and K |- a = b: H and K |- f a = g b
abbrev pub applied_both : NamelessSequent → NamelessSequent → NamelessOutcome
applied_both s u =
    with_found NotEquation (nameless_as_equation s.concl) (λ e.
    with_found NotEquation (nameless_as_equation u.concl) (λ d.
    with_found TypeDiffers (joined_type e.0 d.0)
    (λ ty. nameless_gives (nameless_union s.hyps u.hyps)
    (nameless_equation ty (nameless_application e.1 d.1) (nameless_application e.2 d.2)))))

abbrev pub nameless_cong_gives : List NamelessSequent → ℕ → ℕ → NamelessOutcome
nameless_cong_gives done i j = with_lines done i j applied_both

-- from H |- s = t: H |- (\x. s) = (\x. t)
abbrev pub abstracted_both : Chars → TypeTree → NamelessSequent → NamelessOutcome
abstracted_both x ty s = with_found NotEquation (nameless_as_equation s.concl) (λ e.
    where_holds (not (list_any (nameless_has_free x ty) s.hyps)) VariableInHypothesis
    (nameless_gives s.hyps (nameless_equation (fun ty e.0)
    (nameless_abstraction ty (abstracted 0 x ty e.1))
    (nameless_abstraction ty (abstracted 0 x ty e.2)))))

abbrev pub nameless_abs_gives : List NamelessSequent → Chars → TypeTree → ℕ → NamelessOutcome
nameless_abs_gives done x ty i = with_line done i (abstracted_both x ty)

-- |- t = b, the body opened
abbrev pub nameless_beta_gives : Signature → Nameless → NamelessOutcome
nameless_beta_gives sig t =
    with_found NotRedex (nameless_beta t)
    (λ b. nameless_gives [] (nameless_equation (nameless_type_of sig t) t b))

-- |- t = f, the function of an eta redex
abbrev pub nameless_eta_gives : Signature → Nameless → NamelessOutcome
nameless_eta_gives sig t =
    with_found NotRedex (nameless_eta t)
    (λ f. nameless_gives [] (nameless_equation (nameless_type_of sig t) t f))

-- from H |- p = q and K |- p: H and K |- q
abbrev pub carried_over : NamelessSequent → NamelessSequent → NamelessOutcome
carried_over s u = with_found NotEquation (nameless_as_equation s.concl) (λ e.
    where_holds (same_nameless e.1 u.concl) MiddleDiffers
    (nameless_gives (nameless_union s.hyps u.hyps) e.2))

abbrev pub nameless_eqmp_gives : List NamelessSequent → ℕ → ℕ → NamelessOutcome
nameless_eqmp_gives done i j = with_lines done i j carried_over

-- from H |- q: H without p |- p --> q
abbrev pub discharged : Signature → Nameless → NamelessSequent → NamelessOutcome
discharged sig p s =
    where_holds (nameless_has_type sig p bool) NotBool
    (nameless_gives (nameless_without p s.hyps) (nameless_implies p s.concl))

abbrev pub nameless_impI_gives : Signature → List NamelessSequent → Nameless → ℕ → NamelessOutcome
nameless_impI_gives sig done p i = with_line done i (discharged sig p)

-- from H |- p --> q and K |- p: H and K |- q
abbrev pub detached : NamelessSequent → NamelessSequent → NamelessOutcome
detached s u = with_found NotImplication (nameless_as_implication s.concl) (λ e.
    where_holds (same_nameless e.0 u.concl) MiddleDiffers
    (nameless_gives (nameless_union s.hyps u.hyps) e.1))

abbrev pub nameless_mp_gives : List NamelessSequent → ℕ → ℕ → NamelessOutcome
nameless_mp_gives done i j = with_lines done i j detached

-- from H |- p: H |- all x. p
abbrev pub generalised : Chars → TypeTree → NamelessSequent → NamelessOutcome
generalised x ty s =
    where_holds (not (list_any (nameless_has_free x ty) s.hyps)) VariableInHypothesis
    (nameless_gives s.hyps
    (nameless_for_all ty (nameless_abstraction ty (abstracted 0 x ty s.concl))))

abbrev pub nameless_allI_gives : List NamelessSequent → Chars → TypeTree → ℕ → NamelessOutcome
nameless_allI_gives done x ty i = with_line done i (generalised x ty)

-- from H |- all p: H |- p opened by t, or p t
abbrev pub at_one : Signature → Nameless → NamelessSequent → NamelessOutcome
at_one sig t s = with_found NotForall (nameless_as_forall s.concl) (λ a.
    where_holds (nameless_has_type sig t a.0) TypeDiffers
    (nameless_gives s.hyps (nameless_at a.1 t)))

abbrev pub nameless_allE_gives : Signature → List NamelessSequent → Nameless → ℕ → NamelessOutcome
nameless_allE_gives sig done t i = with_line done i (at_one sig t)

-- from H |- p --> q and K |- q --> p: H and K |- p = q
abbrev pub both_ways : NamelessSequent → NamelessSequent → NamelessOutcome
both_ways s u = with_found NotImplication (nameless_as_implication s.concl) (λ e.
    with_found NotImplication (nameless_as_implication u.concl) (λ d.
    where_holds (same_nameless e.0 d.1 && same_nameless e.1 d.0) MiddleDiffers
    (nameless_gives (nameless_union s.hyps u.hyps) (nameless_equation bool e.0 e.1))))

abbrev pub nameless_iff_gives : List NamelessSequent → ℕ → ℕ → NamelessOutcome
nameless_iff_gives done i j = with_lines done i j both_ways

-- from H |- p: a term put for a free variable throughout
abbrev pub put_term : Signature → Chars → TypeTree → Nameless → NamelessSequent → NamelessOutcome
put_term sig x ty t s = where_holds (nameless_has_type sig t ty) TypeDiffers
    (nameless_gives (nameless_union [] (map (nameless_replaced x ty t) s.hyps))
    (nameless_replaced x ty t s.concl))

abbrev pub nameless_inst_gives : Signature → List NamelessSequent → Chars → TypeTree → Nameless
    → ℕ → NamelessOutcome
nameless_inst_gives sig done x ty t i = with_line done i (put_term sig x ty t)

-- from H |- p: a type put for a type variable throughout, which is never refused
abbrev pub put_one : Chars → TypeTree → NamelessSequent → NamelessSequent
put_one a ty s = let m : TypeMap = (a, ty) ∷ [] in record {
  hyps = nameless_union [] (map (nameless_instance m) s.hyps);
  concl = nameless_instance m s.concl;
}

abbrev pub nameless_tinst_gives : List NamelessSequent → Chars → TypeTree → ℕ → NamelessOutcome
nameless_tinst_gives done a ty i = with_line done i (λ s. Ok (put_one a ty s))

-- |- all x. p x --> p (eps p)
abbrev pub nameless_select_gives : Signature → Nameless → NamelessOutcome
nameless_select_gives sig p =
    with_found TypeDiffers (predicate_over (nameless_type_of sig p))
    (λ ty. nameless_gives [] (nameless_selection ty p))

-- |- ((p --> F) --> F) --> p
abbrev pub nameless_ccontr_gives : Signature → Nameless → NamelessOutcome
nameless_ccontr_gives sig p =
    where_holds (nameless_has_type sig p bool) NotBool
    (nameless_gives []
    (nameless_implies (nameless_implies (nameless_implies p nameless_falsity) nameless_falsity) p))

-- |- the statement of the label
abbrev pub nameless_thm_gives : List (Chars × Nameless) → Chars → NamelessOutcome
nameless_thm_gives named l =
    with_found UnknownLabel (found l named) (λ p. nameless_gives [] p)

-- Step over nameless terms: that it is Step at each named reading is a law.
abbrev pub nameless_step : Signature → List (Chars × Nameless) → List NamelessSequent
    → Rule Nameless → NamelessOutcome
nameless_step sig named done (by_assume p) = nameless_assume_gives sig p
nameless_step sig named done (by_weaken p i) = nameless_weaken_gives sig done p i
nameless_step sig named done (by_refl t) = nameless_refl_gives sig t
nameless_step sig named done (by_sym i) = nameless_sym_gives done i
nameless_step sig named done (by_trans i j) = nameless_trans_gives done i j
nameless_step sig named done (by_cong i j) = nameless_cong_gives done i j
nameless_step sig named done (by_abs x ty i) = nameless_abs_gives done x ty i
nameless_step sig named done (by_beta t) = nameless_beta_gives sig t
nameless_step sig named done (by_eta t) = nameless_eta_gives sig t
nameless_step sig named done (by_eqmp i j) = nameless_eqmp_gives done i j
nameless_step sig named done (by_impI p i) = nameless_impI_gives sig done p i
nameless_step sig named done (by_mp i j) = nameless_mp_gives done i j
nameless_step sig named done (by_allI x ty i) = nameless_allI_gives done x ty i
nameless_step sig named done (by_allE t i) = nameless_allE_gives sig done t i
nameless_step sig named done (by_iff i j) = nameless_iff_gives done i j
nameless_step sig named done (by_inst x ty t i) = nameless_inst_gives sig done x ty t i
nameless_step sig named done (by_tinst a ty i) = nameless_tinst_gives done a ty i
nameless_step sig named done (by_select p) = nameless_select_gives sig p
nameless_step sig named done (by_ccontr p) = nameless_ccontr_gives sig p
nameless_step sig named done (by_thm l) = nameless_thm_gives named l

-- Each index of each term has its binder.
abbrev pub AreWhole : List Nameless → Type 0
AreWhole [] = Unit {0}
AreWhole (n ∷ ns) = IsWhole 0 n × AreWhole ns

-- The same of a sequent.
abbrev pub IsWholeSequent : NamelessSequent → Type 0
IsWholeSequent s = AreWhole s.hyps × IsWhole 0 s.concl

-- The same of sequents.
abbrev pub AreWholeSequents : List NamelessSequent → Type 0
AreWholeSequents [] = Unit {0}
AreWholeSequents (s ∷ ss) = IsWholeSequent s × AreWholeSequents ss

-- The same of named statements.
abbrev pub AreWholeStatements : List (Chars × Nameless) → Type 0
AreWholeStatements [] = Unit {0}
AreWholeStatements (p ∷ ps) = IsWhole 0 p.1 × AreWholeStatements ps

-- A boolean nameless term.
abbrev pub IsBooleanNameless : Signature → Nameless → Type 0
IsBooleanNameless sig n = nameless_typed sig [] n ≡ Ok bool

-- A sequent of such terms.
pub record IsBooleanNamelessSequent (sig : Signature) (s : NamelessSequent) : Type 0 where
  pub hyps : All (IsBooleanNameless sig) s.hyps
  pub concl : IsBooleanNameless sig s.concl
