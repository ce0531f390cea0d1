-- Equations of functions at arguments, and definitions unfolded.
use Rattle.std.proofs.Common.{◌≡◌, ℕ, zero, suc, ◌+◌, ◌<◌, ◌≤◌, List, [], ◌∷◌, length, get_or, drop, drop-cons, add-one, slice_get, codes, is_ok, is_some, Bool, true, false, Option, Some, None, Result, Ok, Err, refl, sym, ◌∙◌, ap, subst, arith}
use Rattle.std.specs.Option.{option_map}
use Rattle.std.specs.Result.{result_unwrap_or}
use Rattle.std.specs.List.{All}
use Rattle.std.proofs.lemmas.Option.{same_Some, slice_get_within, get_or_from_slice_get}
use Rattle.lt_definitions.specs.Types.{Chars, found, TypeTree, TypeMap, bool, fun}
use Rattle.lt_definitions.specs.Typing.{Signature, with_ok}
use Rattle.lt_definitions.specs.Rules.{line_at, with_line, with_found, joined_type}
use Rattle.lt_definitions.specs.declared.reason.Reason.{Reason}
use Rattle.lt_definitions.specs.declared.reason.Reason.TheVariants.{MissingLine, UnknownLabel, NotEquation, TypeDiffers}
use Rattle.lt_definitions.proofs.RuleLemmas.{found-on}
use Rattle.lt_definitions.proofs.TypingLemmas.{typed-some}
use Rattle.lt_nameless.specs.Nameless.{Nameless, nameless_free, nameless_bound, nameless_loose, nameless_constant, nameless_application, nameless_abstraction, NamelessSequent}
use Rattle.lt_nameless.specs.NamelessRules.{NamelessOutcome, nameless_typed, nameless_fault, nameless_type_of, nameless_equation, nameless_as_equation, nameless_at, nameless_beta, nameless_union, nameless_gives, nameless_instance, nameless_refl_gives, nameless_beta_gives, nameless_trans_gives, nameless_cong_gives, nameless_eqmp_gives, turned, carried_over, IsBooleanNameless, IsBooleanNamelessSequent}
use Rattle.lt_nameless.proofs.SameForms.{same-refl}
use Rattle.lt_nameless.proofs.NamelessRuleLemmas.{trans-gives}
use Rattle.lt_store.specs.Trees.{tree_at, trees, AllBelow}
use Rattle.lt_store.specs.Typed.{IsTyped}
use Rattle.lt_store.proofs.TreeLemmas.{tree_at-extends}
use Rattle.lt_store.proofs.Lists.{trees-extends}
use Rattle.lt_kernel.specs.declared.rule_fault.RuleFault.{RuleFault}
use Rattle.lt_kernel.specs.declared.rule_fault.RuleFault.TheVariants.{Bad, Duplicate, Memory}
use Rattle.lt_kernel.specs.State.{State, sequents, statements}
use Rattle.lt_kernel.specs.Growing.{Carries, IsSound}
use Rattle.lt_kernel.specs.Reaching.{Holds, IsGiven, Reaches}
use Rattle.lt_kernel.proofs.GrowingLemmas.{carries-grows}
use Rattle.lt_kernel.proofs.ReachingLemmas.{next-holds, next-fails, reached-line}
use Rattle.lt_programs.specs.Programs.{theorem, named_at, at_argument, at_arguments, unfolded_at}
use Rattle.lt_programs.specs.TypedTerms.{IsOfType}
use Rattle.lt_programs.proofs.TypedTermLemmas.{application-parts, of-sound}
use Rattle.lt_derived.specs.Equations.{OfApplication}
use Rattle.lt_derived.proofs.Repeated.{some-of, typed-at, one-left, none-left}

-- ---- what is known of a sound state

all-at : {A : Type 0} (P : A → Type 0) (xs : List A) (k : ℕ) (x : A) → All P xs → slice_get xs k ≡ Some x → P x
all-at P xs k x h e = subst P (get_or_from_slice_get xs k x x e) (h k x (slice_get_within xs k x e))

pub line-boolean : (s : State) (n : ℕ) (q : NamelessSequent) → IsSound s → line_at (sequents s) n ≡ Some q → IsBooleanNamelessSequent s.signature q
line-boolean s zero q h e = absurd (cc e)
line-boolean s (suc k) q h e = all-at (IsBooleanNamelessSequent s.signature) (sequents s) k q h.lines e

pub still-sound : (old new : State) → Carries old new → IsSound old → IsSound new
still-sound old new c h = let g = carries-grows old new c in g.sound h

pub line-still : (old new : State) (n : ℕ) (q : NamelessSequent) → Carries old new → line_at (sequents old) n ≡ Some q → line_at (sequents new) n ≡ Some q
line-still old new n q c e = let g = carries-grows old new c in g.lines n q e

-- ---- redexes

pub redex-at : (f t : Nameless) → is_some (nameless_beta (nameless_application f t)) ≡ true → nameless_beta (nameless_application f t) ≡ Some (nameless_at f t)
redex-at (nameless_abstraction u b) t e = refl
redex-at (nameless_free x ty) t e = absurd (cc e)
redex-at (nameless_bound i) t e = absurd (cc e)
redex-at (nameless_loose x) t e = absurd (cc e)
redex-at (nameless_constant c ts) t e = absurd (cc e)
redex-at (nameless_application f a) t e = absurd (cc e)

pub none-at : (f t : Nameless) → is_some (nameless_beta (nameless_application f t)) ≡ false → nameless_at f t ≡ nameless_application f t
none-at (nameless_abstraction u b) t e = absurd (cc e)
none-at (nameless_free x ty) t e = refl
none-at (nameless_bound i) t e = refl
none-at (nameless_loose x) t e = refl
none-at (nameless_constant c ts) t e = refl
none-at (nameless_application f a) t e = refl

-- ---- the right side of an equation with an application

module _ (s : State) (i : ℕ) (q : OfApplication s i) where
  abbrev whole-line : NamelessSequent
  whole-line = record { hyps = q.hyps; concl = nameless_equation q.ty q.left (nameless_application q.f q.t) }

  pub application-there : is_some (line_at (sequents s) i) ≡ true
  application-there = ap is_some q.line

  pub application-concl : (concl : Nameless) → option_map (λ v. v.concl) (line_at (sequents s) i) ≡ Some concl
      → concl ≡ nameless_equation q.ty q.left (nameless_application q.f q.t)
  application-concl concl e = same-concl (sym e ∙ ap (option_map (λ v. v.concl)) q.line)
    where
      same-concl : Some concl ≡ Some (nameless_equation q.ty q.left (nameless_application q.f q.t)) → concl ≡ nameless_equation q.ty q.left (nameless_application q.f q.t)
      same-concl d = cc d

  pub application-right : (concl f right : Nameless) → option_map (λ v. v.concl) (line_at (sequents s) i) ≡ Some concl
      → concl ≡ nameless_application f right → right ≡ nameless_application q.f q.t
  application-right concl f right e d = argument (sym d ∙ application-concl concl e)
    where
      argument : nameless_application f right ≡ nameless_equation q.ty q.left (nameless_application q.f q.t) → right ≡ nameless_application q.f q.t
      argument h = cc h

  pub right-sound : IsSound s → (right : Nameless) → right ≡ nameless_application q.f q.t → nameless_fault s.signature right ≡ None
  right-sound h right e =
      let b = line-boolean s i whole-line h q.line in
      let p = application-parts s.signature (nameless_application (nameless_constant (codes "eq") (q.ty ∷ [])) q.left) (nameless_application q.f q.t) bool b.concl in
      ap (nameless_fault s.signature) e ∙ of-sound s.signature (nameless_application q.f q.t) p.0 p.2

  pub kept-right : (right : Nameless) → right ≡ nameless_application q.f q.t → is_some (nameless_beta right) ≡ false
      → line_at (sequents s) i ≡ Some (record { hyps = q.hyps; concl = nameless_equation q.ty q.left (nameless_at q.f q.t) })
  kept-right right e h =
      q.line ∙ ap (λ r. Some (record { hyps = q.hyps; concl = nameless_equation q.ty q.left r })) (sym (none-at q.f q.t (ap (λ r. is_some (nameless_beta r)) (sym e) ∙ h)))

  -- the line that opens the redex, and the two together
  module _ (mid : State) (n : ℕ) (right : Nameless) (c : Carries s mid) (e : right ≡ nameless_application q.f q.t) (h : is_some (nameless_beta right) ≡ true)
      (given : IsGiven mid n (nameless_beta_gives s.signature right)) where
    abbrev type-here : TypeTree
    type-here = nameless_type_of s.signature (nameless_application q.f q.t)

    opened : line_at (sequents mid) n ≡ Some (theorem (nameless_equation type-here (nameless_application q.f q.t) (nameless_at q.f q.t)))
    opened =
        reached-line mid n (nameless_beta_gives s.signature right) (theorem (nameless_equation type-here (nameless_application q.f q.t) (nameless_at q.f q.t))) given
        (ap (nameless_beta_gives s.signature) e
        ∙ found-on _ (nameless_beta (nameless_application q.f q.t)) (nameless_at q.f q.t) _ (redex-at q.f q.t (ap (λ r. is_some (nameless_beta r)) (sym e) ∙ h)))

    linked-is : nameless_trans_gives (sequents mid) i n ≡ Ok (record { hyps = q.hyps; concl = nameless_equation q.ty q.left (nameless_at q.f q.t) })
    linked-is = trans-gives (sequents mid) i n whole-line (theorem (nameless_equation type-here (nameless_application q.f q.t) (nameless_at q.f q.t)))
        (line-still s mid i whole-line c q.line) opened q.ty q.left (nameless_application q.f q.t) type-here (nameless_application q.f q.t) (nameless_at q.f q.t)
        refl refl (same-refl (nameless_application q.f q.t))

    pub linked-sure : is_ok (nameless_trans_gives (sequents mid) i n) ≡ true
    linked-sure = ap is_ok linked-is

    pub linked-line : (new : State) (m : ℕ) → IsGiven new m (nameless_trans_gives (sequents mid) i n)
        → line_at (sequents new) m ≡ Some (record { hyps = q.hyps; concl = nameless_equation q.ty q.left (nameless_at q.f q.t) })
    linked-line new m a = reached-line new m (nameless_trans_gives (sequents mid) i n) _ a linked-is

-- ---- one argument

-- both sides at an argument, nothing opened
abbrev pub applied_to : Signature → Nameless → NamelessSequent → NamelessOutcome
applied_to sig t s = with_found NotEquation (nameless_as_equation s.concl) (λ e.
    with_found TypeDiffers (joined_type e.0 (nameless_type_of sig t)) (λ ty.
    nameless_gives s.hyps (nameless_equation ty (nameless_application e.1 t) (nameless_application e.2 t))))

-- What it gives has an application on the right, and opened it is what the program gives.
pub record Applied (sig : Signature) (t : Nameless) (s q : NamelessSequent) : Type 0 where
  pub ty : TypeTree
  pub f : Nameless
  pub g : Nameless
  pub is : q ≡ record { hyps = s.hyps; concl = nameless_equation ty (nameless_application f t) (nameless_application g t) }
  pub program : at_argument sig t s ≡ Ok (record { hyps = s.hyps; concl = nameless_equation ty (nameless_application f t) (nameless_at g t) })

module _ (sig : Signature) (t : Nameless) (s : NamelessSequent) where
  pub applied-ok : (q : NamelessSequent) → applied_to sig t s ≡ Ok q → Applied sig t s q
  applied-ok q e = by (nameless_as_equation s.concl) refl e
    where
      by : (o : Option (TypeTree × Nameless × Nameless)) → nameless_as_equation s.concl ≡ o
          → with_found NotEquation o (λ d. with_found TypeDiffers (joined_type d.0 (nameless_type_of sig t)) (λ ty.
          nameless_gives s.hyps (nameless_equation ty (nameless_application d.1 t) (nameless_application d.2 t)))) ≡ Ok q → Applied sig t s q
      by None d h = absurd (cc h)
      by (Some (v, f, g)) d h = typed (joined_type v (nameless_type_of sig t)) refl h
        where
          typed : (p : Option TypeTree) → joined_type v (nameless_type_of sig t) ≡ p
              → with_found TypeDiffers p (λ ty. nameless_gives s.hyps (nameless_equation ty (nameless_application f t) (nameless_application g t))) ≡ Ok q → Applied sig t s q
          typed None k w = absurd (cc w)
          typed (Some ty) k w = record {
            ty = ty;
            f = f;
            g = g;
            is = sym (cc w);
            program = found-on _ (nameless_as_equation s.concl) (v, f, g) _ d ∙ found-on _ (joined_type v (nameless_type_of sig t)) ty _ k;
          }

  applied-err : (r : Reason) → applied_to sig t s ≡ Err r → at_argument sig t s ≡ Err r
  applied-err r e = by (nameless_as_equation s.concl) refl e
    where
      by : (o : Option (TypeTree × Nameless × Nameless)) → nameless_as_equation s.concl ≡ o
          → with_found NotEquation o (λ d. with_found TypeDiffers (joined_type d.0 (nameless_type_of sig t)) (λ ty.
          nameless_gives s.hyps (nameless_equation ty (nameless_application d.1 t) (nameless_application d.2 t)))) ≡ Err r → at_argument sig t s ≡ Err r
      by None d h = ap (λ o. with_found NotEquation o (λ x. with_found TypeDiffers (joined_type x.0 (nameless_type_of sig t)) (λ ty.
          nameless_gives s.hyps (nameless_equation ty (nameless_application x.1 t) (nameless_at x.2 t))))) d ∙ missing h
        where
          missing : with_found NotEquation None (λ (x : TypeTree × Nameless × Nameless). with_found TypeDiffers (joined_type x.0 (nameless_type_of sig t)) (λ ty.
              nameless_gives s.hyps (nameless_equation ty (nameless_application x.1 t) (nameless_application x.2 t)))) ≡ Err r
              → with_found NotEquation None (λ (x : TypeTree × Nameless × Nameless). with_found TypeDiffers (joined_type x.0 (nameless_type_of sig t)) (λ ty.
              nameless_gives s.hyps (nameless_equation ty (nameless_application x.1 t) (nameless_at x.2 t)))) ≡ Err r
          missing w = w
      by (Some (v, f, g)) d h = found-on _ (nameless_as_equation s.concl) (v, f, g) _ d ∙ typed (joined_type v (nameless_type_of sig t)) h
        where
          typed : (p : Option TypeTree)
              → with_found TypeDiffers p (λ ty. nameless_gives s.hyps (nameless_equation ty (nameless_application f t) (nameless_application g t))) ≡ Err r
              → with_found TypeDiffers p (λ ty. nameless_gives s.hyps (nameless_equation ty (nameless_application f t) (nameless_at g t))) ≡ Err r
          typed None w = w
          typed (Some ty) w = absurd (cc w)

-- a line at an argument, over the state in which the argument equals itself
module _ (old mid : State) (i same : ℕ) (t : Nameless) (s : NamelessSequent) (c : Carries old mid) (there : line_at (sequents old) i ≡ Some s)
    (self : IsGiven mid same (nameless_refl_gives old.signature t)) where
  pub cong-outcome : nameless_cong_gives (sequents mid) i same ≡ applied_to old.signature t s
  cong-outcome =
      found-on _ (line_at (sequents mid) i) s _ (line-still old mid i s c there)
      ∙ found-on _ (line_at (sequents mid) same) (theorem (nameless_equation (nameless_type_of old.signature t) t t)) _
      (reached-line mid same (nameless_refl_gives old.signature t) (theorem (nameless_equation (nameless_type_of old.signature t) t t)) self refl)

  pub argument-fails : (next : State) (e : RuleFault) → Reaches next (Err e) (nameless_cong_gives (sequents mid) i same)
      → Reaches next (Err e) (with_line (sequents old) i (at_argument old.signature t))
  argument-fails next (Bad r) a = found-on _ (line_at (sequents old) i) s _ there ∙ applied-err old.signature t s r (sym cong-outcome ∙ a)
  argument-fails next (Duplicate l) a = absurd a
  argument-fails next Memory a = tt

  module _ (next : State) (m : ℕ) (a : IsGiven next m (nameless_cong_gives (sequents mid) i same)) where
    abbrev pub here : Applied old.signature t s a.sequent
    here = applied-ok old.signature t s a.sequent (sym cong-outcome ∙ a.goes)

    abbrev pub argument-form : OfApplication next m
    argument-form = record {
      hyps = s.hyps;
      ty = here.ty;
      left = nameless_application here.f t;
      f = here.g;
      t = t;
      line = a.line ∙ ap (λ (q : NamelessSequent). Some q) here.is;
    }

    pub argument-given : (new : State) (n : ℕ)
        → ((q : OfApplication next m) → line_at (sequents new) n ≡ Some (record { hyps = q.hyps; concl = nameless_equation q.ty q.left (nameless_at q.f q.t) }))
        → IsGiven new n (with_line (sequents old) i (at_argument old.signature t))
    argument-given new n k = record {
      sequent = record { hyps = s.hyps; concl = nameless_equation here.ty (nameless_application here.f t) (nameless_at here.g t) };
      line = k argument-form;
      goes = found-on _ (line_at (sequents old) i) s _ there ∙ here.program;
    }

-- ---- several arguments

-- what the terms that are left make of a line
abbrev pub rest_with : State → List ℕ → ℕ → NamelessSequent → NamelessOutcome
rest_with old ids k = at_arguments old.signature (trees old.nodes (drop k ids))

module _ (old now next : State) (ids : List ℕ) (k n : ℕ) (whole : NamelessOutcome)
    (c : Carries old now) (typed : All (IsTyped old.signature old.nodes) ids) (l : k < length ids) (h : Holds now n (rest_with old ids k) whole) where
  holds-here : Holds now n (λ s. with_ok (at_argument now.signature (tree_at now.nodes (get_or ids k 0)) s) (rest_with old ids (k + 1))) whole
  holds-here =
      let g = carries-grows old now c in
      let t = get_or ids k 0 in
      let one = typed-at old ids k typed l in
      let here : tree_at old.nodes t ≡ tree_at now.nodes t = sym (tree_at-extends old.nodes now.nodes t g.stays.nodes one.within) in
      let Over : (NamelessSequent → NamelessOutcome) → Type 0 = λ f. Holds now n f whole in
      subst Over (λ i s. with_ok (at_argument (sym g.stays.signature i) (here i) s) (rest_with old ids (k + 1)))
      (subst (λ (is : List ℕ). Holds now n (at_arguments old.signature (trees old.nodes is)) whole) (one-left ids k l) h)

  pub with-next : (m : ℕ) → IsGiven next m (with_line (sequents now) n (at_argument now.signature (tree_at now.nodes (get_or ids k 0))))
      → Holds next m (rest_with old ids (k + 1)) whole
  with-next m a = next-holds now next n m (at_argument now.signature (tree_at now.nodes (get_or ids k 0))) (rest_with old ids (k + 1)) whole holds-here a

  pub with-fails : (e : RuleFault) → Reaches next (Err e) (with_line (sequents now) n (at_argument now.signature (tree_at now.nodes (get_or ids k 0))))
      → Reaches next (Err e) whole
  with-fails e a = next-fails now next n e (at_argument now.signature (tree_at now.nodes (get_or ids k 0))) (rest_with old ids (k + 1)) whole holds-here a

pub with-ends : (old now : State) (ids : List ℕ) (k n : ℕ) (whole : NamelessOutcome) → length ids ≤ k → Holds now n (rest_with old ids k) whole → IsGiven now n whole
with-ends old now ids k n whole l h =
    subst (λ (is : List ℕ). Holds now n (at_arguments old.signature (trees old.nodes is)) whole) (none-left ids k l) h

pub holds-there : (now : State) (n : ℕ) (rest : NamelessSequent → NamelessOutcome) (whole : NamelessOutcome) → Holds now n rest whole → is_some (line_at (sequents now) n) ≡ true
holds-there now n rest whole h = ap is_some h.line

-- ---- a definition

-- no statement has the label
pub unfold-fails : (s : State) (sig : Signature) (named : List (Chars × Nameless)) (l : Chars) (m : TypeMap) (ts : List Nameless) (e : RuleFault)
    → Reaches s (Err e) (named_at sig named l m []) → Reaches s (Err e) (unfolded_at sig named l m ts)
unfold-fails s sig named l m ts (Bad r) a = by (found l named) refl a
  where
    by : (o : Option Nameless) → found l named ≡ o → with_found UnknownLabel o (λ p. Ok (theorem (nameless_instance m p))) ≡ Err r → unfolded_at sig named l m ts ≡ Err r
    by None d h = ap (λ o. with_found UnknownLabel o (λ p. at_arguments sig ts (theorem (nameless_instance m p)))) d ∙ missing h
      where
        missing : with_found UnknownLabel None (λ (p : Nameless). Ok (theorem (nameless_instance m p))) ≡ Err r
            → with_found UnknownLabel None (λ (p : Nameless). at_arguments sig ts (theorem (nameless_instance m p))) ≡ Err r
        missing w = let same : UnknownLabel ≡ r = cc w in ap (λ (v : Reason). Err v) same
    by (Some p) d h = absurd (cc h)
unfold-fails s sig named l m ts (Duplicate k) a = absurd a
unfold-fails s sig named l m ts Memory a = tt

-- the statement's instance, at the arguments
pub unfold-goes : (old mid : State) (l : Chars) (m : TypeMap) (ids : List ℕ) (n : ℕ) → Carries old mid → All (IsTyped old.signature old.nodes) ids
    → IsGiven mid n (named_at old.signature (statements old) l m [])
    → with_line (sequents mid) n (at_arguments mid.signature (trees mid.nodes ids)) ≡ unfolded_at old.signature (statements old) l m (trees old.nodes ids)
unfold-goes old mid l m ids n c typed a = by (found l (statements old)) refl a.goes
  where
    by : (o : Option Nameless) → found l (statements old) ≡ o → with_found UnknownLabel o (λ p. Ok (theorem (nameless_instance m p))) ≡ Ok a.sequent
        → with_line (sequents mid) n (at_arguments mid.signature (trees mid.nodes ids)) ≡ unfolded_at old.signature (statements old) l m (trees old.nodes ids)
    by None d h = absurd (cc h)
    by (Some p) d h =
        let same : a.sequent ≡ theorem (nameless_instance m p) = sym (cc h) in
        let g = carries-grows old mid c in
        let below : AllBelow (length old.nodes) ids = λ j x w. (typed j x w).within in
        ap (λ o. with_found MissingLine o (at_arguments mid.signature (trees mid.nodes ids))) (a.line ∙ ap (λ (q : NamelessSequent). Some q) same)
        ∙ (λ i. at_arguments (g.stays.signature i) (trees-extends old.nodes mid.nodes ids g.stays.nodes below i) (theorem (nameless_instance m p)))
        ∙ sym (ap (λ o. with_found UnknownLabel o (λ p'. at_arguments old.signature (trees old.nodes ids) (theorem (nameless_instance m p')))) d)

-- ---- an equation from the right

with-then : (o : Option NamelessSequent) (f : NamelessSequent → NamelessOutcome) (g : NamelessSequent → NamelessOutcome) (q : NamelessSequent)
    → with_found MissingLine o f ≡ Ok q → with_found MissingLine o (λ s. with_ok (f s) g) ≡ g q
with-then None f g q e = absurd (cc e)
with-then (Some s) f g q e = ap (λ r. with_ok r g) e

pub back-goes : (old mid : State) (i j n : ℕ) → Carries old mid → IsGiven mid n (with_line (sequents old) i turned) → is_some (line_at (sequents old) j) ≡ true
    → nameless_eqmp_gives (sequents mid) n j ≡ with_line (sequents old) i (λ s. with_ok (turned s) (λ v. with_line (sequents old) j (carried_over v)))
back-goes old mid i j n c a known =
    let there = some-of (line_at (sequents old) j) known in
    ap (λ o. with_found MissingLine o (λ s. with_line (sequents mid) j (λ u. carried_over s u))) a.line
    ∙ ap (λ o. with_found MissingLine o (λ u. carried_over a.sequent u)) (line-still old mid j there.0 c there.1 ∙ sym there.1)
    ∙ sym (with-then (line_at (sequents old) i) turned (λ v. with_line (sequents old) j (carried_over v)) a.sequent a.goes)
