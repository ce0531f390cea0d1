-- Lines that equate functions by their values.
use Rattle.std.proofs.Common.{◌≡◌, ℕ, List, [], ◌∷◌, codes, not, is_ok, is_some, Bool, true, false, unwrap_or, Option, Some, None, Ok, Err, refl, sym, ◌∙◌, ap}
use Rattle.std.specs.Option.{option_map}
use Rattle.std.specs.List.{list_any}
use Rattle.lt_definitions.specs.Types.{Chars, TypeTree, bool, fun}
use Rattle.lt_definitions.specs.Typing.{Signature}
use Rattle.lt_definitions.specs.Rules.{line_at, where_holds, with_line, with_found}
use Rattle.lt_definitions.specs.declared.reason.Reason.{Reason}
use Rattle.lt_definitions.specs.declared.reason.Reason.TheVariants.{MissingLine, NotEquation, NotRedex, VariableInHypothesis}
use Rattle.lt_definitions.proofs.RuleLemmas.{found-on}
use Rattle.lt_nameless.specs.Nameless.{Nameless, nameless_constant, nameless_application, nameless_abstraction, NamelessSequent}
use Rattle.lt_nameless.specs.NamelessRules.{NamelessOutcome, nameless_fault, nameless_type_of, same_nameless, nameless_equation, nameless_as_equation, nameless_eta, nameless_has_free, nameless_gives, nameless_eta_gives, nameless_sym_gives, nameless_trans_gives, nameless_abs_gives, abstracted}
use Rattle.lt_nameless.proofs.SameForms.{same-refl}
use Rattle.lt_nameless.proofs.NamelessRuleLemmas.{sym-gives, trans-gives}
use Rattle.lt_kernel.specs.declared.rule_fault.RuleFault.{RuleFault}
use Rattle.lt_kernel.specs.declared.rule_fault.RuleFault.TheVariants.{Bad, Duplicate, Memory}
use Rattle.lt_kernel.specs.State.{State, sequents}
use Rattle.lt_kernel.specs.Growing.{Carries, IsSound}
use Rattle.lt_kernel.specs.Reaching.{IsGiven, Reaches}
use Rattle.lt_kernel.proofs.ReachingLemmas.{reached-line}
use Rattle.lt_programs.specs.Programs.{theorem}
use Rattle.lt_programs.specs.Extensionality.{contracted, function_of, functions_equal}
use Rattle.lt_programs.proofs.TypedTermLemmas.{application-parts, of-sound}
use Rattle.lt_derived.specs.Equations.{IsEquationUnder, Contracts}
use Rattle.lt_derived.proofs.UnfoldingLemmas.{line-boolean, line-still}

abbrev pub equating : List Nameless → TypeTree → Nameless → Nameless → NamelessSequent
equating hs ty l r = record { hyps = hs; concl = nameless_equation ty l r }

-- ---- eta

-- what it gives of a redex, and of another term
pub eta-contracts : (s : State) (sig : Signature) (t : Nameless) (n : ℕ) → IsGiven s n (nameless_eta_gives sig t) → Contracts s sig t (Some n)
eta-contracts s sig t n a = by (nameless_eta t) refl a.goes
  where
    by : (o : Option Nameless) → nameless_eta t ≡ o → with_found NotRedex o (λ f. nameless_gives [] (nameless_equation (nameless_type_of sig t) t f)) ≡ Ok a.sequent
        → (f : Nameless) × (nameless_eta t ≡ Some f) × (line_at (sequents s) n ≡ Some (theorem (nameless_equation (nameless_type_of sig t) t f)))
    by None d h = absurd (cc h)
    by (Some f) d h = let same : a.sequent ≡ theorem (nameless_equation (nameless_type_of sig t) t f) = sym (cc h) in
        (f, d, a.line ∙ ap (λ (q : NamelessSequent). Some q) same)

pub eta-none : (sig : Signature) (t : Nameless) (r : Reason) → nameless_eta_gives sig t ≡ Err r → nameless_eta t ≡ None
eta-none sig t r e = by (nameless_eta t) refl e
  where
    by : (o : Option Nameless) → nameless_eta t ≡ o → with_found NotRedex o (λ f. nameless_gives [] (nameless_equation (nameless_type_of sig t) t f)) ≡ Err r → nameless_eta t ≡ None
    by None d h = d
    by (Some f) d h = absurd (cc h)

-- ---- the right side of an equation

module _ (s : State) (i : ℕ) (q : IsEquationUnder s i) where
  pub under-there : is_some (line_at (sequents s) i) ≡ true
  under-there = ap is_some q.line

  pub under-concl : (concl : Nameless) → option_map (λ v. v.concl) (line_at (sequents s) i) ≡ Some concl → concl ≡ nameless_equation q.ty q.left q.right
  under-concl concl e = same-concl (sym e ∙ ap (option_map (λ v. v.concl)) q.line)
    where
      same-concl : Some concl ≡ Some (nameless_equation q.ty q.left q.right) → concl ≡ nameless_equation q.ty q.left q.right
      same-concl d = cc d

  pub under-right : (concl f right : Nameless) → option_map (λ v. v.concl) (line_at (sequents s) i) ≡ Some concl
      → concl ≡ nameless_application f right → right ≡ q.right
  under-right concl f right e d = argument (sym d ∙ under-concl concl e)
    where
      argument : nameless_application f right ≡ nameless_equation q.ty q.left q.right → right ≡ q.right
      argument h = cc h

  pub under-sound : IsSound s → (right : Nameless) → right ≡ q.right → nameless_fault s.signature right ≡ None
  under-sound h right e =
      let b = line-boolean s i (equating q.hyps q.ty q.left q.right) h q.line in
      let p = application-parts s.signature (nameless_application (nameless_constant (codes "eq") (q.ty ∷ [])) q.left) q.right bool b.concl in
      ap (nameless_fault s.signature) e ∙ of-sound s.signature q.right p.0 p.2

  pub kept-under : (right : Nameless) → right ≡ q.right → nameless_eta right ≡ None
      → line_at (sequents s) i ≡ Some (equating q.hyps q.ty q.left (contracted q.right))
  kept-under right e h =
      q.line ∙ ap (λ (r : Nameless). Some (equating q.hyps q.ty q.left r)) (sym (ap (λ (o : Option Nameless). unwrap_or o q.right) (ap nameless_eta (sym e) ∙ h)))

  module _ (mid : State) (n : ℕ) (right : Nameless) (c : Carries s mid) (e : right ≡ q.right) (k : Contracts mid s.signature right (Some n)) where
    under-linked : nameless_trans_gives (sequents mid) i n ≡ Ok (equating q.hyps q.ty q.left (contracted q.right))
    under-linked =
        trans-gives (sequents mid) i n (equating q.hyps q.ty q.left q.right) (theorem (nameless_equation (nameless_type_of s.signature right) right k.0))
        (line-still s mid i (equating q.hyps q.ty q.left q.right) c q.line) k.2 q.ty q.left q.right (nameless_type_of s.signature right) right k.0
        refl refl (ap (same_nameless q.right) e ∙ same-refl q.right)
        ∙ ap (λ (r : Nameless). Ok (equating q.hyps q.ty q.left r)) (sym (ap (λ (o : Option Nameless). unwrap_or o q.right) (ap nameless_eta (sym e) ∙ k.1)))

    pub under-sure : is_ok (nameless_trans_gives (sequents mid) i n) ≡ true
    under-sure = ap is_ok under-linked

    pub under-line : (new : State) (m : ℕ) → IsGiven new m (nameless_trans_gives (sequents mid) i n)
        → line_at (sequents new) m ≡ Some (equating q.hyps q.ty q.left (contracted q.right))
    under-line new m a = reached-line new m (nameless_trans_gives (sequents mid) i n) (equating q.hyps q.ty q.left (contracted q.right)) a under-linked

-- ---- turned round

module _ (s : State) (n : ℕ) (hs : List Nameless) (ty : TypeTree) (l r : Nameless) (e : line_at (sequents s) n ≡ Some (equating hs ty l r)) where
  turned-is : nameless_sym_gives (sequents s) n ≡ Ok (equating hs ty r l)
  turned-is = sym-gives (sequents s) n (equating hs ty l r) e ty l r refl

  pub turned-sure : is_ok (nameless_sym_gives (sequents s) n) ≡ true
  turned-sure = ap is_ok turned-is

  pub turned-line : (new : State) (m : ℕ) → IsGiven new m (nameless_sym_gives (sequents s) n) → line_at (sequents new) m ≡ Some (equating hs ty r l)
  turned-line new m a = reached-line new m (nameless_sym_gives (sequents s) n) (equating hs ty r l) a turned-is

  abbrev pub as-under : IsEquationUnder s n
  as-under = record { hyps = hs; ty = ty; left = l; right = r; line = e }

-- ---- the whole

-- What closing over a variable gives equates terms, and contracted these are what the program gives.
pub record Closes (done : List NamelessSequent) (x : Chars) (ty : TypeTree) (i : ℕ) (q : NamelessSequent) : Type 0 where
  pub hyps : List Nameless
  pub at : TypeTree
  pub left : Nameless
  pub right : Nameless
  pub is : q ≡ equating hyps at left right
  pub program : with_line done i (functions_equal x ty) ≡ Ok (equating hyps at (contracted left) (contracted right))

module _ (done : List NamelessSequent) (x : Chars) (ty : TypeTree) (i : ℕ) where
  abbrev closing : NamelessSequent → NamelessOutcome
  closing s = with_found NotEquation (nameless_as_equation s.concl) (λ e.
      where_holds (not (list_any (nameless_has_free x ty) s.hyps)) VariableInHypothesis
      (nameless_gives s.hyps (nameless_equation (fun ty e.0)
      (nameless_abstraction ty (abstracted 0 x ty e.1)) (nameless_abstraction ty (abstracted 0 x ty e.2)))))

  pub closes : (q : NamelessSequent) → nameless_abs_gives done x ty i ≡ Ok q → Closes done x ty i q
  closes q h = by (line_at done i) refl h
    where
      tested : (s : NamelessSequent) (b : Bool) (u : TypeTree) (l r : Nameless)
          → where_holds b VariableInHypothesis (nameless_gives s.hyps (nameless_equation (fun ty u)
          (nameless_abstraction ty (abstracted 0 x ty l)) (nameless_abstraction ty (abstracted 0 x ty r)))) ≡ Ok q
          → with_line done i (functions_equal x ty) ≡ where_holds b VariableInHypothesis
          (nameless_gives s.hyps (nameless_equation (fun ty u) (function_of x ty l) (function_of x ty r)))
          → Closes done x ty i q
      tested s true u l r d k = record {
        hyps = s.hyps;
        at = fun ty u;
        left = nameless_abstraction ty (abstracted 0 x ty l);
        right = nameless_abstraction ty (abstracted 0 x ty r);
        is = sym (cc d);
        program = k;
      }
      tested s false u l r d k = absurd (cc d)

      sides : (s : NamelessSequent) → with_line done i (functions_equal x ty) ≡ functions_equal x ty s
          → (o : Option (TypeTree × Nameless × Nameless)) → nameless_as_equation s.concl ≡ o
          → with_found NotEquation o (λ e. where_holds (not (list_any (nameless_has_free x ty) s.hyps)) VariableInHypothesis
          (nameless_gives s.hyps (nameless_equation (fun ty e.0)
          (nameless_abstraction ty (abstracted 0 x ty e.1)) (nameless_abstraction ty (abstracted 0 x ty e.2))))) ≡ Ok q → Closes done x ty i q
      sides s k None e d = absurd (cc d)
      sides s k (Some (u, l, r)) e d = tested s (not (list_any (nameless_has_free x ty) s.hyps)) u l r d
          (k ∙ found-on _ (nameless_as_equation s.concl) (u, l, r) _ e)

      by : (o : Option NamelessSequent) → line_at done i ≡ o → with_found MissingLine o closing ≡ Ok q → Closes done x ty i q
      by None e d = absurd (cc d)
      by (Some s) e d = sides s (found-on _ (line_at done i) s (functions_equal x ty) e) (nameless_as_equation s.concl) refl d

  pub closes-not : (r : Reason) → nameless_abs_gives done x ty i ≡ Err r → with_line done i (functions_equal x ty) ≡ Err r
  closes-not r h = by (line_at done i) h
    where
      tested : (s : NamelessSequent) (b : Bool) (u : TypeTree) (l t : Nameless)
          → where_holds b VariableInHypothesis (nameless_gives s.hyps (nameless_equation (fun ty u)
          (nameless_abstraction ty (abstracted 0 x ty l)) (nameless_abstraction ty (abstracted 0 x ty t)))) ≡ Err r
          → where_holds b VariableInHypothesis (nameless_gives s.hyps (nameless_equation (fun ty u) (function_of x ty l) (function_of x ty t))) ≡ Err r
      tested s true u l t d = absurd (cc d)
      tested s false u l t d = d

      sides : (s : NamelessSequent) (o : Option (TypeTree × Nameless × Nameless))
          → with_found NotEquation o (λ e. where_holds (not (list_any (nameless_has_free x ty) s.hyps)) VariableInHypothesis
          (nameless_gives s.hyps (nameless_equation (fun ty e.0)
          (nameless_abstraction ty (abstracted 0 x ty e.1)) (nameless_abstraction ty (abstracted 0 x ty e.2))))) ≡ Err r
          → with_found NotEquation o (λ e. where_holds (not (list_any (nameless_has_free x ty) s.hyps)) VariableInHypothesis
          (nameless_gives s.hyps (nameless_equation (fun ty e.0) (function_of x ty e.1) (function_of x ty e.2)))) ≡ Err r
      sides s None d = d
      sides s (Some (u, l, t)) d = tested s (not (list_any (nameless_has_free x ty) s.hyps)) u l t d

      by : (o : Option NamelessSequent) → with_found MissingLine o closing ≡ Err r → with_found MissingLine o (functions_equal x ty) ≡ Err r
      by None d = d
      by (Some s) d = sides s (nameless_as_equation s.concl) d

module _ (old first : State) (x : Chars) (ty : TypeTree) (i n : ℕ) (a : IsGiven first n (nameless_abs_gives (sequents old) x ty i)) where
  abbrev pub closed-form : Closes (sequents old) x ty i a.sequent
  closed-form = closes (sequents old) x ty i a.sequent a.goes

  abbrev pub closed-equation : IsEquationUnder first n
  closed-equation = record {
    hyps = closed-form.hyps;
    ty = closed-form.at;
    left = closed-form.left;
    right = closed-form.right;
    line = a.line ∙ ap (λ (q : NamelessSequent). Some q) closed-form.is;
  }

  pub functions-given : (new : State) (m : ℕ)
      → ((q : IsEquationUnder first n) → line_at (sequents new) m ≡ Some (equating q.hyps q.ty (contracted q.left) (contracted q.right)))
      → IsGiven new m (with_line (sequents old) i (functions_equal x ty))
  functions-given new m k = record {
    sequent = equating closed-form.hyps closed-form.at (contracted closed-form.left) (contracted closed-form.right);
    line = k closed-equation;
    goes = closed-form.program;
  }

pub functions-fail : (old next : State) (x : Chars) (ty : TypeTree) (i : ℕ) (e : RuleFault) → Reaches next (Err e) (nameless_abs_gives (sequents old) x ty i)
    → Reaches next (Err e) (with_line (sequents old) i (functions_equal x ty))
functions-fail old next x ty i (Bad r) a = closes-not (sequents old) x ty i r a
functions-fail old next x ty i (Duplicate l) a = absurd a
functions-fail old next x ty i Memory a = tt
