-- Lines by the definition of `ex`.
use Rattle.std.proofs.Common.{◌≡◌, ℕ, ◌<◌, List, [], ◌∷◌, length, Bool, true, false, ◌||◌, codes, is_ok, is_some, Option, Some, None, Result, Ok, Err, refl, sym, ◌∙◌, ap, subst, arith}
use Rattle.std.specs.Option.{option_map}
use Rattle.std.specs.List.{All}
use Rattle.lt_definitions.specs.Types.{Chars, TypeTree, bool, fun}
use Rattle.lt_definitions.specs.Typing.{Signature, type_fault}
use Rattle.lt_definitions.specs.Rules.{line_at, predicate_over, where_holds, with_line, with_found}
use Rattle.lt_definitions.specs.declared.reason.Reason.{Reason}
use Rattle.lt_definitions.specs.declared.reason.Reason.TheVariants.{MissingLine, UnknownLabel, TypeDiffers, MiddleDiffers}
use Rattle.lt_definitions.proofs.RuleLemmas.{found-on, holds-on, fails-on}
use Rattle.lt_nameless.specs.Nameless.{Nameless, nameless_application, NamelessSequent}
use Rattle.lt_nameless.specs.NamelessRules.{NamelessOutcome, nameless_typed, nameless_fault, nameless_has_type, nameless_type_of, nameless_equation, nameless_implies, nameless_at, nameless_beta, nameless_union, nameless_gives, same_nameless, put_one, nameless_beta_gives, nameless_sym_gives, nameless_eqmp_gives, nameless_mp_gives, detached, carried_over}
use Rattle.lt_nameless.proofs.SameForms.{same-is, same-refl}
use Rattle.lt_nameless.proofs.NamelessRuleLemmas.{sym-gives}
use Rattle.lt_store.specs.Trees.{tree_at, trees}
use Rattle.lt_store.specs.Typed.{IsTyped}
use Rattle.lt_store.proofs.TreeLemmas.{tree_at-extends}
use Rattle.lt_kernel.specs.declared.rule_fault.RuleFault.{RuleFault}
use Rattle.lt_kernel.specs.declared.rule_fault.RuleFault.TheVariants.{Bad, Duplicate, Memory}
use Rattle.lt_kernel.specs.State.{State, sequents, statements}
use Rattle.lt_kernel.specs.Growing.{Carries, IsSound}
use Rattle.lt_kernel.specs.Reaching.{IsGiven, Reaches}
use Rattle.lt_kernel.proofs.GrowingLemmas.{carries-grows}
use Rattle.lt_kernel.proofs.ReachingLemmas.{reached-line, reached-memory}
use Rattle.lt_programs.specs.Programs.{theorem, at_each}
use Rattle.lt_programs.specs.TypedTerms.{IsOfType}
use Rattle.lt_programs.specs.Connectives.{any_type, ex_definition, existence, existence_law, exists_at, is_stated, with_ex}
use Rattle.lt_programs.proofs.TypedTermLemmas.{application-of, of-sound}
use Rattle.lt_programs.proofs.Unions.{union-once}
use Rattle.lt_programs.proofs.ConnectiveLemmas.{detached-is, existence-at, no-predicate, no-element, of-element, typed-predicate, of-test}
use Rattle.lt_derived.proofs.Repeated.{some-of, still-typed}
use Rattle.lt_derived.proofs.UnfoldingLemmas.{line-still, redex-at, none-at}
use Rattle.lt_derived.proofs.ConnectiveSteps.{where-fails, test-holds, given-line, two-typed}

-- what is read at a later state is what it was
module _ (old mid : State) (c : Carries old mid) (id : ℕ) (w : id < length old.nodes) where
  pub tree-still : tree_at mid.nodes id ≡ tree_at old.nodes id
  tree-still = let g = carries-grows old mid c in tree_at-extends old.nodes mid.nodes id g.stays.nodes w

pub signature-still : (old mid : State) → Carries old mid → mid.signature ≡ old.signature
signature-still old mid c = let g = carries-grows old mid c in g.stays.signature

pub two-still : (old mid : State) (p t : ℕ) → Carries old mid → IsTyped old.signature old.nodes p → IsTyped old.signature old.nodes t
    → All (IsTyped mid.signature mid.nodes) (p ∷ t ∷ [])
two-still old mid p t c hp ht = two-typed mid.signature mid p t (still-typed old mid p c hp) (still-typed old mid t c ht)

-- ---- the law at a type, a predicate and an element

module _ (old mid : State) (law at p t : ℕ) (ty : TypeTree) (a : Chars) (named : a ≡ codes "a") (c : Carries old mid)
    (is : line_at (sequents old) law ≡ Some (theorem (existence_law any_type)))
    (typed : line_at (sequents mid) at ≡ option_map (put_one a ty) (line_at (sequents old) law))
    (hp : IsTyped old.signature old.nodes p) (ht : IsTyped old.signature old.nodes t)
    (predicate : IsOfType old.signature (tree_at old.nodes p) (fun ty bool)) (element : IsOfType old.signature (tree_at old.nodes t) ty) where
  line-typed : line_at (sequents mid) at ≡ Some (theorem (existence_law ty))
  line-typed = typed ∙ ap (option_map (put_one a ty)) is ∙ ap (λ n. Some (put_one n ty (theorem (existence_law any_type)))) named

  abbrev pub premise : NamelessSequent
  premise = theorem (nameless_implies (nameless_application (tree_at old.nodes p) (tree_at old.nodes t)) (existence ty (tree_at old.nodes p)))

  pub law-goes : with_line (sequents mid) at (at_each mid.signature (trees mid.nodes (p ∷ t ∷ []))) ≡ Ok premise
  law-goes =
      found-on _ (line_at (sequents mid) at) (theorem (existence_law ty)) _ line-typed
      ∙ (λ i. at_each (signature-still old mid c i) (tree-still old mid c p hp.within i ∷ tree-still old mid c t ht.within i ∷ []) (theorem (existence_law ty)))
      ∙ existence-at old.signature ty (tree_at old.nodes p) (tree_at old.nodes t) predicate element

-- ---- from a line

-- what is wanted of a sequent
abbrev pub wanted : Nameless → Nameless → TypeTree → NamelessSequent → NamelessOutcome
wanted p t ty s = where_holds (same_nameless (nameless_application p t) s.concl || same_nameless (nameless_at p t) s.concl) MiddleDiffers
    (nameless_gives (nameless_union [] s.hyps) (existence ty p))

either-true : (a b : Bool) → a ≡ true → (a || b) ≡ true
either-true true b e = refl
either-true false b e = absurd (cc e)

either-false : (a b : Bool) → a ≡ false → (a || b) ≡ b
either-false true b e = absurd (cc e)
either-false false b e = refl

module _ (old mid : State) (i at : ℕ) (p t : Nameless) (ty : TypeTree) (s : NamelessSequent) (c : Carries old mid) (there : line_at (sequents old) i ≡ Some s)
    (is : line_at (sequents old) at ≡ Some (theorem (nameless_implies (nameless_application p t) (existence ty p))))
    (concl : Nameless) (cs : option_map (λ q. q.concl) (line_at (sequents mid) i) ≡ Some concl) where
  concl-is : concl ≡ s.concl
  concl-is = same-concl (sym cs ∙ ap (option_map (λ q. q.concl)) (line-still old mid i s c there))
    where
      same-concl : Some concl ≡ Some s.concl → concl ≡ s.concl
      same-concl e = cc e

  begins-so : with_line (sequents old) i (wanted p t ty) ≡ wanted p t ty s
  begins-so = found-on _ (line_at (sequents old) i) s (wanted p t ty) there

  implication-there : line_at (sequents mid) at ≡ Some (theorem (nameless_implies (nameless_application p t) (existence ty p)))
  implication-there = line-still old mid at (theorem (nameless_implies (nameless_application p t) (existence ty p))) c is

  -- the line is p t
  pub applied-goes : (applied : Nameless) → applied ≡ nameless_application p t → same_nameless applied concl ≡ true → nameless_mp_gives (sequents mid) at i ≡ with_line (sequents old) i (wanted p t ty)
  applied-goes applied e d =
      let same : nameless_application p t ≡ s.concl = sym e ∙ same-is applied concl d ∙ concl-is in
      found-on _ (line_at (sequents mid) at) (theorem (nameless_implies (nameless_application p t) (existence ty p))) _ implication-there
      ∙ found-on _ (line_at (sequents mid) i) s _ (line-still old mid i s c there)
      ∙ detached-is [] (nameless_application p t) (existence ty p) s same
      ∙ sym (begins-so ∙ holds-on _ MiddleDiffers (nameless_gives (nameless_union [] s.hyps) (existence ty p))
      (either-true (same_nameless (nameless_application p t) s.concl) _ (ap (same_nameless (nameless_application p t)) (sym same) ∙ same-refl (nameless_application p t))))

  module _ (applied : Nameless) (e : applied ≡ nameless_application p t) (differ : same_nameless applied concl ≡ false) where
    not-applied : same_nameless (nameless_application p t) s.concl ≡ false
    not-applied = (λ k. same_nameless (sym e k) (sym concl-is k)) ∙ differ

    -- .. or p opened
    opened-so : with_line (sequents old) i (wanted p t ty) ≡ where_holds (same_nameless (nameless_at p t) s.concl) MiddleDiffers (nameless_gives (nameless_union [] s.hyps) (existence ty p))
    opened-so = begins-so ∙ ap (λ b. where_holds b MiddleDiffers (nameless_gives (nameless_union [] s.hyps) (existence ty p)))
        (either-false (same_nameless (nameless_application p t) s.concl) (same_nameless (nameless_at p t) s.concl) not-applied)

    pub neither-goes : is_some (nameless_beta applied) ≡ false → with_line (sequents old) i (wanted p t ty) ≡ Err MiddleDiffers
    neither-goes h =
        let as-is : nameless_at p t ≡ nameless_application p t = none-at p t (ap (λ x. is_some (nameless_beta x)) (sym e) ∙ h) in
        opened-so ∙ fails-on (same_nameless (nameless_at p t) s.concl) MiddleDiffers _ (ap (λ x. same_nameless x s.concl) as-is ∙ not-applied)

    -- the equations
    module _ (first second : State) (n m : ℕ) (u : TypeTree) (ct : nameless_type_of mid.signature applied ≡ u) (c1 : Carries mid first) (c2 : Carries first second)
        (h : is_some (nameless_beta applied) ≡ true) (opens : IsGiven first n (nameless_beta_gives mid.signature applied)) where
      beta-line : line_at (sequents first) n ≡ Some (theorem (nameless_equation u (nameless_application p t) (nameless_at p t)))
      beta-line =
          reached-line first n (nameless_beta_gives mid.signature applied) (theorem (nameless_equation u (nameless_application p t) (nameless_at p t))) opens
          (found-on _ (nameless_beta applied) (nameless_at p t) _ (ap nameless_beta e ∙ redex-at p t (ap (λ x. is_some (nameless_beta x)) (sym e) ∙ h))
          ∙ (λ k. Ok (theorem (nameless_equation (ct k) (e k) (nameless_at p t)))))

      sym-is : nameless_sym_gives (sequents first) n ≡ Ok (theorem (nameless_equation u (nameless_at p t) (nameless_application p t)))
      sym-is = sym-gives (sequents first) n (theorem (nameless_equation u (nameless_application p t) (nameless_at p t))) beta-line u (nameless_application p t) (nameless_at p t) refl

      pub sym-sure : is_ok (nameless_sym_gives (sequents first) n) ≡ true
      sym-sure = ap is_ok sym-is

      module _ (back : IsGiven second m (nameless_sym_gives (sequents first) n)) where
        all-still : Carries old second
        all-still = λ f x. c2 f (c1 f (c f x))

        eqmp-is : nameless_eqmp_gives (sequents second) m i ≡ where_holds (same_nameless (nameless_at p t) s.concl) MiddleDiffers
            (nameless_gives (nameless_union [] s.hyps) (nameless_application p t))
        eqmp-is =
            found-on _ (line_at (sequents second) m) (theorem (nameless_equation u (nameless_at p t) (nameless_application p t))) _
            (reached-line second m (nameless_sym_gives (sequents first) n) (theorem (nameless_equation u (nameless_at p t) (nameless_application p t))) back sym-is)
            ∙ found-on _ (line_at (sequents second) i) s _ (line-still old second i s all-still there)

        pub opened-fails : (next : State) (x : RuleFault) → Reaches next (Err x) (nameless_eqmp_gives (sequents second) m i) → Reaches next (Err x) (with_line (sequents old) i (wanted p t ty))
        opened-fails next x a =
            subst (λ (o : NamelessOutcome). Reaches next (Err x) o) (sym opened-so)
            (where-fails next x (same_nameless (nameless_at p t) s.concl) MiddleDiffers (record { hyps = nameless_union [] s.hyps; concl = nameless_application p t })
            (nameless_gives (nameless_union [] s.hyps) (existence ty p)) (subst (λ (o : NamelessOutcome). Reaches next (Err x) o) eqmp-is a))

        module _ (third : State) (k : ℕ) (c3 : Carries second third) (moved : IsGiven third k (nameless_eqmp_gives (sequents second) m i)) where
          abbrev carried : NamelessSequent
          carried = record { hyps = nameless_union [] s.hyps; concl = nameless_application p t }

          moved-so : IsGiven third k (where_holds (same_nameless (nameless_at p t) s.concl) MiddleDiffers (Ok carried))
          moved-so = record { sequent = moved.sequent; line = moved.line; goes = sym eqmp-is ∙ moved.goes }

          pub opened-goes : nameless_mp_gives (sequents third) at k ≡ with_line (sequents old) i (wanted p t ty)
          opened-goes =
              found-on _ (line_at (sequents third) at) (theorem (nameless_implies (nameless_application p t) (existence ty p))) _
              (line-still old third at (theorem (nameless_implies (nameless_application p t) (existence ty p))) (λ f x. c3 f (all-still f x)) is)
              ∙ found-on _ (line_at (sequents third) k) carried _ (given-line third k (same_nameless (nameless_at p t) s.concl) MiddleDiffers carried moved-so)
              ∙ detached-is [] (nameless_application p t) (existence ty p) carried refl
              ∙ ap (λ hs. nameless_gives hs (existence ty p)) (union-once s.hyps)
              ∙ sym (opened-so ∙ holds-on (same_nameless (nameless_at p t) s.concl) MiddleDiffers _ (test-holds third k (same_nameless (nameless_at p t) s.concl) MiddleDiffers carried moved-so))

-- ---- the whole

-- refusals of the tests
module _ (old mid : State) (i law p t : ℕ) (s : NamelessSequent) (there : line_at (sequents old) i ≡ Some s) (c : Carries old mid)
    (hp : IsTyped old.signature old.nodes p) (ht : IsTyped old.signature old.nodes t)
    (a : IsGiven mid law (with_ex (statements old) (Ok (theorem (existence_law any_type))))) where
  ex-stated : is_stated (statements old) (codes "ex_def") ex_definition ≡ true
  ex-stated = test-holds mid law (is_stated (statements old) (codes "ex_def") ex_definition) UnknownLabel (theorem (existence_law any_type)) a

  pub ex-law : line_at (sequents mid) law ≡ Some (theorem (existence_law any_type))
  ex-law = given-line mid law (is_stated (statements old) (codes "ex_def") ex_definition) UnknownLabel (theorem (existence_law any_type)) a

  over-old : predicate_over (nameless_type_of mid.signature (tree_at mid.nodes p)) ≡ predicate_over (nameless_type_of old.signature (tree_at old.nodes p))
  over-old = λ k. predicate_over (nameless_type_of (signature-still old mid c k) (tree-still old mid c p hp.within k))

  has-old : (ty : TypeTree) → nameless_has_type mid.signature (tree_at mid.nodes t) ty ≡ nameless_has_type old.signature (tree_at old.nodes t) ty
  has-old ty = λ k. nameless_has_type (signature-still old mid c k) (tree-still old mid c t ht.within k) ty

  first-so : with_line (sequents old) i (exists_at old.signature (statements old) (tree_at old.nodes p) (tree_at old.nodes t))
      ≡ exists_at old.signature (statements old) (tree_at old.nodes p) (tree_at old.nodes t) s
  first-so = found-on _ (line_at (sequents old) i) s (exists_at old.signature (statements old) (tree_at old.nodes p) (tree_at old.nodes t)) there

  pub not-predicate : None ≡ predicate_over (nameless_type_of mid.signature (tree_at mid.nodes p))
      → with_line (sequents old) i (exists_at old.signature (statements old) (tree_at old.nodes p) (tree_at old.nodes t)) ≡ Err TypeDiffers
  not-predicate e = first-so ∙ no-predicate old.signature (statements old) (tree_at old.nodes p) (tree_at old.nodes t) s ex-stated (sym over-old ∙ sym e)

  module _ (ty : TypeTree) (e : Some ty ≡ predicate_over (nameless_type_of mid.signature (tree_at mid.nodes p))) where
    here : predicate_over (nameless_type_of old.signature (tree_at old.nodes p)) ≡ Some ty
    here = sym over-old ∙ sym e

    pub not-element : nameless_has_type mid.signature (tree_at mid.nodes t) ty ≡ false
        → with_line (sequents old) i (exists_at old.signature (statements old) (tree_at old.nodes p) (tree_at old.nodes t)) ≡ Err TypeDiffers
    not-element h = first-so ∙ no-element old.signature (statements old) (tree_at old.nodes p) (tree_at old.nodes t) s ex-stated ty here (sym (has-old ty) ∙ h)

    pub predicate-mid : IsOfType mid.signature (tree_at mid.nodes p) (fun ty bool)
    predicate-mid = let m = still-typed old mid p c hp in typed-predicate mid.signature (tree_at mid.nodes p) ty m.typed (sym e)

    module _ (h : nameless_has_type mid.signature (tree_at mid.nodes t) ty ≡ true) where
      pub element-mid : IsOfType mid.signature (tree_at mid.nodes t) ty
      element-mid = of-test mid.signature (tree_at mid.nodes t) ty h

      -- the rest, from the state in which the law stands at the terms
      pub exists-goes : (next : State) → Carries mid next
          → with_line (sequents next) i (wanted (tree_at next.nodes p) (tree_at next.nodes t) ty)
          ≡ with_line (sequents old) i (exists_at old.signature (statements old) (tree_at old.nodes p) (tree_at old.nodes t))
      exists-goes next d =
          let all : Carries old next = λ f x. d f (c f x) in
          found-on _ (line_at (sequents next) i) s (wanted (tree_at next.nodes p) (tree_at next.nodes t) ty) (line-still old next i s all there)
          ∙ (λ k. wanted (tree-still old next all p hp.within k) (tree-still old next all t ht.within k) ty s)
          ∙ sym (first-so ∙ of-element old.signature (statements old) (tree_at old.nodes p) (tree_at old.nodes t) s ex-stated ty here (sym (has-old ty) ∙ h))

-- the law isn't had
pub exists-fails : (old next : State) (i p t : ℕ) (s : NamelessSequent) (e : RuleFault) → line_at (sequents old) i ≡ Some s
    → Reaches next (Err e) (with_ex (statements old) (Ok (theorem (existence_law any_type))))
    → Reaches next (Err e) (with_line (sequents old) i (exists_at old.signature (statements old) (tree_at old.nodes p) (tree_at old.nodes t)))
exists-fails old next i p t s e there a =
    subst (λ (o : NamelessOutcome). Reaches next (Err e) o) (sym (found-on _ (line_at (sequents old) i) s (exists_at old.signature (statements old) (tree_at old.nodes p) (tree_at old.nodes t)) there))
    (where-fails next e (is_stated (statements old) (codes "ex_def") ex_definition) UnknownLabel (theorem (existence_law any_type)) _ a)

-- a predicate applied to an element is typed
pub applied-typed : (old mid : State) (id : ℕ) (p t : Nameless) (ty : TypeTree) → Carries old mid → id < length mid.nodes → tree_at mid.nodes id ≡ nameless_application p t
    → IsOfType old.signature p (fun ty bool) → IsOfType old.signature t ty → IsTyped mid.signature mid.nodes id
applied-typed old mid id p t ty c w e hp ht = record {
  within = w;
  typed = ap (nameless_fault mid.signature) e ∙ ap (λ sig. nameless_fault sig (nameless_application p t)) (signature-still old mid c)
      ∙ of-sound old.signature (nameless_application p t) bool (application-of old.signature p t ty bool hp ht);
}

-- what has a type still has it
pub still-of-type : (mid next : State) (id : ℕ) (ty : TypeTree) → Carries mid next → id < length mid.nodes → IsOfType mid.signature (tree_at mid.nodes id) ty
    → IsOfType next.signature (tree_at next.nodes id) ty
still-of-type mid next id ty c w e = (λ k. nameless_typed (signature-still mid next c k) [] (tree-still mid next c id w k)) ∙ e

-- .. and so an implication
pub implication-kept : (mid next : State) (at p t : ℕ) (ty : TypeTree) → Carries mid next → p < length mid.nodes → t < length mid.nodes
    → line_at (sequents next) at ≡ Some (theorem (nameless_implies (nameless_application (tree_at mid.nodes p) (tree_at mid.nodes t)) (existence ty (tree_at mid.nodes p))))
    → line_at (sequents next) at ≡ Some (theorem (nameless_implies (nameless_application (tree_at next.nodes p) (tree_at next.nodes t)) (existence ty (tree_at next.nodes p))))
implication-kept mid next at p t ty c wp wt e =
    e ∙ (λ k. Some (theorem (nameless_implies (nameless_application (sym (tree-still mid next c p wp) k) (sym (tree-still mid next c t wt) k)) (existence ty (sym (tree-still mid next c p wp) k)))))
