-- Lines by the definitions of `and` and `ex`.
use Rattle.std.proofs.Common.{◌≡◌, ℕ, zero, suc, ◌<◌, inl, inr, List, [], ◌∷◌, ◌++◌, length, get_or, Bool, true, false, codes, is_some, Option, Some, None, Result, Ok, Err, refl, sym, ◌∙◌, ap, subst, arith}
use Rattle.std.specs.Option.{option_map}
use Rattle.std.specs.List.{All}
use Rattle.std.proofs.lemmas.Bool.{cases_Bool, true≢false}
use Rattle.lt_definitions.specs.Types.{Chars, found, TypeTree, bool}
use Rattle.lt_definitions.specs.Typing.{Signature, with_ok}
use Rattle.lt_definitions.specs.Rules.{Rule, line_at, where_holds, with_line, with_lines, with_found}
use Rattle.lt_definitions.specs.declared.reason.Reason.{Reason}
use Rattle.lt_definitions.specs.declared.reason.Reason.TheVariants.{MissingLine, UnknownLabel}
use Rattle.lt_definitions.proofs.RuleLemmas.{found-on, holds-on, fails-on}
use Rattle.lt_nameless.specs.Nameless.{Nameless, NamelessSequent, IsWhole}
use Rattle.lt_nameless.specs.NamelessRules.{NamelessOutcome, nameless_fault, nameless_implies, nameless_union, nameless_gives, nameless_thm_gives, same_nameless, detached, IsBooleanNameless}
use Rattle.lt_nameless.proofs.SameForms.{same-is, same-refl}
use Rattle.lt_nameless.proofs.ClosedSteps.{typed-whole}
use Rattle.lt_store.specs.Trees.{tree_at, trees}
use Rattle.lt_store.specs.Typed.{IsTyped}
use Rattle.lt_kernel.specs.declared.rule_fault.RuleFault.{RuleFault}
use Rattle.lt_kernel.specs.declared.rule_fault.RuleFault.TheVariants.{Bad, Duplicate, Memory}
use Rattle.lt_kernel.specs.State.{State, sequents, statements}
use Rattle.lt_kernel.specs.Growing.{Carries, IsSound}
use Rattle.lt_kernel.specs.Reaching.{IsGiven, Reaches}
use Rattle.lt_kernel.proofs.GrowingLemmas.{carries-grows}
use Rattle.lt_kernel.proofs.ReachingLemmas.{reached-line, reached-memory}
use Rattle.lt_programs.specs.Programs.{theorem, at_each, detached_by, followed, AreGood}
use Rattle.lt_programs.specs.TypedTerms.{IsOfType}
use Rattle.lt_programs.specs.Connectives.{and_definition, ex_definition, conjunction, conjunction_law, both_give, is_stated, with_and, conjoined}
use Rattle.lt_programs.specs.Derivations.{Derives}
use Rattle.lt_programs.proofs.TypedTermLemmas.{of-sound}
use Rattle.lt_programs.proofs.ConnectiveLemmas.{stated-found, found-stated, found-differs, found-nothing, found-boolean, detached-is, conjunction-at}
use Rattle.lt_programs.proofs.DerivationLemmas.{with-and, with-ex}
use Rattle.lt_derived.proofs.Stated.{HasStatement, stated}
use Rattle.lt_derived.proofs.UnfoldingLemmas.{line-boolean, line-still, still-sound}

-- ---- a statement that is the one wanted

abbrev refused : Reason → NamelessOutcome
refused r = Err r

abbrev given-as : Nameless → NamelessOutcome
given-as p = Ok (theorem p)

given-refused : (p : Nameless) (r : Reason) → given-as p ≡ refused r → ⊥
given-refused p r e = cc e

module _ (named : List (Chars × Nameless)) (copy label : Chars) (form : Nameless) (same : copy ≡ label) where
  pub unstated-fails : (s : State) (e : RuleFault) → Reaches s (Err e) (nameless_thm_gives named copy)
      → Reaches s (Err e) (where_holds (is_stated named label form) UnknownLabel (Ok (theorem form)))
  unstated-fails s (Bad r) a = by (found label named) refl (ap (λ c. nameless_thm_gives named c) (sym same) ∙ a)
    where
      by : (o : Option Nameless) → found label named ≡ o → with_found UnknownLabel (found label named) given-as ≡ refused r
          → where_holds (is_stated named label form) UnknownLabel (Ok (theorem form)) ≡ refused r
      by None d h = fails-on (is_stated named label form) UnknownLabel (Ok (theorem form)) (found-nothing named label form d)
          ∙ sym (ap (λ o. with_found UnknownLabel o given-as) d) ∙ h
      by (Some p) d h = absurd (given-refused p r (sym (ap (λ o. with_found UnknownLabel o given-as) d) ∙ h))
  unstated-fails s (Duplicate l) a = absurd a
  unstated-fails s Memory a = tt

  module _ (first mid : State) (n : ℕ) (given : IsGiven first n (nameless_thm_gives named copy)) (c : Carries first mid) (concl : Nameless)
      (is : option_map (λ s. s.concl) (line_at (sequents mid) n) ≡ Some concl) where
    there : HasStatement first named copy n
    there = stated first named copy n given

    named-so : found label named ≡ Some there.statement
    named-so = sym (ap (λ x. found x named) same) ∙ there.is

    line-here : line_at (sequents mid) n ≡ Some (theorem there.statement)
    line-here = line-still first mid n (theorem there.statement) c there.line

    concl-is : concl ≡ there.statement
    concl-is = same-concl (sym is ∙ ap (option_map (λ s. s.concl)) line-here)
      where
        same-concl : Some concl ≡ Some there.statement → concl ≡ there.statement
        same-concl e = cc e

    test-is : same_nameless form there.statement ≡ same_nameless form concl
    test-is = ap (same_nameless form) (sym concl-is)

    pub stated-line : same_nameless form concl ≡ true → IsGiven mid n (where_holds (is_stated named label form) UnknownLabel (Ok (theorem form)))
    stated-line e =
        let one : form ≡ there.statement = same-is form concl e ∙ concl-is in
        record {
          sequent = theorem there.statement;
          line = line-here;
          goes = holds-on (is_stated named label form) UnknownLabel (Ok (theorem form)) (found-stated named label form there.statement named-so (test-is ∙ e))
              ∙ ap (λ p. Ok (theorem p)) one;
        }

    pub stated-differs : same_nameless form concl ≡ false → where_holds (is_stated named label form) UnknownLabel (Ok (theorem form)) ≡ Err UnknownLabel
    stated-differs e = fails-on (is_stated named label form) UnknownLabel (Ok (theorem form)) (found-differs named label form there.statement named-so (test-is ∙ e))

pub line-given : (s : State) (n : ℕ) (o : NamelessOutcome) → IsGiven s n o → is_some (line_at (sequents s) n) ≡ true
line-given s n o a = ap is_some a.line

pub still-there : (old new : State) (n : ℕ) (q : NamelessSequent) → Carries old new → line_at (sequents old) n ≡ Some q → is_some (line_at (sequents new) n) ≡ true
still-there old new n q c e = ap is_some (line-still old new n q c e)

-- the definitions have no loose indices
pub and-whole : IsWhole 0 and_definition
and-whole = typed-whole with-and [] and_definition bool refl

pub ex-whole : IsWhole 0 ex_definition
ex-whole = typed-whole with-ex [] ex_definition bool refl

-- ---- outcomes behind a test

-- what gives a sequent and is refused otherwise
pub where-fails : (s : State) (e : RuleFault) (b : Bool) (r : Reason) (q : NamelessSequent) (o : NamelessOutcome) → Reaches s (Err e) (where_holds b r (Ok q))
    → Reaches s (Err e) (where_holds b r o)
where-fails s (Bad x) true r q o a = absurd (ok-err a)
  where
    ok-err : where_holds true r (Ok q) ≡ Err x → ⊥
    ok-err d = cc d
where-fails s (Bad x) false r q o a = a
where-fails s (Duplicate l) b r q o a = absurd a
where-fails s Memory b r q o a = tt

-- what can't be refused but for want of memory
pub sure-fails : (s : State) (e : RuleFault) (o : NamelessOutcome) (q : NamelessSequent) (whole : NamelessOutcome) → o ≡ Ok q → Reaches s (Err e) o → Reaches s (Err e) whole
sure-fails s e o q whole d a = subst (λ (x : RuleFault). Reaches s (Err x) whole) (sym (reached-memory s e o q a d)) tt

-- where a sequent is given the test holds
module _ (s : State) (n : ℕ) (b : Bool) (r : Reason) (q : NamelessSequent) (a : IsGiven s n (where_holds b r (Ok q))) where
  pub test-holds : b ≡ true
  test-holds = by b a.goes
    where
      by : (b : Bool) → where_holds b r (Ok q) ≡ Ok a.sequent → b ≡ true
      by true d = refl
      by false d = absurd (cc d)

  pub given-line : line_at (sequents s) n ≡ Some q
  given-line = reached-line s n (where_holds b r (Ok q)) q a (holds-on b r (Ok q) test-holds)

-- ---- a table over a line

module _ (old mid : State) (h : IsSound old) (c : Carries old mid) (l : Chars) (definition p q : Nameless) (rules : List (Rule Nameless)) (n : ℕ)
    (derived : IsBooleanNameless old.signature definition → Derives old.signature p rules q)
    (a : IsGiven mid n (where_holds (is_stated (statements old) l definition) UnknownLabel (Ok (theorem p)))) where
  holds-here : is_stated (statements old) l definition ≡ true
  holds-here = test-holds mid n (is_stated (statements old) l definition) UnknownLabel (theorem p) a

  here : Derives old.signature p rules q
  here = derived (found-boolean old.signature (statements old) h.statements l definition (stated-found (statements old) l definition holds-here))

  pub table-good : AreGood mid.signature rules
  table-good = let g = carries-grows old mid c in subst (λ (sig : Signature). AreGood sig rules) (sym g.stays.signature) here.good

  pub table-goes : with_line (sequents mid) n (λ s. followed mid.signature (s ∷ []) rules) ≡ where_holds (is_stated (statements old) l definition) UnknownLabel (Ok (theorem q))
  table-goes =
      let g = carries-grows old mid c in
      ap (λ o. with_found MissingLine o (λ s. followed mid.signature (s ∷ []) rules))
      (given-line mid n (is_stated (statements old) l definition) UnknownLabel (theorem p) a)
      ∙ ap (λ sig. followed sig (theorem p ∷ []) rules) g.stays.signature
      ∙ here.gives
      ∙ sym (holds-on (is_stated (statements old) l definition) UnknownLabel (Ok (theorem q)) holds-here)

-- ---- two lines

pub lacks-first : (done : List NamelessSequent) (i j : ℕ) (f : NamelessSequent → NamelessSequent → NamelessOutcome) → line_at done i ≡ None → with_lines done i j f ≡ Err MissingLine
lacks-first done i j f e = ap (λ o. with_found MissingLine o (λ s. with_line done j (f s))) e

pub lacks-second : (done : List NamelessSequent) (i j : ℕ) (s : NamelessSequent) (f : NamelessSequent → NamelessSequent → NamelessOutcome) → line_at done i ≡ Some s → line_at done j ≡ None
    → with_lines done i j f ≡ Err MissingLine
lacks-second done i j s f e d = ap (λ o. with_found MissingLine o (λ x. with_line done j (f x))) e ∙ ap (λ o. with_found MissingLine o (f s)) d

pub both-lines : (done : List NamelessSequent) (i j : ℕ) (s u : NamelessSequent) (f : NamelessSequent → NamelessSequent → NamelessOutcome) → line_at done i ≡ Some s → line_at done j ≡ Some u
    → with_lines done i j f ≡ f s u
both-lines done i j s u f e d = ap (λ o. with_found MissingLine o (λ x. with_line done j (f x))) e ∙ ap (λ o. with_found MissingLine o (f s)) d

-- the conclusion of a line is typed, and what it is
module _ (old mid : State) (h : IsSound old) (c : Carries old mid) (i : ℕ) (s : NamelessSequent) (e : line_at (sequents old) i ≡ Some s)
    (id : ℕ) (w : id < length mid.nodes) (is : option_map (λ q. q.concl) (line_at (sequents mid) i) ≡ Some (tree_at mid.nodes id)) where
  pub concl-here : tree_at mid.nodes id ≡ s.concl
  concl-here = same-concl (sym is ∙ ap (option_map (λ q. q.concl)) (line-still old mid i s c e))
    where
      same-concl : Some (tree_at mid.nodes id) ≡ Some s.concl → tree_at mid.nodes id ≡ s.concl
      same-concl d = cc d

  pub concl-boolean : IsBooleanNameless mid.signature s.concl
  concl-boolean = let b = line-boolean mid i s (still-sound old mid c h) (line-still old mid i s c e) in b.concl

  pub concl-typed : IsTyped mid.signature mid.nodes id
  concl-typed = record { within = w; typed = ap (nameless_fault mid.signature) concl-here ∙ of-sound mid.signature s.concl bool concl-boolean }

pub two-typed : (sig : Signature) (s : State) (l r : ℕ) → IsTyped s.signature s.nodes l → IsTyped s.signature s.nodes r → All (IsTyped s.signature s.nodes) (l ∷ r ∷ [])
two-typed sig s l r a b zero d w = a
two-typed sig s l r a b (suc zero) d w = b
two-typed sig s l r a b (suc (suc k)) d w = absurd (omega (arith, w))

-- ---- conjunction

module _ (old mid : State) (h : IsSound old) (c : Carries old mid) (i j law : ℕ) (s u : NamelessSequent)
    (ei : line_at (sequents old) i ≡ Some s) (ej : line_at (sequents old) j ≡ Some u)
    (a : IsGiven mid law (with_and (statements old) (Ok (theorem conjunction_law)))) (l r : ℕ)
    (lw : l < length mid.nodes) (rw' : r < length mid.nodes)
    (ls : option_map (λ q. q.concl) (line_at (sequents mid) i) ≡ Some (tree_at mid.nodes l))
    (rs : option_map (λ q. q.concl) (line_at (sequents mid) j) ≡ Some (tree_at mid.nodes r)) where
  abbrev pub at-both : NamelessSequent
  at-both = theorem (both_give s.concl u.concl (conjunction s.concl u.concl))

  pub conj-typed : All (IsTyped mid.signature mid.nodes) (l ∷ r ∷ [])
  conj-typed = two-typed mid.signature mid l r (concl-typed old mid h c i s ei l lw ls) (concl-typed old mid h c j u ej r rw' rs)

  pub conj-at : with_line (sequents mid) law (at_each mid.signature (trees mid.nodes (l ∷ r ∷ []))) ≡ Ok at-both
  conj-at =
      ap (λ o. with_found MissingLine o (at_each mid.signature (trees mid.nodes (l ∷ r ∷ []))))
      (given-line mid law (is_stated (statements old) (codes "and_def") and_definition) UnknownLabel (theorem conjunction_law) a)
      ∙ (λ k. at_each mid.signature (concl-here old mid h c i s ei l lw ls k ∷ concl-here old mid h c j u ej r rw' rs k ∷ []) (theorem conjunction_law))
      ∙ conjunction-at mid.signature s.concl u.concl (concl-boolean old mid h c i s ei l lw ls) (concl-boolean old mid h c j u ej r rw' rs)

  module _ (next : State) (d : Carries mid next) (n : ℕ) (g : IsGiven next n (with_line (sequents mid) law (at_each mid.signature (trees mid.nodes (l ∷ r ∷ []))))) where
    pub conj-goes : with_line (sequents next) n (detached_by (sequents next) (i ∷ j ∷ [])) ≡ with_lines (sequents old) i j (conjoined (statements old))
    conj-goes =
        let all : Carries old next = λ first x. d first (c first x) in
        let p = s.concl in
        let q = u.concl in
        let both = conjunction p q in
        let hs = nameless_union [] s.hyps in
        let one : with_line (sequents next) i (λ v. detached at-both v) ≡ nameless_gives hs (nameless_implies q both) =
        found-on _ (line_at (sequents next) i) s _ (line-still old next i s all ei) ∙ detached-is [] p (nameless_implies q both) s refl in
        let two : with_line (sequents next) j (λ v. detached (record { hyps = hs; concl = nameless_implies q both }) v) ≡ nameless_gives (nameless_union hs u.hyps) both =
        found-on _ (line_at (sequents next) j) u _ (line-still old next j u all ej) ∙ detached-is hs q both u refl in
        ap (λ o. with_found MissingLine o (detached_by (sequents next) (i ∷ j ∷ [])))
        (reached-line next n (with_line (sequents mid) law (at_each mid.signature (trees mid.nodes (l ∷ r ∷ [])))) at-both g conj-at)
        ∙ ap (λ o. with_ok o (detached_by (sequents next) (j ∷ []))) one
        ∙ ap (λ o. with_ok o (detached_by (sequents next) [])) two
        ∙ sym (both-lines (sequents old) i j s u (conjoined (statements old)) ei ej
        ∙ holds-on (is_stated (statements old) (codes "and_def") and_definition) UnknownLabel (nameless_gives (nameless_union hs u.hyps) both)
        (test-holds mid law (is_stated (statements old) (codes "and_def") and_definition) UnknownLabel (theorem conjunction_law) a))

-- the law isn't had
pub conj-fails : (old next : State) (i j : ℕ) (s u : NamelessSequent) (e : RuleFault) → line_at (sequents old) i ≡ Some s → line_at (sequents old) j ≡ Some u
    → Reaches next (Err e) (with_and (statements old) (Ok (theorem conjunction_law))) → Reaches next (Err e) (with_lines (sequents old) i j (conjoined (statements old)))
conj-fails old next i j s u e ei ej a =
    subst (λ (o : NamelessOutcome). Reaches next (Err e) o) (sym (both-lines (sequents old) i j s u (conjoined (statements old)) ei ej))
    (where-fails next e (is_stated (statements old) (codes "and_def") and_definition) UnknownLabel (theorem conjunction_law)
    (nameless_gives (nameless_union (nameless_union [] s.hyps) u.hyps) (conjunction s.concl u.concl)) a)

-- a line that was given is there later
pub given-there : (first mid : State) (n : ℕ) (o : NamelessOutcome) → Carries first mid → IsGiven first n o → is_some (line_at (sequents mid) n) ≡ true
given-there first mid n o c a = still-there first mid n a.sequent c a.line
