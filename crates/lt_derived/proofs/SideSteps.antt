-- Lines by the laws of conjunction and existence that take these apart.
use Rattle.std.proofs.Common.{◌≡◌, ℕ, ◌<◌, List, [], ◌∷◌, length, codes, IfSome, Option, Some, None, Result, Ok, Err, refl, sym, ◌∙◌, ap, subst}
use Rattle.std.specs.Option.{option_map}
use Rattle.std.specs.List.{All}
use Rattle.std.proofs.lemmas.List.Elements.{All-cons, All-nil}
use Rattle.lt_definitions.specs.Types.{Chars, TypeTree, bool, fun}
use Rattle.lt_definitions.specs.Typing.{Signature, type_fault}
use Rattle.lt_definitions.specs.Rules.{line_at, where_holds, with_line, with_found}
use Rattle.lt_definitions.specs.declared.reason.Reason.TheVariants.{MiddleDiffers, UnknownLabel}
use Rattle.lt_definitions.proofs.RuleLemmas.{found-on, holds-on}
use Rattle.lt_nameless.specs.Nameless.{Nameless, nameless_bound, nameless_application, NamelessSequent}
use Rattle.lt_nameless.specs.NamelessRules.{NamelessOutcome, nameless_implies, nameless_union, nameless_gives, nameless_mp_gives, put_one, IsBooleanNameless}
use Rattle.lt_store.specs.Trees.{tree_at, trees}
use Rattle.lt_store.specs.Typed.{IsTyped}
use Rattle.lt_kernel.specs.declared.rule_fault.RuleFault.{RuleFault}
use Rattle.lt_kernel.specs.State.{State, sequents, statements}
use Rattle.lt_kernel.specs.Growing.{Carries, IsSound}
use Rattle.lt_kernel.specs.Reaching.{IsGiven, Reaches}
use Rattle.lt_kernel.proofs.ReachingLemmas.{reached-line}
use Rattle.lt_programs.specs.Programs.{theorem, at_each}
use Rattle.lt_programs.specs.Openings.{filled}
use Rattle.lt_programs.specs.TypedTerms.{IsOfType}
use Rattle.lt_programs.specs.Connectives.{and_definition, ex_definition, any_type, conjunction, as_conjunction, existence, as_existence, chosen, choice_law, is_stated, chosen_element}
use Rattle.lt_programs.proofs.Filled.{at-each-filled}
use Rattle.lt_programs.proofs.TypedTermLemmas.{has, of-sound}
use Rattle.lt_programs.proofs.Declared.{sides-boolean, predicate-typed}
use Rattle.lt_programs.proofs.ConnectiveLemmas.{stated-found, found-boolean, detached-is, conjunction-is, existence-is, choice-at}
use Rattle.lt_derived.specs.Sides.{side_law, side_by}
use Rattle.lt_derived.proofs.Repeated.{still-typed}
use Rattle.lt_derived.proofs.UnfoldingLemmas.{line-still, still-sound}
use Rattle.lt_derived.proofs.ConnectiveSteps.{where-fails, test-holds, given-line, concl-here, concl-boolean, two-typed}
use Rattle.lt_derived.proofs.ExistenceSteps.{tree-still, signature-still}

-- what is read of a term
pub read-none : {A B : Type 0} (f : A → B) (o : Option A) (p : Option B) → o ≡ None → option_map f o ≡ p → p ≡ None
read-none f o p e h = sym h ∙ ap (option_map f) e

pub read-some : {A B : Type 0} (f : A → B) (o : Option A) (p : Option B) (x : A) → o ≡ Some x → option_map f o ≡ p → p ≡ Some (f x)
read-some f o p x e h = sym h ∙ ap (option_map f) e

pub within-some : {A : Type 0} (P : A → Type 0) (o : Option A) (x : A) → o ≡ Some x → IfSome o P → P x
within-some P o x e h = subst (λ (p : Option _). IfSome p P) e h

-- where the definition is stated, it is boolean
pub definition-boolean : (old mid : State) (l : Chars) (d : Nameless) (n : ℕ) (q : NamelessSequent) → IsSound old → Carries old mid
    → IsGiven mid n (where_holds (is_stated (statements old) l d) UnknownLabel (Ok q)) → IsBooleanNameless mid.signature d
definition-boolean old mid l d n q h c a =
    subst (λ (sig : Signature). IsBooleanNameless sig d) (sym (signature-still old mid c))
    (found-boolean old.signature (statements old) h.statements l d (stated-found (statements old) l d (test-holds mid n (is_stated (statements old) l d) UnknownLabel q a)))

-- ---- one side of a conjunction

abbrev sides : Nameless → List Nameless → Nameless × Nameless → NamelessOutcome
sides r hs e = nameless_gives (nameless_union [] hs) (filled (e.1 ∷ e.0 ∷ []) 0 r)

module _ (s : State) (h : IsSound s) (i law id : ℕ) (q : NamelessSequent) (e : line_at (sequents s) i ≡ Some q) (w : id < length s.nodes)
    (is : option_map (λ v. v.concl) (line_at (sequents s) i) ≡ Some (tree_at s.nodes id)) where
  same-here : tree_at s.nodes id ≡ q.concl
  same-here = concl-here s s h (λ f x. x) i q e id w is

  pub no-sides : (r : Nameless) → as_conjunction (tree_at s.nodes id) ≡ None → with_line (sequents s) i (side_by r) ≡ Err MiddleDiffers
  no-sides r d = found-on _ (line_at (sequents s) i) q (side_by r) e
      ∙ ap (λ o. with_found MiddleDiffers o (sides r q.hyps)) (ap as_conjunction (sym same-here) ∙ d)

  module _ (b : IsBooleanNameless s.signature and_definition) (l t : ℕ) (lw : l < length s.nodes) (tw : t < length s.nodes)
      (d : as_conjunction (tree_at s.nodes id) ≡ Some (tree_at s.nodes l, tree_at s.nodes t)) where
    both-is : q.concl ≡ conjunction (tree_at s.nodes l) (tree_at s.nodes t)
    both-is = sym same-here ∙ conjunction-is (tree_at s.nodes id) (tree_at s.nodes l, tree_at s.nodes t) d

    both-boolean : IsBooleanNameless s.signature (tree_at s.nodes l) × IsBooleanNameless s.signature (tree_at s.nodes t)
    both-boolean = sides-boolean s.signature h.signature b (tree_at s.nodes l) (tree_at s.nodes t)
        (subst (IsBooleanNameless s.signature) both-is (concl-boolean s s h (λ f x. x) i q e id w is))

    pub sides-typed : All (IsTyped s.signature s.nodes) (l ∷ t ∷ [])
    sides-typed = two-typed s.signature s l t
        (record { within = lw; typed = of-sound s.signature (tree_at s.nodes l) bool both-boolean.0 })
        (record { within = tw; typed = of-sound s.signature (tree_at s.nodes t) bool both-boolean.1 })

    module _ (r : Nameless) (there : line_at (sequents s) law ≡ Some (theorem (side_law r))) where
      abbrev pub side-at : NamelessSequent
      side-at = theorem (nameless_implies (conjunction (tree_at s.nodes l) (tree_at s.nodes t)) (filled (tree_at s.nodes t ∷ tree_at s.nodes l ∷ []) 0 r))

      pub side-given : with_line (sequents s) law (at_each s.signature (trees s.nodes (l ∷ t ∷ []))) ≡ Ok side-at
      side-given =
          found-on _ (line_at (sequents s) law) (theorem (side_law r)) _ there
          ∙ at-each-filled s.signature (bool ∷ bool ∷ []) (tree_at s.nodes l ∷ tree_at s.nodes t ∷ []) (nameless_implies (conjunction (nameless_bound 1) (nameless_bound 0)) r)
          (has s.signature (tree_at s.nodes l) bool both-boolean.0, (has s.signature (tree_at s.nodes t) bool both-boolean.1, tt))

      pub side-goes : (next : State) (n : ℕ) → Carries s next → IsGiven next n (with_line (sequents s) law (at_each s.signature (trees s.nodes (l ∷ t ∷ []))))
          → nameless_mp_gives (sequents next) n i ≡ with_line (sequents s) i (side_by r)
      side-goes next n c a =
          found-on _ (line_at (sequents next) n) side-at _ (reached-line next n (with_line (sequents s) law (at_each s.signature (trees s.nodes (l ∷ t ∷ [])))) side-at a side-given)
          ∙ found-on _ (line_at (sequents next) i) q _ (line-still s next i q c e)
          ∙ detached-is [] (conjunction (tree_at s.nodes l) (tree_at s.nodes t)) (filled (tree_at s.nodes t ∷ tree_at s.nodes l ∷ []) 0 r) q (sym both-is)
          ∙ sym (found-on _ (line_at (sequents s) i) q (side_by r) e
          ∙ ap (λ o. with_found MiddleDiffers o (sides r q.hyps)) (ap as_conjunction (sym same-here) ∙ d))

-- the whole: where the law is had, and where it isn't
module _ (old mid : State) (c : Carries old mid) (i law : ℕ) (q : NamelessSequent) (e : line_at (sequents old) i ≡ Some q) (r : Nameless) (f : NamelessSequent → NamelessOutcome) where
  pub side-whole : IsGiven mid law (where_holds (is_stated (statements old) (codes "and_def") and_definition) UnknownLabel (Ok (theorem (side_law r))))
      → (f q ≡ where_holds (is_stated (statements old) (codes "and_def") and_definition) UnknownLabel (side_by r q))
      → with_line (sequents mid) i (side_by r) ≡ with_line (sequents old) i f
  side-whole a d =
      found-on _ (line_at (sequents mid) i) q (side_by r) (line-still old mid i q c e)
      ∙ sym (found-on _ (line_at (sequents old) i) q f e ∙ d
      ∙ holds-on (is_stated (statements old) (codes "and_def") and_definition) UnknownLabel (side_by r q)
      (test-holds mid law (is_stated (statements old) (codes "and_def") and_definition) UnknownLabel (theorem (side_law r)) a))

-- the law's line
pub side-law-line : (s : State) (named : List (Chars × Nameless)) (n : ℕ) (r : Nameless)
    → IsGiven s n (where_holds (is_stated named (codes "and_def") and_definition) UnknownLabel (Ok (theorem (side_law r)))) → line_at (sequents s) n ≡ Some (theorem (side_law r))
side-law-line s named n r a = given-line s n (is_stated named (codes "and_def") and_definition) UnknownLabel (theorem (side_law r)) a

-- a law isn't had
pub law-fails : (old next : State) (i : ℕ) (q : NamelessSequent) (e : RuleFault) (l : Chars) (d p : Nameless) (f g : NamelessSequent → NamelessOutcome)
    → line_at (sequents old) i ≡ Some q → f q ≡ where_holds (is_stated (statements old) l d) UnknownLabel (g q)
    → Reaches next (Err e) (where_holds (is_stated (statements old) l d) UnknownLabel (Ok (theorem p)))
    → Reaches next (Err e) (with_line (sequents old) i f)
law-fails old next i q e l d p f g there is a =
    subst (λ (o : NamelessOutcome). Reaches next (Err e) o) (sym (found-on _ (line_at (sequents old) i) q f there ∙ is))
    (where-fails next e (is_stated (statements old) l d) UnknownLabel (theorem p) (g q) a)

-- ---- the chosen element

pub one-still : (old mid : State) (p : ℕ) → Carries old mid → IsTyped old.signature old.nodes p → All (IsTyped mid.signature mid.nodes) (p ∷ [])
one-still old mid p c h = All-cons (IsTyped mid.signature mid.nodes) p [] (still-typed old mid p c h) (All-nil (IsTyped mid.signature mid.nodes))

-- the law at a type and a predicate
module _ (old mid : State) (law at p : ℕ) (ty : TypeTree) (a : Chars) (named : a ≡ codes "a") (c : Carries old mid)
    (is : line_at (sequents old) law ≡ Some (theorem (choice_law any_type)))
    (typed : line_at (sequents mid) at ≡ option_map (put_one a ty) (line_at (sequents old) law))
    (hp : IsTyped old.signature old.nodes p) (predicate : IsOfType old.signature (tree_at old.nodes p) (fun ty bool)) where
  abbrev pub choice-premise : NamelessSequent
  choice-premise = theorem (nameless_implies (existence ty (tree_at old.nodes p)) (nameless_application (tree_at old.nodes p) (chosen ty (tree_at old.nodes p))))

  pub choice-goes : with_line (sequents mid) at (at_each mid.signature (trees mid.nodes (p ∷ []))) ≡ Ok choice-premise
  choice-goes =
      found-on _ (line_at (sequents mid) at) (theorem (choice_law ty)) _
      (typed ∙ ap (option_map (put_one a ty)) is ∙ ap (λ n. Some (put_one n ty (theorem (choice_law any_type)))) named)
      ∙ (λ i. at_each (signature-still old mid c i) (tree-still old mid c p hp.within i ∷ []) (theorem (choice_law ty)))
      ∙ choice-at old.signature ty (tree_at old.nodes p) predicate

abbrev element : List Nameless → TypeTree × Nameless → NamelessOutcome
element hs e = nameless_gives (nameless_union [] hs) (nameless_application e.1 (chosen e.0 e.1))

abbrev pub element_of : NamelessSequent → NamelessOutcome
element_of s = with_found MiddleDiffers (as_existence s.concl) (element s.hyps)

module _ (old mid : State) (h : IsSound old) (c : Carries old mid) (i law id : ℕ) (q : NamelessSequent) (e : line_at (sequents old) i ≡ Some q) (w : id < length mid.nodes)
    (is : option_map (λ v. v.concl) (line_at (sequents mid) i) ≡ Some (tree_at mid.nodes id))
    (a : IsGiven mid law (where_holds (is_stated (statements old) (codes "ex_def") ex_definition) UnknownLabel (Ok (theorem (choice_law any_type))))) where
  element-there : tree_at mid.nodes id ≡ q.concl
  element-there = concl-here old mid h c i q e id w is

  pub choice-line : line_at (sequents mid) law ≡ Some (theorem (choice_law any_type))
  choice-line = given-line mid law (is_stated (statements old) (codes "ex_def") ex_definition) UnknownLabel (theorem (choice_law any_type)) a

  element-so : with_line (sequents old) i (chosen_element (statements old)) ≡ element_of q
  element-so = found-on _ (line_at (sequents old) i) q (chosen_element (statements old)) e
      ∙ holds-on (is_stated (statements old) (codes "ex_def") ex_definition) UnknownLabel (element_of q)
      (test-holds mid law (is_stated (statements old) (codes "ex_def") ex_definition) UnknownLabel (theorem (choice_law any_type)) a)

  pub no-element : as_existence (tree_at mid.nodes id) ≡ None → with_line (sequents old) i (chosen_element (statements old)) ≡ Err MiddleDiffers
  no-element d = element-so ∙ ap (λ o. with_found MiddleDiffers o (element q.hyps)) (ap as_existence (sym element-there) ∙ d)

  module _ (ty : TypeTree) (p : ℕ) (pw : p < length mid.nodes) (d : as_existence (tree_at mid.nodes id) ≡ Some (ty, tree_at mid.nodes p)) where
    exists-is : q.concl ≡ existence ty (tree_at mid.nodes p)
    exists-is = sym element-there ∙ existence-is (tree_at mid.nodes id) (ty, tree_at mid.nodes p) d

    parts-typed : (type_fault mid.signature ty ≡ None) × IsOfType mid.signature (tree_at mid.nodes p) (fun ty bool)
    parts-typed =
        let sound = still-sound old mid c h in
        predicate-typed mid.signature sound.signature (definition-boolean old mid (codes "ex_def") ex_definition law (theorem (choice_law any_type)) h c a) ty (tree_at mid.nodes p)
        (subst (IsBooleanNameless mid.signature) exists-is (concl-boolean old mid h c i q e id w is))

    pub element-type : type_fault mid.signature ty ≡ None
    element-type = parts-typed.0

    pub element-predicate : IsOfType mid.signature (tree_at mid.nodes p) (fun ty bool)
    element-predicate = parts-typed.1

    pub element-typed : IsTyped mid.signature mid.nodes p
    element-typed = record { within = pw; typed = of-sound mid.signature (tree_at mid.nodes p) (fun ty bool) parts-typed.1 }

    pub element-goes : (next : State) (at : ℕ) → Carries mid next
        → line_at (sequents next) at ≡ Some (theorem (nameless_implies (existence ty (tree_at mid.nodes p)) (nameless_application (tree_at mid.nodes p) (chosen ty (tree_at mid.nodes p)))))
        → nameless_mp_gives (sequents next) at i ≡ with_line (sequents old) i (chosen_element (statements old))
    element-goes next at k there =
        let t = tree_at mid.nodes p in
        found-on _ (line_at (sequents next) at) (theorem (nameless_implies (existence ty t) (nameless_application t (chosen ty t)))) _ there
        ∙ found-on _ (line_at (sequents next) i) q _ (line-still old next i q (λ f x. k f (c f x)) e)
        ∙ detached-is [] (existence ty t) (nameless_application t (chosen ty t)) q (sym exists-is)
        ∙ sym (element-so ∙ ap (λ o. with_found MiddleDiffers o (element q.hyps)) (ap as_existence (sym element-there) ∙ d))
