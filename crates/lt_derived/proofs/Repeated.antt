-- Rules that are repeated, one more time.
use Rattle.std.proofs.Common.{◌≡◌, ℕ, zero, suc, ◌+◌, ◌<◌, ◌≤◌, List, [], ◌∷◌, length, get_or, take, drop, drop-cons, add-one, is_some, true, false, Err, Option, Some, None, refl, sym, ◌∙◌, ap, subst, arith}
use Rattle.std.specs.List.{All}
use Rattle.std.proofs.lemmas.List.Elements.{All-get_or}
use Rattle.lt_definitions.specs.Typing.{with_ok}
use Rattle.lt_definitions.specs.Rules.{line_at, with_line, with_found}
use Rattle.lt_definitions.specs.declared.reason.Reason.TheVariants.{MissingLine}
use Rattle.lt_nameless.specs.Nameless.{NamelessSequent}
use Rattle.lt_nameless.specs.NamelessRules.{NamelessOutcome, nameless_fault, nameless_allE_gives, nameless_mp_gives, at_one, detached}
use Rattle.lt_store.specs.Trees.{tree_at, trees}
use Rattle.lt_store.specs.Typed.{IsTyped}
use Rattle.lt_store.proofs.TreeLemmas.{tree_at-extends}
use Rattle.lt_kernel.specs.declared.rule_fault.RuleFault.{RuleFault}
use Rattle.lt_kernel.specs.State.{State, sequents}
use Rattle.lt_kernel.specs.Growing.{Carries}
use Rattle.lt_kernel.specs.Reaching.{Holds, IsGiven, Reaches}
use Rattle.lt_kernel.proofs.GrowingLemmas.{carries-grows}
use Rattle.lt_kernel.proofs.ReachingLemmas.{next-holds, next-fails}
use Rattle.lt_programs.specs.Programs.{at_each, detached_by}
use Rattle.lt_derived.specs.Premises.{AreKnown, IsMissing}

pub some-of : {A : Type 0} (o : Option A) → is_some o ≡ true → (x : A) × (o ≡ Some x)
some-of (Some x) e = (x, refl)
some-of None e = absurd (cc e)

pub none-of : {A : Type 0} (o : Option A) → is_some o ≡ false → o ≡ None
none-of (Some x) e = absurd (cc e)
none-of None e = refl

-- a term of the beginning
pub still-typed : (old now : State) (t : ℕ) → Carries old now → IsTyped old.signature old.nodes t → IsTyped now.signature now.nodes t
still-typed old now t c h = let g = carries-grows old now c in record {
  within = let w = h.within in let l = g.stays.nodes.grows in omega (arith, w, l);
  typed = (λ i. nameless_fault (g.stays.signature i) (tree_at-extends old.nodes now.nodes t g.stays.nodes h.within i)) ∙ h.typed;
}

pub all-still-typed : (old now : State) (ids : List ℕ) → Carries old now → All (IsTyped old.signature old.nodes) ids → All (IsTyped now.signature now.nodes) ids
all-still-typed old now ids c h = λ k d l. still-typed old now (get_or ids k d) c (h k d l)

pub typed-at : (s : State) (ids : List ℕ) (k : ℕ) → All (IsTyped s.signature s.nodes) ids → k < length ids → IsTyped s.signature s.nodes (get_or ids k 0)
typed-at s ids k h l = All-get_or (IsTyped s.signature s.nodes) ids k 0 l h

pub one-left : (ids : List ℕ) (k : ℕ) → k < length ids → drop k ids ≡ get_or ids k 0 ∷ drop (k + 1) ids
one-left ids k l = drop-cons ids k 0 l ∙ ap (λ m. get_or ids k 0 ∷ drop m ids) (sym (add-one k))

pub none-left : (ids : List ℕ) (k : ℕ) → length ids ≤ k → drop k ids ≡ []
none-left [] zero h = refl
none-left [] (suc k) h = refl
none-left (i ∷ ids) zero h = absurd (omega arith)
none-left (i ∷ ids) (suc k) h = none-left ids k (omega arith)

-- what the terms that are left make of a line
abbrev pub rest_at : State → List ℕ → ℕ → NamelessSequent → NamelessOutcome
rest_at old ids k = at_each old.signature (trees old.nodes (drop k ids))

module _ (old now next : State) (ids : List ℕ) (k n : ℕ) (whole : NamelessOutcome)
    (c : Carries old now) (typed : All (IsTyped old.signature old.nodes) ids) (l : k < length ids) (h : Holds now n (rest_at old ids k) whole) where
  abbrev allE-here : NamelessOutcome
  allE-here = nameless_allE_gives now.signature (sequents now) (tree_at now.nodes (get_or ids k 0)) n

  holds-one : Holds now n (λ s. with_ok (at_one now.signature (tree_at now.nodes (get_or ids k 0)) s) (rest_at old ids (k + 1))) whole
  holds-one =
      let g = carries-grows old now c in
      let t = get_or ids k 0 in
      let one = typed-at old ids k typed l in
      let here : tree_at old.nodes t ≡ tree_at now.nodes t = sym (tree_at-extends old.nodes now.nodes t g.stays.nodes one.within) in
      let Over : (NamelessSequent → NamelessOutcome) → Type 0 = λ f. Holds now n f whole in
      subst Over (λ i s. with_ok (at_one (sym g.stays.signature i) (here i) s) (rest_at old ids (k + 1)))
      (subst (λ (is : List ℕ). Holds now n (at_each old.signature (trees old.nodes is)) whole) (one-left ids k l) h)

  pub at-next : (m : ℕ) → IsGiven next m (nameless_allE_gives now.signature (sequents now) (tree_at now.nodes (get_or ids k 0)) n)
      → Holds next m (rest_at old ids (k + 1)) whole
  at-next m a = next-holds now next n m (at_one now.signature (tree_at now.nodes (get_or ids k 0))) (rest_at old ids (k + 1)) whole holds-one a

  pub at-fails : (e : RuleFault) → Reaches next (Err e) (nameless_allE_gives now.signature (sequents now) (tree_at now.nodes (get_or ids k 0)) n)
      → Reaches next (Err e) whole
  at-fails e a = next-fails now next n e (at_one now.signature (tree_at now.nodes (get_or ids k 0))) (rest_at old ids (k + 1)) whole holds-one a

-- no term is left
pub at-ends : (old now : State) (ids : List ℕ) (k n : ℕ) (whole : NamelessOutcome) → length ids ≤ k → Holds now n (rest_at old ids k) whole → IsGiven now n whole
at-ends old now ids k n whole l h =
    subst (λ (is : List ℕ). Holds now n (at_each old.signature (trees old.nodes is)) whole) (none-left ids k l) h

-- the line of a number of the beginning
same-line : (old now : State) (j : ℕ) → Carries old now → is_some (line_at (sequents old) j) ≡ true → line_at (sequents now) j ≡ line_at (sequents old) j
same-line old now j c h = let g = carries-grows old now c in
    let there = some-of (line_at (sequents old) j) h in g.lines j there.0 there.1 ∙ sym there.1

known-at : (done : List NamelessSequent) (js : List ℕ) (m k : ℕ) → AreKnown done (take m js) → k < m → k < length js → is_some (line_at done (get_or js k 0)) ≡ true
known-at done [] m k h l b = absurd (omega arith)
known-at done (j ∷ js) zero k h l b = absurd (omega arith)
known-at done (j ∷ js) (suc m) zero h l b = h.0
known-at done (j ∷ js) (suc m) (suc k) h l b = known-at done js m k h.1 (omega arith) (omega arith)

-- what the premises that are left make of a line
abbrev pub rest_by : State → List ℕ → ℕ → NamelessSequent → NamelessOutcome
rest_by old js k = detached_by (sequents old) (drop k js)

module _ (old now next : State) (js : List ℕ) (m k n : ℕ) (whole : NamelessOutcome) (c : Carries old now)
    (known : AreKnown (sequents old) (take m js)) (b : k < m) (l : k < length js) (h : Holds now n (rest_by old js k) whole) where
  holds-by : Holds now n (λ s. with_ok (with_line (sequents now) (get_or js k 0) (λ u. detached s u)) (rest_by old js (k + 1))) whole
  holds-by =
      let here : line_at (sequents old) (get_or js k 0) ≡ line_at (sequents now) (get_or js k 0) =
      sym (same-line old now (get_or js k 0) c (known-at (sequents old) js m k known b l)) in
      let Over : (NamelessSequent → NamelessOutcome) → Type 0 = λ f. Holds now n f whole in
      subst Over (λ i s. with_ok (with_found MissingLine (here i) (λ u. detached s u)) (rest_by old js (k + 1)))
      (subst (λ (is : List ℕ). Holds now n (detached_by (sequents old) is) whole) (one-left js k l) h)

  pub by-next : (r j : ℕ) → j ≡ get_or js k 0 → IsGiven next r (nameless_mp_gives (sequents now) n j) → Holds next r (rest_by old js (k + 1)) whole
  by-next r j e b = let a = subst (λ (x : ℕ). IsGiven next r (nameless_mp_gives (sequents now) n x)) e b in
      next-holds now next n r (λ s. with_line (sequents now) (get_or js k 0) (λ u. detached s u)) (rest_by old js (k + 1)) whole holds-by a

  pub by-fails : (e : RuleFault) (j : ℕ) → j ≡ get_or js k 0 → Reaches next (Err e) (nameless_mp_gives (sequents now) n j) → Reaches next (Err e) whole
  by-fails e j q b = let a = subst (λ (x : ℕ). Reaches next (Err e) (nameless_mp_gives (sequents now) n x)) q b in
      next-fails now next n e (λ s. with_line (sequents now) (get_or js k 0) (λ u. detached s u)) (rest_by old js (k + 1)) whole holds-by a

-- no premise is left, or the first that is left is no line
pub by-ends : (old now : State) (js : List ℕ) (k n : ℕ) (whole : NamelessOutcome) → length js ≤ k → Holds now n (rest_by old js k) whole → IsGiven now n whole
by-ends old now js k n whole l h =
    subst (λ (is : List ℕ). Holds now n (detached_by (sequents old) is) whole) (none-left js k l) h

pub by-lacks : (old now : State) (js : List ℕ) (k n : ℕ) (whole : NamelessOutcome) → k < length js → IsMissing (sequents old) (drop k js)
    → Holds now n (rest_by old js k) whole → whole ≡ Err MissingLine
by-lacks old now js k n whole l m h =
    let missing : line_at (sequents old) (get_or js k 0) ≡ None = subst (IsMissing (sequents old)) (one-left js k l) m in
    h.goes ∙ ap (λ is. detached_by (sequents old) is h.sequent) (one-left js k l)
    ∙ ap (λ o. with_ok (with_found MissingLine o (λ u. detached h.sequent u)) (detached_by (sequents old) (drop (k + 1) js))) missing

-- one more number is known
pub known-more : (done : List NamelessSequent) (js : List ℕ) (k : ℕ) → k < length js → AreKnown done (take k js)
    → is_some (line_at done (get_or js k 0)) ≡ true → AreKnown done (take (k + 1) js)
known-more done js k l h e = subst (λ (m : ℕ). AreKnown done (take m js)) (sym (add-one k)) (more done js k l h e)
  where
    more : (done : List NamelessSequent) (js : List ℕ) (k : ℕ) → k < length js → AreKnown done (take k js)
        → is_some (line_at done (get_or js k 0)) ≡ true → AreKnown done (take (suc k) js)
    more done [] k l h e = absurd (omega arith)
    more done (j ∷ js) zero l h e = (e, tt)
    more done (j ∷ js) (suc k) l h e = (h.0, more done js k (omega arith) h.1 e)

pub missing-at : (done : List NamelessSequent) (js : List ℕ) (k : ℕ) → k < length js → is_some (line_at done (get_or js k 0)) ≡ false → IsMissing done (drop k js)
missing-at done js k l e = subst (IsMissing done) (sym (one-left js k l)) (none-of (line_at done (get_or js k 0)) e)

pub missing-none : (done : List NamelessSequent) (js : List ℕ) → IsMissing done (drop (length js) js)
missing-none done js = subst (IsMissing done) (sym (none-left js (length js) (omega arith))) tt
