-- A derivation along the parts of a statement, one part after another.
use Rattle.std.proofs.Common.{◌≡◌, ℕ, zero, suc, ◌+◌, ◌<◌, ◌≤◌, List, [], ◌∷◌, ◌++◌, map, length, slice_get, drop, add-one, reverse, is_some, true, false, IfOk, Result, Ok, Err, Some, refl, sym, ◌∙◌, ap, subst, arith}
use Rattle.std.specs.List.{All}
use Rattle.std.proofs.lemmas.List.{reverse-append}
use Rattle.lt_definitions.specs.Types.{Chars}
use Rattle.lt_definitions.specs.Typing.{with_ok}
use Rattle.lt_definitions.specs.Rules.{line_at, with_line, with_lines}
use Rattle.lt_definitions.specs.declared.reason.Reason.TheVariants.{MissingLine}
use Rattle.lt_definitions.proofs.RuleLemmas.{line-on, lines-on, missing-on}
use Rattle.lt_nameless.specs.Nameless.{NamelessSequent}
use Rattle.lt_nameless.specs.NamelessRules.{NamelessOutcome, nameless_assume_gives}
use Rattle.lt_store.specs.Trees.{tree_at}
use Rattle.lt_store.specs.Typed.{IsTyped}
use Rattle.lt_store.proofs.TreeLemmas.{tree_at-extends}
use Rattle.lt_kernel.specs.declared.rule_fault.RuleFault.{RuleFault}
use Rattle.lt_kernel.specs.declared.rule_fault.RuleFault.TheVariants.{Bad, Duplicate, Memory}
use Rattle.lt_kernel.specs.State.{State, sequents, statements}
use Rattle.lt_kernel.specs.Growing.{Carries, IsSound}
use Rattle.lt_kernel.specs.Reaching.{IsGiven, Reaches}
use Rattle.lt_kernel.proofs.GrowingLemmas.{carries-grows}
use Rattle.lt_derived.proofs.Repeated.{some-of, none-of, still-typed}
use Rattle.lt_derived.proofs.Stated.{same-reaches}
use Rattle.lt_derived.proofs.UnfoldingLemmas.{line-still}
use Rattle.lt_relating.specs.declared.part.RelatorLabels.{RelatorLabels}
use Rattle.lt_relating.specs.declared.part.StatementPart.{StatementPart}
use Rattle.lt_relating.specs.declared.part.StatementPart.TheVariants.{Line, Name, Application, Abstraction}
use Rattle.lt_relating.specs.declared.variable_pair.VariablePair.{VariablePair}
use Rattle.lt_relating.specs.RelatedSteps.{applied_by, abstracted_by}
use Rattle.lt_relating.specs.Pairs.{binding_of, IsPair}
use Rattle.lt_relating.specs.Parts.{Part, by_line, by_name, by_application, by_abstraction, applied_last, abstracted_last, part_gives, taken, walked}
use Rattle.lt_relating.specs.Walks.{parts_at, laws_of, IsPart, AreHeld, AreLines, IsUnderway, IsAt, LeadsOn}
use Rattle.lt_relating.proofs.AbstractingLemmas.{binding-kept, pair-kept}

-- ---- lists

drop-next : {A : Type 0} (xs : List A) (k : ℕ) (x : A) → slice_get xs k ≡ Some x → drop k xs ≡ x ∷ drop (suc k) xs
drop-next [] k x e = absurd (cc e)
drop-next (y ∷ xs) zero x e = let same : y ≡ x = cc e in ap (λ z. z ∷ xs) same
drop-next (y ∷ xs) (suc k) x e = drop-next xs k x e

pub drop-got : {A : Type 0} (xs : List A) (k : ℕ) (x : A) → slice_get xs k ≡ Some x → drop k xs ≡ x ∷ drop (k + 1) xs
drop-got xs k x e = drop-next xs k x e ∙ ap (λ m. x ∷ drop m xs) (sym (add-one k))

pub drop-past : {A : Type 0} (xs : List A) (k : ℕ) → length xs ≤ k → drop k xs ≡ []
drop-past [] zero h = refl
drop-past [] (suc k) h = refl
drop-past (x ∷ xs) zero h = absurd (omega (arith, h))
drop-past (x ∷ xs) (suc k) h = drop-past xs k (omega (arith, h))

pub all-got : {A : Type 0} (P : A → Type 0) (xs : List A) (k : ℕ) (x : A) → All P xs → slice_get xs k ≡ Some x → P x
all-got P [] k x h e = absurd (cc e)
all-got P (y ∷ xs) zero x h e = let same : y ≡ x = cc e in subst P same (h 0 y (omega arith))
all-got P (y ∷ xs) (suc k) x h e = all-got P xs k x (λ j d l. h (suc j) d (omega (arith, l))) e

pub got-within : {A : Type 0} (xs : List A) (k : ℕ) → k < length xs → is_some (slice_get xs k) ≡ true
got-within [] k h = absurd (omega (arith, h))
got-within (x ∷ xs) zero h = refl
got-within (x ∷ xs) (suc k) h = got-within xs k (omega (arith, h))

pub got-past : {A : Type 0} (xs : List A) (k : ℕ) → length xs ≤ k → is_some (slice_get xs k) ≡ false
got-past [] k h = refl
got-past (x ∷ xs) zero h = absurd (omega (arith, h))
got-past (x ∷ xs) (suc k) h = got-past xs k (omega (arith, h))

pub as-many : {A B : Type 0} (f : A → B) (xs : List A) → length (map f xs) ≡ length xs
as-many f [] = refl
as-many f (x ∷ xs) = ap suc (as-many f xs)

pub taken-off : (items new : List ℕ) (n : ℕ) → items ≡ new ++ n ∷ [] → reverse items ≡ n ∷ reverse new
taken-off items new n e = ap reverse e ∙ reverse-append new (n ∷ [])

-- ---- lines that hold sequents

pub held-on : (old new : State) (ns : List ℕ) (qs : List NamelessSequent) → Carries old new → AreHeld old ns qs → AreHeld new ns qs
held-on old new [] [] c h = tt
held-on old new (n ∷ ns) (q ∷ qs) c h = (line-still old new n q c h.0, held-on old new ns qs c h.1)
held-on old new [] (q ∷ qs) c h = absurd h
held-on old new (n ∷ ns) [] c h = absurd h

none-held : (s : State) (qs : List NamelessSequent) → AreHeld s [] qs → qs ≡ []
none-held s [] h = refl
none-held s (q ∷ qs) h = absurd h

pub held-none : (s : State) (items : List ℕ) (qs : List NamelessSequent) → items ≡ [] → AreHeld s (reverse items) qs → qs ≡ []
held-none s items qs e h = none-held s qs (subst (λ (ns : List ℕ). AreHeld s (reverse ns) qs) e h)

-- the first line's sequent, and those of the others
pub record Topped (s : State) (n : ℕ) (ns : List ℕ) (qs : List NamelessSequent) : Type 0 where
  pub q : NamelessSequent
  pub others : List NamelessSequent
  pub is : qs ≡ q ∷ others
  pub line : line_at (sequents s) n ≡ Some q
  pub held : AreHeld s ns others

one-held : (s : State) (n : ℕ) (ns : List ℕ) (qs : List NamelessSequent) → AreHeld s (n ∷ ns) qs → Topped s n ns qs
one-held s n ns [] h = absurd h
one-held s n ns (q ∷ qs) h = record { q = q; others = qs; is = refl; line = h.0; held = h.1 }

pub topped : (s : State) (items new : List ℕ) (n : ℕ) (qs : List NamelessSequent) → items ≡ new ++ n ∷ [] → AreHeld s (reverse items) qs
    → Topped s n (reverse new) qs
topped s items new n qs e h = one-held s n (reverse new) qs (subst (λ (ns : List ℕ). AreHeld s ns qs) (taken-off items new n e) h)

pub any-ok : (r : Result ℕ RuleFault) (P : Type 0) → P → IfOk r (λ _. P)
any-ok (Ok n) P h = h
any-ok (Err e) P h = tt

-- ---- the last two lines, of an application

module _ (s : State) (law : Chars) (items mid new : List ℕ) (u v : ℕ) (qs : List NamelessSequent) (first : items ≡ mid ++ u ∷ []) (h : AreHeld s (reverse items) qs) where
  abbrev outer : Topped s u (reverse mid) qs
  outer = topped s items mid u qs first h

  pub one-alone : mid ≡ [] → applied_last s.signature (statements s) law qs ≡ Err MissingLine
  one-alone e =
      ap (applied_last s.signature (statements s) law) (outer.is ∙ ap (λ r. outer.q ∷ r) (held-none s mid outer.others e outer.held))

  module _ (second : mid ≡ new ++ v ∷ []) where
    abbrev inner : Topped s v (reverse new) outer.others
    inner = topped s mid new v outer.others second outer.held

    both-are : qs ≡ outer.q ∷ inner.q ∷ inner.others
    both-are = outer.is ∙ ap (λ r. outer.q ∷ r) inner.is

    pub functions-there : is_some (line_at (sequents s) v) ≡ true
    functions-there = ap is_some inner.line

    pub arguments-there : is_some (line_at (sequents s) u) ≡ true
    arguments-there = ap is_some outer.line

    pub applied-last : with_lines (sequents s) v u (applied_by s.signature (statements s) law) ≡ applied_last s.signature (statements s) law qs
    applied-last =
        lines-on (sequents s) v u inner.q outer.q (applied_by s.signature (statements s) law) inner.line outer.line
        ∙ ap (applied_last s.signature (statements s) law) (sym both-are)

    pub others-held : (now : State) → Carries s now → AreHeld now (reverse new) (drop 2 qs)
    others-held now c = subst (AreHeld now (reverse new)) (ap (drop 2) (sym both-are)) (held-on s now (reverse new) inner.others c inner.held)

-- ---- the last line, of an abstraction

module _ (s : State) (law : Chars) (pair : VariablePair) (items new : List ℕ) (u : ℕ) (qs : List NamelessSequent) (first : items ≡ new ++ u ∷ []) (h : AreHeld s (reverse items) qs) where
  abbrev last : Topped s u (reverse new) qs
  last = topped s items new u qs first h

  pub values-there : is_some (line_at (sequents s) u) ≡ true
  values-there = ap is_some last.line

  pub abstracted-last : with_line (sequents s) u (abstracted_by s.signature (statements s) law (binding_of s.nodes pair))
      ≡ abstracted_last s.signature (statements s) law (binding_of s.nodes pair) qs
  abstracted-last =
      line-on (sequents s) u last.q (abstracted_by s.signature (statements s) law (binding_of s.nodes pair)) last.line
      ∙ ap (abstracted_last s.signature (statements s) law (binding_of s.nodes pair)) (sym last.is)

  pub rest-held : (now : State) → Carries s now → AreHeld now (reverse new) (drop 1 qs)
  rest-held now c = subst (AreHeld now (reverse new)) (ap (drop 1) (sym last.is)) (held-on s now (reverse new) last.others c last.held)

-- ---- the part that comes next

pub here-at : (now : State) (labels : RelatorLabels) (count : ℕ) (lines : List ℕ) (p r : StatementPart) → r ≡ p → IsAt now labels count lines r → IsAt now labels count lines p
here-at now labels count lines p r e q = subst (IsAt now labels count lines) e q

pub at-part : (now new : State) (labels : RelatorLabels) (count : ℕ) (lines left : List ℕ) (p r : StatementPart) (made : Result ℕ RuleFault) → r ≡ p
    → ((q : IsAt now labels count lines p) → LeadsOn new q.first labels left q.rest q.whole made)
    → (q : IsAt now labels count lines r) → LeadsOn new q.first labels left q.rest q.whole made
at-part now new labels count lines left p r made e f =
    subst (λ (x : StatementPart). (q : IsAt now labels count lines x) → LeadsOn new q.first labels left q.rest q.whole made) (sym e) f

module _ (now new first : State) (labels : RelatorLabels) (lines left : List ℕ) (p : Part) (rest : List Part) (whole : NamelessOutcome)
    (a : IsUnderway now first labels lines (p ∷ rest) whole) where
  abbrev onward : NamelessSequent → NamelessOutcome
  onward s = walked first.signature (laws_of first labels) (sequents first) (s ∷ drop (taken p) a.qs) rest

  pub leads-on : (r : Result ℕ RuleFault) → Reaches new r (part_gives first.signature (laws_of first labels) (sequents first) a.qs p)
      → IfOk r (λ _. AreHeld new left (drop (taken p) a.qs)) → LeadsOn new first labels left rest whole r
  leads-on (Ok n) g h = record {
    qs = g.sequent ∷ drop (taken p) a.qs;
    held = (g.line, h);
    goes = a.goes ∙ ap (λ o. with_ok o onward) g.goes;
  }
  leads-on (Err (Bad e)) g h = a.goes ∙ ap (λ o. with_ok o onward) g
  leads-on (Err (Duplicate l)) g h = absurd g
  leads-on (Err Memory) g h = tt

module _ (now : State) (labels : RelatorLabels) (count : ℕ) (lines : List ℕ) where
  pub line-leads : (n : ℕ) (q : IsAt now labels count lines (Line n)) → is_some (line_at (sequents q.first) n) ≡ true
      → LeadsOn now q.first labels lines q.rest q.whole (Ok n)
  line-leads n q e =
      let there = some-of (line_at (sequents q.first) n) e in
      leads-on now now q.first labels lines lines (by_line n) q.rest q.whole q.along (Ok n)
      (record {
        sequent = there.0;
        line = line-still q.first now n there.0 q.carries there.1;
        goes = line-on (sequents q.first) n there.0 (λ s. Ok s) there.1;
      })
      q.along.held

  pub line-lacks : (n : ℕ) (q : IsAt now labels count lines (Line n)) → is_some (line_at (sequents q.first) n) ≡ false
      → LeadsOn now q.first labels lines q.rest q.whole (Err (Bad MissingLine))
  line-lacks n q e =
      leads-on now now q.first labels lines lines (by_line n) q.rest q.whole q.along (Err (Bad MissingLine))
      (missing-on MissingLine (line_at (sequents q.first) n) (λ s. Ok s) (none-of (line_at (sequents q.first) n) e)) tt

  pub name-typed : (p : ℕ) (q : IsAt now labels count lines (Name p)) → IsTyped now.signature now.nodes p
  name-typed p q = still-typed q.first now p q.carries q.part

  pub name-leads : (p : ℕ) (q : IsAt now labels count lines (Name p)) (new : State) (r : Result ℕ RuleFault) → Carries now new
      → Reaches new r (nameless_assume_gives now.signature (tree_at now.nodes p)) → LeadsOn new q.first labels lines q.rest q.whole r
  name-leads p q new r c g =
      let w = carries-grows q.first now q.carries in
      leads-on now new q.first labels lines lines (by_name (tree_at q.first.nodes p)) q.rest q.whole q.along r
      (same-reaches new r _ _ (λ i. nameless_assume_gives (w.stays.signature i) (tree_at-extends q.first.nodes now.nodes p w.stays.nodes q.part.within i)) g)
      (any-ok r (AreHeld new lines q.along.qs) (held-on now new lines q.along.qs c q.along.held))

  pub sound-here : (p : StatementPart) (q : IsAt now labels count lines p) → IsSound now
  sound-here p q = (carries-grows q.first now q.carries).sound q.sound

  pub lines-here : (p : StatementPart) (q : IsAt now labels count lines p) → AreLines now lines
  lines-here p q = (q.along.qs, q.along.held)

  pub application-leads : (q : IsAt now labels count lines Application) (new : State) (left : List ℕ) (r : Result ℕ RuleFault)
      → Reaches new r (applied_last now.signature (statements now) labels.application q.along.qs)
      → IfOk r (λ _. AreHeld new left (drop 2 q.along.qs)) → LeadsOn new q.first labels left q.rest q.whole r
  application-leads q new left r g h =
      let w = carries-grows q.first now q.carries in
      leads-on now new q.first labels lines left by_application q.rest q.whole q.along r
      (same-reaches new r _ _ (λ i. applied_last (w.stays.signature i) (w.stays.statements i) labels.application q.along.qs) g) h

  pub pair-here : (pair : VariablePair) (q : IsAt now labels count lines (Abstraction pair)) → IsPair now pair
  pair-here pair q = pair-kept q.first now pair q.carries q.part

  pub abstraction-leads : (pair : VariablePair) (q : IsAt now labels count lines (Abstraction pair)) (new : State) (left : List ℕ) (r : Result ℕ RuleFault)
      → Reaches new r (abstracted_last now.signature (statements now) labels.abstraction (binding_of now.nodes pair) q.along.qs)
      → IfOk r (λ _. AreHeld new left (drop 1 q.along.qs)) → LeadsOn new q.first labels left q.rest q.whole r
  abstraction-leads pair q new left r g h =
      let w = carries-grows q.first now q.carries in
      leads-on now new q.first labels lines left (by_abstraction (binding_of q.first.nodes pair)) q.rest q.whole q.along r
      (same-reaches new r _ _ (λ i. abstracted_last (w.stays.signature i) (w.stays.statements i) labels.abstraction (binding-kept q.first now pair q.carries q.part.within i) q.along.qs) g) h

-- ---- the whole

abbrev pub whole_of : State → RelatorLabels → List StatementPart → NamelessOutcome
whole_of first labels parts = walked first.signature (laws_of first labels) (sequents first) [] (parts_at first.nodes parts)

module _ (first now : State) (labels : RelatorLabels) (parts : List StatementPart) (sound : IsSound first) (good : All (IsPart first) parts) (c : Carries first now)
    (count k : ℕ) (counted : count ≡ length (sequents first)) (items : List ℕ)
    (a : IsUnderway now first labels (reverse items) (parts_at first.nodes (drop k parts)) (whole_of first labels parts)) where
  -- the part at this place comes next
  abbrev pub comes : (p : StatementPart) → slice_get parts k ≡ Some p → IsAt now labels count (reverse items) p
  comes p e = record {
    first = first;
    rest = parts_at first.nodes (drop (k + 1) parts);
    whole = whole_of first labels parts;
    sound = sound;
    carries = c;
    part = all-got (IsPart first) parts k p good e;
    counted = counted;
    along = subst (λ (ps : List Part). IsUnderway now first labels (reverse items) ps (whole_of first labels parts)) (ap (parts_at first.nodes) (drop-got parts k p e)) a;
  }

  -- none is left
  none-left : length parts ≤ k → whole_of first labels parts ≡ walked first.signature (laws_of first labels) (sequents first) a.qs []
  none-left l = a.goes ∙ ap (λ ps. walked first.signature (laws_of first labels) (sequents first) a.qs (parts_at first.nodes ps)) (drop-past parts k l)

  pub lacks-all : length parts ≤ k → items ≡ [] → whole_of first labels parts ≡ Err MissingLine
  lacks-all l e = none-left l ∙ ap (λ qs. walked first.signature (laws_of first labels) (sequents first) qs []) (held-none now items a.qs e a.held)

  pub ends : length parts ≤ k → (left : List ℕ) (n : ℕ) → items ≡ left ++ n ∷ [] → IsGiven now n (whole_of first labels parts)
  ends l left n e =
      let top = topped now items left n a.qs e a.held in
      record { sequent = top.q; line = top.line; goes = none-left l ∙ ap (λ qs. walked first.signature (laws_of first labels) (sequents first) qs []) top.is }

pub kept-line : (now first : State) (labels : RelatorLabels) (items new : List ℕ) (n : ℕ) (rest : List Part) (whole : NamelessOutcome) → new ≡ items ++ n ∷ []
    → IsUnderway now first labels (n ∷ reverse items) rest whole → IsUnderway now first labels (reverse new) rest whole
kept-line now first labels items new n rest whole e a = subst (λ (ns : List ℕ). IsUnderway now first labels ns rest whole) (sym (taken-off new items n e)) a
