-- What was derived stays derived: while the store grows, while more is declared and stated, and where a line is added.
use Rattle.std.proofs.Common.{◌≡◌, ◌⊎◌, inl, inr, ℕ, zero, suc, ◌+◌, ◌<◌, ◌≤◌, List, [], ◌∷◌, ◌++◌, length, map, take, slice_get, get_or, Some, None, Result, Ok, Err, refl, sym, ◌∙◌, ap, subst, arith, length-append, append_assoc, append-nil}
use Rattle.std.specs.List.{All}
use Rattle.std.proofs.lemmas.List.{map-append, length-map, take-append-le, take_all}
use Rattle.std.proofs.Math.ListN.{get_or-append}
use Rattle.std.proofs.lemmas.Option.{none-some, slice_get_within, get_or_from_slice_get}
use Rattle.lt_definitions.specs.Types.{Chars, TypeTree}
use Rattle.lt_definitions.specs.Typing.{Signature}
use Rattle.lt_definitions.specs.Rules.{Rule, by_assume, by_weaken, by_refl, by_beta, by_eta, by_impI, by_allE, by_inst, by_select, by_ccontr, terms_of}
use Rattle.lt_definitions.specs.Derivations.{rule_fault}
use Rattle.lt_nameless.specs.Nameless.{Nameless, NamelessSequent}
use Rattle.lt_nameless.specs.NamelessRules.{NamelessOutcome, nameless_step, nameless_fault}
use Rattle.lt_hol.specs.declared.line.Line.{Line}
use Rattle.lt_hol.specs.declared.line.Line.TheVariants.{Assume, Weaken, Refl, Sym, Trans, Cong, Abs, Beta, Eta, Eqmp, ImpI, Mp, AllI, AllE, Iff, Inst, Tinst, Select, Ccontr, Thm}
use Rattle.lt_hol.specs.Lines.{as_rule}
use Rattle.lt_hol.specs.Faults.{DeclaresType, DeclaresConst}
use Rattle.lt_hol.specs.declared.type_fault.TypeFault.{TypeFault}
use Rattle.lt_store.specs.declared.node.Node.{Node}
use Rattle.lt_store.specs.Trees.{tree_at, Extends}
use Rattle.lt_store.proofs.TreeLemmas.{tree_at-extends, extends_same}
use Rattle.lt_kernel.specs.declared.sequent.Sequent.{Sequent}
use Rattle.lt_kernel.specs.declared.sequent.Step.{Step}
use Rattle.lt_kernel.specs.Lines.{rule_at, AreBelow, LineIsIn, IsGoodLine}
use Rattle.lt_kernel.specs.Sequents.{sequent_at, sequents_at, statements_at, IsWithin, AreWithin, NamedWithin, Gives}
use Rattle.lt_kernel.specs.State.{State, sequents}
use Rattle.lt_kernel.specs.Derived.{GoesOn, IsDerived, AreDerived}
use Rattle.lt_kernel.proofs.StateLemmas.{state, sequent-extends, sequents-extends, statements-extends}

-- ---- lists that go on

goes-none : {A : Type 0} (xs : List A) → GoesOn xs xs
goes-none xs = ([], sym (append-nil xs))

goes-same : {A : Type 0} (xs ys : List A) → ys ≡ xs → GoesOn xs ys
goes-same xs ys e = ([], e ∙ sym (append-nil xs))

goes-on : {A : Type 0} (xs ys zs : List A) → GoesOn xs ys → GoesOn ys zs → GoesOn xs zs
goes-on xs ys zs p q = (p.0 ++ q.0, q.1 ∙ ap (λ ws. ws ++ q.0) p.1 ∙ append_assoc xs p.0 q.0)

all-front : {A : Type 0} (P : A → Type 0) (xs ys : List A) → All P (xs ++ ys) → All P xs
all-front P xs ys h = λ k d l. subst P (get_or-append xs ys d k l) (h k d (omega (arith, l, length-append xs ys)))

front-within : (n : ℕ) (named front : List (Chars × ℕ)) → GoesOn front named → NamedWithin n named → NamedWithin n front
front-within n named front g h = all-front (λ (p : Chars × ℕ). p.1 < n) front g.0 (subst (NamedWithin n) g.1 h)

-- ---- lines while the store grows

below-wider : (m n : ℕ) (ids : List ℕ) → m ≤ n → AreBelow m ids → AreBelow n ids
below-wider m n [] e h = tt
below-wider m n (id ∷ ids) e h = (omega (arith, e, h.0), below-wider m n ids e h.1)

pub rule-extends : (old new : List Node) (line : Line) → Extends old new → LineIsIn (length old) line → rule_at new line ≡ rule_at old line
rule-extends old new (Assume p) e h = ap by_assume (tree_at-extends old new p e h.0)
rule-extends old new (Weaken p i) e h = ap (λ t. by_weaken t i) (tree_at-extends old new p e h.0)
rule-extends old new (Refl t) e h = ap by_refl (tree_at-extends old new t e h.0)
rule-extends old new (Sym i) e h = refl
rule-extends old new (Trans i j) e h = refl
rule-extends old new (Cong i j) e h = refl
rule-extends old new (Abs x ty i) e h = refl
rule-extends old new (Beta t) e h = ap by_beta (tree_at-extends old new t e h.0)
rule-extends old new (Eta t) e h = ap by_eta (tree_at-extends old new t e h.0)
rule-extends old new (Eqmp i j) e h = refl
rule-extends old new (ImpI p i) e h = ap (λ t. by_impI t i) (tree_at-extends old new p e h.0)
rule-extends old new (Mp i j) e h = refl
rule-extends old new (AllI x ty i) e h = refl
rule-extends old new (AllE t i) e h = ap (λ u. by_allE u i) (tree_at-extends old new t e h.0)
rule-extends old new (Iff i j) e h = refl
rule-extends old new (Inst x ty t i) e h = ap (λ u. by_inst x ty u i) (tree_at-extends old new t e h.0)
rule-extends old new (Tinst a ty i) e h = refl
rule-extends old new (Select p) e h = ap by_select (tree_at-extends old new p e h.0)
rule-extends old new (Ccontr p) e h = ap by_ccontr (tree_at-extends old new p e h.0)
rule-extends old new (Thm l) e h = refl

good-extends : (sig : Signature) (old new : List Node) (line : Line) → Extends old new → IsGoodLine sig old line → IsGoodLine sig new line
good-extends sig old new line e g = record {
  within = below-wider (length old) (length new) (terms_of (as_rule line)) e.grows g.within;
  typed = ap (rule_fault sig (nameless_fault sig)) (rule-extends old new line e g.within) ∙ g.typed;
}

within-at : (n : ℕ) (steps : List Step) (k : ℕ) (s : Step) → AreWithin n steps → slice_get steps k ≡ Some s → IsWithin n s.sequent
within-at n steps k s h e = subst (λ (u : Step). IsWithin n u.sequent) (get_or_from_slice_get steps k s s e) (h k s (slice_get_within steps k s e))

-- one line, where the store grows and others follow it
derived-at : (old new : List Node) (sig : Signature) (named : List (Chars × ℕ)) (steps all : List Step) (k : ℕ) (s : Step) → Extends old new → NamedWithin (length old) named
    → IsWithin (length old) s.sequent → take k (sequents_at new all) ≡ take k (sequents_at old steps) → IsDerived (state old sig named steps) k s → IsDerived (state new sig named all) k s
derived-at old new sig named steps all k s e h w before d = record {
  signature = d.signature;
  named = d.named;
  types = d.types;
  consts = d.consts;
  statements = d.statements;
  good = good-extends d.signature old new s.line e d.good;
  gives =
      (λ i. nameless_step d.signature (statements-extends old new d.named e (front-within (length old) named d.named d.statements h) i) (before i) (rule-extends old new s.line e d.good.within i))
      ∙ d.gives ∙ ap Ok (sym (sequent-extends old new s.sequent e w));
}

pub derived-none : (s : State) → s.steps ≡ [] → AreDerived s
derived-none s e = λ k step h. absurd (none-some step (sym (ap (λ steps. slice_get steps k) e) ∙ h))

-- the store has grown
pub derived-extends : (old new : List Node) (sig : Signature) (named : List (Chars × ℕ)) (steps : List Step) → Extends old new → AreWithin (length old) steps → NamedWithin (length old) named
    → AreDerived (state old sig named steps) → AreDerived (state new sig named steps)
derived-extends old new sig named steps e w h d = λ k s at.
    derived-at old new sig named steps steps k s e h (within-at (length old) steps k s w at) (ap (take k) (sequents-extends old new steps e w)) (d k s at)

-- more is declared and stated
pub derived-later : (ns : List Node) (sig later : Signature) (named more : List (Chars × ℕ)) (steps : List Step) → GoesOn sig.types later.types → GoesOn sig.consts later.consts → GoesOn named more
    → AreDerived (state ns sig named steps) → AreDerived (state ns later more steps)
derived-later ns sig later named more steps t c n d = λ k s at. let one = d k s at in record {
  signature = one.signature;
  named = one.named;
  types = goes-on one.signature.types sig.types later.types one.types t;
  consts = goes-on one.signature.consts sig.consts later.consts one.consts c;
  statements = goes-on one.named named more one.statements n;
  good = one.good;
  gives = one.gives;
}

derived-same : (ns : List Node) (sig later : Signature) (named : List (Chars × ℕ)) (steps : List Step) → later ≡ sig → AreDerived (state ns sig named steps) → AreDerived (state ns later named steps)
derived-same ns sig later named steps e d = subst (λ (g : Signature). AreDerived (state ns g named steps)) (sym e) d

-- a type or a constant is declared, or refused
pub derived-type : (ns : List Node) (sig later : Signature) (named : List (Chars × ℕ)) (steps : List Step) (n : Chars) (k : ℕ) (r : Result (Unit {0}) TypeFault) → DeclaresType sig later n k r
    → AreDerived (state ns sig named steps) → AreDerived (state ns later named steps)
derived-type ns sig later named steps n k (Ok _) e d =
    derived-later ns sig later named named steps ((n, k) ∷ [], ap (λ (g : Signature). g.types) e.1) (goes-same sig.consts later.consts (ap (λ (g : Signature). g.consts) e.1)) (goes-none named) d
derived-type ns sig later named steps n k (Err x) e d = derived-same ns sig later named steps e.0 d

pub derived-const : (ns : List Node) (sig later : Signature) (named : List (Chars × ℕ)) (steps : List Step) (n : Chars) (ty : TypeTree) (r : Result (Unit {0}) TypeFault) → DeclaresConst sig later n ty r
    → AreDerived (state ns sig named steps) → AreDerived (state ns later named steps)
derived-const ns sig later named steps n ty (Ok _) e d =
    derived-later ns sig later named named steps (goes-same sig.types later.types (ap (λ (g : Signature). g.types) e.2)) ((n, ty) ∷ [], ap (λ (g : Signature). g.consts) e.2) (goes-none named) d
derived-const ns sig later named steps n ty (Err x) e d = derived-same ns sig later named steps e.0 d

-- a statement is named
pub derived-named : (ns : List Node) (sig : Signature) (named more : List (Chars × ℕ)) (steps : List Step) (p : Chars × ℕ) → more ≡ named ++ p ∷ [] → AreDerived (state ns sig named steps)
    → AreDerived (state ns sig more steps)
derived-named ns sig named more steps p e d = derived-later ns sig sig named more steps (goes-none sig.types) (goes-none sig.consts) (p ∷ [], e) d

-- a place among things and one more
place : {A : Type 0} (xs : List A) (x : A) (k : ℕ) (y : A) → slice_get (xs ++ x ∷ []) k ≡ Some y → ((k < length xs) × (slice_get xs k ≡ Some y)) ⊎ ((k ≡ length xs) × (x ≡ y))
place [] x zero y e = inr (refl, cc e)
place [] x (suc k) y e = absurd (none-some y e)
place (z ∷ xs) x zero y e = inl (omega arith, e)
place (z ∷ xs) x (suc k) y e = elim (place xs x k y e) [
  | inl h ↦ inl (omega (arith, h.0), h.1)
  | inr h ↦ inr (ap suc h.0, h.1)
]

as-many : (ns : List Node) (steps : List Step) → length (sequents_at ns steps) ≡ length steps
as-many ns steps = length-map steps (λ (q : Step). sequent_at ns q.sequent)

before : (old new : List Node) (steps : List Step) (step : Step) (k : ℕ) → Extends old new → AreWithin (length old) steps → k ≤ length steps
    → take k (sequents_at new (steps ++ step ∷ [])) ≡ take k (sequents_at old steps)
before old new steps step k e w l =
    ap (take k) (map-append (λ (q : Step). sequent_at new q.sequent) steps (step ∷ []))
    ∙ take-append-le k (sequents_at new steps) (sequent_at new step.sequent ∷ []) (omega (arith, l, as-many new steps))
    ∙ ap (take k) (sequents-extends old new steps e w)

-- the line that is added
derived-last : (old new : List Node) (sig : Signature) (named : List (Chars × ℕ)) (steps : List Step) (step : Step) (k : ℕ) → Extends old new → AreWithin (length old) steps → NamedWithin (length old) named
    → IsGoodLine sig old step.line → nameless_step sig (statements_at old named) (sequents_at old steps) (rule_at old step.line) ≡ Ok (sequent_at new step.sequent) → k ≡ length steps
    → IsDerived (state new sig named (steps ++ step ∷ [])) k step
derived-last old new sig named steps step k e w h good made l =
    let all : take k (sequents_at new (steps ++ step ∷ [])) ≡ sequents_at old steps =
    before old new steps step k e w (omega (arith, l)) ∙ take_all k (sequents_at old steps) (omega (arith, l, as-many old steps)) in record {
      signature = sig;
      named = named;
      types = goes-none sig.types;
      consts = goes-none sig.consts;
      statements = goes-none named;
      good = good-extends sig old new step.line e good;
      gives = (λ i. nameless_step sig (statements-extends old new named e h i) (all i) (rule-extends old new step.line e good.within i)) ∙ made;
    }

-- a line is added
pub derived-push : (old new : List Node) (sig : Signature) (named : List (Chars × ℕ)) (steps : List Step) (step : Step) → Extends old new → AreWithin (length old) steps → NamedWithin (length old) named
    → IsGoodLine sig old step.line → Gives new (Ok step.sequent) (nameless_step sig (statements_at old named) (sequents_at old steps) (rule_at old step.line))
    → AreDerived (state old sig named steps) → AreDerived (state new sig named (steps ++ step ∷ []))
derived-push old new sig named steps step e w h good made d = λ k s at. elim (place steps step k s at) [
  | inl there ↦ derived-at old new sig named steps (steps ++ step ∷ []) k s e h (within-at (length old) steps k s w there.1)
      (before old new steps step k e w (omega (arith, there.0))) (d k s there.1)
  | inr last ↦ subst (λ (q : Step). IsDerived (state new sig named (steps ++ step ∷ [])) k q) last.1
      (derived-last old new sig named steps step k e w h good made.0 last.0)
]
