-- What stays of a proof while its store grows.
use Rattle.std.proofs.Common.{◌≡◌, ℕ, suc, ◌<◌, List, [], ◌∷◌, ◌++◌, length, Result, Ok, Err, refl, ap, sym, ◌∙◌, arith, subst}
use Rattle.std.specs.Result.{IsErrAnd}
use Rattle.std.proofs.lemmas.List.{map-append}
use Rattle.std.proofs.lemmas.List.Elements.{All-append, All-cons, All-nil}
use Rattle.lt_definitions.specs.Types.{Chars}
use Rattle.lt_definitions.specs.Typing.{Signature}
use Rattle.lt_definitions.specs.Rules.{line_at}
use Rattle.lt_nameless.specs.Nameless.{Nameless}
use Rattle.lt_nameless.specs.NamelessRules.{NamelessOutcome}
use Rattle.lt_hol.specs.declared.line.Line.{Line}
use Rattle.lt_store.specs.declared.node.Node.{Node}
use Rattle.lt_store.specs.Trees.{tree_at, Extends}
use Rattle.lt_store.proofs.TreeLemmas.{tree_at-extends}
use Rattle.lt_store.proofs.Lists.{trees-extends}
use Rattle.lt_kernel.specs.declared.sequent.Sequent.{Sequent}
use Rattle.lt_kernel.specs.declared.sequent.Step.{Step}
use Rattle.lt_kernel.specs.Sequents.{sequent_at, sequents_at, statements_at, IsWithin, AreWithin, NamedWithin, Gives}
use Rattle.lt_kernel.specs.declared.rule_fault.RuleFault.{RuleFault}
use Rattle.lt_kernel.specs.declared.rule_fault.RuleFault.TheVariants.{Bad, Duplicate, Memory}
use Rattle.lt_kernel.specs.State.{State, sequents, Keeps, AddsLine, Answers}
use Rattle.lt_kernel.proofs.LineNumbers.{line-last, length-last, as-many-lines}

pub sequent-extends : (old new : List Node) (s : Sequent) → Extends old new → IsWithin (length old) s → sequent_at new s ≡ sequent_at old s
sequent-extends old new s e h =
    let hyps = trees-extends old new s.hyps e h.0 in
    let concl = tree_at-extends old new s.concl e h.1 in
    λ i. record { hyps = hyps i; concl = concl i }

pub sequents-extends : (old new : List Node) (steps : List Step) → Extends old new → AreWithin (length old) steps → sequents_at new steps ≡ sequents_at old steps
sequents-extends old new [] e h = refl
sequents-extends old new (s ∷ steps) e h =
    ap (λ g. g ∷ sequents_at new steps) (sequent-extends old new s.sequent e (h 0 s (omega arith)))
    ∙ ap (λ gs. sequent_at old s.sequent ∷ gs) (sequents-extends old new steps e (λ k d l. h (suc k) d (omega (arith, l))))

pub statements-extends : (old new : List Node) (named : List (Chars × ℕ)) → Extends old new → NamedWithin (length old) named → statements_at new named ≡ statements_at old named
statements-extends old new [] e h = refl
statements-extends old new (p ∷ named) e h =
    let first : tree_at new p.1 ≡ tree_at old p.1 = tree_at-extends old new p.1 e (h 0 p (omega arith)) in
    ap (λ (t : Nameless). (p.0, t) ∷ statements_at new named) first
    ∙ ap (λ ss. (p.0, tree_at old p.1) ∷ ss) (statements-extends old new named e (λ k d l. h (suc k) d (omega (arith, l))))

pub within-wider : (old new : List Node) (steps : List Step) → Extends old new → AreWithin (length old) steps → AreWithin (length new) steps
within-wider old new steps e h = λ k d l. let s = h k d l in (λ j i m. omega (arith, s.0 j i m, e.grows), omega (arith, s.1, e.grows))

pub named-wider : (old new : List Node) (named : List (Chars × ℕ)) → Extends old new → NamedWithin (length old) named → NamedWithin (length new) named
named-wider old new named e h = λ k d l. omega (arith, h k d l, e.grows)

pub within-push : (n : ℕ) (steps : List Step) (s : Step) → AreWithin n steps → IsWithin n s.sequent → AreWithin n (steps ++ s ∷ [])
within-push n steps s h l = All-append (λ k. IsWithin n k.sequent) steps (s ∷ []) h (All-cons (λ k. IsWithin n k.sequent) s [] l (All-nil (λ k. IsWithin n k.sequent)))

pub named-push : (n : ℕ) (named : List (Chars × ℕ)) (p : Chars × ℕ) → NamedWithin n named → p.1 < n → NamedWithin n (named ++ p ∷ [])
named-push n named p h l = All-append (λ k. k.1 < n) named (p ∷ []) h (All-cons (λ k. k.1 < n) p [] l (All-nil (λ k. k.1 < n)))

abbrev pub state : List Node → Signature → List (Chars × ℕ) → List Step → State
state ns sig named steps = record { nodes = ns; signature = sig; named = named; steps = steps }

-- the store has grown, and nothing else
pub keeps : (old new : List Node) (sig : Signature) (named : List (Chars × ℕ)) (steps : List Step) → Extends old new → AreWithin (length old) steps → NamedWithin (length old) named
    → Keeps (state old sig named steps) (state new sig named steps)
keeps old new sig named steps e h k = record {
  stays = record { nodes = e; signature = refl; named = refl; statements = statements-extends old new named e k };
  steps = refl;
  sequents = sequents-extends old new steps e h;
}

-- the same of a state that is seen of those parts
pub keeps-seen : (p : State) (old new : List Node) (sig : Signature) (named : List (Chars × ℕ)) (steps : List Step) → state old sig named steps ≡ p
    → Extends old new → AreWithin (length old) steps → NamedWithin (length old) named → Keeps p (state new sig named steps)
keeps-seen p old new sig named steps is e h k = subst (λ (s : State). Keeps s (state new sig named steps)) is (keeps old new sig named steps e h k)

-- the store has grown, and a line was added
pub adds-line : (old new : List Node) (sig : Signature) (named : List (Chars × ℕ)) (steps : List Step) (step : Step) (by : Line) (outcome : NamelessOutcome) (n : ℕ)
    → Extends old new → AreWithin (length old) steps → NamedWithin (length old) named → step.line ≡ by → Gives new (Ok step.sequent) outcome → n ≡ length (steps ++ step ∷ [])
    → AddsLine (state old sig named steps) (state new sig named (steps ++ step ∷ [])) by outcome n
adds-line old new sig named steps step by outcome n e h k line made number =
    let last : sequents_at new (steps ++ step ∷ []) ≡ sequents_at old steps ++ sequent_at new step.sequent ∷ [] =
    map-append (λ (s : Step). sequent_at new s.sequent) steps (step ∷ []) ∙ ap (λ gs. gs ++ sequent_at new step.sequent ∷ []) (sequents-extends old new steps e h) in
    let count : n ≡ suc (length (sequents_at old steps)) = number ∙ length-last steps step ∙ ap suc (sym (as-many-lines (state old sig named steps))) in record {
      stays = record { nodes = e; signature = refl; named = refl; statements = statements-extends old new named e k };
      step = step;
      line = line;
      gives = made.0;
      steps = refl;
      sequents = last;
      number = number;
      there = ap (λ ss. line_at ss n) last ∙ line-last (sequents_at old steps) (sequent_at new step.sequent) n count;
    }

-- the store has grown, and the rule's reason, or want of memory, is answered
pub answers-fault : (old new : State) (by : Line) (e : RuleFault) (outcome : NamelessOutcome) → Gives new.nodes (Err e) outcome → Keeps old new → Answers old new by (Err e) outcome
answers-fault old new by (Bad r) outcome g k = (g, k)
answers-fault old new by (Duplicate l) outcome g k = absurd g
answers-fault old new by Memory outcome g k = k

pub answers-memory : (old new : State) (by : Line) (r : Result ℕ RuleFault) (outcome : NamelessOutcome) → IsErrAnd r (λ e. e ≡ Memory) → Keeps old new → Answers old new by r outcome
answers-memory old new by (Ok n) outcome h k = absurd h
answers-memory old new by (Err e) outcome h k = subst (λ (f : RuleFault). Answers old new by (Err f) outcome) (sym h) k
