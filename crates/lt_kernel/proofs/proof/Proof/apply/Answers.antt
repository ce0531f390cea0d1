use Rattle.std.proofs.Common.{◌≡◌, ◌++◌, ◌∷◌, [], ◌∙◌, List, ap, subst, sym, length, refl, Ok, Err}
use Rattle.lt_nameless.specs.NamelessRules.{nameless_step}
use Rattle.lt_kernel.specs.declared.sequent.Step.{Step}
use Rattle.lt_kernel.specs.Lines.{rule_at, IsGoodLine}
use Rattle.lt_kernel.specs.Sequents.{sequents_at, statements_at, AreWithin, Gives}
use Rattle.lt_kernel.specs.State.{State, Keeps, AddsLine, Answers, step_of}
use Rattle.lt_kernel.specs.Derived.{AreDerived}
use Rattle.lt_kernel.proofs.DerivedLines.{derived-extends, derived-push}
use Rattle.lt_kernel.proofs.StateLemmas.{state, within-wider, named-wider, within-push, keeps, adds-line, answers-fault, answers-memory}
use Rattle.lt_kernel.proofs.GrowingLemmas.{answers-carries}
use Rattle.lt_kernel.proofs.ReachingLemmas.{answers-reaches}
use Rattle.lt_kernel.proofs.proof.Proof.apply.Goals as goal

pub returns-in-Err-clause-answers : goal.returns-in-Err-clause-answers
returns-in-Err-clause-answers g c =
    let inside = c.self.inside in
    let old = g.S.TermStore.nodes inside.store in
    let new = g.S.TermStore.nodes c.derive.new.store in
    let steps = inside.steps.items in
    let OverSteps : List Step → Type 0 = λ k. Gives new (Err c.in-Err.fault) (nameless_step inside.signature (statements_at old inside.named.entries) (sequents_at old k) (rule_at old c.args.line.now)) in
    let made = subst OverSteps c.as_slice.ensures.value c.in-Err.ensures.step in
    let AtOld : State → Type 0 = λ p. Answers p (state new inside.signature inside.named.entries steps) c.args.line.now (Err c.in-Err.fault) (step_of p c.args.line.now) in
    subst AtOld c.self.view_is (answers-fault (state old inside.signature inside.named.entries steps) (state new inside.signature inside.named.entries steps) c.args.line.now c.in-Err.fault _ made
    (keeps old new inside.signature inside.named.entries steps c.in-Err.ensures.kept c.self.invariant.steps c.self.invariant.named))

pub returns-in_err-number-clause-answers : goal.returns-in_err-number-clause-answers
returns-in_err-number-clause-answers g c =
    let inside = c.self.inside in
    let old = g.S.TermStore.nodes inside.store in
    let new = g.S.TermStore.nodes c.derive.new.store in
    let steps = inside.steps.items in
    let AtNew : List Step → Type 0 = λ k. Keeps (state old inside.signature inside.named.entries steps) (state new inside.signature inside.named.entries k) in
    let kept = subst AtNew (sym c.in_err-number.ensures.err) (keeps old new inside.signature inside.named.entries steps c.in-Ok.ensures.kept c.self.invariant.steps c.self.invariant.named) in
    let AtOld : State → Type 0 = λ p. Answers p (state new inside.signature inside.named.entries c.add_step.new.steps.items) c.args.line.now c.from_residual.result (step_of p c.args.line.now) in
    subst AtOld c.self.view_is (answers-memory (state old inside.signature inside.named.entries steps) (state new inside.signature inside.named.entries c.add_step.new.steps.items) c.args.line.now c.from_residual.result _ c.from_residual.ensures.1 kept)

pub returns-clause-answers : goal.returns-clause-answers
returns-clause-answers g c =
    let inside = c.self.inside in
    let old = g.S.TermStore.nodes inside.store in
    let new = g.S.TermStore.nodes c.derive.new.store in
    let steps = inside.steps.items in
    let step : Step = record { line = c.args.line.now; sequent = c.in-Ok.sequent } in
    let outcome = λ (k : List Step). nameless_step inside.signature (statements_at old inside.named.entries) (sequents_at old k) (rule_at old c.args.line.now) in
    let OverSteps : List Step → Type 0 = λ k. Gives new (Ok c.in-Ok.sequent) (outcome k) in
    let made = subst OverSteps c.as_slice.ensures.value c.in-Ok.ensures.step in
    let number : c.in_ok-number.number ≡ length (steps ++ step ∷ []) = c.in_ok-number.ensures.number ∙ ap length c.in_ok-number.ensures.ok in
    let added = adds-line old new inside.signature inside.named.entries steps step c.args.line.now (outcome steps) c.in_ok-number.number c.in-Ok.ensures.kept c.self.invariant.steps c.self.invariant.named refl made number in
    let AtNew : List Step → Type 0 = λ k. AddsLine (state old inside.signature inside.named.entries steps) (state new inside.signature inside.named.entries k) c.args.line.now (outcome steps) c.in_ok-number.number in
    let AtOld : State → Type 0 = λ p. AddsLine p (state new inside.signature inside.named.entries c.add_step.new.steps.items) c.args.line.now (step_of p c.args.line.now) c.in_ok-number.number in
    subst AtOld c.self.view_is (subst AtNew (sym c.in_ok-number.ensures.ok) added)

pub returns-in-Err-clause-carries : goal.returns-in-Err-clause-carries
returns-in-Err-clause-carries g c = answers-carries _ _ _ (Err c.in-Err.fault) c.requires (returns-in-Err-clause-answers g c)

pub returns-in_err-number-clause-carries : goal.returns-in_err-number-clause-carries
returns-in_err-number-clause-carries g c = answers-carries _ _ _ _ c.requires (returns-in_err-number-clause-answers g c)

pub returns-clause-carries : goal.returns-clause-carries
returns-clause-carries g c = answers-carries _ _ _ (Ok c.in_ok-number.number) c.requires (returns-clause-answers g c)

pub returns-in-Err-clause-reaches : goal.returns-in-Err-clause-reaches
returns-in-Err-clause-reaches g c =
    let inside = c.self.inside in
    let old = c.args.self.now in
    answers-reaches old (state (g.S.TermStore.nodes c.derive.new.store) inside.signature inside.named.entries inside.steps.items) c.args.line.now
    (Err c.in-Err.fault) (step_of old c.args.line.now) (returns-in-Err-clause-answers g c)

pub returns-in_err-number-clause-reaches : goal.returns-in_err-number-clause-reaches
returns-in_err-number-clause-reaches g c = answers-reaches _ _ _ _ _ (returns-in_err-number-clause-answers g c)

pub returns-clause-reaches : goal.returns-clause-reaches
returns-clause-reaches g c =
    let inside = c.self.inside in
    let old = c.args.self.now in
    answers-reaches old (state (g.S.TermStore.nodes c.derive.new.store) inside.signature inside.named.entries c.add_step.new.steps.items) c.args.line.now
    (Ok c.in_ok-number.number) (step_of old c.args.line.now) (returns-clause-answers g c)

pub invariant_of-self : goal.invariant_of-self
invariant_of-self g c =
    let inside = c.self.inside in
    let old = g.S.TermStore.nodes inside.store in
    let new = g.S.TermStore.nodes c.derive.new.store in
    record {
      steps = within-wider old new inside.steps.items c.in-Err.ensures.kept c.self.invariant.steps;
      named = named-wider old new inside.named.entries c.in-Err.ensures.kept c.self.invariant.named;
      derived = derived-extends old new inside.signature inside.named.entries inside.steps.items c.in-Err.ensures.kept c.self.invariant.steps c.self.invariant.named c.self.invariant.derived;
    }

pub invariant_of-self-in_err-number : goal.invariant_of-self-in_err-number
invariant_of-self-in_err-number g c =
    let inside = c.self.inside in
    let old = g.S.TermStore.nodes inside.store in
    let new = g.S.TermStore.nodes c.derive.new.store in
    let steps = inside.steps.items in
    record {
      steps = subst (λ (k : List Step). AreWithin (length new) k) (sym c.in_err-number.ensures.err) (within-wider old new steps c.in-Ok.ensures.kept c.self.invariant.steps);
      named = named-wider old new inside.named.entries c.in-Ok.ensures.kept c.self.invariant.named;
      derived = subst (λ (k : List Step). AreDerived (state new inside.signature inside.named.entries k)) (sym c.in_err-number.ensures.err)
          (derived-extends old new inside.signature inside.named.entries steps c.in-Ok.ensures.kept c.self.invariant.steps c.self.invariant.named c.self.invariant.derived);
    }

pub invariant_of-self-2 : goal.invariant_of-self-2
invariant_of-self-2 g c =
    let inside = c.self.inside in
    let old = g.S.TermStore.nodes inside.store in
    let new = g.S.TermStore.nodes c.derive.new.store in
    let steps = inside.steps.items in
    let step : Step = record { line = c.args.line.now; sequent = c.in-Ok.sequent } in
    let OverSteps : List Step → Type 0 = λ k. Gives new (Ok c.in-Ok.sequent) (nameless_step inside.signature (statements_at old inside.named.entries) (sequents_at old k) (rule_at old c.args.line.now)) in
    let made = subst OverSteps c.as_slice.ensures.value c.in-Ok.ensures.step in
    let good : IsGoodLine inside.signature old c.args.line.now = subst (λ (p : State). IsGoodLine p.signature p.nodes c.args.line.now) (sym c.self.view_is) c.requires in
    record {
      steps = subst (λ (k : List Step). AreWithin (length new) k) (sym c.in_ok-number.ensures.ok)
          (within-push (length new) steps step (within-wider old new steps c.in-Ok.ensures.kept c.self.invariant.steps) made.1);
      named = named-wider old new inside.named.entries c.in-Ok.ensures.kept c.self.invariant.named;
      derived = subst (λ (k : List Step). AreDerived (state new inside.signature inside.named.entries k)) (sym c.in_ok-number.ensures.ok)
          (derived-push old new inside.signature inside.named.entries steps step c.in-Ok.ensures.kept c.self.invariant.steps c.self.invariant.named good made c.self.invariant.derived);
    }
