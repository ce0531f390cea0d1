-- Proofs that grow: from none to any number of calls.
use Rattle.std.proofs.Common.{◌≡◌, ℕ, List, [], ◌∷◌, ◌++◌, Result, Ok, Err, refl, sym, ◌∙◌, ap, subst}
use Rattle.std.specs.List.{All}
use Rattle.std.proofs.lemmas.List.{map-append}
use Rattle.std.proofs.lemmas.List.Elements.{All-append, All-cons, All-nil}
use Rattle.lt_definitions.specs.Types.{Chars}
use Rattle.lt_definitions.specs.Typing.{Signature}
use Rattle.lt_definitions.specs.Rules.{line_at}
use Rattle.lt_nameless.specs.Booleans.{IsSoundSignature}
use Rattle.lt_nameless.specs.Nameless.{Nameless, NamelessSequent}
use Rattle.lt_nameless.specs.NamelessRules.{IsBooleanNameless, IsBooleanNamelessSequent}
use Rattle.lt_nameless.proofs.NamelessBooleans.{nameless_rules_keep_booleans}
use Rattle.lt_hol.specs.declared.line.Line.{Line}
use Rattle.lt_store.specs.Trees.{tree_at}
use Rattle.lt_store.proofs.TreeLemmas.{extends_same, extends_on}
use Rattle.lt_kernel.specs.declared.rule_fault.RuleFault.{RuleFault}
use Rattle.lt_kernel.specs.declared.rule_fault.RuleFault.TheVariants.{Bad, Duplicate, Memory}
use Rattle.lt_kernel.specs.Lines.{rule_at, IsGoodLine}
use Rattle.lt_kernel.specs.Sequents.{sequent_at}
use Rattle.lt_kernel.specs.State.{State, sequents, statements, step_of, Stays, Keeps, AddsLine, Answers}
use Rattle.lt_kernel.specs.Growing.{IsSound, Grows, Carries}
use Rattle.lt_kernel.proofs.LineNumbers.{line-kept}

pub stays-on : (old mid new : State) → Stays old mid → Stays mid new → Stays old new
stays-on old mid new p q = record {
  nodes = extends_on old.nodes mid.nodes new.nodes p.nodes q.nodes;
  signature = q.signature ∙ p.signature;
  named = q.named ∙ p.named;
  statements = q.statements ∙ p.statements;
}

-- a proof has grown by nothing
pub grows_none : (s : State) → Grows s s
grows_none s = record {
  stays = record { nodes = extends_same s.nodes; signature = refl; named = refl; statements = refl };
  steps = λ n q e. e;
  lines = λ n q e. e;
  sound = λ h. h;
}

-- what has grown twice has grown
pub grows_on : (old mid new : State) → Grows old mid → Grows mid new → Grows old new
grows_on old mid new p q = record {
  stays = stays-on old mid new p.stays q.stays;
  steps = λ n s e. q.steps n s (p.steps n s e);
  lines = λ n s e. q.lines n s (p.lines n s e);
  sound = λ h. q.sound (p.sound h);
}

pub grows-carries : (old new : State) → Grows old new → Carries old new
grows-carries old new g = λ first h. grows_on first old new h g

pub carries-grows : (old new : State) → Carries old new → Grows old new
carries-grows old new c = c old (grows_none old)

-- a sound state by what it is sound of
abbrev AreSound : Signature → List (Chars × Nameless) → List NamelessSequent → Type 0
AreSound sig named done = IsSoundSignature sig × All (λ (p : Chars × Nameless). IsBooleanNameless sig p.1) named × All (IsBooleanNamelessSequent sig) done

sound-from : (s : State) (sig : Signature) (named : List (Chars × Nameless)) (done : List NamelessSequent)
    → s.signature ≡ sig → statements s ≡ named → sequents s ≡ done → AreSound sig named done → IsSound s
sound-from s sig named done e d f h =
    let at : AreSound s.signature (statements s) (sequents s) =
    subst (λ (x : Signature). AreSound x (statements s) (sequents s)) (sym e)
    (subst (λ (x : List (Chars × Nameless)). AreSound sig x (sequents s)) (sym d)
    (subst (λ (x : List NamelessSequent). AreSound sig named x) (sym f) h)) in
    record { signature = at.0; statements = at.1; lines = at.2 }

-- nothing is stated and derived over sound declarations
pub sound-new : (s : State) → IsSoundSignature s.signature → statements s ≡ [] → sequents s ≡ [] → IsSound s
sound-new s h d f = sound-from s s.signature [] [] refl d f (h, All-nil _, All-nil _)

-- .. and stays so where the lines are dropped, or a boolean statement is named
pub sound-cleared : (old new : State) → new ≡ record old { steps = [] } → IsSound old → IsSound new
sound-cleared old new e h = subst IsSound (sym e) (record { signature = h.signature; statements = h.statements; lines = All-nil _ })

pub sound-named : (old new : State) (label : Chars) (id : ℕ) → new ≡ record old { named = old.named ++ (label, id) ∷ [] }
    → IsBooleanNameless old.signature (tree_at old.nodes id) → IsSound old → IsSound new
sound-named old new label id e b h =
    let P : Chars × Nameless → Type 0 = λ p. IsBooleanNameless old.signature p.1 in
    let one : Chars × Nameless = (label, tree_at old.nodes id) in
    let is = map-append (λ (p : Chars × ℕ). (p.0, tree_at old.nodes p.1)) old.named ((label, id) ∷ []) in
    subst IsSound (sym e) (record {
      signature = h.signature;
      statements = subst (λ (ss : List (Chars × Nameless)). All P ss) (sym is) (All-append P (statements old) (one ∷ []) h.statements (All-cons P one [] b (All-nil P)));
      lines = h.lines;
    })

pub keeps-grows : (old new : State) → Keeps old new → Grows old new
keeps-grows old new k = record {
  stays = k.stays;
  steps = λ n s e. ap (λ ss. line_at ss n) k.steps ∙ e;
  lines = λ n s e. ap (λ ss. line_at ss n) k.sequents ∙ e;
  sound = λ h. sound-from new old.signature (statements old) (sequents old) k.stays.signature k.stays.statements k.sequents (h.signature, h.statements, h.lines);
}

pub adds-grows : (old new : State) (by : Line) (n : ℕ) → IsGoodLine old.signature old.nodes by → AddsLine old new by (step_of old by) n → Grows old new
adds-grows old new by n good a =
    let one : NamelessSequent = sequent_at new.nodes a.step.sequent in record {
      stays = a.stays;
      steps = λ k s e. ap (λ ss. line_at ss k) a.steps ∙ line-kept old.steps (a.step ∷ []) k s e;
      lines = λ k s e. ap (λ ss. line_at ss k) a.sequents ∙ line-kept (sequents old) (one ∷ []) k s e;
      sound = λ h.
          let last = nameless_rules_keep_booleans old.signature (statements old) (sequents old) (rule_at old.nodes by) one h.signature h.statements h.lines good.typed a.gives in
          let P : NamelessSequent → Type 0 = IsBooleanNamelessSequent old.signature in
          sound-from new old.signature (statements old) (sequents old ++ one ∷ []) a.stays.signature a.stays.statements a.sequents
          (h.signature, h.statements, All-append P (sequents old) (one ∷ []) h.lines (All-cons P one [] last (All-nil P)));
    }

pub answers-grows : (old new : State) (by : Line) (r : Result ℕ RuleFault) → IsGoodLine old.signature old.nodes by → Answers old new by r (step_of old by) → Grows old new
answers-grows old new by (Ok n) good a = adds-grows old new by n good a
answers-grows old new by (Err (Bad q)) good a = keeps-grows old new a.1
answers-grows old new by (Err (Duplicate l)) good a = absurd a
answers-grows old new by (Err Memory) good a = keeps-grows old new a

pub answers-carries : (old new : State) (by : Line) (r : Result ℕ RuleFault) → IsGoodLine old.signature old.nodes by → Answers old new by r (step_of old by) → Carries old new
answers-carries old new by r good a = grows-carries old new (answers-grows old new by r good a)

pub keeps-carries : (old new : State) → Keeps old new → Carries old new
keeps-carries old new k = grows-carries old new (keeps-grows old new k)
