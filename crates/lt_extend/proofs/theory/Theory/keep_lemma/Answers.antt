use Rattle.std.proofs.Common.{◌≡◌, ◌≤◌, ◌∙◌, List, length, sym, subst, None}
use Rattle.lt_definitions.specs.Rules.{line_at}
use Rattle.lt_hol.specs.declared.item.Item.TheVariants.{Axiom}
use Rattle.lt_hol.specs.Items.{item_of}
use Rattle.lt_hol.specs.Lines.{rules_of}
use Rattle.lt_kernel.specs.declared.sequent.Step.{Step}
use Rattle.lt_definitions.specs.Typing.{Signature}
use Rattle.lt_definitions.specs.Theory.{refusal}
use Rattle.lt_conditions.specs.Refusing.{Refuses, context_at}
use Rattle.lt_extend.specs.Theories.{context_behind, items_of}
use Rattle.lt_extend.proofs.Committed.{in-step-inside, kept-refused, kept-unproved, kept-memory, kept-added, accepted-here, new-statement-label, lemma-accepted}
use Rattle.lt_extend.proofs.KeptLines.{read-all, line-read, line-within, kept-proof, rules-kept}
use Rattle.lt_extend.proofs.Stands.{stands-still}
use Rattle.lt_extend.proofs.theory.Theory.keep_lemma.Goals as goal

pub returns-in-Err-clause-keeps : goal.returns-in-Err-clause-keeps
returns-in-Err-clause-keeps g c =
    let read = (read-all (context_behind c.self.inside.items) c.self.inside.proof (in-step-inside c.self.inside.items c.self.inside.proof c.args.self.now c.self.view_is c.requires) c.steps-lines.ensures.derived) in
    kept-refused c.self.inside.items c.self.inside.proof c.self.inside.statements.entries c.args.self.now c.args.label c.args.statement c.args.line (line_at read.done c.args.line) c.in-Err.fault
    c.self.view_is c.self.invariant c.requires (line-read (context_behind c.self.inside.items) c.self.inside.proof read c.args.line) (subst (λ (sig : Signature). Refuses (refusal (context_at sig c.self.inside.statements.entries) (item_of (Axiom c.args.label c.args.statement))) c.in-Err.fault) c.signature-sig.ensures c.in-Err.ensures)

pub check_kept-requires : goal.check_kept-requires
check_kept-requires g c = record {
  whole = (new-statement-label (context_at c.self.inside.proof.signature c.self.inside.statements.entries) c.args.label c.args.statement (subst (λ (sig : Signature). refusal (context_at sig c.self.inside.statements.entries) (item_of (Axiom c.args.label c.args.statement)) ≡ None) c.signature-sig.ensures c.in-Ok.ensures)).0;
  valid = (items_of c.self.inside.items, c.self.invariant.valid, (in-step-inside c.self.inside.items c.self.inside.proof c.args.self.now c.self.view_is c.requires));
}

pub returns-in-Err-check_kept-clause-keeps : goal.returns-in-Err-check_kept-clause-keeps
returns-in-Err-check_kept-clause-keeps g c =
    kept-unproved c.self.inside.items c.self.inside.proof c.check_kept.new.proof c.self.inside.statements.entries c.args.self.now c.args.label c.args.statement c.args.line c.in-Err-check_kept.ensures.proves.0
    c.in-Err-check_kept.fault c.self.view_is c.self.invariant c.requires (subst (λ (sig : Signature). refusal (context_at sig c.self.inside.statements.entries) (item_of (Axiom c.args.label c.args.statement)) ≡ None) c.signature-sig.ensures c.in-Ok.ensures) c.in-Err-check_kept.ensures.keeps.stays c.in-Err-check_kept.ensures.proves.1 c.in-Err-check_kept.ensures.proves.2

pub returns-in-Err-check_kept-clause-in_step : goal.returns-in-Err-check_kept-clause-in_step
returns-in-Err-check_kept-clause-in_step g c = stands-still (context_behind c.self.inside.items) c.self.inside.proof c.check_kept.new.proof (in-step-inside c.self.inside.items c.self.inside.proof c.args.self.now c.self.view_is c.requires) c.in-Err-check_kept.ensures.keeps.stays

pub told_lines-requires : goal.told_lines-requires
told_lines-requires g c =
    let k = c.in-Ok-check_kept.ensures in
    subst (λ (steps : List Step). c.args.line ≤ length steps) (sym k.keeps.steps) (line-within c.self.inside.proof c.args.line c.args.statement k.proves.0 k.proves.1 k.proves.2)

pub returns-in_err-lines-clause-keeps : goal.returns-in_err-lines-clause-keeps
returns-in_err-lines-clause-keeps g c =
    kept-memory c.self.inside.items c.self.inside.proof c.check_kept.new.proof c.args.self.now c.args.label c.args.statement c.args.line c.in-Ok-check_kept.ensures.proves.0 c.from_residual.result c.self.view_is c.from_residual.ensures.1
    c.in-Ok-check_kept.ensures.keeps.stays c.in-Ok-check_kept.ensures.proves.1

pub returns-in_err-lines-clause-in_step : goal.returns-in_err-lines-clause-in_step
returns-in_err-lines-clause-in_step g c = stands-still (context_behind c.self.inside.items) c.self.inside.proof c.check_kept.new.proof (in-step-inside c.self.inside.items c.self.inside.proof c.args.self.now c.self.view_is c.requires) c.in-Ok-check_kept.ensures.keeps.stays

pub enter_lemma-requires : goal.enter_lemma-requires
enter_lemma-requires g c =
    let k = c.in-Ok-check_kept.ensures in
    record {
      stored = k.made;
      is = k.is;
      held = c.self.invariant;
      in_step = stands-still (context_behind c.self.inside.items) c.self.inside.proof c.check_kept.new.proof (in-step-inside c.self.inside.items c.self.inside.proof c.args.self.now c.self.view_is c.requires) k.keeps.stays;
      accepted = lemma-accepted (context_behind c.self.inside.items) c.args.label c.args.statement (rules_of c.in_ok-lines.lines.nodes c.in_ok-lines.lines.lines)
          (accepted-here c.self.inside.items c.self.inside.proof c.self.inside.statements.entries (item_of (Axiom c.args.label c.args.statement)) c.self.invariant
          (in-step-inside c.self.inside.items c.self.inside.proof c.args.self.now c.self.view_is c.requires) (subst (λ (sig : Signature). refusal (context_at sig c.self.inside.statements.entries) (item_of (Axiom c.args.label c.args.statement)) ≡ None) c.signature-sig.ensures c.in-Ok.ensures))
          (kept-proof (context_behind c.self.inside.items) c.self.inside.proof c.args.line c.args.statement k.proves.0 (rules_of c.in_ok-lines.lines.nodes c.in_ok-lines.lines.lines) (in-step-inside c.self.inside.items c.self.inside.proof c.args.self.now c.self.view_is c.requires) c.steps-lines.ensures.derived
          (c.in_ok-lines.ensures ∙ rules-kept c.self.inside.proof c.check_kept.new.proof c.args.line c.steps-lines.ensures.derived k.keeps) k.proves.1 k.proves.2);
    }

pub returns-clause-keeps : goal.returns-clause-keeps
returns-clause-keeps g c =
    let k = c.in-Ok-check_kept.ensures in
    kept-added c.self.inside.items c.self.inside.proof c.check_kept.new.proof c.args.self.now _ c.args.label c.args.statement c.args.line k.proves.0 c.in_ok-lines.lines c.enter_lemma.result c.self.view_is k.keeps.stays
    k.proves.1 (c.in_ok-lines.ensures ∙ rules-kept c.self.inside.proof c.check_kept.new.proof c.args.line c.steps-lines.ensures.derived k.keeps)
    (lemma-accepted (context_behind c.self.inside.items) c.args.label c.args.statement (rules_of c.in_ok-lines.lines.nodes c.in_ok-lines.lines.lines)
    (accepted-here c.self.inside.items c.self.inside.proof c.self.inside.statements.entries (item_of (Axiom c.args.label c.args.statement)) c.self.invariant
    (in-step-inside c.self.inside.items c.self.inside.proof c.args.self.now c.self.view_is c.requires) (subst (λ (sig : Signature). refusal (context_at sig c.self.inside.statements.entries) (item_of (Axiom c.args.label c.args.statement)) ≡ None) c.signature-sig.ensures c.in-Ok.ensures))
    (kept-proof (context_behind c.self.inside.items) c.self.inside.proof c.args.line c.args.statement k.proves.0 (rules_of c.in_ok-lines.lines.nodes c.in_ok-lines.lines.lines) (in-step-inside c.self.inside.items c.self.inside.proof c.args.self.now c.self.view_is c.requires) c.steps-lines.ensures.derived
    (c.in_ok-lines.ensures ∙ rules-kept c.self.inside.proof c.check_kept.new.proof c.args.line c.steps-lines.ensures.derived k.keeps) k.proves.1 k.proves.2)) c.enter_lemma.ensures.adds
