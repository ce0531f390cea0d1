use Rattle.std.proofs.Common.{◌≡◌, refl, None, subst}
use Rattle.lt_hol.specs.declared.item.Item.TheVariants.{Lemma, Axiom}
use Rattle.lt_hol.specs.Items.{item_of}
use Rattle.lt_hol.specs.Lines.{rules_of}
use Rattle.lt_definitions.specs.Typing.{Signature}
use Rattle.lt_definitions.specs.Theory.{refusal}
use Rattle.lt_conditions.specs.Refusing.{Refuses, context_at}
use Rattle.lt_extend.specs.Theories.{context_behind, items_of}
use Rattle.lt_extend.proofs.Committed.{in-step-inside, lemma-outside, lemma-behind, lemma-refused, lemma-failed, accepted-here, new-statement-label, lemma-accepted}
use Rattle.lt_extend.proofs.Stands.{stands-still}
use Rattle.lt_extend.proofs.theory.Theory.add_lemma.Goals as goal

pub returns-in-Err-clause-adds : goal.returns-in-Err-clause-adds
returns-in-Err-clause-adds g c =
    lemma-refused c.self.inside.items c.self.inside.proof c.self.inside.statements.entries c.args.self.now c.args.label c.args.statement (Lemma c.args.label c.args.statement c.args.lines)
    (rules_of c.args.lines.nodes c.args.lines.lines) c.in-Err.fault c.self.view_is c.self.invariant c.requires refl (subst (λ (sig : Signature). Refuses (refusal (context_at sig c.self.inside.statements.entries) (item_of (Axiom c.args.label c.args.statement))) c.in-Err.fault) c.signature-sig.ensures c.in-Err.ensures)

pub derive_lemma-requires : goal.derive_lemma-requires
derive_lemma-requires g c = record {
  whole = (new-statement-label (context_at c.self.inside.proof.signature c.self.inside.statements.entries) c.args.label c.args.statement (subst (λ (sig : Signature). refusal (context_at sig c.self.inside.statements.entries) (item_of (Axiom c.args.label c.args.statement)) ≡ None) c.signature-sig.ensures c.in-Ok.ensures)).0;
  valid = (items_of c.self.inside.items, c.self.invariant.valid, in-step-inside c.self.inside.items c.self.inside.proof c.args.self.now c.self.view_is c.requires);
}

pub returns-in-Err-derive_lemma-clause-adds : goal.returns-in-Err-derive_lemma-clause-adds
returns-in-Err-derive_lemma-clause-adds g c =
    lemma-failed c.self.inside.items c.self.inside.proof c.derive_lemma.new.proof c.self.inside.statements.entries c.args.self.now c.args.label c.args.statement
    (Lemma c.args.label c.args.statement c.args.lines) (rules_of c.args.lines.nodes c.args.lines.lines) c.in-Err-derive_lemma.fault c.self.view_is c.self.invariant c.requires refl (subst (λ (sig : Signature). refusal (context_at sig c.self.inside.statements.entries) (item_of (Axiom c.args.label c.args.statement)) ≡ None) c.signature-sig.ensures c.in-Ok.ensures)
    c.in-Err-derive_lemma.ensures.stays c.in-Err-derive_lemma.ensures.proves

pub returns-in-Err-derive_lemma-clause-in_step : goal.returns-in-Err-derive_lemma-clause-in_step
returns-in-Err-derive_lemma-clause-in_step g c =
    stands-still (context_behind c.self.inside.items) c.self.inside.proof c.derive_lemma.new.proof (in-step-inside c.self.inside.items c.self.inside.proof c.args.self.now c.self.view_is c.requires) c.in-Err-derive_lemma.ensures.stays

pub enter_lemma-requires : goal.enter_lemma-requires
enter_lemma-requires g c = record {
  stored = c.in-Ok-derive_lemma.ensures.made;
  is = c.in-Ok-derive_lemma.ensures.is;
  held = c.self.invariant;
  in_step = stands-still (context_behind c.self.inside.items) c.self.inside.proof c.derive_lemma.new.proof (in-step-inside c.self.inside.items c.self.inside.proof c.args.self.now c.self.view_is c.requires) c.in-Ok-derive_lemma.ensures.stays;
  accepted = lemma-accepted (context_behind c.self.inside.items) c.args.label c.args.statement (rules_of c.args.lines.nodes c.args.lines.lines)
      (accepted-here c.self.inside.items c.self.inside.proof c.self.inside.statements.entries (item_of (Axiom c.args.label c.args.statement)) c.self.invariant
      (in-step-inside c.self.inside.items c.self.inside.proof c.args.self.now c.self.view_is c.requires) (subst (λ (sig : Signature). refusal (context_at sig c.self.inside.statements.entries) (item_of (Axiom c.args.label c.args.statement)) ≡ None) c.signature-sig.ensures c.in-Ok.ensures))
      (c.in-Ok-derive_lemma.ensures.proves (context_behind c.self.inside.items) (in-step-inside c.self.inside.items c.self.inside.proof c.args.self.now c.self.view_is c.requires));
}

pub returns-clause-adds : goal.returns-clause-adds
returns-clause-adds g c =
    lemma-outside c.self.inside.items c.self.inside.proof c.args.self.now _ (Lemma c.args.label c.args.statement c.args.lines) c.enter_lemma.result c.self.view_is
    (lemma-behind c.self.inside.items c.self.inside.proof c.derive_lemma.new.proof _ (Lemma c.args.label c.args.statement c.args.lines) c.enter_lemma.result c.in-Ok-derive_lemma.ensures.stays
    c.enter_lemma.ensures.adds)
