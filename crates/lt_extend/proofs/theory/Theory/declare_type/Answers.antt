use Rattle.std.proofs.Common.{◌≡◌, None, subst}
use Rattle.lt_definitions.specs.Typing.{Signature}
use Rattle.lt_definitions.specs.Theory.{refusal}
use Rattle.lt_hol.specs.declared.item.Item.TheVariants.{TypeDecl}
use Rattle.lt_hol.specs.Items.{item_of}
use Rattle.lt_conditions.specs.Refusing.{Refuses, context_at}
use Rattle.lt_extend.specs.Theories.{context_behind}
use Rattle.lt_extend.proofs.Committed.{grown, adds-refused, in-step-inside, held-stands, entered-type, new-type-name}
use Rattle.lt_extend.proofs.theory.Theory.declare_type.Goals as goal

pub returns-in-Err-clause-adds : goal.returns-in-Err-clause-adds
returns-in-Err-clause-adds g c =
    adds-refused c.self.inside.items c.self.inside.proof c.self.inside.statements.entries c.args.self.now (TypeDecl c.args.name c.args.arity) c.in-Err.fault c.self.view_is c.self.invariant c.requires
    (subst (λ (sig : Signature). Refuses (refusal (context_at sig c.self.inside.statements.entries) (item_of (TypeDecl c.args.name c.args.arity))) c.in-Err.fault) c.signature-sig.ensures c.in-Err.ensures)

pub enter_type-entered-requires : goal.enter_type-entered-requires
enter_type-entered-requires g c =
    new-type-name (context_at c.self.inside.proof.signature c.self.inside.statements.entries) c.args.name c.args.arity (subst (λ (sig : Signature). refusal (context_at sig c.self.inside.statements.entries) (item_of (TypeDecl c.args.name c.args.arity)) ≡ None) c.signature-sig.ensures c.in-Ok.ensures)

pub returns-clause-adds : goal.returns-clause-adds
returns-clause-adds g c =
    (grown c.self.inside.items c.commit.new.items (TypeDecl c.args.name c.args.arity) c.self.inside.proof c.enter_type-entered.new.proof c.commit.new.proof c.self.inside.statements.entries c.self.inside.statements.entries c.commit.new.statements.entries c.mark_of-mark.result c.enter_type-entered.result c.commit.result c.args.self.now
    c.self.view_is c.self.invariant c.requires (subst (λ (sig : Signature). refusal (context_at sig c.self.inside.statements.entries) (item_of (TypeDecl c.args.name c.args.arity)) ≡ None) c.signature-sig.ensures c.in-Ok.ensures)
    c.mark_of-mark.ensures
    (entered-type (context_behind c.self.inside.items) c.self.inside.proof c.enter_type-entered.new.proof c.self.inside.statements.entries c.args.name c.args.arity c.enter_type-entered.result (held-stands c.self.inside.items c.self.inside.proof c.self.inside.statements.entries c.self.invariant (in-step-inside c.self.inside.items c.self.inside.proof c.args.self.now c.self.view_is c.requires)) c.enter_type-entered.ensures.ok c.enter_type-entered.ensures.err)
    (record {
      entered = c.commit.ensures.entered;
      proof = c.commit.ensures.proof;
      statements = c.commit.ensures.statements;
      items = c.commit.ensures.items;
      memory = c.commit.ensures.memory;
      proof_back = c.commit.ensures.proof_back;
      statements_back = c.commit.ensures.statements_back;
      items_back = c.commit.ensures.items_back;
    })).adds

pub returns-clause-in_step : goal.returns-clause-in_step
returns-clause-in_step g c =
    (grown c.self.inside.items c.commit.new.items (TypeDecl c.args.name c.args.arity) c.self.inside.proof c.enter_type-entered.new.proof c.commit.new.proof c.self.inside.statements.entries c.self.inside.statements.entries c.commit.new.statements.entries c.mark_of-mark.result c.enter_type-entered.result c.commit.result c.args.self.now
    c.self.view_is c.self.invariant c.requires (subst (λ (sig : Signature). refusal (context_at sig c.self.inside.statements.entries) (item_of (TypeDecl c.args.name c.args.arity)) ≡ None) c.signature-sig.ensures c.in-Ok.ensures)
    c.mark_of-mark.ensures
    (entered-type (context_behind c.self.inside.items) c.self.inside.proof c.enter_type-entered.new.proof c.self.inside.statements.entries c.args.name c.args.arity c.enter_type-entered.result (held-stands c.self.inside.items c.self.inside.proof c.self.inside.statements.entries c.self.invariant (in-step-inside c.self.inside.items c.self.inside.proof c.args.self.now c.self.view_is c.requires)) c.enter_type-entered.ensures.ok c.enter_type-entered.ensures.err)
    (record {
      entered = c.commit.ensures.entered;
      proof = c.commit.ensures.proof;
      statements = c.commit.ensures.statements;
      items = c.commit.ensures.items;
      memory = c.commit.ensures.memory;
      proof_back = c.commit.ensures.proof_back;
      statements_back = c.commit.ensures.statements_back;
      items_back = c.commit.ensures.items_back;
    })).in_step

pub invariant_of-self : goal.invariant_of-self
invariant_of-self g c =
    (grown c.self.inside.items c.commit.new.items (TypeDecl c.args.name c.args.arity) c.self.inside.proof c.enter_type-entered.new.proof c.commit.new.proof c.self.inside.statements.entries c.self.inside.statements.entries c.commit.new.statements.entries c.mark_of-mark.result c.enter_type-entered.result c.commit.result c.args.self.now
    c.self.view_is c.self.invariant c.requires (subst (λ (sig : Signature). refusal (context_at sig c.self.inside.statements.entries) (item_of (TypeDecl c.args.name c.args.arity)) ≡ None) c.signature-sig.ensures c.in-Ok.ensures)
    c.mark_of-mark.ensures
    (entered-type (context_behind c.self.inside.items) c.self.inside.proof c.enter_type-entered.new.proof c.self.inside.statements.entries c.args.name c.args.arity c.enter_type-entered.result (held-stands c.self.inside.items c.self.inside.proof c.self.inside.statements.entries c.self.invariant (in-step-inside c.self.inside.items c.self.inside.proof c.args.self.now c.self.view_is c.requires)) c.enter_type-entered.ensures.ok c.enter_type-entered.ensures.err)
    (record {
      entered = c.commit.ensures.entered;
      proof = c.commit.ensures.proof;
      statements = c.commit.ensures.statements;
      items = c.commit.ensures.items;
      memory = c.commit.ensures.memory;
      proof_back = c.commit.ensures.proof_back;
      statements_back = c.commit.ensures.statements_back;
      items_back = c.commit.ensures.items_back;
    })).held
