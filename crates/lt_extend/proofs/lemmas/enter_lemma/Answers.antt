use Rattle.std.proofs.Common.{◌<◌, ◌∙◌, length, ap, sym, subst}
use Rattle.lt_definitions.specs.Types.{found}
use Rattle.lt_hol.specs.declared.item.Item.TheVariants.{Lemma}
use Rattle.lt_hol.specs.Items.{item_of}
use Rattle.lt_nameless.proofs.Refusals.{refusal-extension}
use Rattle.lt_kernel.specs.State.{State}
use Rattle.lt_extend.specs.Theories.{context_behind}
use Rattle.lt_extend.proofs.Committed.{lemma-done, done-lemma}
use Rattle.lt_extend.proofs.Stands.{unknown-label}
use Rattle.lt_extend.proofs.lemmas.enter_lemma.Goals as goal

pub enter_stored-entered-requires : goal.enter_stored-entered-requires
enter_stored-entered-requires g c =
    let ctx = context_behind c.args.items.now in
    let d = refusal-extension ctx (item_of (Lemma c.args.label c.args.statement c.args.lines)) c.requires.accepted in
    record {
      stored = subst (λ (q : State). c.args.id < length q.nodes) (sym c.clear.ensures) c.requires.stored;
      new = ap (λ (q : State). found c.args.label q.named) c.clear.ensures ∙ unknown-label ctx c.args.proof.now c.args.label c.requires.in_step d.1;
      fresh = ap (found c.args.label) c.requires.held.statements ∙ d.1;
    }

pub returns-clause-held : goal.returns-clause-held
returns-clause-held g c =
    (lemma-done c.args.items.now c.commit.new.items c.args.label c.args.statement c.args.lines c.args.proof.now c.clear.new.self c.enter_stored-entered.new.proof c.commit.new.proof c.args.statements.now.entries
    c.enter_stored-entered.new.statements.entries c.commit.new.statements.entries c.mark_of-mark.result c.args.id c.enter_stored-entered.result c.commit.result c.requires.held c.requires.in_step c.clear.ensures c.requires.accepted
    c.requires.is c.mark_of-mark.ensures
    (record { ok = c.enter_stored-entered.ensures.ok; kept = c.enter_stored-entered.ensures.kept; err = c.enter_stored-entered.ensures.err; front = c.enter_stored-entered.ensures.front })
    (record {
      entered = c.commit.ensures.entered;
      proof = c.commit.ensures.proof;
      statements = c.commit.ensures.statements;
      items = c.commit.ensures.items;
      memory = c.commit.ensures.memory;
      proof_back = c.commit.ensures.proof_back;
      statements_back = c.commit.ensures.statements_back;
      items_back = c.commit.ensures.items_back;
    })).held

pub returns-clause-in_step : goal.returns-clause-in_step
returns-clause-in_step g c =
    (lemma-done c.args.items.now c.commit.new.items c.args.label c.args.statement c.args.lines c.args.proof.now c.clear.new.self c.enter_stored-entered.new.proof c.commit.new.proof c.args.statements.now.entries
    c.enter_stored-entered.new.statements.entries c.commit.new.statements.entries c.mark_of-mark.result c.args.id c.enter_stored-entered.result c.commit.result c.requires.held c.requires.in_step c.clear.ensures c.requires.accepted
    c.requires.is c.mark_of-mark.ensures
    (record { ok = c.enter_stored-entered.ensures.ok; kept = c.enter_stored-entered.ensures.kept; err = c.enter_stored-entered.ensures.err; front = c.enter_stored-entered.ensures.front })
    (record {
      entered = c.commit.ensures.entered;
      proof = c.commit.ensures.proof;
      statements = c.commit.ensures.statements;
      items = c.commit.ensures.items;
      memory = c.commit.ensures.memory;
      proof_back = c.commit.ensures.proof_back;
      statements_back = c.commit.ensures.statements_back;
      items_back = c.commit.ensures.items_back;
    })).in_step

pub returns-clause-adds : goal.returns-clause-adds
returns-clause-adds g c =
    done-lemma c.args.items.now c.commit.new.items (Lemma c.args.label c.args.statement c.args.lines) c.args.proof.now c.clear.new.self c.commit.new.proof c.commit.new.statements.entries c.commit.result
    (ap (λ (q : State). q.steps) c.clear.ensures)
    (lemma-done c.args.items.now c.commit.new.items c.args.label c.args.statement c.args.lines c.args.proof.now c.clear.new.self c.enter_stored-entered.new.proof c.commit.new.proof c.args.statements.now.entries
    c.enter_stored-entered.new.statements.entries c.commit.new.statements.entries c.mark_of-mark.result c.args.id c.enter_stored-entered.result c.commit.result c.requires.held c.requires.in_step c.clear.ensures c.requires.accepted
    c.requires.is c.mark_of-mark.ensures
    (record { ok = c.enter_stored-entered.ensures.ok; kept = c.enter_stored-entered.ensures.kept; err = c.enter_stored-entered.ensures.err; front = c.enter_stored-entered.ensures.front })
    (record {
      entered = c.commit.ensures.entered;
      proof = c.commit.ensures.proof;
      statements = c.commit.ensures.statements;
      items = c.commit.ensures.items;
      memory = c.commit.ensures.memory;
      proof_back = c.commit.ensures.proof_back;
      statements_back = c.commit.ensures.statements_back;
      items_back = c.commit.ensures.items_back;
    }))
