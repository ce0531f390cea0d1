use Rattle.std.proofs.Common.{◌≡◌, [], None, Ok, ap, subst}
use Rattle.lt_definitions.specs.Types.{Chars, fun, bool}
use Rattle.lt_definitions.specs.Typing.{Signature, typed}
use Rattle.lt_definitions.specs.Theory.{refusal}
use Rattle.lt_hol.specs.declared.item.Item.TheVariants.{Typedef}
use Rattle.lt_hol.specs.Items.{item_of}
use Rattle.lt_conditions.specs.Refusing.{Refuses, context_at}
use Rattle.lt_extend.specs.Theories.{context_behind, items_of}
use Rattle.lt_extend.proofs.Committed.{grown, same-item, adds-refused, in-step-inside, held-stands, entered-by, ready}
use Rattle.lt_extend.proofs.Entered.{typedef-labelled}
use Rattle.lt_extend.proofs.theory.Theory.typedef.Goals as goal

pub returns-in-Err-clause-adds : goal.returns-in-Err-clause-adds
returns-in-Err-clause-adds g c =
    adds-refused c.self.inside.items c.self.inside.proof c.self.inside.statements.entries c.args.self.now (Typedef c.args.name c.args.params c.args.pred c.args.by.now c.args.abs c.args.rep) c.in-Err.fault c.self.view_is c.self.invariant c.requires
    (subst (λ (sig : Signature). Refuses (refusal (context_at sig c.self.inside.statements.entries) (item_of (Typedef c.args.name c.args.params c.args.pred c.args.by.now c.args.abs c.args.rep))) c.in-Err.fault) c.signature-sig.ensures c.in-Err.ensures)

pub enter_typedef-entered-requires : goal.enter_typedef-entered-requires
enter_typedef-entered-requires g c =
    let both = (subst (λ (sig : Signature). (refusal (context_at sig c.self.inside.statements.entries) (item_of (Typedef c.args.name c.args.params c.args.pred c.args.by.now c.args.abs c.args.rep)) ≡ None) × (typed sig [] c.args.pred ≡ Ok (fun c.in-Ok.raw bool))) c.signature-sig.ensures c.in-Ok.ensures) in
    record {
      over = both.1;
      ready = (items_of c.self.inside.items, c.args.by.now, ready c.self.inside.items c.self.inside.proof c.self.inside.statements.entries (item_of (Typedef c.args.name c.args.params c.args.pred c.args.by.now c.args.abs c.args.rep)) c.self.invariant (in-step-inside c.self.inside.items c.self.inside.proof c.args.self.now c.self.view_is c.requires) both.0);
    }

pub returns-clause-adds : goal.returns-clause-adds
returns-clause-adds g c =
    (grown c.self.inside.items c.commit.new.items (Typedef c.args.name c.args.params c.args.pred c.args.by.now c.args.abs c.args.rep) c.self.inside.proof c.enter_typedef-entered.new.proof c.commit.new.proof c.self.inside.statements.entries c.enter_typedef-entered.new.statements.entries c.commit.new.statements.entries c.mark_of-mark.result c.enter_typedef-entered.result c.commit.result c.args.self.now
    c.self.view_is c.self.invariant c.requires (subst (λ (sig : Signature). (refusal (context_at sig c.self.inside.statements.entries) (item_of (Typedef c.args.name c.args.params c.args.pred c.args.by.now c.args.abs c.args.rep)) ≡ None) × (typed sig [] c.args.pred ≡ Ok (fun c.in-Ok.raw bool))) c.signature-sig.ensures c.in-Ok.ensures).0
    c.mark_of-mark.ensures
    (entered-by (context_behind c.self.inside.items) (item_of (Typedef c.args.name c.args.params c.args.pred c.args.by.now c.args.abs c.args.rep)) c.self.inside.proof c.enter_typedef-entered.new.proof c.self.inside.statements.entries c.enter_typedef-entered.new.statements.entries c.enter_typedef-entered.result (held-stands c.self.inside.items c.self.inside.proof c.self.inside.statements.entries c.self.invariant (in-step-inside c.self.inside.items c.self.inside.proof c.args.self.now c.self.view_is c.requires)) c.enter_typedef-entered.ensures.behind c.enter_typedef-entered.ensures.front
    (typedef-labelled c.self.inside.proof c.enter_typedef-entered.new.proof c.self.inside.statements.entries c.enter_typedef-entered.new.statements.entries c.args.name c.args.by.now c.args.abs c.args.rep c.args.params c.args.pred c.enter_typedef-entered.result c.enter_typedef-entered.ensures.stands))
    (record {
      entered = c.commit.ensures.entered;
      proof = c.commit.ensures.proof;
      statements = c.commit.ensures.statements;
      items = same-item c.commit.result c.self.inside.items c.commit.new.items _ (Typedef c.args.name c.args.params c.args.pred c.args.by.now c.args.abs c.args.rep) (ap (λ (l : Chars). Typedef c.args.name c.args.params c.args.pred l c.args.abs c.args.rep) c.in_ok-label.ensures) c.commit.ensures.items;
      memory = c.commit.ensures.memory;
      proof_back = c.commit.ensures.proof_back;
      statements_back = c.commit.ensures.statements_back;
      items_back = c.commit.ensures.items_back;
    })).adds

pub returns-clause-in_step : goal.returns-clause-in_step
returns-clause-in_step g c =
    (grown c.self.inside.items c.commit.new.items (Typedef c.args.name c.args.params c.args.pred c.args.by.now c.args.abs c.args.rep) c.self.inside.proof c.enter_typedef-entered.new.proof c.commit.new.proof c.self.inside.statements.entries c.enter_typedef-entered.new.statements.entries c.commit.new.statements.entries c.mark_of-mark.result c.enter_typedef-entered.result c.commit.result c.args.self.now
    c.self.view_is c.self.invariant c.requires (subst (λ (sig : Signature). (refusal (context_at sig c.self.inside.statements.entries) (item_of (Typedef c.args.name c.args.params c.args.pred c.args.by.now c.args.abs c.args.rep)) ≡ None) × (typed sig [] c.args.pred ≡ Ok (fun c.in-Ok.raw bool))) c.signature-sig.ensures c.in-Ok.ensures).0
    c.mark_of-mark.ensures
    (entered-by (context_behind c.self.inside.items) (item_of (Typedef c.args.name c.args.params c.args.pred c.args.by.now c.args.abs c.args.rep)) c.self.inside.proof c.enter_typedef-entered.new.proof c.self.inside.statements.entries c.enter_typedef-entered.new.statements.entries c.enter_typedef-entered.result (held-stands c.self.inside.items c.self.inside.proof c.self.inside.statements.entries c.self.invariant (in-step-inside c.self.inside.items c.self.inside.proof c.args.self.now c.self.view_is c.requires)) c.enter_typedef-entered.ensures.behind c.enter_typedef-entered.ensures.front
    (typedef-labelled c.self.inside.proof c.enter_typedef-entered.new.proof c.self.inside.statements.entries c.enter_typedef-entered.new.statements.entries c.args.name c.args.by.now c.args.abs c.args.rep c.args.params c.args.pred c.enter_typedef-entered.result c.enter_typedef-entered.ensures.stands))
    (record {
      entered = c.commit.ensures.entered;
      proof = c.commit.ensures.proof;
      statements = c.commit.ensures.statements;
      items = same-item c.commit.result c.self.inside.items c.commit.new.items _ (Typedef c.args.name c.args.params c.args.pred c.args.by.now c.args.abs c.args.rep) (ap (λ (l : Chars). Typedef c.args.name c.args.params c.args.pred l c.args.abs c.args.rep) c.in_ok-label.ensures) c.commit.ensures.items;
      memory = c.commit.ensures.memory;
      proof_back = c.commit.ensures.proof_back;
      statements_back = c.commit.ensures.statements_back;
      items_back = c.commit.ensures.items_back;
    })).in_step

pub invariant_of-self : goal.invariant_of-self
invariant_of-self g c =
    (grown c.self.inside.items c.commit.new.items (Typedef c.args.name c.args.params c.args.pred c.args.by.now c.args.abs c.args.rep) c.self.inside.proof c.enter_typedef-entered.new.proof c.commit.new.proof c.self.inside.statements.entries c.enter_typedef-entered.new.statements.entries c.commit.new.statements.entries c.mark_of-mark.result c.enter_typedef-entered.result c.commit.result c.args.self.now
    c.self.view_is c.self.invariant c.requires (subst (λ (sig : Signature). (refusal (context_at sig c.self.inside.statements.entries) (item_of (Typedef c.args.name c.args.params c.args.pred c.args.by.now c.args.abs c.args.rep)) ≡ None) × (typed sig [] c.args.pred ≡ Ok (fun c.in-Ok.raw bool))) c.signature-sig.ensures c.in-Ok.ensures).0
    c.mark_of-mark.ensures
    (entered-by (context_behind c.self.inside.items) (item_of (Typedef c.args.name c.args.params c.args.pred c.args.by.now c.args.abs c.args.rep)) c.self.inside.proof c.enter_typedef-entered.new.proof c.self.inside.statements.entries c.enter_typedef-entered.new.statements.entries c.enter_typedef-entered.result (held-stands c.self.inside.items c.self.inside.proof c.self.inside.statements.entries c.self.invariant (in-step-inside c.self.inside.items c.self.inside.proof c.args.self.now c.self.view_is c.requires)) c.enter_typedef-entered.ensures.behind c.enter_typedef-entered.ensures.front
    (typedef-labelled c.self.inside.proof c.enter_typedef-entered.new.proof c.self.inside.statements.entries c.enter_typedef-entered.new.statements.entries c.args.name c.args.by.now c.args.abs c.args.rep c.args.params c.args.pred c.enter_typedef-entered.result c.enter_typedef-entered.ensures.stands))
    (record {
      entered = c.commit.ensures.entered;
      proof = c.commit.ensures.proof;
      statements = c.commit.ensures.statements;
      items = same-item c.commit.result c.self.inside.items c.commit.new.items _ (Typedef c.args.name c.args.params c.args.pred c.args.by.now c.args.abs c.args.rep) (ap (λ (l : Chars). Typedef c.args.name c.args.params c.args.pred l c.args.abs c.args.rep) c.in_ok-label.ensures) c.commit.ensures.items;
      memory = c.commit.ensures.memory;
      proof_back = c.commit.ensures.proof_back;
      statements_back = c.commit.ensures.statements_back;
      items_back = c.commit.ensures.items_back;
    })).held
