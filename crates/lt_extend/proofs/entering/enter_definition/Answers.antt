use Rattle.std.proofs.Common.{◌∙◌, [], ap, sym, subst}
use Rattle.lt_definitions.specs.Types.{Chars, found}
use Rattle.lt_definitions.specs.Terms.{TermTree}
use Rattle.lt_definitions.specs.Typing.{Signature, type_fault}
use Rattle.lt_definitions.specs.Items.{empty, context_of, definition_label}
use Rattle.lt_nameless.specs.Nameless.{nameless, IsWhole}
use Rattle.lt_kernel.specs.State.{State}
use Rattle.lt_extend.proofs.Accepted.{new-definition}
use Rattle.lt_extend.proofs.Behind.{behind-same, behind-on, behind-const}
use Rattle.lt_extend.proofs.Entered.{definition-stands}
use Rattle.lt_extend.proofs.Stands.{unknown-label}
use Rattle.lt_extend.proofs.entering.enter_definition.Goals as goal

pub enter_const-requires : goal.enter_const-requires
enter_const-requires g c =
    let ready = c.requires.1 in
    let d = new-definition c.requires.0 c.args.name.now c.args.ty.now c.args.body.now ready.valid ready.accepted in
    let sig = ready.stands.stands.signature in
    record {
      new = ap (λ (s : Signature). found c.args.name.now s.consts) sig ∙ d.new;
      sound = ap (λ (s : Signature). type_fault s c.args.ty.now) sig ∙ d.sound;
    }

pub enter_statement-requires : goal.enter_statement-requires
enter_statement-requires g c =
    let ready = c.requires.1 in
    let d = new-definition c.requires.0 c.args.name.now c.args.ty.now c.args.body.now ready.valid ready.accepted in
    record {
      whole = subst (λ (t : TermTree). IsWhole 0 (nameless [] t)) (sym c.in_ok-statement.ensures) d.whole;
      new = ap (λ (l : Chars). found l c.enter_const.new.proof.named) c.in_ok-label.ensures ∙ ap (λ (s : State). found (definition_label c.args.name.now) s.named) c.in_ok-enter_const.ensures.ok
          ∙ unknown-label (context_of empty c.requires.0) c.args.proof.now (definition_label c.args.name.now) ready.stands.stands d.label;
      fresh = ap (λ (l : Chars). found l c.args.statements.now.entries) c.in_ok-label.ensures ∙ ap (found (definition_label c.args.name.now)) ready.stands.statements ∙ d.label;
    }

pub returns-in_err-enter_const-clause-behind : goal.returns-in_err-enter_const-clause-behind
returns-in_err-enter_const-clause-behind g c = behind-same c.args.proof.now c.enter_const.new.proof c.in_err-enter_const.ensures.err

pub returns-clause-behind : goal.returns-clause-behind
returns-clause-behind g c =
    behind-on c.args.proof.now c.enter_const.new.proof c.enter_statement.new.proof
    (behind-const c.args.proof.now c.enter_const.new.proof c.args.name.now c.args.ty.now c.in_ok-enter_const.ensures.ok) c.enter_statement.ensures.behind

pub returns-clause-stands : goal.returns-clause-stands
returns-clause-stands g c =
    definition-stands c.args.proof.now c.enter_const.new.proof c.enter_statement.new.proof c.args.statements.now.entries c.enter_statement.new.statements.entries c.args.name.now c.in_ok-label.label
    c.args.ty.now c.args.body.now c.in_ok-statement.statement c.enter_statement.result c.in_ok-enter_const.ensures.ok c.in_ok-label.ensures c.in_ok-statement.ensures c.enter_statement.ensures.stands
