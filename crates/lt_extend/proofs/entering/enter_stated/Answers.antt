use Rattle.std.proofs.Common.{◌∙◌, ap}
use Rattle.lt_definitions.specs.Types.{TypeTree, same_name}
use Rattle.lt_definitions.specs.Items.{rep_label, rep_inverse_label, abs_inverse_label, rep_statement, rep_inverse_statement, abs_inverse_statement}
use Rattle.lt_extend.proofs.Accepted.{inverse-other, abs-other, inverses-differ}
use Rattle.lt_extend.proofs.Entered.{stated-as, stated-later, stated-all, front-three, behind-three}
use Rattle.lt_extend.proofs.entering.enter_stated.Goals as goal

pub enter_statement-requires : goal.enter_statement-requires
enter_statement-requires g c =
    let t1 = c.in_ok-first.ensures ∙ ap (λ (t : TypeTree). rep_statement t c.args.raw.now c.args.predicate.now c.args.rep.now) c.in_ok-new.ensures in
    let q = stated-as c.args.proof.now.named c.args.statements.now.entries c.in_ok-first_label.first_label (rep_label c.args.name.now) c.in_ok-first.first _ c.in_ok-first_label.ensures t1 c.requires.first in
    record { whole = q.whole; new = q.new; fresh = q.fresh }

pub enter_statement-requires-2 : goal.enter_statement-requires-2
enter_statement-requires-2 g c =
    let t2 = c.in_ok-second.ensures ∙ ap (λ (t : TypeTree). rep_inverse_statement t c.args.raw.now c.args.abs.now c.args.rep.now) c.in_ok-new.ensures in
    let d = ap (same_name (rep_inverse_label c.args.name.now)) c.in_ok-first_label.ensures ∙ inverse-other c.args.name.now in
    let h = stated-later c.args.proof.now.named c.enter_statement.new.proof.named c.args.statements.now.entries c.enter_statement.new.statements.entries (rep_inverse_label c.args.name.now) c.in_ok-first_label.first_label _ c.in_ok-first.first
    c.requires.second c.in_ok-enter_statement.ensures.named c.in_ok-enter_statement.ensures.entries d in
    let q = stated-as c.enter_statement.new.proof.named c.enter_statement.new.statements.entries c.in_ok-second_label.second_label (rep_inverse_label c.args.name.now) c.in_ok-second.second _ c.in_ok-second_label.ensures t2 h in
    record { whole = q.whole; new = q.new; fresh = q.fresh }

pub enter_statement-requires-3 : goal.enter_statement-requires-3
enter_statement-requires-3 g c =
    let t3 = c.in_ok-third.ensures ∙ ap (λ (t : TypeTree). abs_inverse_statement t c.args.raw.now c.args.predicate.now c.args.abs.now c.args.rep.now) c.in_ok-new.ensures in
    let d = ap (same_name (abs_inverse_label c.args.name.now)) c.in_ok-first_label.ensures ∙ abs-other c.args.name.now in
    let d2 = ap (same_name (abs_inverse_label c.args.name.now)) c.in_ok-second_label.ensures ∙ inverses-differ c.args.name.now in
    let h = stated-later c.args.proof.now.named c.enter_statement.new.proof.named c.args.statements.now.entries c.enter_statement.new.statements.entries (abs_inverse_label c.args.name.now) c.in_ok-first_label.first_label _ c.in_ok-first.first
    c.requires.third c.in_ok-enter_statement.ensures.named c.in_ok-enter_statement.ensures.entries d in
    let h2 = stated-later c.enter_statement.new.proof.named c.enter_statement-2.new.proof.named c.enter_statement.new.statements.entries c.enter_statement-2.new.statements.entries (abs_inverse_label c.args.name.now)
    c.in_ok-second_label.second_label _ c.in_ok-second.second h c.in_ok-enter_statement-2.ensures.named c.in_ok-enter_statement-2.ensures.entries d2 in
    let q = stated-as c.enter_statement-2.new.proof.named c.enter_statement-2.new.statements.entries c.in_ok-third_label.third_label (abs_inverse_label c.args.name.now) c.in_ok-third.third _ c.in_ok-third_label.ensures t3 h2 in
    record { whole = q.whole; new = q.new; fresh = q.fresh }

pub returns-clause-behind : goal.returns-clause-behind
returns-clause-behind g c =
    behind-three c.args.proof.now c.enter_statement.new.proof c.enter_statement-2.new.proof c.enter_statement-3.new.proof c.enter_statement.ensures.behind c.enter_statement-2.ensures.behind c.enter_statement-3.ensures.behind

pub returns-clause-front : goal.returns-clause-front
returns-clause-front g c =
    front-three c.args.statements.now.entries c.enter_statement.new.statements.entries c.enter_statement-2.new.statements.entries c.enter_statement-3.new.statements.entries
    c.enter_statement.ensures.front c.enter_statement-2.ensures.front c.enter_statement-3.ensures.front

pub returns-clause-stands : goal.returns-clause-stands
returns-clause-stands g c =
    let t1 = c.in_ok-first.ensures ∙ ap (λ (t : TypeTree). rep_statement t c.args.raw.now c.args.predicate.now c.args.rep.now) c.in_ok-new.ensures in
    let t2 = c.in_ok-second.ensures ∙ ap (λ (t : TypeTree). rep_inverse_statement t c.args.raw.now c.args.abs.now c.args.rep.now) c.in_ok-new.ensures in
    let t3 = c.in_ok-third.ensures ∙ ap (λ (t : TypeTree). abs_inverse_statement t c.args.raw.now c.args.predicate.now c.args.abs.now c.args.rep.now) c.in_ok-new.ensures in
    stated-all c.args.proof.now c.enter_statement.new.proof c.enter_statement-2.new.proof c.enter_statement-3.new.proof
    c.args.statements.now.entries c.enter_statement.new.statements.entries c.enter_statement-2.new.statements.entries c.enter_statement-3.new.statements.entries
    c.in_ok-first_label.first_label c.in_ok-second_label.second_label c.in_ok-third_label.third_label c.in_ok-first.first c.in_ok-second.second c.in_ok-third.third _ _ _ c.enter_statement-3.result
    (λ i. (c.in_ok-first_label.ensures i, t1 i)) (λ i. (c.in_ok-second_label.ensures i, t2 i)) (λ i. (c.in_ok-third_label.ensures i, t3 i))
    c.in_ok-enter_statement.ensures.stands c.in_ok-enter_statement-2.ensures.stands c.enter_statement-3.ensures.stands
