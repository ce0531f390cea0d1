use Rattle.std.proofs.Common.{subst, sym, ap, ◌∙◌}
use Rattle.lt_definitions.specs.Types.{Chars}
use Rattle.lt_definitions.specs.Theory.{new_name}
use Rattle.lt_conditions.specs.Refusing.{Refuses, Tests}
use Rattle.lt_conditions.proofs.Refusals.{refuses-first, refuses-next, tests-next, tests-last}
use Rattle.lt_conditions.proofs.item_tests.check_typedef_labels.Goals as goal

pub returns-in-Err : goal.returns-in-Err
returns-in-Err c =
    refuses-first _ _ c.in-Err.fault (subst (λ (l : Chars). Refuses (new_name c.args.statements.now.entries l) c.in-Err.fault) c.in_ok-label.ensures c.in-Err.ensures)

pub returns-in-Err-check_new_label : goal.returns-in-Err-check_new_label
returns-in-Err-check_new_label c =
    refuses-next _ _ _ (sym (ap (new_name c.args.statements.now.entries) c.in_ok-label.ensures) ∙ c.in-Ok.ensures)
    (refuses-first _ _ c.in-Err-check_new_label.fault
    (subst (λ (l : Chars). Refuses (new_name c.args.statements.now.entries l) c.in-Err-check_new_label.fault) c.in_ok-label-2.ensures c.in-Err-check_new_label.ensures))

pub returns : goal.returns
returns c =
    let r = c.check_new_label-3.result in
    tests-next _ _ r (sym (ap (new_name c.args.statements.now.entries) c.in_ok-label.ensures) ∙ c.in-Ok.ensures)
    (tests-next _ _ r (sym (ap (new_name c.args.statements.now.entries) c.in_ok-label-2.ensures) ∙ c.in-Ok-check_new_label.ensures)
    (tests-last _ r (subst (λ (l : Chars). Tests (new_name c.args.statements.now.entries l) r) c.in_ok-label-3.ensures c.check_new_label-3.ensures)))
