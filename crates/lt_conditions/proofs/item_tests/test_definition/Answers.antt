use Rattle.std.proofs.Common.{◌≡◌, ◌∷◌, [], Ok, Result, sym, subst, ap, ◌∙◌}
use Rattle.lt_definitions.specs.Types.{Chars, TypeTree, type_variables}
use Rattle.lt_definitions.specs.Typing.{Fault, typed}
use Rattle.lt_definitions.specs.Items.{definition_label}
use Rattle.lt_definitions.specs.Theory.{first_of, new_name, stated_type_test, closed_test, variables_test}
use Rattle.lt_conditions.specs.Refusing.{Refuses, Tests}
use Rattle.lt_conditions.proofs.Refusals.{refuses-first, refuses-next, tests-next, term-fine}
use Rattle.lt_conditions.proofs.item_tests.test_definition.Goals as goal

pub returns-in-Err : goal.returns-in-Err
returns-in-Err c = refuses-first _ _ c.in-Err.fault c.in-Err.ensures

pub returns-in-Err-type_of : goal.returns-in-Err-type_of
returns-in-Err-type_of c = refuses-next _ _ _ c.in-Ok.ensures (refuses-first _ _ c.in-Err-type_of.fault c.in-Err-type_of.ensures)

pub returns-in-Err-check_new_const : goal.returns-in-Err-check_new_const
returns-in-Err-check_new_const c =
    refuses-next _ _ _ c.in-Ok.ensures (refuses-next _ _ _ (term-fine c.args.sig.now c.args.body.now c.in-Ok-type_of.found c.in-Ok-type_of.ensures)
    (refuses-first _ _ c.in-Err-check_new_const.fault c.in-Err-check_new_const.ensures))

pub returns-in-Err-check_new_label : goal.returns-in-Err-check_new_label
returns-in-Err-check_new_label c =
    refuses-next _ _ _ c.in-Ok.ensures (refuses-next _ _ _ (term-fine c.args.sig.now c.args.body.now c.in-Ok-type_of.found c.in-Ok-type_of.ensures)
    (refuses-next _ _ _ c.in-Ok-check_new_const.ensures
    (refuses-first _ _ c.in-Err-check_new_label.fault
    (subst (λ (l : Chars). Refuses (new_name c.args.statements.now.entries l) c.in-Err-check_new_label.fault) c.in_ok-label.ensures c.in-Err-check_new_label.ensures))))

pub returns : goal.returns
returns c =
    let r = c.check_body.result in
    tests-next _ _ r c.in-Ok.ensures (tests-next _ _ r (term-fine c.args.sig.now c.args.body.now c.in-Ok-type_of.found c.in-Ok-type_of.ensures)
    (tests-next _ _ r c.in-Ok-check_new_const.ensures
    (tests-next _ _ r (sym (ap (new_name c.args.statements.now.entries) c.in_ok-label.ensures) ∙ c.in-Ok-check_new_label.ensures)
    (subst (λ (q : Result TypeTree Fault). Tests (first_of (stated_type_test c.args.ty.now q ∷ closed_test c.args.body.now ∷ variables_test (type_variables c.args.ty.now) c.args.body.now ∷ [])) r)
    (sym c.in-Ok-type_of.ensures) c.check_body.ensures))))
