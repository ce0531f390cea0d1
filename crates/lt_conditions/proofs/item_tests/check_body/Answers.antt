use Rattle.std.proofs.Common.{subst, List}
use Rattle.lt_definitions.specs.Types.{Chars}
use Rattle.lt_definitions.specs.Theory.{variables_test}
use Rattle.lt_conditions.specs.Refusing.{Tests}
use Rattle.lt_conditions.proofs.Refusals.{refuses-first, refuses-next, tests-next, tests-last}
use Rattle.lt_conditions.proofs.item_tests.check_body.Goals as goal

pub returns-in-Err : goal.returns-in-Err
returns-in-Err c = refuses-first _ _ c.in-Err.fault c.in-Err.ensures

pub returns-in-Err-check_closed : goal.returns-in-Err-check_closed
returns-in-Err-check_closed c = refuses-next _ _ _ c.in-Ok.ensures (refuses-first _ _ c.in-Err-check_closed.fault c.in-Err-check_closed.ensures)

pub returns : goal.returns
returns c =
    let r = c.check_variables.result in
    tests-next _ _ r c.in-Ok.ensures (tests-next _ _ r c.in-Ok-check_closed.ensures (tests-last _ r
    (subst (λ (ns : List Chars). Tests (variables_test ns c.args.body.now) r) c.in_ok-allowed.ensures c.check_variables.ensures)))
