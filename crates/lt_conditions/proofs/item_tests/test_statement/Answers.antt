use Rattle.lt_conditions.proofs.Refusals.{refuses-first, refuses-next, tests-next, tests-last}
use Rattle.lt_conditions.proofs.item_tests.test_statement.Goals as goal

pub returns-in-Err : goal.returns-in-Err
returns-in-Err c = refuses-first _ _ c.in-Err.fault c.in-Err.ensures

pub returns-in-Err-check_new_label : goal.returns-in-Err-check_new_label
returns-in-Err-check_new_label c = refuses-next _ _ _ c.in-Ok.ensures (refuses-first _ _ c.in-Err-check_new_label.fault c.in-Err-check_new_label.ensures)

pub returns : goal.returns
returns c = tests-next _ _ c.check_closed.result c.in-Ok.ensures (tests-next _ _ c.check_closed.result c.in-Ok-check_new_label.ensures (tests-last _ c.check_closed.result c.check_closed.ensures))
