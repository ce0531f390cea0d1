use Rattle.lt_conditions.proofs.Refusals.{refuses-first, tests-next, tests-last}
use Rattle.lt_conditions.proofs.item_tests.test_const.Goals as goal

pub returns-in-Err : goal.returns-in-Err
returns-in-Err c = refuses-first _ _ c.in-Err.fault c.in-Err.ensures

pub returns : goal.returns
returns c = tests-next _ _ c.check_new_const.result c.in-Ok.ensures (tests-last _ c.check_new_const.result c.check_new_const.ensures)
