use Rattle.lt_conditions.proofs.Refusals.{refuses-first, refuses-next, tests-next, tests-last}
use Rattle.lt_conditions.proofs.item_tests.check_typedef_names.Goals as goal

pub returns-in-Err : goal.returns-in-Err
returns-in-Err c = refuses-first _ _ c.in-Err.fault c.in-Err.ensures

pub returns-in-Err-check_new_const : goal.returns-in-Err-check_new_const
returns-in-Err-check_new_const c = refuses-next _ _ _ c.in-Ok.ensures (refuses-first _ _ c.in-Err-check_new_const.fault c.in-Err-check_new_const.ensures)

pub returns-in-Err-check_new_const-2 : goal.returns-in-Err-check_new_const-2
returns-in-Err-check_new_const-2 c =
    refuses-next _ _ _ c.in-Ok.ensures (refuses-next _ _ _ c.in-Ok-check_new_const.ensures (refuses-first _ _ c.in-Err-check_new_const-2.fault c.in-Err-check_new_const-2.ensures))

pub returns : goal.returns
returns c =
    let r = c.check_other.result in
    tests-next _ _ r c.in-Ok.ensures (tests-next _ _ r c.in-Ok-check_new_const.ensures (tests-next _ _ r c.in-Ok-check_new_const-2.ensures (tests-last _ r c.check_other.ensures)))
