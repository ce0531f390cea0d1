use Rattle.lt_plain.proofs.Steppings.{checked_all, checked_part, checked_none, comes_first, on_by}
use Rattle.lt_plain.proofs.checking.check_plain.Goals as goal

pub returns-in-Err-clause-checked : goal.returns-in-Err-clause-checked
returns-in-Err-clause-checked g c = checked_none c.args.text.now c.args.th.now.items c.in-Err.placed c.requires.empty c.in-Err.ensures.wrong

pub items-init : goal.items-init
items-init g c = record {
  comes = comes_first c.args.text.now c.args.th.now.items c.in-Ok.script.left c.requires.empty c.in-Ok.ensures.header;
  plain = c.in-Ok.ensures.plain;
  in_step = c.requires.in_step;
}

pub items-preserved : goal.items-preserved
items-preserved g c = record {
  comes = on_by c.args.text.now c.items.script.left c.items.th.items c.next_item.new.script.left c.next_item.new.th.items c.items.invariant.comes (rw c.in-Ok-true.field-0-test at c.in-Ok-true.ensures.steps);
  plain = c.next_item.ensures.plain;
  in_step = c.next_item.ensures.in_step;
}

pub returns-in-Ok-false-clause-checked : goal.returns-in-Ok-false-clause-checked
returns-in-Ok-false-clause-checked g c =
    let stands = rw c.in-Ok-false.field-0-test at c.in-Ok-false.ensures.steps in
    checked_all c.args.text.now c.items.script.left c.items.th.items c.next_item.new.th.items c.items.invariant.comes stands.0 stands.1

pub returns-in-Err-next_item-clause-checked : goal.returns-in-Err-next_item-clause-checked
returns-in-Err-next_item-clause-checked g c =
    checked_part c.args.text.now c.items.script.left c.items.th.items c.next_item.new.th.items c.in-Err-next_item.placed c.items.invariant.comes c.in-Err-next_item.ensures.steps.0 c.in-Err-next_item.ensures.steps.1
