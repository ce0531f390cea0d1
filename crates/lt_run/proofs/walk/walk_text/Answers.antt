-- Items are accepted one after another, until the text is at its end, something is refused, or the walk is cut short.
use Rattle.std.proofs.Common.{◌∙◌, arith}
use Rattle.lt_plain.proofs.Steppings.{comes_first}
use Rattle.lt_run.proofs.Walking.{way_begins, way_goes_on, way_cut_in_line, way_finishes, way_stops, header_stops, cut_stops}
use Rattle.lt_run.proofs.walk.walk_text.Goals as goal

pub returns-in-Err-clause-walked : goal.returns-in-Err-clause-walked
returns-in-Err-clause-walked g c =
    header_stops c.args.text.now c.args.th.now.items (g.O.Sink.written c.args.out.now) c.in-Err.placed c.stop_of.result c.requires.empty c.in-Err.ensures.wrong c.stop_of.ensures

pub items-init : goal.items-init
items-init g c = record {
  way = way_begins c.args.text.now c.args.th.now.items c.in-Ok.script.left (g.O.Sink.written c.args.out.now) c.requires.empty
      (comes_first c.args.text.now c.args.th.now.items c.in-Ok.script.left c.requires.empty c.in-Ok.ensures.header);
  plain = c.in-Ok.ensures.plain;
  in_step = c.requires.in_step;
  later = omega arith;
}

pub returns-in-Ok-false-clause-walked : goal.returns-in-Ok-false-clause-walked
returns-in-Ok-false-clause-walked g c =
    let stands = rw c.in-Ok-false.field-0-test at c.in-Ok-false.ensures.steps in
    way_finishes c.args.text.now c.items.th.items c.next_item.new.th.items _ c.items.script.left _ _ _ c.finish.result c.items.invariant.way stands.0 stands.1 (c.as_slice.ensures ∙ c.items-in-Ok-false.ensures.items) c.finish.ensures.written c.finish.ensures.all c.finish.ensures.front

pub returns-in-Err-next_item-clause-walked : goal.returns-in-Err-next_item-clause-walked
returns-in-Err-next_item-clause-walked g c =
    way_stops c.args.text.now c.items.th.items c.next_item.new.th.items c.items.script.left _ _ c.in-Err-next_item.placed _ c.items.invariant.way c.in-Err-next_item.ensures.steps.0
    c.in-Err-next_item.ensures.steps.1 c.stop_of-in-Err-next_item.ensures

pub items-preserved : goal.items-preserved
items-preserved g c =
    let next = rw c.in-Ok-true.field-0-test at c.in-Ok-true.ensures.steps in record {
      way = way_goes_on c.args.text.now c.items.th.items c.next_item.new.th.items c.items.script.left c.next_item.new.script.left _ _ _ c.items.invariant.way next
          (c.in-Ok-report_last.ensures.all c.items.th.items next.item (c.as_slice-in-items.ensures ∙ c.items-in-items.ensures.items ∙ next.items));
      plain = c.next_item.ensures.plain;
      in_step = c.next_item.ensures.in_step;
      later = omega (arith, c.items.invariant.later, c.report_last.ensures.cause.later);
    }

pub returns-in-Err-report_last-clause-walked : goal.returns-in-Err-report_last-clause-walked
returns-in-Err-report_last-clause-walked g c =
    let next = rw c.in-Ok-true.field-0-test at c.in-Ok-true.ensures.steps in
    cut_stops c.args.text.now _ _ _ c.in-Err-report_last.stop c.in-Err-report_last.ensures.written
    (way_cut_in_line c.args.text.now c.items.th.items c.next_item.new.th.items c.items.script.left c.next_item.new.script.left _ _ _ c.items.invariant.way next
    (c.in-Err-report_last.ensures.front c.items.th.items next.item (c.as_slice-in-items.ensures ∙ c.items-in-items.ensures.items ∙ next.items)))
