use Rattle.std.proofs.Common.{◌∙◌, arith}
use Rattle.lt_session.proofs.Runnings.{way_begins, first_cut, header_stops, cut_stops, step_finishes, step_stops, step_goes_on, step_cut}
use Rattle.lt_session.proofs.running.run_text.Goals as goal

pub returns-in-Err-clause-run : goal.returns-in-Err-clause-run
returns-in-Err-clause-run g c =
    header_stops c.args.summary c.args.text.now c.args.session.now (g.O.Sink.written c.args.out.now) c.in-Err.placed c.stop_of.result c.requires c.in-Err.ensures.wrong c.stop_of.ensures

pub returns-in-Err-write_first-clause-run : goal.returns-in-Err-write_first-clause-run
returns-in-Err-write_first-clause-run g c =
    cut_stops c.args.session.now.limit c.args.summary c.args.text.now _ _ _ c.in-Err-write_first.stop c.in-Err-write_first.ensures.written
    (first_cut c.args.summary c.args.text.now c.args.session.now c.in-Ok.script.left _ _ c.requires c.in-Ok.ensures.header c.in-Err-write_first.ensures.front)

pub commands-init : goal.commands-init
commands-init g c = record {
  way = way_begins c.args.summary c.args.text.now c.args.session.now c.in-Ok.script.left _ _ c.requires c.in-Ok.ensures.header c.in-Ok-write_first.ensures.all;
  theory = c.in-Ok.ensures.theory;
  later = c.write_first.ensures.cause.later;
}

pub returns-in-Ok-None-clause-run : goal.returns-in-Ok-None-clause-run
returns-in-Ok-None-clause-run g c =
    step_finishes c.args.session.now.limit c.args.summary c.args.text.now c.commands.session c.next_command.new.session c.commands.script.left c.as_slice.result.now _ _ _ c.finish.result c.commands.invariant.way
    (rw c.in-Ok-None.field-0-is at c.in-Ok-None.ensures.steps) (c.as_slice.ensures ∙ c.items.ensures.items) c.finish.ensures.written c.finish.ensures.all c.finish.ensures.front

pub returns-in-Err-next_command-clause-run : goal.returns-in-Err-next_command-clause-run
returns-in-Err-next_command-clause-run g c =
    step_stops c.args.session.now.limit c.args.summary c.args.text.now c.commands.session c.next_command.new.session c.commands.script.left _ _ c.in-Err-next_command.placed _ c.commands.invariant.way
    c.in-Err-next_command.ensures.steps c.stop_of-in-Err-next_command.ensures

pub commands-preserved : goal.commands-preserved
commands-preserved g c = record {
  way = step_goes_on c.args.session.now.limit c.args.summary c.args.text.now c.commands.session c.next_command.new.session c.commands.script.left c.next_command.new.script.left c.in-Ok-Some.block c.block.result.now _ _ _ c.commands.invariant.way
      (rw c.in-Ok-Some.field-0-is at c.in-Ok-Some.ensures.steps) c.block.ensures c.in-Ok-write_block.ensures.all;
  theory = c.next_command.ensures.theory;
  later = omega (arith, c.commands.invariant.later, c.write_block.ensures.cause.later);
}

pub returns-in-Err-write_block-clause-run : goal.returns-in-Err-write_block-clause-run
returns-in-Err-write_block-clause-run g c =
    step_cut c.args.session.now.limit c.args.summary c.args.text.now c.commands.session c.next_command.new.session c.commands.script.left c.next_command.new.script.left c.in-Ok-Some.block c.block.result.now _ _ _ c.in-Err-write_block.stop c.commands.invariant.way
    (rw c.in-Ok-Some.field-0-is at c.in-Ok-Some.ensures.steps) c.block.ensures c.in-Err-write_block.ensures.written c.in-Err-write_block.ensures.front
