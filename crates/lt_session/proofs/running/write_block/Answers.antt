use Rattle.std.proofs.Common.{arith}
use Rattle.lt_session.proofs.WrittenItems.{item_written, item_cut}
use Rattle.lt_session.proofs.running.write_block.Goals as goal

pub returns-in-Err-clause-front : goal.returns-in-Err-clause-front
returns-in-Err-clause-front g c =
    item_cut c.args.summary c.args.block.now c.loop-item.item-index c.item-item.result _ _ _ c.loop-item-test.true c.item-item.is c.loop-item.invariant.grew c.in-Err.ensures.front

pub loop-item-preserved : goal.loop-item-preserved
loop-item-preserved g c = record {
  grew = item_written c.args.summary c.args.block.now c.loop-item.item-index c.item-item.result _ _ _ c.loop-item-test.true c.item-item.is c.loop-item.invariant.grew c.in-Ok.ensures.all;
  later = omega (arith, c.loop-item.invariant.later, c.write_one.ensures.cause.later);
}
