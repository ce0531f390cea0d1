use Rattle.std.proofs.Common.{◌≤◌, take, map}
use Rattle.lt_hol.specs.Items.{item_of}
use Rattle.lt_io.specs.Written.{Grew}
use Rattle.lt_session.specs.Running.{written_items}
use Rattle.lt_session.proofs.running.write_block.Given as goal

abbrev pub invariant-loop-item : goal.invariant-loop-item
invariant-loop-item g l = record {
  grew : Grew (g.O.Sink.written l.fn.out) (g.O.Sink.written l.out) (written_items l.summary (map item_of (take l.item-index l.block)));
  later : g.O.Sink.faults l.fn.out ≤ g.O.Sink.faults l.out;
}
