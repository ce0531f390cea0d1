use Rattle.std.proofs.Common.{refl}
use Rattle.lt_session.proofs.Takings.{item_taken, item_refused, takes_ok, takes_err}
use Rattle.lt_session.proofs.session.Session.take_item.Goals as goal
use Rattle.lt_session.proofs.session.Session.take_item.Goals.{in-Ok, in-Err}

pub returns : goal.returns
returns c =
    elim c.match-add_item.branch [
      | in-Ok w ↦ takes_ok c.args.self.now (record { items = c.add_item.new.th.items; laws = c.self.inside.laws; registry = c.self.inside.relations; limit = c.self.inside.limit }) _ _ c.match-add_item.result w.result-is
          (item_taken c.args.self.now _ _ c.args.item c.next_block-block.result c.self.view_is c.next_block-block.ensures w.in-Ok.ensures.adds.0 w.in-Ok.ensures.adds.1 refl)
      | in-Err w ↦ takes_err c.args.self.now (record { items = c.add_item.new.th.items; laws = c.self.inside.laws; registry = c.self.inside.relations; limit = c.self.inside.limit }) _ _ c.match-add_item.result w.result-is
          (item_refused c.args.self.now _ _ c.args.item w.in-Err.fault _ c.self.view_is w.in-Err.ensures.adds.0 w.in-Err.ensures.adds.1 refl w.of_fault.ensures w.line_of-line.ensures)
    ]
