use Rattle.std.proofs.Common.{◌≡◌, ◌+◌, ◌≤◌, ◌∙◌, Some, ap, sym, arith, length}
use Rattle.std.proofs.lemmas.List.{length-take-le}
use Rattle.lt_conditions.proofs.Fronts.{front, made-front, IsFront}
use Rattle.lt_conditions.proofs.applied.term_to.Goals as goal

pub overflow_add-count : goal.overflow_add-count
overflow_add-count c =
    let f : IsFront c.args.t.now c.nodes-nodes.result.now c.args.place = front c.args.t.now c.nodes-nodes.result.now c.args.place c.nodes-nodes.ensures c.requires in
    omega (arith, f.within, c.nodes-nodes.type_inv)

pub slice_bounds-term_of-end : goal.slice_bounds-term_of-end
slice_bounds-term_of-end c =
    let f : IsFront c.args.t.now c.nodes-nodes.result.now c.args.place = front c.args.t.now c.nodes-nodes.result.now c.args.place c.nodes-nodes.ensures c.requires in
    sym (length-take-le (c.args.place + 1) c.nodes-nodes.result.now f.within)

pub term_of-requires : goal.term_of-requires
term_of-requires c =
    let f : IsFront c.args.t.now c.nodes-nodes.result.now c.args.place = front c.args.t.now c.nodes-nodes.result.now c.args.place c.nodes-nodes.ensures c.requires in
    (f.function, f.nodes_are)

pub returns : goal.returns
returns c =
    let f : IsFront c.args.t.now c.nodes-nodes.result.now c.args.place = front c.args.t.now c.nodes-nodes.result.now c.args.place c.nodes-nodes.ensures c.requires in
    made-front c.args.t.now c.nodes-nodes.result.now c.args.place c.term_of.result f c.term_of.ensures
