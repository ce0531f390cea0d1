use Rattle.std.proofs.Common.{◌≡◌, ◌∙◌, ◌+◌, [], ◌∷◌, List, take, arith, sym, ap, subst}
use Rattle.lt_definitions.specs.Types.{TypeTree, row}
use Rattle.lt_types.specs.Layout.{HasRoom, grow, forest}
use Rattle.lt_types.proofs.LayoutLemmas.{step, whole, IsStep}
use Rattle.lt_hol.specs.TypeTables.{types_at, is_part_of_some, ExtendsBy}
use Rattle.lt_hol.proofs.AddedTypes.{by-node, part-grow}
use Rattle.lt_hol.proofs.DistinctTypes.{extends-then}
use Rattle.lt_hol.proofs.TypeNumbers.{AreNumbers, one-number, some-number}
use Rattle.lt_hol.proofs.type_table.TypeTable.intern_nodes.Goals as goal

pub put-requires-clause-room : goal.put-requires-clause-room
put-requires-clause-room c =
    let now : IsStep c.nodes-node-items.result.now c.loop-node.node-index c.node-item.result =
    step _ c.args.ty.now _ _ c.nodes-node-items.ensures c.loop-node-test.true c.node-item.is
    in subst (λ (ts : List TypeTree). HasRoom ts c.node-item.result) (sym c.loop-node.invariant.numbers.made) now.room

pub loop-node-preserved : goal.loop-node-preserved
loop-node-preserved c =
    let now : IsStep c.nodes-node-items.result.now c.loop-node.node-index c.node-item.result =
    step _ c.args.ty.now _ _ c.nodes-node-items.ensures c.loop-node-test.true c.node-item.is
    in let made : types_at c.put.new.self c.in_ok-numbers.numbers.items ≡ forest [] (take (c.loop-node.node-index + 1) c.nodes-node-items.result.now) =
    c.in_ok-numbers.ensures.types ∙ ap (λ (ts : List TypeTree). grow ts c.node-item.result) c.loop-node.invariant.numbers.made ∙ sym now.next
    in record {
      numbers = record {
        made = made;
        below = c.in_ok-numbers.ensures.below;
      };
      grows = extends-then c.args.self.now c.loop-node.self c.put.new.self c.loop-node.invariant.grows c.in_ok-numbers.ensures.grows;
      added = by-node c.args.self.now c.loop-node.self c.put.new.self (forest [] (take c.loop-node.node-index c.nodes-node-items.result.now)) (forest [] (take (c.loop-node.node-index + 1) c.nodes-node-items.result.now))
          (types_at c.put.new.self c.in_ok-numbers.numbers.items)
          (λ t h. ap (λ (ts : List TypeTree). is_part_of_some t (row ts)) now.next ∙ part-grow t (forest [] (take c.loop-node.node-index c.nodes-node-items.result.now)) c.node-item.result h)
          c.loop-node.invariant.added c.in_ok-numbers.ensures.added made;
    }

pub index-requires : goal.index-requires
index-requires c =
    let done : forest [] (take c.loop-node.node-index c.nodes-node-items.result.now) ≡ c.args.ty.now ∷ [] =
    whole _ c.args.ty.now _ c.nodes-node-items.ensures c.loop-node.auto.node-index-end c.loop-node-test.false in
    omega (arith, c.loop-node.numbers.ok.0, some-number c.loop-node.self c.loop-node.numbers.items c.args.ty.now (subst (AreNumbers c.loop-node.self c.loop-node.numbers.items) done c.loop-node.invariant.numbers))

pub returns-clause-added : goal.returns-clause-added
returns-clause-added c =
    subst (λ (ts : List TypeTree). ExtendsBy ts c.args.self.now c.loop-node.self)
    (whole _ c.args.ty.now _ c.nodes-node-items.ensures c.loop-node.auto.node-index-end c.loop-node-test.false) c.loop-node.invariant.added

pub returns-clause-ok : goal.returns-clause-ok
returns-clause-ok c =
    let done : forest [] (take c.loop-node.node-index c.nodes-node-items.result.now) ≡ c.args.ty.now ∷ [] =
    whole _ c.args.ty.now _ c.nodes-node-items.ensures c.loop-node.auto.node-index-end c.loop-node-test.false in
    one-number c.loop-node.self c.loop-node.numbers.items c.args.ty.now c.index.result.now (subst (AreNumbers c.loop-node.self c.loop-node.numbers.items) done c.loop-node.invariant.numbers) c.index.ensures
