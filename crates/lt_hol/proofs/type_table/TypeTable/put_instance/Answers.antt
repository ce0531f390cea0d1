use Rattle.std.proofs.Common.{◌≡◌, ◌∙◌, ◌+◌, [], ◌∷◌, List, take, map, arith, length, sym, ap, subst}
use Rattle.std.specs.List.{zip}
use Rattle.lt_definitions.specs.Types.{TypeTree, TypeMap, row, type_instance}
use Rattle.lt_types.specs.Layout.{HasRoom, forest}
use Rattle.lt_types.proofs.LayoutLemmas.{step, whole, IsStep}
use Rattle.lt_types.proofs.MapLemmas.{room-type_instance}
use Rattle.lt_hol.specs.TypeTables.{types_at, is_part_of_some, ExtendsBy}
use Rattle.lt_hol.specs.Instances.{grown_by}
use Rattle.lt_hol.proofs.AddedTypes.{by-node, part-grow-instance}
use Rattle.lt_hol.proofs.DistinctTypes.{extends-then, all-more}
use Rattle.lt_hol.proofs.TypeNumbers.{AreNumbers, one-number, some-number, extends-length}
use Rattle.lt_hol.proofs.VariableNames.{part-later, argument-below}
use Rattle.lt_hol.proofs.type_table.TypeTable.put_instance.Goals as goal

pub put_part-requires-clause-below : goal.put_part-requires-clause-below
put_part-requires-clause-below c = c.loop-node.invariant.numbers.below

pub put_part-requires-clause-room : goal.put_part-requires-clause-room
put_part-requires-clause-room c =
    let now : IsStep c.nodes-node-items.result.now c.loop-node.node-index c.node-item.result =
    step _ c.args.declared.now _ _ c.nodes-node-items.ensures c.loop-node-test.true c.node-item.is
    in subst (λ (ts : List TypeTree). HasRoom ts c.node-item.result) (sym c.loop-node.invariant.numbers.made) (room-type_instance (zip c.args.variables.now.keys (types_at c.args.self.now c.args.args.now)) _ _ now.room)

pub put_part-requires-clause-argument : goal.put_part-requires-clause-argument
put_part-requires-clause-argument c =
    argument-below (length c.loop-node.self) c.args.variables.now.keys c.args.args.now c.node-item.result c.argument_of-argument.result
    (all-more (length c.args.self.now) (length c.loop-node.self) c.args.args.now (extends-length c.args.self.now c.loop-node.self c.loop-node.invariant.grows) c.requires.below) c.argument_of-argument.ensures

pub loop-node-preserved : goal.loop-node-preserved
loop-node-preserved c =
    let now : IsStep c.nodes-node-items.result.now c.loop-node.node-index c.node-item.result =
    step _ c.args.declared.now _ _ c.nodes-node-items.ensures c.loop-node-test.true c.node-item.is
    in let by : TypeMap = zip c.args.variables.now.keys (types_at c.args.self.now c.args.args.now)
    in let made : types_at c.put_part.new.self c.in_ok-numbers.numbers.items ≡ map (type_instance by) (forest [] (take (c.loop-node.node-index + 1) c.nodes-node-items.result.now)) =
    c.in_ok-numbers.ensures.types ∙ ap (λ (ts : List TypeTree). grown_by c.loop-node.self ts c.node-item.result c.argument_of-argument.result) c.loop-node.invariant.numbers.made
    ∙ part-later c.args.self.now c.loop-node.self c.args.variables.now.keys c.args.args.now (forest [] (take c.loop-node.node-index c.nodes-node-items.result.now)) c.node-item.result c.argument_of-argument.result
    c.loop-node.invariant.grows c.requires.below c.argument_of-argument.ensures
    ∙ ap (map (type_instance by)) (sym now.next)
    in record {
      numbers = record {
        made = made;
        below = c.in_ok-numbers.ensures.below;
      };
      grows = extends-then c.args.self.now c.loop-node.self c.put_part.new.self c.loop-node.invariant.grows c.in_ok-numbers.ensures.grows;
      added = by-node c.args.self.now c.loop-node.self c.put_part.new.self (map (type_instance by) (forest [] (take c.loop-node.node-index c.nodes-node-items.result.now)))
          (map (type_instance by) (forest [] (take (c.loop-node.node-index + 1) c.nodes-node-items.result.now))) (types_at c.put_part.new.self c.in_ok-numbers.numbers.items)
          (λ t h. ap (λ (ts : List TypeTree). is_part_of_some t (row (map (type_instance by) ts))) now.next ∙ part-grow-instance by t (forest [] (take c.loop-node.node-index c.nodes-node-items.result.now)) c.node-item.result h)
          c.loop-node.invariant.added c.in_ok-numbers.ensures.added made;
    }

pub index-requires : goal.index-requires
index-requires c =
    let by : TypeMap = zip c.args.variables.now.keys (types_at c.args.self.now c.args.args.now) in
    let done : forest [] (take c.loop-node.node-index c.nodes-node-items.result.now) ≡ c.args.declared.now ∷ [] =
    whole _ c.args.declared.now _ c.nodes-node-items.ensures c.loop-node.auto.node-index-end c.loop-node-test.false in
    omega (
      arith,
      c.loop-node.numbers.ok.0,
      some-number c.loop-node.self c.loop-node.numbers.items (type_instance by c.args.declared.now)
          (subst (λ (ts : List TypeTree). AreNumbers c.loop-node.self c.loop-node.numbers.items (map (type_instance by) ts)) done c.loop-node.invariant.numbers),
    )

pub returns-clause-added : goal.returns-clause-added
returns-clause-added c =
    let by : TypeMap = zip c.args.variables.now.keys (types_at c.args.self.now c.args.args.now) in
    subst (λ (ts : List TypeTree). ExtendsBy (map (type_instance by) ts) c.args.self.now c.loop-node.self)
    (whole _ c.args.declared.now _ c.nodes-node-items.ensures c.loop-node.auto.node-index-end c.loop-node-test.false) c.loop-node.invariant.added

pub returns-clause-ok : goal.returns-clause-ok
returns-clause-ok c =
    let by : TypeMap = zip c.args.variables.now.keys (types_at c.args.self.now c.args.args.now) in
    let done : forest [] (take c.loop-node.node-index c.nodes-node-items.result.now) ≡ c.args.declared.now ∷ [] =
    whole _ c.args.declared.now _ c.nodes-node-items.ensures c.loop-node.auto.node-index-end c.loop-node-test.false in
    one-number c.loop-node.self c.loop-node.numbers.items (type_instance by c.args.declared.now) c.index.result.now
    (subst (λ (ts : List TypeTree). AreNumbers c.loop-node.self c.loop-node.numbers.items (map (type_instance by) ts)) done c.loop-node.invariant.numbers) c.index.ensures
