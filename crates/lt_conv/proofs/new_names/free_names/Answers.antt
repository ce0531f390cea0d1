use Rattle.std.proofs.Common.{◌∙◌, ap, arith}
use Rattle.lt_store.specs.Views.{node_of}
use Rattle.lt_conv.specs.Walks.{with_id}
use Rattle.lt_conv.proofs.Visited.{next-within, walk-begins, walk-goes, walk-few, walk-ends}
use Rattle.lt_conv.proofs.new_names.free_names.Goals as goal

pub view-view-requires : goal.view-view-requires
view-view-requires g c = next-within (g.S.TermStore.nodes c.args.store.now) c.args.t c.loop-at.ids.keys c.loop-at.names.keys c.loop-at.at c.index.result.now c.loop-at.invariant c.index.ensures

pub loop-at-init : goal.loop-at-init
loop-at-init g c = walk-begins (g.S.TermStore.nodes c.args.store.now) c.args.t c.insert.new.self.keys c.new-names.result.keys c.requires (c.in_ok-insert.ensures.keys ∙ ap (λ ks. with_id ks c.args.t) c.new-ids.ensures.empty) c.new-names.ensures.empty

pub loop-at-smaller : goal.loop-at-smaller
loop-at-smaller g c =
    let few = walk-few (g.S.TermStore.nodes c.args.store.now) c.args.t c.loop-at.ids.keys c.loop-at.names.keys c.loop-at.at c.loop-at.invariant c.len.ensures.unique in
    omega (arith, few, c.loop-at-test.true, c.len.ensures.len)

pub loop-at-preserved : goal.loop-at-preserved
loop-at-preserved g c = walk-goes (g.S.TermStore.nodes c.args.store.now) c.args.t c.loop-at.ids.keys c.loop-at.names.keys c.loop-at.at c.index.result.now (node_of c.view-view.result) c.loop-at.invariant c.index.ensures
    c.view-view.ensures.stands c.view-view.ensures.below c.add_children.new.ids.keys c.add_name.new.names.keys c.in_ok-add_children.ensures c.in_ok-add_name.ensures

pub returns : goal.returns
returns g c = walk-ends (g.S.TermStore.nodes c.args.store.now) c.args.t c.loop-at.ids.keys c.loop-at.names.keys c.loop-at.at c.loop-at.invariant (omega (arith, c.loop-at-test.false, c.len.ensures.len))
