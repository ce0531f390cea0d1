use Rattle.lt_conv.specs.Places.{levels_of}
use Rattle.lt_conv.proofs.Placed.{line-found, node-typed, node-inside, made-less}
use Rattle.lt_conv.proofs.everywhere.enter_leaf.Goals as goal

pub settle_leaf-requires-clause-typed : goal.settle_leaf-requires-clause-typed
settle_leaf-requires-clause-typed g c = node-typed (g.A.Conversion.gives c.args.inner.now) c.args.proof.now (levels_of c.args.work.now) c.args.work.now.lines c.args.id c.requires.at

pub settle_leaf-requires-clause-sound : goal.settle_leaf-requires-clause-sound
settle_leaf-requires-clause-sound g c = c.requires.at.sound

pub returns-clause-leads : goal.returns-clause-leads
returns-clause-leads g c = λ q.
    let gives = g.A.Conversion.gives c.args.inner.now in
    let ls = levels_of c.args.work.now in
    let s = c.args.proof.now in
    line-found (gives q.named) s c.settle_leaf.new.proof c.settle_leaf.ensures.carries ls c.args.work.now.lines c.keep.new.lines c.args.id c.in_ok-line.line q.root
    (node-inside gives s ls c.args.work.now.lines c.args.id q) q.known (node-typed gives s ls c.args.work.now.lines c.args.id q).within (c.in_ok-line.ensures.line q.named q.same) c.in_ok-keep.ensures

pub returns-clause-less : goal.returns-clause-less
returns-clause-less g c = made-less (g.A.Conversion.gives c.args.inner.now) c.args.proof.now (levels_of c.args.work.now) c.args.work.now.lines c.args.id c.requires.at c.settle_leaf.new.proof c.in_ok-line.line c.settle_leaf.ensures.carries
