use Rattle.lt_conv.specs.Places.{levels_of}
use Rattle.lt_conv.proofs.Placed.{the-body, abstraction-leads, abstraction-less}
use Rattle.lt_conv.proofs.everywhere.leave_body.Goals as goal

pub settle_abstraction-requires-clause-body : goal.settle_abstraction-requires-clause-body
settle_abstraction-requires-clause-body g c = the-body (g.A.Conversion.gives c.args.inner.now) c.args.proof.now (levels_of c.args.work.now) c.args.work.now.lines c.args.id c.args.x.now c.args.ty.now c.args.line c.requires

pub settle_abstraction-requires-clause-sound : goal.settle_abstraction-requires-clause-sound
settle_abstraction-requires-clause-sound g c = c.requires.sound

pub returns-clause-leads : goal.returns-clause-leads
returns-clause-leads g c = λ q.
    let gives = g.A.Conversion.gives c.args.inner.now in
    let ls = levels_of c.args.work.now in
    abstraction-leads gives c.args.proof.now ls c.args.work.now.lines c.args.id c.args.x.now c.args.ty.now c.args.line q c.settle_abstraction.new.proof c.settle_abstraction.ensures.carries c.in_ok-whole.whole c.keep.new.lines
    (c.in_ok-whole.ensures.line (the-body gives c.args.proof.now ls c.args.work.now.lines c.args.id c.args.x.now c.args.ty.now c.args.line q)) c.in_ok-keep.ensures

pub returns-clause-less : goal.returns-clause-less
returns-clause-less g c = abstraction-less (g.A.Conversion.gives c.args.inner.now) c.args.proof.now (levels_of c.args.work.now) c.args.work.now.lines c.args.id c.args.x.now c.args.ty.now c.args.line c.requires c.settle_abstraction.new.proof c.settle_abstraction.ensures.carries c.in_ok-whole.whole
