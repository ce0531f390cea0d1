use Rattle.lt_conv.specs.Places.{levels_of}
use Rattle.lt_conv.proofs.Placed.{both-parts, application-leads, application-less}
use Rattle.lt_conv.proofs.everywhere.leave_argument.Goals as goal

pub settle_application-requires-clause-parts : goal.settle_application-requires-clause-parts
settle_application-requires-clause-parts g c = both-parts (g.A.Conversion.gives c.args.inner.now) c.args.proof.now (levels_of c.args.work.now) c.args.work.now.lines c.args.id c.args.head c.args.line c.requires

pub settle_application-requires-clause-sound : goal.settle_application-requires-clause-sound
settle_application-requires-clause-sound g c = c.requires.sound

pub returns-clause-leads : goal.returns-clause-leads
returns-clause-leads g c = λ q.
    let gives = g.A.Conversion.gives c.args.inner.now in
    let ls = levels_of c.args.work.now in
    application-leads gives c.args.proof.now ls c.args.work.now.lines c.args.id c.args.head c.args.line q c.settle_application.new.proof c.settle_application.ensures.carries c.in_ok-whole.whole c.keep.new.lines
    (c.in_ok-whole.ensures.line (both-parts gives c.args.proof.now ls c.args.work.now.lines c.args.id c.args.head c.args.line q)) c.in_ok-keep.ensures

pub returns-clause-less : goal.returns-clause-less
returns-clause-less g c = application-less (g.A.Conversion.gives c.args.inner.now) c.args.proof.now (levels_of c.args.work.now) c.args.work.now.lines c.args.id c.args.head c.args.line c.requires c.settle_application.new.proof c.settle_application.ensures.carries c.in_ok-whole.whole
