use Rattle.lt_conv.specs.declared.places.Level.TheVariants.{Function}
use Rattle.lt_conv.specs.Places.{levels_of}
use Rattle.lt_conv.proofs.Placed.{level-pushed, node-typed, head-leads, head-less}
use Rattle.lt_conv.proofs.everywhere.enter_application.Goals as goal

pub application-head-requires-clause-t : goal.application-head-requires-clause-t
application-head-requires-clause-t g c = (node-typed (g.A.Conversion.gives c.args._inner.now) c.args.proof.now (levels_of c.args.work.now) c.args.work.now.lines c.args.id c.requires.at).within

pub returns-clause-leads : goal.returns-clause-leads
returns-clause-leads g c = λ q.
    head-leads (g.A.Conversion.gives c.args._inner.now) c.args.proof.now (levels_of c.args.work.now) c.args.work.now.lines c.args.id q c.application-head.result.0 c.application-head.result.1
    c.application-head.ensures.function c.application-head.ensures.is _ (level-pushed c.args.work.now.levels.items c.push.new.self.items (Function c.args.id) c.in_ok-push.ensures.items)

pub returns-clause-less : goal.returns-clause-less
returns-clause-less g c =
    head-less (g.A.Conversion.gives c.args._inner.now) c.args.proof.now (levels_of c.args.work.now) c.args.work.now.lines c.args.id c.requires.at c.application-head.result.0 c.application-head.result.1
    c.application-head.ensures.function c.application-head.ensures.is _ (level-pushed c.args.work.now.levels.items c.push.new.self.items (Function c.args.id) c.in_ok-push.ensures.items)
