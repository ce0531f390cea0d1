use Rattle.std.proofs.Common.{ap}
use Rattle.lt_formulas.specs.Shapes.{is_application}
use Rattle.lt_conv.specs.declared.places.Level.TheVariants.{Argument}
use Rattle.lt_conv.specs.Places.{levels_of}
use Rattle.lt_conv.proofs.Placed.{level-pushed, head-typed-of, argument-leads, argument-less}
use Rattle.lt_conv.proofs.everywhere.enter_argument.Goals as goal

pub application-argument-requires-clause-t : goal.application-argument-requires-clause-t
application-argument-requires-clause-t g c = (head-typed-of (g.A.Conversion.gives c.args._inner.now) c.args.proof.now (levels_of c.args.work.now) c.args.work.now.lines c.args.id c.args.line c.requires).within

pub application-argument-requires-clause-form : goal.application-argument-requires-clause-form
application-argument-requires-clause-form g c = let q = c.requires in ap is_application (q.place.inside.0).is

pub returns-clause-leads : goal.returns-clause-leads
returns-clause-leads g c = λ q.
    argument-leads (g.A.Conversion.gives c.args._inner.now) c.args.proof.now (levels_of c.args.work.now) c.args.work.now.lines c.args.id c.args.line q c.application-argument.result.0 c.application-argument.result.1
    c.application-argument.ensures.argument c.application-argument.ensures.is _ (level-pushed c.args.work.now.levels.items c.push.new.self.items (Argument c.args.id c.args.line) c.in_ok-push.ensures.items)

pub returns-clause-less : goal.returns-clause-less
returns-clause-less g c =
    argument-less (g.A.Conversion.gives c.args._inner.now) c.args.proof.now (levels_of c.args.work.now) c.args.work.now.lines c.args.id c.args.line c.requires c.application-argument.result.0 c.application-argument.result.1
    c.application-argument.ensures.argument c.application-argument.ensures.is _ (level-pushed c.args.work.now.levels.items c.push.new.self.items (Argument c.args.id c.args.line) c.in_ok-push.ensures.items)
