use Rattle.lt_conv.specs.declared.places.Level.TheVariants.{Body}
use Rattle.lt_conv.specs.Places.{levels_of}
use Rattle.lt_conv.proofs.Placed.{level-pushed, node-typed, body-leads, body-less}
use Rattle.lt_conv.proofs.everywhere.enter_abstraction.Goals as goal

pub open-requires-clause-typed : goal.open-requires-clause-typed
open-requires-clause-typed g c = node-typed (g.A.Conversion.gives c.args._inner.now) c.args.proof.now (levels_of c.args.work.now) c.args.work.now.lines c.args.id c.requires.at

pub returns-clause-leads : goal.returns-clause-leads
returns-clause-leads g c = λ q.
    body-leads (g.A.Conversion.gives c.args._inner.now) c.args.proof.now (levels_of c.args.work.now) c.args.work.now.lines c.args.id q c.open.new.proof c.open.ensures.carries c.in_ok-opened.opened c.in_ok-opened.x c.in_ok-opened.ty
    c.in_ok-opened.ensures.typed c.in_ok-opened.ensures.opened _ (level-pushed c.args.work.now.levels.items c.push.new.self.items (Body c.args.id c.in_ok-opened.x c.in_ok-opened.ty) c.in_ok-push.ensures.items)

pub returns-clause-less : goal.returns-clause-less
returns-clause-less g c =
    body-less (g.A.Conversion.gives c.args._inner.now) c.args.proof.now (levels_of c.args.work.now) c.args.work.now.lines c.args.id c.requires.at c.open.new.proof c.open.ensures.carries c.in_ok-opened.opened c.in_ok-opened.x c.in_ok-opened.ty
    c.in_ok-opened.ensures.typed c.in_ok-opened.ensures.opened _ (level-pushed c.args.work.now.levels.items c.push.new.self.items (Body c.args.id c.in_ok-opened.x c.in_ok-opened.ty) c.in_ok-push.ensures.items)
