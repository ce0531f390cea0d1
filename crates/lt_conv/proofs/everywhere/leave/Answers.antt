use Rattle.std.proofs.Common.{◌∷◌, reverse}
use Rattle.lt_conv.specs.declared.places.Level.TheVariants.{Function, Argument, Body}
use Rattle.lt_conv.specs.declared.places.Place.TheVariants.{Line as AtLine}
use Rattle.lt_conv.specs.Places.{levels_of}
use Rattle.lt_conv.proofs.Placed.{level-taken, with_levels, less-of}
use Rattle.lt_conv.proofs.everywhere.leave.Goals as goal

pub enter_argument-requires : goal.enter_argument-requires
enter_argument-requires g c = with_levels (Function c.in-Some-Function.id ∷ reverse c.pop.new.self.items)
    (level-taken c.pop.new.self.items c.args.work.now.levels.items c.in-Some-Function.field-0 (Function c.in-Some-Function.id) c.in-Some-Function.ensures.items c.in-Some-Function.field-0-is) c.requires

pub returns-in_ok-place-in-Some-Function-clause-leads : goal.returns-in_ok-place-in-Some-Function-clause-leads
returns-in_ok-place-in-Some-Function-clause-leads g c = λ q. c.in_ok-place-in-Some-Function.ensures.leads (with_levels (Function c.in-Some-Function.id ∷ reverse c.pop.new.self.items)
    (level-taken c.pop.new.self.items c.args.work.now.levels.items c.in-Some-Function.field-0 (Function c.in-Some-Function.id) c.in-Some-Function.ensures.items c.in-Some-Function.field-0-is) q)

pub returns-in_ok-place-in-Some-Function-clause-less : goal.returns-in_ok-place-in-Some-Function-clause-less
returns-in_ok-place-in-Some-Function-clause-less g c = less-of c.args.proof.now.nodes (levels_of c.args.work.now) (Function c.in-Some-Function.id ∷ reverse c.pop.new.self.items) (AtLine c.args.line) _
    (level-taken c.pop.new.self.items c.args.work.now.levels.items c.in-Some-Function.field-0 (Function c.in-Some-Function.id) c.in-Some-Function.ensures.items c.in-Some-Function.field-0-is) c.in_ok-place-in-Some-Function.ensures.less

pub leave_argument-requires : goal.leave_argument-requires
leave_argument-requires g c = with_levels (Argument c.in-Some-Argument.id c.in-Some-Argument.head ∷ reverse c.pop.new.self.items)
    (level-taken c.pop.new.self.items c.args.work.now.levels.items c.in-Some-Argument.field-0 (Argument c.in-Some-Argument.id c.in-Some-Argument.head) c.in-Some-Argument.ensures.items c.in-Some-Argument.field-0-is) c.requires

pub returns-in_ok-place-in-Some-Argument-clause-leads : goal.returns-in_ok-place-in-Some-Argument-clause-leads
returns-in_ok-place-in-Some-Argument-clause-leads g c = λ q. c.in_ok-place-in-Some-Argument.ensures.leads (with_levels (Argument c.in-Some-Argument.id c.in-Some-Argument.head ∷ reverse c.pop.new.self.items)
    (level-taken c.pop.new.self.items c.args.work.now.levels.items c.in-Some-Argument.field-0 (Argument c.in-Some-Argument.id c.in-Some-Argument.head) c.in-Some-Argument.ensures.items c.in-Some-Argument.field-0-is) q)

pub returns-in_ok-place-in-Some-Argument-clause-less : goal.returns-in_ok-place-in-Some-Argument-clause-less
returns-in_ok-place-in-Some-Argument-clause-less g c = less-of c.args.proof.now.nodes (levels_of c.args.work.now) (Argument c.in-Some-Argument.id c.in-Some-Argument.head ∷ reverse c.pop.new.self.items) (AtLine c.args.line) _
    (level-taken c.pop.new.self.items c.args.work.now.levels.items c.in-Some-Argument.field-0 (Argument c.in-Some-Argument.id c.in-Some-Argument.head) c.in-Some-Argument.ensures.items c.in-Some-Argument.field-0-is) c.in_ok-place-in-Some-Argument.ensures.less

pub leave_body-requires : goal.leave_body-requires
leave_body-requires g c = with_levels (Body c.in-Some-Body.id c.in-Some-Body.x c.in-Some-Body.ty ∷ reverse c.pop.new.self.items)
    (level-taken c.pop.new.self.items c.args.work.now.levels.items c.in-Some-Body.field-0 (Body c.in-Some-Body.id c.in-Some-Body.x c.in-Some-Body.ty) c.in-Some-Body.ensures.items c.in-Some-Body.field-0-is) c.requires

pub returns-in_ok-place-in-Some-Body-clause-leads : goal.returns-in_ok-place-in-Some-Body-clause-leads
returns-in_ok-place-in-Some-Body-clause-leads g c = λ q. c.in_ok-place-in-Some-Body.ensures.leads (with_levels (Body c.in-Some-Body.id c.in-Some-Body.x c.in-Some-Body.ty ∷ reverse c.pop.new.self.items)
    (level-taken c.pop.new.self.items c.args.work.now.levels.items c.in-Some-Body.field-0 (Body c.in-Some-Body.id c.in-Some-Body.x c.in-Some-Body.ty) c.in-Some-Body.ensures.items c.in-Some-Body.field-0-is) q)

pub returns-in_ok-place-in-Some-Body-clause-less : goal.returns-in_ok-place-in-Some-Body-clause-less
returns-in_ok-place-in-Some-Body-clause-less g c = less-of c.args.proof.now.nodes (levels_of c.args.work.now) (Body c.in-Some-Body.id c.in-Some-Body.x c.in-Some-Body.ty ∷ reverse c.pop.new.self.items) (AtLine c.args.line) _
    (level-taken c.pop.new.self.items c.args.work.now.levels.items c.in-Some-Body.field-0 (Body c.in-Some-Body.id c.in-Some-Body.x c.in-Some-Body.ty) c.in-Some-Body.ensures.items c.in-Some-Body.field-0-is) c.in_ok-place-in-Some-Body.ensures.less
