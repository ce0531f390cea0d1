use Rattle.std.proofs.Common.{◌∙◌, Option, None, ℕ, ap}
use Rattle.std.specs.Option.{unwrap_or}
use Rattle.lt_syntax.specs.Depths.{depth_of}
use Rattle.lt_syntax.proofs.binders.Binders.depth_of.Goals as goal

pub returns-in-Some : goal.returns-in-Some
returns-in-Some c =
    ap (λ (o : Option (Option ℕ)). unwrap_or o None) c.in-Some.ensures.value ∙ c.self.invariant.kept c.args.name.now ∙ ap (depth_of c.args.name.now) c.self.view_is

pub returns-in-None : goal.returns-in-None
returns-in-None c =
    ap (λ (o : Option (Option ℕ)). unwrap_or o None) c.in-None.ensures.value ∙ c.self.invariant.kept c.args.name.now ∙ ap (depth_of c.args.name.now) c.self.view_is
