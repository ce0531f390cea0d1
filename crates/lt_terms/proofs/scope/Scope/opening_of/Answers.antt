use Rattle.std.proofs.Common.{◌∙◌, Option, None, ap}
use Rattle.std.specs.Option.{unwrap_or}
use Rattle.lt_terms.specs.declared.scope.Opening.{Opening}
use Rattle.lt_terms.specs.Scopes.{opening_of}
use Rattle.lt_terms.proofs.scope.Scope.opening_of.Goals as goal

pub returns-in-Some : goal.returns-in-Some
returns-in-Some c =
    ap (λ (o : Option (Option Opening)). unwrap_or o None) c.in-Some.ensures.value ∙ c.self.invariant.kept c.args.name.now ∙ ap (opening_of c.args.name.now) c.self.view_is

pub returns-in-None : goal.returns-in-None
returns-in-None c =
    ap (λ (o : Option (Option Opening)). unwrap_or o None) c.in-None.ensures.value ∙ c.self.invariant.kept c.args.name.now ∙ ap (opening_of c.args.name.now) c.self.view_is
