use Rattle.std.proofs.Common.{[], ap, arith, length}
use Rattle.lt_terms.proofs.OpenBinders.{length-places_of}
use Rattle.lt_terms.proofs.scope.Scope.len.Goals as goal

pub returns : goal.returns
returns c = omega (arith, c.len.ensures, c.self.inside.entered.ok.0, length-places_of c.self.inside.entered.items [], ap length c.self.view_is)
