use Rattle.std.proofs.Common.{[], ap, arith, length}
use Rattle.lt_syntax.proofs.OpenBinders.{length-names_of}
use Rattle.lt_syntax.proofs.binders.Binders.len.Goals as goal

pub returns : goal.returns
returns c = omega (arith, c.len.ensures, c.self.inside.entered.ok.0, length-names_of c.self.inside.entered.items [], ap length c.self.view_is)
