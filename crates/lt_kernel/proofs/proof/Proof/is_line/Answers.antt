use Rattle.std.proofs.Common.{ap}
use Rattle.std.specs.Option.{option_copied}
use Rattle.lt_kernel.proofs.LineNumbers.{seen-there, seen-not}
use Rattle.lt_kernel.proofs.proof.Proof.is_line.Goals as goal

pub returns-in-Some : goal.returns-in-Some
returns-in-Some g c = seen-there c.args.self.now c.args.number _ c.in-Some.field-0.now c.sequent.ensures.is (ap option_copied c.in-Some.is)

pub returns-in-None : goal.returns-in-None
returns-in-None g c = seen-not c.args.self.now c.args.number _ c.sequent.ensures.is (ap option_copied c.in-None.is)
