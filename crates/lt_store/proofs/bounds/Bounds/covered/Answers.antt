use Rattle.std.proofs.Common.{arith, refl}
use Rattle.lt_store.proofs.BoundLemmas.{bounded-abstraction}
use Rattle.lt_store.proofs.bounds.Bounds.covered.Goals as goal

pub returns : goal.returns
returns c b ty known = bounded-abstraction b ty c.args.self _ (omega (arith, c.saturating_sub.ensures)) refl known
