use Rattle.std.proofs.Common.{arith}
use Rattle.lt_store.proofs.BoundLemmas.{bounded-application}
use Rattle.lt_store.proofs.bounds.Bounds.joined.Goals as goal

pub returns : goal.returns
returns c f a kf ka = bounded-application f a c.args.self c.args.argument _ (omega (arith, c.max.ensures)) (omega (arith, c.max.ensures)) (omega (arith, c.max-2.ensures)) kf ka
