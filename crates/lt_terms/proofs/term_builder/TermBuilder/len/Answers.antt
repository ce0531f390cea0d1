use Rattle.std.proofs.Common.{◌<◌, ap, arith, length}
use Rattle.lt_terms.proofs.Stacks.{stack-length}
use Rattle.lt_terms.proofs.term_builder.TermBuilder.len.Goals as goal

pub returns : goal.returns
returns c =
    let some : 0 < length c.self.inside.nodes.items = omega (arith, c.if-len-eq0.false, c.len.ensures, c.self.inside.nodes.ok.0) in
    omega (arith, c.len-2.ensures, c.self.inside.roots.ok.0, stack-length _ _ _ c.self.invariant some, ap length c.self.view_is)
