use Rattle.std.proofs.Common.{◌<◌, ap, arith, length}
use Rattle.lt_types.proofs.Rows.{length-row, roots-length}
use Rattle.lt_types.proofs.ty_builder.TyBuilder.len.Goals as goal

pub returns : goal.returns
returns c =
    let some : 0 < length c.self.inside.nodes.items = omega (arith, c.if-len-eq0.false, c.len.ensures, c.self.inside.nodes.ok.0) in
    omega (
      arith,
      c.len-2.ensures,
      c.self.inside.roots.ok.0,
      roots-length (length c.self.inside.nodes.items) c.self.inside.roots.items some,
      length-row _ _ _ c.self.invariant,
      ap length c.self.view_is,
    )
