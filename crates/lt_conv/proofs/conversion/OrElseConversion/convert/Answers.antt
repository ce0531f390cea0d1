use Rattle.std.proofs.Common.{None}
use Rattle.lt_store.specs.Trees.{tree_at}
use Rattle.lt_kernel.specs.State.{statements}
use Rattle.lt_conv.proofs.Converting.{at-line, else-converts, still-sound}
use Rattle.lt_derived.proofs.Repeated.{still-typed}
use Rattle.lt_conv.proofs.conversion.OrElseConversion.convert.Goals as goal

pub convert-requires-2-clause-t : goal.convert-requires-2-clause-t
convert-requires-2-clause-t g c = still-typed c.args.proof.now c.convert.new.proof c.args.t c.convert.ensures.carries c.requires.t

pub convert-requires-2-clause-sound : goal.convert-requires-2-clause-sound
convert-requires-2-clause-sound g c = still-sound c.args.proof.now c.convert.new.proof c.convert.ensures.carries c.requires.sound

pub returns-clause-converts : goal.returns-clause-converts
returns-clause-converts g c =
    let t = tree_at c.args.proof.now.nodes c.args.t in
    let first = g.A.Conversion.gives c.args.self.now.first (statements c.args.proof.now) t in
    else-converts c.args.proof.now c.convert.new.proof c.convert-2.new.proof c.args.t first (g.B.Conversion.gives c.args.self.now.second) c.in_ok-line-2.line c.convert.ensures.carries c.requires.t.within
    (at-line c.convert.new.proof t first c.in_ok-line.field-0 None c.in_ok-line.ensures.converts c.in_default.is) c.in_ok-line-2.ensures.converts
