use Rattle.std.proofs.Common.{refl}
use Rattle.lt_derived.proofs.EquationLemmas.{stands-sound}
use Rattle.lt_kernel.specs.State.{statements}
use Rattle.lt_conv.proofs.Settled.{settled-none, settled-meets, settled-some}
use Rattle.lt_conv.proofs.settling.settle.Goals as goal

pub convert-requires-clause-t : goal.convert-requires-clause-t
convert-requires-clause-t g c =
    let q = c.requires.line in
    stands-sound c.args.proof.now c.args.line c.right-made.result q.from q.to q.holds (c.right-made.ensures q)

pub trans-requires : goal.trans-requires
trans-requires g c =
    let s = c.args.proof.now in
    settled-meets s c.convert.new.proof (g.A.Conversion.gives c.args.inner.now) c.args.line c.right-made.result (statements s) refl c.requires.line c.right-made.ensures c.convert.ensures.carries
    c.in_ok-second.field-0 c.in_ok-second.ensures.converts c.in-Some.second c.in-Some.is

pub returns-in_ok-whole-in-Some-clause-line : goal.returns-in_ok-whole-in-Some-clause-line
returns-in_ok-whole-in-Some-clause-line g c = λ named same q.
    settled-some c.args.proof.now c.convert.new.proof (g.A.Conversion.gives c.args.inner.now) c.args.line c.right-made.result named same q c.right-made.ensures c.convert.ensures.carries
    c.in_ok-second.field-0 c.in_ok-second.ensures.converts c.in-Some.second c.in-Some.is c.trans.new.proof c.in_ok-whole-in-Some.whole c.in_ok-whole-in-Some.ensures.line

pub returns-in-None-clause-line : goal.returns-in-None-clause-line
returns-in-None-clause-line g c = λ named same q.
    settled-none c.args.proof.now c.convert.new.proof (g.A.Conversion.gives c.args.inner.now) c.args.line c.right-made.result named same q c.right-made.ensures c.convert.ensures.carries
    c.in_ok-second.field-0 c.in_ok-second.ensures.converts c.in-None.is
