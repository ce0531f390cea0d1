use Rattle.lt_conv.proofs.Converting.{still-sound}
use Rattle.lt_conv.proofs.Settled.{still-named, parts-apply, parts-equation, parts-settled}
use Rattle.lt_conv.proofs.settling.settle_application.Goals as goal

pub cong-requires : goal.cong-requires
cong-requires g c = parts-apply c.requires.parts

pub settle-requires-clause-line : goal.settle-requires-clause-line
settle-requires-clause-line g c = parts-equation c.requires.parts c.cong.new.proof c.in_ok-both.both c.in_ok-both.ensures.line

pub settle-requires-clause-sound : goal.settle-requires-clause-sound
settle-requires-clause-sound g c = still-sound c.args.proof.now c.cong.new.proof c.cong.ensures.carries c.requires.sound

pub returns-clause-line : goal.returns-clause-line
returns-clause-line g c = λ q.
    parts-settled (g.A.Conversion.gives c.args.inner.now) c.args.proof.now c.args.id c.args.head c.args.argument q c.settle.new.proof c.in_ok-settled.settled
    (c.in_ok-settled.ensures.line q.named (still-named c.args.proof.now c.cong.new.proof q.named c.cong.ensures.carries q.same) (parts-equation q c.cong.new.proof c.in_ok-both.both c.in_ok-both.ensures.line))
