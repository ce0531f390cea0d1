use Rattle.lt_conv.proofs.Stepping.{join-applies, join-meets}
use Rattle.lt_conv.proofs.steps.join.Goals as goal

pub cong-requires : goal.cong-requires
cong-requires g c = join-applies c.requires

pub trans-requires : goal.trans-requires
trans-requires g c = join-meets c.args.proof.now c.cong.new.proof c.args.i c.args.function c.args.argument c.in_ok-both.both c.requires c.cong.ensures.carries (c.in_ok-both.ensures.line (join-applies c.requires))

pub returns-clause-line : goal.returns-clause-line
returns-clause-line g c = λ q. c.in_ok-line.ensures.line (join-meets c.args.proof.now c.cong.new.proof c.args.i c.args.function c.args.argument c.in_ok-both.both q c.cong.ensures.carries (c.in_ok-both.ensures.line (join-applies q)))
