use Rattle.lt_conv.specs.Machines.{spot}
use Rattle.lt_conv.proofs.Upwards.{head-applied, head-joins, head-redex}
use Rattle.lt_conv.proofs.moves.join_head.Goals as goal

pub argument-requires : goal.argument-requires
argument-requires g c = head-applied c.args.proof.now (spot c.args.machine.now) c.args.whole c.requires

pub join-requires : goal.join-requires
join-requires g c = head-joins c.args.proof.now (spot c.args.machine.now) c.args.whole c.argument.new.proof c.in_ok-argument.argument c.argument.ensures.carries c.in_ok-argument.ensures.line c.requires

pub returns-clause-redex : goal.returns-clause-redex
returns-clause-redex g c = λ q. head-redex c.args.proof.now (spot c.args.machine.now) c.args.whole c.argument.new.proof c.join.new.proof c.in_ok-argument.argument c.in_ok-line.line c.argument.ensures.carries c.join.ensures.carries c.in_ok-argument.ensures.line c.in_ok-line.ensures.line q
