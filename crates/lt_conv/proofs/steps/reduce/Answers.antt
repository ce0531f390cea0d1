use Rattle.lt_conv.proofs.Stepping.{redex-sound, redex-is, reduce-meets}
use Rattle.lt_conv.proofs.steps.reduce.Goals as goal

pub beta-requires-clause-t : goal.beta-requires-clause-t
beta-requires-clause-t g c = redex-sound c.args.proof.now c.args.i c.right-redex.result c.requires c.right-redex.ensures

pub beta-requires-clause-redex : goal.beta-requires-clause-redex
beta-requires-clause-redex g c = redex-is c.args.proof.now c.args.i c.right-redex.result c.requires c.right-redex.ensures

pub trans-requires : goal.trans-requires
trans-requires g c = reduce-meets c.args.proof.now c.args.i c.right-redex.result c.requires c.right-redex.ensures c.beta.new.proof c.in_ok-opened.opened c.beta.ensures.carries c.in_ok-opened.ensures.line

pub returns-clause-line : goal.returns-clause-line
returns-clause-line g c = λ q. c.in_ok-line.ensures.line (reduce-meets c.args.proof.now c.args.i c.right-redex.result q c.right-redex.ensures c.beta.new.proof c.in_ok-opened.opened c.beta.ensures.carries c.in_ok-opened.ensures.line)
