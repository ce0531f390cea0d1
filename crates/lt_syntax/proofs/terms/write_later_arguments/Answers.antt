use Rattle.std.proofs.Common.{refl}
use Rattle.lt_syntax.proofs.Constants.{one-more, all-there}
use Rattle.lt_syntax.proofs.terms.write_later_arguments.Goals as goal

pub loop-ty-init : goal.loop-ty-init
loop-ty-init c = refl

pub loop-ty-preserved : goal.loop-ty-preserved
loop-ty-preserved c =
    one-more _ _ _ _ _ _ _ c.loop-ty-test.true c.ty-item.is c.loop-ty.invariant c.in_ok-signs.ensures c.in_ok-write_type.ensures

pub returns : goal.returns
returns c = all-there _ _ _ _ _ c.loop-ty-test.false c.loop-ty.invariant c.in_ok-signs-2.ensures
