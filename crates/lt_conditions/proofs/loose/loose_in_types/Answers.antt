use Rattle.lt_conditions.proofs.LooseTerms.{types-some, types-none}
use Rattle.lt_conditions.proofs.loose.loose_in_types.Goals as goal

pub returns-in-Some : goal.returns-in-Some
returns-in-Some c =
    types-some c.args.allowed.now.keys c.args.types.now c.loop-ty.ty-index c.ty-item.result c.in-Some.name _ c.loop-ty-test.true c.ty-item.is c.loop-ty.invariant c.in_ok-name.ensures c.in-Some.is

pub loop-ty-preserved : goal.loop-ty-preserved
loop-ty-preserved c =
    types-none c.args.allowed.now.keys c.args.types.now c.loop-ty.ty-index c.ty-item.result _ c.loop-ty-test.true c.ty-item.is c.loop-ty.invariant c.in_ok-name.ensures c.in_default.is
