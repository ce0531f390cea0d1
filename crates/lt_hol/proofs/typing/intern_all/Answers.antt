use Rattle.lt_hol.proofs.DistinctTypes.{extends-then}
use Rattle.lt_hol.proofs.TypingSteps.{numbers-next}
use Rattle.lt_hol.proofs.typing.intern_all.Goals as goal

pub loop-ty-preserved : goal.loop-ty-preserved
loop-ty-preserved c = record {
  numbers = numbers-next c.loop-ty.table c.intern.new.self c.loop-ty.numbers.items c.push.new.self.items c.args.types.now c.loop-ty.ty-index c.in_ok-id.id c.ty-item.result c.in_ok-id.ensures.grows
      c.loop-ty.invariant.numbers c.in_ok-id.ensures.ok c.in_ok-push.ensures.items c.loop-ty-test.true c.ty-item.is;
  grows = extends-then c.args.table.now c.loop-ty.table c.intern.new.self c.loop-ty.invariant.grows c.in_ok-id.ensures.grows;
}
