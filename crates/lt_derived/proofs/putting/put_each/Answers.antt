use Rattle.std.proofs.Common.{arith, ◌∙◌, ap}
use Rattle.lt_definitions.specs.Typing.{type_fault}
use Rattle.lt_definitions.specs.Rules.{line_at}
use Rattle.lt_nameless.specs.NamelessRules.{put_one}
use Rattle.lt_kernel.specs.State.{sequents}
use Rattle.lt_kernel.proofs.GrowingLemmas.{carries-grows}
use Rattle.lt_derived.proofs.Replaced.{fault-at, still-some, puts-next}
use Rattle.lt_derived.proofs.putting.put_each.Goals as goal

pub put_one-requires-clause-sound : goal.put_one-requires-clause-sound
put_one-requires-clause-sound g c =
    let grows = carries-grows c.args.proof.now c.loop-k.proof c.loop-k.invariant.carries in
    ap (λ sig. type_fault sig c.index-types-k.result) grows.stays.signature
    ∙ fault-at c.args.proof.now.signature c.args.types.now c.loop-k.k c.index-types-k.result c.requires.sound (omega (arith, c.loop-k-test.true, c.requires.count)) c.index-types-k.is

pub loop-k-preserved : goal.loop-k-preserved
loop-k-preserved g c = record {
  carries = λ first h. c.put_one.ensures.carries first (c.loop-k.invariant.carries first h);
  there = still-some (put_one c.index-names-k.result c.index-types-k.result) (line_at (sequents c.loop-k.proof) c.loop-k.line) (line_at (sequents c.put_one.new.proof) c.in_ok-line.line) c.in_ok-line.ensures.line c.loop-k.invariant.there;
  goes = puts-next c.args.names.now c.args.types.now c.loop-k.k c.index-names-k.result c.index-types-k.result (line_at (sequents c.loop-k.proof) c.loop-k.line) (line_at (sequents c.put_one.new.proof) c.in_ok-line.line) _
      c.loop-k-test.true (omega (arith, c.loop-k-test.true, c.requires.count)) c.index-names-k.is c.index-types-k.is c.loop-k.invariant.goes c.in_ok-line.ensures.line;
}
