use Rattle.std.proofs.Common.{refl, sym, ◌∙◌, arith}
use Rattle.lt_search.proofs.WalkLemmas.{stands-start, loop-back, loop-ended, loop-limited, loop-dead, loop-live, loop-found, not-both}
use Rattle.lt_search.proofs.walk.first_answer.Goals as goal

pub walk-init : goal.walk-init
walk-init g c = record {
  asked = refl;
  stands = stands-start (g.P.Prefixes.question c.args.prefixes.now) c.requires.sound (g.P.Prefixes.choices c.args.prefixes.now) c.requires.start;
  within = omega arith;
}

pub walk-preserved-in-Some : goal.walk-preserved-in-Some
walk-preserved-in-Some g c =
    let question = g.P.Prefixes.question in
    let choices = g.P.Prefixes.choices in
    record {
      asked = c.back.ensures.asked ∙ c.walk.invariant.asked;
      stands = loop-back (question c.walk.prefixes) (question c.args.prefixes.now) c.walk.invariant.asked c.requires.sound
          (choices c.walk.prefixes) (choices c.back.new.self) c.walk.next c.in-Some.later c.walk.visits c.candidates.result c.walk.invariant.stands c.candidates.ensures c.if-next-candidates.true c.in-Some.ensures.back;
      within = c.walk.invariant.within;
    }

pub returns-in-None-clause-none : goal.returns-in-None-clause-none
returns-in-None-clause-none g c =
    let question = g.P.Prefixes.question in
    let choices = g.P.Prefixes.choices in
    λ is. loop-ended (question c.walk.prefixes) (question c.args.prefixes.now) c.walk.invariant.asked c.requires.sound
    (choices c.walk.prefixes) c.walk.next c.walk.visits c.candidates.result c.args.limit c.walk.invariant.stands c.candidates.ensures c.if-next-candidates.true c.in-None.ensures.back c.walk.invariant.within

pub returns-then-visits-limit-clause-limit : goal.returns-then-visits-limit-clause-limit
returns-then-visits-limit-clause-limit g c =
    let question = g.P.Prefixes.question in
    let choices = g.P.Prefixes.choices in
    λ is. loop-limited (question c.walk.prefixes) (question c.args.prefixes.now) c.walk.invariant.asked c.requires.sound
    (choices c.walk.prefixes) c.walk.next c.walk.visits c.candidates.result c.args.limit c.walk.invariant.stands c.candidates.ensures (omega (arith, c.if-next-candidates.false)) c.if-visits-limit.true

pub returns-then-is_whole-clause-found : goal.returns-then-is_whole-clause-found
returns-then-is_whole-clause-found g c =
    let question = g.P.Prefixes.question in
    let choices = g.P.Prefixes.choices in
    loop-found (question c.walk.prefixes) (question c.args.prefixes.now) (question c.add.new.self) c.walk.invariant.asked c.add.ensures.asked c.requires.sound
    (choices c.walk.prefixes) (choices c.add.new.self) c.walk.next c.walk.visits c.candidates.result c.args.limit c.walk.invariant.stands c.candidates.ensures (omega (arith, c.if-next-candidates.false))
    c.in-Ok.live c.if-live.true c.in-Ok.ensures.live c.in-Ok.ensures.longer (c.is_whole.ensures.0 c.if-is_whole.true) (omega (arith, c.if-visits-limit.false))

pub walk-preserved-then-live : goal.walk-preserved-then-live
walk-preserved-then-live g c =
    let question = g.P.Prefixes.question in
    let choices = g.P.Prefixes.choices in
    record {
      asked = c.add.ensures.asked ∙ c.walk.invariant.asked;
      stands = loop-live (question c.walk.prefixes) (question c.args.prefixes.now) (question c.add.new.self) c.walk.invariant.asked c.add.ensures.asked c.requires.sound
          (choices c.walk.prefixes) (choices c.add.new.self) c.walk.next c.walk.visits c.candidates.result c.walk.invariant.stands c.candidates.ensures (omega (arith, c.if-next-candidates.false))
          c.in-Ok.live c.if-live.true c.in-Ok.ensures.live c.in-Ok.ensures.longer (λ w. not-both c.is_whole.result (c.is_whole.ensures.1 w) c.if-is_whole.false);
      within = omega (arith, c.if-visits-limit.false);
    }

pub walk-preserved : goal.walk-preserved
walk-preserved g c =
    let question = g.P.Prefixes.question in
    let choices = g.P.Prefixes.choices in
    record {
      asked = c.add.ensures.asked ∙ c.walk.invariant.asked;
      stands = loop-dead (question c.walk.prefixes) (question c.args.prefixes.now) c.walk.invariant.asked c.requires.sound
          (choices c.walk.prefixes) (choices c.add.new.self) c.walk.next c.walk.visits c.candidates.result c.walk.invariant.stands c.candidates.ensures (omega (arith, c.if-next-candidates.false))
          c.in-Ok.live c.if-live.false c.in-Ok.ensures.dead c.in-Ok.ensures.kept;
      within = omega (arith, c.if-visits-limit.false);
    }
