use Rattle.lt_definitions.specs.Rules.{line_at}
use Rattle.lt_store.specs.Trees.{tree_at}
use Rattle.lt_kernel.specs.State.{sequents}
use Rattle.lt_derived.proofs.Repeated.{some-of}
use Rattle.lt_derived.proofs.UnfoldingLemmas.{argument-fails, argument-form, argument-given, still-sound}
use Rattle.lt_derived.proofs.unfolding.at_argument.Goals as goal

pub returns-in-Err-clause-reaches : goal.returns-in-Err-clause-reaches
returns-in-Err-clause-reaches g c =
    let old = c.args.proof.now in
    let there = some-of (line_at (sequents old) c.args.i) c.requires.there in
    argument-fails old c.refl.new.proof c.args.i c.in_ok-same.same (tree_at old.nodes c.args.t) there.0 c.refl.ensures.carries there.1 c.in_ok-same.ensures.line
    c.cong.new.self c.in-Err.fault c.in-Err.ensures.reaches

pub open_right-requires-clause-sound : goal.open_right-requires-clause-sound
open_right-requires-clause-sound g c =
    still-sound c.args.proof.now c.cong.new.self (λ first h. c.cong.ensures.carries first (c.refl.ensures.carries first h)) c.requires.sound

pub open_right-requires-clause-form : goal.open_right-requires-clause-form
open_right-requires-clause-form g c =
    let old = c.args.proof.now in
    let there = some-of (line_at (sequents old) c.args.i) c.requires.there in
    argument-form old c.refl.new.proof c.args.i c.in_ok-same.same (tree_at old.nodes c.args.t) there.0 c.refl.ensures.carries there.1 c.in_ok-same.ensures.line
    c.cong.new.self c.in-Ok.number c.in-Ok.ensures.reaches

pub returns-clause-reaches : goal.returns-clause-reaches
returns-clause-reaches g c =
    let old = c.args.proof.now in
    let there = some-of (line_at (sequents old) c.args.i) c.requires.there in
    argument-given old c.refl.new.proof c.args.i c.in_ok-same.same (tree_at old.nodes c.args.t) there.0 c.refl.ensures.carries there.1 c.in_ok-same.ensures.line
    c.cong.new.self c.in-Ok.number c.in-Ok.ensures.reaches c.open_right.new.proof c.in_ok-line.line c.in_ok-line.ensures.line
