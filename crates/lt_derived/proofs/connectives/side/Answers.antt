use Rattle.std.proofs.Common.{◌∷◌, []}
use Rattle.lt_definitions.specs.Rules.{line_at, with_line}
use Rattle.lt_nameless.specs.NamelessRules.{nameless_mp_gives}
use Rattle.lt_store.specs.Trees.{tree_at, trees}
use Rattle.lt_kernel.specs.State.{sequents}
use Rattle.lt_programs.specs.Programs.{at_each}
use Rattle.lt_programs.specs.Connectives.{as_conjunction}
use Rattle.lt_derived.specs.Sides.{side_by}
use Rattle.lt_derived.proofs.Repeated.{some-of}
use Rattle.lt_derived.proofs.Stated.{same-reaches}
use Rattle.lt_derived.proofs.ConnectiveSteps.{sure-fails}
use Rattle.lt_derived.proofs.SideSteps.{read-none, read-some, within-some, no-sides, sides-typed, side-at, side-given, side-goes}
use Rattle.lt_derived.proofs.connectives.side.Goals as goal

pub returns-in-None-clause-reaches : goal.returns-in-None-clause-reaches
returns-in-None-clause-reaches g c = λ r there.
    let s = c.args.proof.now in
    let q = some-of (line_at (sequents s) c.args.i) c.requires.there in
    no-sides s c.requires.sound c.args.i c.args.law c.conclusion-concl.result q.0 q.1 c.conclusion-concl.ensures.within c.conclusion-concl.ensures.is r
    (read-none _ c.as_conjunction.result (as_conjunction (tree_at s.nodes c.conclusion-concl.result)) c.in-None.is c.as_conjunction.ensures.parts)

pub spec-requires : goal.spec-requires
spec-requires g c =
    let s = c.args.proof.now in
    let q = some-of (line_at (sequents s) c.args.i) c.requires.there in
    let w = within-some _ c.as_conjunction.result c.in-Some.sides c.in-Some.is c.as_conjunction.ensures.within in
    sides-typed s c.requires.sound c.args.i c.args.law c.conclusion-concl.result q.0 q.1 c.conclusion-concl.ensures.within c.conclusion-concl.ensures.is
    c.requires.definition c.in-Some.sides.0 c.in-Some.sides.1 w.0 w.1
    (read-some _ c.as_conjunction.result (as_conjunction (tree_at s.nodes c.conclusion-concl.result)) c.in-Some.sides c.in-Some.is c.as_conjunction.ensures.parts)

pub returns-in-Err-clause-reaches : goal.returns-in-Err-clause-reaches
returns-in-Err-clause-reaches g c = λ r there.
    let s = c.args.proof.now in
    let q = some-of (line_at (sequents s) c.args.i) c.requires.there in
    let w = within-some _ c.as_conjunction.result c.in-Some.sides c.in-Some.is c.as_conjunction.ensures.within in
    let d = read-some _ c.as_conjunction.result (as_conjunction (tree_at s.nodes c.conclusion-concl.result)) c.in-Some.sides c.in-Some.is c.as_conjunction.ensures.parts in
    sure-fails c.spec.new.proof c.in-Err.fault (with_line (sequents s) c.args.law (at_each s.signature (trees s.nodes (c.in-Some.sides.0 ∷ c.in-Some.sides.1 ∷ []))))
    (side-at s c.requires.sound c.args.i c.args.law c.conclusion-concl.result q.0 q.1 c.conclusion-concl.ensures.within c.conclusion-concl.ensures.is
    c.requires.definition c.in-Some.sides.0 c.in-Some.sides.1 w.0 w.1 d r there)
    (with_line (sequents s) c.args.i (side_by r))
    (side-given s c.requires.sound c.args.i c.args.law c.conclusion-concl.result q.0 q.1 c.conclusion-concl.ensures.within c.conclusion-concl.ensures.is
    c.requires.definition c.in-Some.sides.0 c.in-Some.sides.1 w.0 w.1 d r there)
    c.in-Err.ensures.reaches

pub returns-clause-reaches : goal.returns-clause-reaches
returns-clause-reaches g c = λ r there.
    let s = c.args.proof.now in
    let q = some-of (line_at (sequents s) c.args.i) c.requires.there in
    let w = within-some _ c.as_conjunction.result c.in-Some.sides c.in-Some.is c.as_conjunction.ensures.within in
    let d = read-some _ c.as_conjunction.result (as_conjunction (tree_at s.nodes c.conclusion-concl.result)) c.in-Some.sides c.in-Some.is c.as_conjunction.ensures.parts in
    same-reaches c.mp.new.self c.mp.result (nameless_mp_gives (sequents c.spec.new.proof) c.in-Ok.number c.args.i) (with_line (sequents s) c.args.i (side_by r))
    (side-goes s c.requires.sound c.args.i c.args.law c.conclusion-concl.result q.0 q.1 c.conclusion-concl.ensures.within c.conclusion-concl.ensures.is
    c.requires.definition c.in-Some.sides.0 c.in-Some.sides.1 w.0 w.1 d r there c.spec.new.proof c.in-Ok.number c.spec.ensures.carries c.in-Ok.ensures.reaches)
    c.mp.ensures.reaches
