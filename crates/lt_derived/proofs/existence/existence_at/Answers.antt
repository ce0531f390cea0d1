use Rattle.std.proofs.Common.{◌∷◌, [], ap, is_some}
use Rattle.lt_definitions.specs.Rules.{with_line}
use Rattle.lt_store.specs.Trees.{tree_at, trees}
use Rattle.lt_kernel.specs.State.{sequents}
use Rattle.lt_kernel.proofs.ReachingLemmas.{reached-line, reached-memory}
use Rattle.lt_programs.specs.Programs.{at_each}
use Rattle.lt_programs.proofs.ConnectiveLemmas.{type-sound}
use Rattle.lt_derived.proofs.ExistenceSteps.{two-still, law-goes, premise}
use Rattle.lt_derived.proofs.existence.existence_at.Goals as goal

pub put_one-requires-clause-there : goal.put_one-requires-clause-there
put_one-requires-clause-there g c = ap is_some c.requires.law

pub put_one-requires-clause-sound : goal.put_one-requires-clause-sound
put_one-requires-clause-sound g c =
    type-sound c.args.proof.now.signature c.requires.sound.signature (tree_at c.args.proof.now.nodes c.args.t) c.args.ty.now c.requires.element

pub spec-requires : goal.spec-requires
spec-requires g c = two-still c.args.proof.now c.put_one.new.proof c.args.p c.args.t c.put_one.ensures.carries c.requires.p c.requires.t

pub into_memory-requires : goal.into_memory-requires
into_memory-requires g c =
    let old = c.args.proof.now in
    let mid = c.put_one.new.proof in
    reached-memory c.spec.new.proof c.in-Err.fault (with_line (sequents mid) c.in_ok-at.at (at_each mid.signature (trees mid.nodes (c.args.p ∷ c.args.t ∷ []))))
    (premise old mid c.args.law c.in_ok-at.at c.args.p c.args.t c.args.ty.now c.in_ok-a.a c.in_ok-a.ensures c.put_one.ensures.carries c.requires.law c.in_ok-at.ensures.line
    c.requires.p c.requires.t c.requires.predicate c.requires.element)
    c.in-Err.ensures.reaches
    (law-goes old mid c.args.law c.in_ok-at.at c.args.p c.args.t c.args.ty.now c.in_ok-a.a c.in_ok-a.ensures c.put_one.ensures.carries c.requires.law c.in_ok-at.ensures.line
    c.requires.p c.requires.t c.requires.predicate c.requires.element)

pub returns-in-Ok-clause-line : goal.returns-in-Ok-clause-line
returns-in-Ok-clause-line g c =
    let old = c.args.proof.now in
    let mid = c.put_one.new.proof in
    reached-line c.spec.new.proof c.in-Ok.line (with_line (sequents mid) c.in_ok-at.at (at_each mid.signature (trees mid.nodes (c.args.p ∷ c.args.t ∷ []))))
    (premise old mid c.args.law c.in_ok-at.at c.args.p c.args.t c.args.ty.now c.in_ok-a.a c.in_ok-a.ensures c.put_one.ensures.carries c.requires.law c.in_ok-at.ensures.line
    c.requires.p c.requires.t c.requires.predicate c.requires.element)
    c.in-Ok.ensures.reaches
    (law-goes old mid c.args.law c.in_ok-at.at c.args.p c.args.t c.args.ty.now c.in_ok-a.a c.in_ok-a.ensures c.put_one.ensures.carries c.requires.law c.in_ok-at.ensures.line
    c.requires.p c.requires.t c.requires.predicate c.requires.element)
