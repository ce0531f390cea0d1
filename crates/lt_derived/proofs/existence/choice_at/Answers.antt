use Rattle.std.proofs.Common.{◌∷◌, [], ap, is_some}
use Rattle.lt_definitions.specs.Rules.{with_line}
use Rattle.lt_store.specs.Trees.{trees}
use Rattle.lt_kernel.specs.State.{sequents}
use Rattle.lt_kernel.proofs.ReachingLemmas.{reached-line, reached-memory}
use Rattle.lt_programs.specs.Programs.{at_each}
use Rattle.lt_derived.proofs.SideSteps.{one-still, choice-goes, choice-premise}
use Rattle.lt_derived.proofs.existence.choice_at.Goals as goal

pub put_one-requires-clause-there : goal.put_one-requires-clause-there
put_one-requires-clause-there g c = ap is_some c.requires.law

pub spec-requires : goal.spec-requires
spec-requires g c = one-still c.args.proof.now c.put_one.new.proof c.args.p c.put_one.ensures.carries c.requires.p

pub into_memory-requires : goal.into_memory-requires
into_memory-requires g c =
    let old = c.args.proof.now in
    let mid = c.put_one.new.proof in
    reached-memory c.spec.new.proof c.in-Err.fault (with_line (sequents mid) c.in_ok-at.at (at_each mid.signature (trees mid.nodes (c.args.p ∷ []))))
    (choice-premise old mid c.args.law c.in_ok-at.at c.args.p c.args.ty.now c.in_ok-a.a c.in_ok-a.ensures c.put_one.ensures.carries c.requires.law c.in_ok-at.ensures.line
    c.requires.p c.requires.predicate)
    c.in-Err.ensures.reaches
    (choice-goes old mid c.args.law c.in_ok-at.at c.args.p c.args.ty.now c.in_ok-a.a c.in_ok-a.ensures c.put_one.ensures.carries c.requires.law c.in_ok-at.ensures.line
    c.requires.p c.requires.predicate)

pub returns-in-Ok-clause-line : goal.returns-in-Ok-clause-line
returns-in-Ok-clause-line g c =
    let old = c.args.proof.now in
    let mid = c.put_one.new.proof in
    reached-line c.spec.new.proof c.in-Ok.line (with_line (sequents mid) c.in_ok-at.at (at_each mid.signature (trees mid.nodes (c.args.p ∷ []))))
    (choice-premise old mid c.args.law c.in_ok-at.at c.args.p c.args.ty.now c.in_ok-a.a c.in_ok-a.ensures c.put_one.ensures.carries c.requires.law c.in_ok-at.ensures.line
    c.requires.p c.requires.predicate)
    c.in-Ok.ensures.reaches
    (choice-goes old mid c.args.law c.in_ok-at.at c.args.p c.args.ty.now c.in_ok-a.a c.in_ok-a.ensures c.put_one.ensures.carries c.requires.law c.in_ok-at.ensures.line
    c.requires.p c.requires.predicate)
