use Rattle.lt_definitions.specs.Rules.{with_line}
use Rattle.lt_store.specs.Trees.{trees}
use Rattle.lt_kernel.specs.State.{sequents, statements}
use Rattle.lt_programs.specs.Programs.{at_each, named_at, paired}
use Rattle.lt_derived.proofs.Repeated.{all-still-typed}
use Rattle.lt_derived.proofs.Stated.{same-reaches, first-fails, instance-line}
use Rattle.lt_derived.proofs.instances.instance_at.Goals as goal

pub returns-in-Err-clause-reaches : goal.returns-in-Err-clause-reaches
returns-in-Err-clause-reaches g c =
    let old = c.args.proof.now in
    first-fails c.thm.new.self c.thm.new.self old.signature (statements old) c.args.label.now c.in_ok-label.label (paired c.args.names.now c.args.types.now)
    (trees old.nodes c.args.terms.now) c.in-Err.fault c.in_ok-label.ensures c.in-Err.ensures.reaches

pub spec-requires : goal.spec-requires
spec-requires g c = all-still-typed c.args.proof.now c.put_at_once.new.proof c.args.terms.now (λ first h. c.put_at_once.ensures.carries first (c.thm.ensures.carries first h)) c.requires.terms

pub returns-clause-reaches : goal.returns-clause-reaches
returns-clause-reaches g c =
    let old = c.args.proof.now in
    let mid = c.put_at_once.new.proof in
    let ids = c.args.terms.now in
    same-reaches c.spec.new.proof c.spec.result
    (with_line (sequents mid) c.in_ok-line.line (at_each mid.signature (trees mid.nodes ids)))
    (named_at old.signature (statements old) c.args.label.now (paired c.args.names.now c.args.types.now) (trees old.nodes ids))
    (instance-line old c.thm.new.self mid c.args.label.now c.in_ok-label.label (paired c.args.names.now c.args.types.now) ids
    c.in-Ok.number c.in_ok-line.line c.in_ok-label.ensures c.thm.ensures.carries c.put_at_once.ensures.carries c.requires.terms c.in-Ok.ensures.reaches c.in_ok-line.ensures.line)
    c.spec.ensures.reaches
