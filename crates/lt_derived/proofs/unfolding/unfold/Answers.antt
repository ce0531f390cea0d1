use Rattle.lt_definitions.specs.Rules.{with_line}
use Rattle.lt_store.specs.Trees.{trees}
use Rattle.lt_kernel.specs.State.{sequents, statements}
use Rattle.lt_programs.specs.Programs.{at_arguments, unfolded_at}
use Rattle.lt_derived.proofs.Repeated.{all-still-typed}
use Rattle.lt_derived.proofs.Stated.{same-reaches}
use Rattle.lt_derived.proofs.UnfoldingLemmas.{still-sound, unfold-fails, unfold-goes}
use Rattle.lt_derived.proofs.unfolding.unfold.Goals as goal

pub returns-in-Err-clause-reaches : goal.returns-in-Err-clause-reaches
returns-in-Err-clause-reaches g c =
    let old = c.args.proof.now in
    unfold-fails c.instance.new.proof old.signature (statements old) c.args.label.now c.args.types.now (trees old.nodes c.args.terms.now) c.in-Err.fault c.in-Err.ensures.reaches

pub at_arguments-requires-clause-sound : goal.at_arguments-requires-clause-sound
at_arguments-requires-clause-sound g c = still-sound c.args.proof.now c.instance.new.proof c.instance.ensures.carries c.requires.sound

pub at_arguments-requires-clause-terms : goal.at_arguments-requires-clause-terms
at_arguments-requires-clause-terms g c = all-still-typed c.args.proof.now c.instance.new.proof c.args.terms.now c.instance.ensures.carries c.requires.terms

pub returns-clause-reaches : goal.returns-clause-reaches
returns-clause-reaches g c =
    let old = c.args.proof.now in
    let mid = c.instance.new.proof in
    let ids = c.args.terms.now in
    same-reaches c.at_arguments.new.proof c.at_arguments.result
    (with_line (sequents mid) c.in-Ok.number (at_arguments mid.signature (trees mid.nodes ids)))
    (unfolded_at old.signature (statements old) c.args.label.now c.args.types.now (trees old.nodes ids))
    (unfold-goes old mid c.args.label.now c.args.types.now ids c.in-Ok.number c.instance.ensures.carries c.requires.terms c.in-Ok.ensures.reaches)
    c.at_arguments.ensures.reaches
