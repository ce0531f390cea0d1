use Rattle.std.proofs.Common.{◌∷◌, [], Ok, codes}
use Rattle.lt_definitions.specs.Rules.{with_line}
use Rattle.lt_definitions.specs.declared.reason.Reason.TheVariants.{UnknownLabel}
use Rattle.lt_kernel.specs.State.{sequents, statements}
use Rattle.lt_programs.specs.Programs.{theorem, followed}
use Rattle.lt_programs.specs.Connectives.{and_definition, right_law, is_stated, with_and}
use Rattle.lt_programs.specs.Derivations.{q_variable, and_meaning, and_projected}
use Rattle.lt_programs.proofs.DerivationLemmas.{right-and}
use Rattle.lt_derived.proofs.Stated.{same-reaches}
use Rattle.lt_derived.proofs.ConnectiveSteps.{where-fails, table-good, table-goes}
use Rattle.lt_derived.proofs.connectives.right_law.Goals as goal

pub returns-in-Err-clause-reaches : goal.returns-in-Err-clause-reaches
returns-in-Err-clause-reaches g c =
    where-fails c.and_meaning.new.proof c.in-Err.fault (is_stated (statements c.args.proof.now) (codes "and_def") and_definition) UnknownLabel (theorem and_meaning)
    (Ok (theorem right_law)) c.in-Err.ensures.reaches

pub tabled-requires : goal.tabled-requires
tabled-requires g c =
    let old = c.args.proof.now in
    table-good old c.and_meaning.new.proof c.requires c.and_meaning.ensures.carries (codes "and_def") and_definition and_meaning right_law (and_projected q_variable) c.in-Ok.number
    (λ b. right-and old.signature c.requires.signature b) c.in-Ok.ensures.reaches

pub returns-clause-reaches : goal.returns-clause-reaches
returns-clause-reaches g c =
    let old = c.args.proof.now in
    let mid = c.and_meaning.new.proof in
    same-reaches c.tabled.new.proof c.tabled.result
    (with_line (sequents mid) c.in-Ok.number (λ s. followed mid.signature (s ∷ []) (and_projected q_variable))) (with_and (statements old) (Ok (theorem right_law)))
    (table-goes old mid c.requires c.and_meaning.ensures.carries (codes "and_def") and_definition and_meaning right_law (and_projected q_variable) c.in-Ok.number
    (λ b. right-and old.signature c.requires.signature b) c.in-Ok.ensures.reaches)
    c.tabled.ensures.reaches
