use Rattle.std.proofs.Common.{◌∷◌, [], Ok, codes, refl}
use Rattle.lt_definitions.specs.Rules.{with_line}
use Rattle.lt_definitions.specs.declared.reason.Reason.TheVariants.{UnknownLabel}
use Rattle.lt_kernel.specs.State.{sequents, statements}
use Rattle.lt_programs.specs.Programs.{theorem, followed}
use Rattle.lt_programs.specs.Connectives.{and_definition, is_stated, with_and}
use Rattle.lt_programs.specs.Derivations.{and_meaning, and_unfolded}
use Rattle.lt_programs.proofs.DerivationLemmas.{unfolded-and}
use Rattle.lt_derived.proofs.Stated.{same-reaches}
use Rattle.lt_derived.proofs.ConnectiveSteps.{and-whole, where-fails, table-good, table-goes}
use Rattle.lt_derived.proofs.connectives.and_meaning.Goals as goal

pub stated-requires-clause-statement : goal.stated-requires-clause-statement
stated-requires-clause-statement g c = and-whole

pub returns-in-Err-clause-reaches : goal.returns-in-Err-clause-reaches
returns-in-Err-clause-reaches g c =
    where-fails c.stated.new.proof c.in-Err.fault (is_stated (statements c.args.proof.now) (codes "and_def") and_definition) UnknownLabel (theorem and_definition)
    (Ok (theorem and_meaning)) c.in-Err.ensures.reaches

pub tabled-requires : goal.tabled-requires
tabled-requires g c =
    let old = c.args.proof.now in
    table-good old c.stated.new.proof c.requires c.stated.ensures.carries (codes "and_def") and_definition and_definition and_meaning and_unfolded c.in-Ok.number
    (λ b. unfolded-and old.signature c.requires.signature b) c.in-Ok.ensures.reaches

pub returns-clause-reaches : goal.returns-clause-reaches
returns-clause-reaches g c =
    let old = c.args.proof.now in
    let mid = c.stated.new.proof in
    same-reaches c.tabled.new.proof c.tabled.result
    (with_line (sequents mid) c.in-Ok.number (λ s. followed mid.signature (s ∷ []) and_unfolded)) (with_and (statements old) (Ok (theorem and_meaning)))
    (table-goes old mid c.requires c.stated.ensures.carries (codes "and_def") and_definition and_definition and_meaning and_unfolded c.in-Ok.number
    (λ b. unfolded-and old.signature c.requires.signature b) c.in-Ok.ensures.reaches)
    c.tabled.ensures.reaches
