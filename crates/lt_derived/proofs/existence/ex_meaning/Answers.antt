use Rattle.std.proofs.Common.{◌∷◌, [], Ok, codes}
use Rattle.lt_definitions.specs.Rules.{with_line}
use Rattle.lt_definitions.specs.declared.reason.Reason.TheVariants.{UnknownLabel}
use Rattle.lt_kernel.specs.State.{sequents, statements}
use Rattle.lt_programs.specs.Programs.{theorem, followed}
use Rattle.lt_programs.specs.Connectives.{ex_definition, is_stated, with_ex}
use Rattle.lt_programs.specs.Derivations.{ex_meaning, ex_unfolded}
use Rattle.lt_programs.proofs.DerivationLemmas.{unfolded-ex}
use Rattle.lt_derived.proofs.Stated.{same-reaches}
use Rattle.lt_derived.proofs.ConnectiveSteps.{ex-whole, where-fails, table-good, table-goes}
use Rattle.lt_derived.proofs.existence.ex_meaning.Goals as goal

pub stated-requires-clause-statement : goal.stated-requires-clause-statement
stated-requires-clause-statement g c = ex-whole

pub returns-in-Err-clause-reaches : goal.returns-in-Err-clause-reaches
returns-in-Err-clause-reaches g c =
    where-fails c.stated.new.proof c.in-Err.fault (is_stated (statements c.args.proof.now) (codes "ex_def") ex_definition) UnknownLabel (theorem ex_definition)
    (Ok (theorem ex_meaning)) c.in-Err.ensures.reaches

pub tabled-requires : goal.tabled-requires
tabled-requires g c =
    let old = c.args.proof.now in
    table-good old c.stated.new.proof c.requires c.stated.ensures.carries (codes "ex_def") ex_definition ex_definition ex_meaning ex_unfolded c.in-Ok.number
    (λ b. unfolded-ex old.signature c.requires.signature b) c.in-Ok.ensures.reaches

pub returns-clause-reaches : goal.returns-clause-reaches
returns-clause-reaches g c =
    let old = c.args.proof.now in
    let mid = c.stated.new.proof in
    same-reaches c.tabled.new.proof c.tabled.result
    (with_line (sequents mid) c.in-Ok.number (λ s. followed mid.signature (s ∷ []) ex_unfolded)) (with_ex (statements old) (Ok (theorem ex_meaning)))
    (table-goes old mid c.requires c.stated.ensures.carries (codes "ex_def") ex_definition ex_definition ex_meaning ex_unfolded c.in-Ok.number
    (λ b. unfolded-ex old.signature c.requires.signature b) c.in-Ok.ensures.reaches)
    c.tabled.ensures.reaches
