use Rattle.std.proofs.Common.{◌∷◌, [], Ok, codes}
use Rattle.lt_definitions.specs.Rules.{with_line}
use Rattle.lt_definitions.specs.declared.reason.Reason.TheVariants.{UnknownLabel}
use Rattle.lt_kernel.specs.State.{sequents, statements}
use Rattle.lt_programs.specs.Programs.{theorem, followed}
use Rattle.lt_programs.specs.Connectives.{any_type, ex_definition, choice_law, is_stated, with_ex}
use Rattle.lt_programs.specs.Derivations.{ex_meaning, ex_chosen}
use Rattle.lt_programs.proofs.DerivationLemmas.{chosen-ex}
use Rattle.lt_derived.proofs.Stated.{same-reaches}
use Rattle.lt_derived.proofs.ConnectiveSteps.{where-fails, table-good, table-goes}
use Rattle.lt_derived.proofs.existence.choice_law.Goals as goal

pub returns-in-Err-clause-reaches : goal.returns-in-Err-clause-reaches
returns-in-Err-clause-reaches g c =
    where-fails c.ex_meaning.new.proof c.in-Err.fault (is_stated (statements c.args.proof.now) (codes "ex_def") ex_definition) UnknownLabel (theorem ex_meaning)
    (Ok (theorem (choice_law any_type))) c.in-Err.ensures.reaches

pub tabled-requires : goal.tabled-requires
tabled-requires g c =
    let old = c.args.proof.now in
    table-good old c.ex_meaning.new.proof c.requires c.ex_meaning.ensures.carries (codes "ex_def") ex_definition ex_meaning (choice_law any_type) ex_chosen c.in-Ok.number
    (λ b. chosen-ex old.signature c.requires.signature b) c.in-Ok.ensures.reaches

pub returns-clause-reaches : goal.returns-clause-reaches
returns-clause-reaches g c =
    let old = c.args.proof.now in
    let mid = c.ex_meaning.new.proof in
    same-reaches c.tabled.new.proof c.tabled.result
    (with_line (sequents mid) c.in-Ok.number (λ s. followed mid.signature (s ∷ []) ex_chosen)) (with_ex (statements old) (Ok (theorem (choice_law any_type))))
    (table-goes old mid c.requires c.ex_meaning.ensures.carries (codes "ex_def") ex_definition ex_meaning (choice_law any_type) ex_chosen c.in-Ok.number
    (λ b. chosen-ex old.signature c.requires.signature b) c.in-Ok.ensures.reaches)
    c.tabled.ensures.reaches
