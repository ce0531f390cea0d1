use Rattle.std.proofs.Common.{◌∙◌, sym, codes, refl}
use Rattle.lt_definitions.specs.Rules.{line_at, with_line}
use Rattle.lt_nameless.specs.Nameless.{nameless_bound}
use Rattle.lt_kernel.specs.State.{sequents, statements}
use Rattle.lt_kernel.proofs.ReachingLemmas.{lacks}
use Rattle.lt_programs.specs.Programs.{theorem}
use Rattle.lt_programs.specs.Connectives.{and_definition, left_law, left_side}
use Rattle.lt_derived.specs.Sides.{side_by}
use Rattle.lt_derived.proofs.Repeated.{some-of, none-of}
use Rattle.lt_derived.proofs.Stated.{same-reaches}
use Rattle.lt_derived.proofs.UnfoldingLemmas.{still-sound}
use Rattle.lt_derived.proofs.ConnectiveSteps.{still-there}
use Rattle.lt_derived.proofs.SideSteps.{definition-boolean, law-fails, side-whole, side-law-line}
use Rattle.lt_derived.proofs.connectives.left.Goals as goal

pub returns-then-not-is_line-clause-reaches : goal.returns-then-not-is_line-clause-reaches
returns-then-not-is_line-clause-reaches g c =
    let old = c.args.proof.now in
    lacks old c.args.i (left_side (statements old)) (none-of (line_at (sequents old) c.args.i) (sym c.is_line.ensures ∙ c.if-not-is_line.true))

pub returns-in-Err-clause-reaches : goal.returns-in-Err-clause-reaches
returns-in-Err-clause-reaches g c =
    let old = c.args.proof.now in
    let q = some-of (line_at (sequents old) c.args.i) (sym c.is_line.ensures ∙ c.if-not-is_line.false) in
    law-fails old c.left_law.new.proof c.args.i q.0 c.in-Err.fault (codes "and_def") and_definition left_law (left_side (statements old)) (side_by (nameless_bound 1)) q.1 refl
    c.in-Err.ensures.reaches

pub side-requires-clause-sound : goal.side-requires-clause-sound
side-requires-clause-sound g c = still-sound c.args.proof.now c.left_law.new.proof c.left_law.ensures.carries c.requires

pub side-requires-clause-definition : goal.side-requires-clause-definition
side-requires-clause-definition g c =
    definition-boolean c.args.proof.now c.left_law.new.proof (codes "and_def") and_definition c.in-Ok.number (theorem left_law) c.requires c.left_law.ensures.carries c.in-Ok.ensures.reaches

pub side-requires-clause-there : goal.side-requires-clause-there
side-requires-clause-there g c =
    let old = c.args.proof.now in
    let q = some-of (line_at (sequents old) c.args.i) (sym c.is_line.ensures ∙ c.if-not-is_line.false) in
    still-there old c.left_law.new.proof c.args.i q.0 c.left_law.ensures.carries q.1

pub returns-clause-reaches : goal.returns-clause-reaches
returns-clause-reaches g c =
    let old = c.args.proof.now in
    let mid = c.left_law.new.proof in
    let q = some-of (line_at (sequents old) c.args.i) (sym c.is_line.ensures ∙ c.if-not-is_line.false) in
    same-reaches c.side.new.proof c.side.result (with_line (sequents mid) c.args.i (side_by (nameless_bound 1))) (with_line (sequents old) c.args.i (left_side (statements old)))
    (side-whole old mid c.left_law.ensures.carries c.args.i c.in-Ok.number q.0 q.1 (nameless_bound 1) (left_side (statements old)) c.in-Ok.ensures.reaches refl)
    (c.side.ensures.reaches (nameless_bound 1) (side-law-line mid (statements old) c.in-Ok.number (nameless_bound 1) c.in-Ok.ensures.reaches))
