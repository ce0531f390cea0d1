use Rattle.std.proofs.Common.{◌∷◌, [], ◌∙◌, sym}
use Rattle.lt_definitions.specs.Rules.{line_at, with_line, with_lines}
use Rattle.lt_store.specs.Trees.{trees}
use Rattle.lt_kernel.specs.State.{sequents, statements}
use Rattle.lt_programs.specs.Programs.{at_each, detached_by}
use Rattle.lt_programs.specs.Connectives.{conjoined}
use Rattle.lt_derived.proofs.Repeated.{some-of, none-of}
use Rattle.lt_derived.proofs.Stated.{same-reaches}
use Rattle.lt_derived.proofs.ConnectiveSteps.{lacks-first, lacks-second, still-there, sure-fails, conj-fails, conj-typed, conj-at, conj-goes, at-both}
use Rattle.lt_derived.proofs.connectives.conj.Goals as goal

pub returns-then-not-is_line-clause-reaches : goal.returns-then-not-is_line-clause-reaches
returns-then-not-is_line-clause-reaches g c =
    let old = c.args.proof.now in
    lacks-first (sequents old) c.args.i c.args.j (conjoined (statements old)) (none-of (line_at (sequents old) c.args.i) (sym c.is_line.ensures ∙ c.if-not-is_line.true))

pub returns-in-Err-clause-reaches : goal.returns-in-Err-clause-reaches
returns-in-Err-clause-reaches g c =
    let old = c.args.proof.now in
    let i = some-of (line_at (sequents old) c.args.i) (sym c.is_line.ensures ∙ c.if-not-is_line.false) in
    let j = some-of (line_at (sequents old) c.args.j) (sym c.is_line-2.ensures ∙ c.if-not-is_line-2.false) in
    conj-fails old c.conjunction_law.new.proof c.args.i c.args.j i.0 j.0 c.in-Err.fault i.1 j.1 c.in-Err.ensures.reaches

pub conclusion-left-requires : goal.conclusion-left-requires
conclusion-left-requires g c =
    let old = c.args.proof.now in
    let i = some-of (line_at (sequents old) c.args.i) (sym c.is_line.ensures ∙ c.if-not-is_line.false) in
    still-there old c.conjunction_law.new.proof c.args.i i.0 c.conjunction_law.ensures.carries i.1

pub conclusion-right-requires : goal.conclusion-right-requires
conclusion-right-requires g c =
    let old = c.args.proof.now in
    let j = some-of (line_at (sequents old) c.args.j) (sym c.is_line-2.ensures ∙ c.if-not-is_line-2.false) in
    still-there old c.conjunction_law.new.proof c.args.j j.0 c.conjunction_law.ensures.carries j.1

pub spec-requires : goal.spec-requires
spec-requires g c =
    let old = c.args.proof.now in
    let i = some-of (line_at (sequents old) c.args.i) (sym c.is_line.ensures ∙ c.if-not-is_line.false) in
    let j = some-of (line_at (sequents old) c.args.j) (sym c.is_line-2.ensures ∙ c.if-not-is_line-2.false) in
    conj-typed old c.conjunction_law.new.proof c.requires c.conjunction_law.ensures.carries c.args.i c.args.j c.in-Ok.number i.0 j.0 i.1 j.1 c.in-Ok.ensures.reaches
    c.conclusion-left.result c.conclusion-right.result c.conclusion-left.ensures.within c.conclusion-right.ensures.within c.conclusion-left.ensures.is c.conclusion-right.ensures.is

pub returns-in-Err-spec-clause-reaches : goal.returns-in-Err-spec-clause-reaches
returns-in-Err-spec-clause-reaches g c =
    let old = c.args.proof.now in
    let mid = c.conjunction_law.new.proof in
    let i = some-of (line_at (sequents old) c.args.i) (sym c.is_line.ensures ∙ c.if-not-is_line.false) in
    let j = some-of (line_at (sequents old) c.args.j) (sym c.is_line-2.ensures ∙ c.if-not-is_line-2.false) in
    sure-fails c.spec.new.proof c.in-Err-spec.fault (with_line (sequents mid) c.in-Ok.number (at_each mid.signature (trees mid.nodes (c.conclusion-left.result ∷ c.conclusion-right.result ∷ []))))
    (at-both old mid c.requires c.conjunction_law.ensures.carries c.args.i c.args.j c.in-Ok.number i.0 j.0 i.1 j.1 c.in-Ok.ensures.reaches
    c.conclusion-left.result c.conclusion-right.result c.conclusion-left.ensures.within c.conclusion-right.ensures.within c.conclusion-left.ensures.is c.conclusion-right.ensures.is)
    (with_lines (sequents old) c.args.i c.args.j (conjoined (statements old)))
    (conj-at old mid c.requires c.conjunction_law.ensures.carries c.args.i c.args.j c.in-Ok.number i.0 j.0 i.1 j.1 c.in-Ok.ensures.reaches
    c.conclusion-left.result c.conclusion-right.result c.conclusion-left.ensures.within c.conclusion-right.ensures.within c.conclusion-left.ensures.is c.conclusion-right.ensures.is)
    c.in-Err-spec.ensures.reaches

pub returns-clause-reaches : goal.returns-clause-reaches
returns-clause-reaches g c =
    let old = c.args.proof.now in
    let mid = c.conjunction_law.new.proof in
    let next = c.spec.new.proof in
    let i = some-of (line_at (sequents old) c.args.i) (sym c.is_line.ensures ∙ c.if-not-is_line.false) in
    let j = some-of (line_at (sequents old) c.args.j) (sym c.is_line-2.ensures ∙ c.if-not-is_line-2.false) in
    same-reaches c.chain.new.proof c.chain.result (with_line (sequents next) c.in-Ok-spec.number (detached_by (sequents next) (c.args.i ∷ c.args.j ∷ [])))
    (with_lines (sequents old) c.args.i c.args.j (conjoined (statements old)))
    (conj-goes old mid c.requires c.conjunction_law.ensures.carries c.args.i c.args.j c.in-Ok.number i.0 j.0 i.1 j.1 c.in-Ok.ensures.reaches
    c.conclusion-left.result c.conclusion-right.result c.conclusion-left.ensures.within c.conclusion-right.ensures.within c.conclusion-left.ensures.is c.conclusion-right.ensures.is
    next c.spec.ensures.carries c.in-Ok-spec.number c.in-Ok-spec.ensures.reaches)
    c.chain.ensures.reaches
