use Rattle.std.proofs.Common.{◌∙◌, sym, codes, refl}
use Rattle.lt_definitions.specs.Rules.{line_at, with_line}
use Rattle.lt_nameless.specs.NamelessRules.{nameless_mp_gives}
use Rattle.lt_store.specs.Trees.{tree_at}
use Rattle.lt_kernel.specs.State.{sequents, statements}
use Rattle.lt_kernel.proofs.ReachingLemmas.{lacks}
use Rattle.lt_programs.specs.Connectives.{any_type, as_existence, choice_law, chosen_element, ex_definition}
use Rattle.lt_derived.proofs.Repeated.{some-of, none-of}
use Rattle.lt_derived.proofs.Stated.{same-reaches}
use Rattle.lt_derived.proofs.ConnectiveSteps.{still-there}
use Rattle.lt_derived.proofs.SideSteps.{read-none, read-some, within-some, law-fails, choice-line, no-element, element_of, element-type, element-predicate, element-typed, element-goes}
use Rattle.lt_derived.proofs.existence.chosen_element.Goals as goal

pub returns-then-not-is_line-clause-reaches : goal.returns-then-not-is_line-clause-reaches
returns-then-not-is_line-clause-reaches g c =
    let old = c.args.proof.now in
    lacks old c.args.i (chosen_element (statements old)) (none-of (line_at (sequents old) c.args.i) (sym c.is_line.ensures ∙ c.if-not-is_line.true))

pub returns-in-Err-clause-reaches : goal.returns-in-Err-clause-reaches
returns-in-Err-clause-reaches g c =
    let old = c.args.proof.now in
    let q = some-of (line_at (sequents old) c.args.i) (sym c.is_line.ensures ∙ c.if-not-is_line.false) in
    law-fails old c.choice_law.new.proof c.args.i q.0 c.in-Err.fault (codes "ex_def") ex_definition (choice_law any_type) (chosen_element (statements old)) element_of q.1 refl
    c.in-Err.ensures.reaches

pub conclusion-concl-requires : goal.conclusion-concl-requires
conclusion-concl-requires g c =
    let old = c.args.proof.now in
    let q = some-of (line_at (sequents old) c.args.i) (sym c.is_line.ensures ∙ c.if-not-is_line.false) in
    still-there old c.choice_law.new.proof c.args.i q.0 c.choice_law.ensures.carries q.1

pub returns-in-None-clause-reaches : goal.returns-in-None-clause-reaches
returns-in-None-clause-reaches g c =
    let old = c.args.proof.now in
    let mid = c.choice_law.new.proof in
    let q = some-of (line_at (sequents old) c.args.i) (sym c.is_line.ensures ∙ c.if-not-is_line.false) in
    no-element old mid c.requires c.choice_law.ensures.carries c.args.i c.in-Ok.number c.conclusion-concl.result q.0 q.1 c.conclusion-concl.ensures.within c.conclusion-concl.ensures.is
    c.in-Ok.ensures.reaches (read-none _ c.in_ok-parts.parts (as_existence (tree_at mid.nodes c.conclusion-concl.result)) c.in-None.is c.in_ok-parts.ensures.parts)

pub choice_at-requires-clause-law : goal.choice_at-requires-clause-law
choice_at-requires-clause-law g c =
    let old = c.args.proof.now in
    let mid = c.choice_law.new.proof in
    let q = some-of (line_at (sequents old) c.args.i) (sym c.is_line.ensures ∙ c.if-not-is_line.false) in
    choice-line old mid c.requires c.choice_law.ensures.carries c.args.i c.in-Ok.number c.conclusion-concl.result q.0 q.1 c.conclusion-concl.ensures.within c.conclusion-concl.ensures.is
    c.in-Ok.ensures.reaches

pub choice_at-requires-clause-ty : goal.choice_at-requires-clause-ty
choice_at-requires-clause-ty g c =
    let old = c.args.proof.now in
    let mid = c.choice_law.new.proof in
    let q = some-of (line_at (sequents old) c.args.i) (sym c.is_line.ensures ∙ c.if-not-is_line.false) in
    element-type old mid c.requires c.choice_law.ensures.carries c.args.i c.in-Ok.number c.conclusion-concl.result q.0 q.1 c.conclusion-concl.ensures.within c.conclusion-concl.ensures.is
    c.in-Ok.ensures.reaches c.in-Some.parts.0 c.in-Some.parts.1 (within-some _ c.in_ok-parts.parts c.in-Some.parts c.in-Some.is c.in_ok-parts.ensures.within)
    (read-some _ c.in_ok-parts.parts (as_existence (tree_at mid.nodes c.conclusion-concl.result)) c.in-Some.parts c.in-Some.is c.in_ok-parts.ensures.parts)

pub choice_at-requires-clause-p : goal.choice_at-requires-clause-p
choice_at-requires-clause-p g c =
    let old = c.args.proof.now in
    let mid = c.choice_law.new.proof in
    let q = some-of (line_at (sequents old) c.args.i) (sym c.is_line.ensures ∙ c.if-not-is_line.false) in
    element-typed old mid c.requires c.choice_law.ensures.carries c.args.i c.in-Ok.number c.conclusion-concl.result q.0 q.1 c.conclusion-concl.ensures.within c.conclusion-concl.ensures.is
    c.in-Ok.ensures.reaches c.in-Some.parts.0 c.in-Some.parts.1 (within-some _ c.in_ok-parts.parts c.in-Some.parts c.in-Some.is c.in_ok-parts.ensures.within)
    (read-some _ c.in_ok-parts.parts (as_existence (tree_at mid.nodes c.conclusion-concl.result)) c.in-Some.parts c.in-Some.is c.in_ok-parts.ensures.parts)

pub choice_at-requires-clause-predicate : goal.choice_at-requires-clause-predicate
choice_at-requires-clause-predicate g c =
    let old = c.args.proof.now in
    let mid = c.choice_law.new.proof in
    let q = some-of (line_at (sequents old) c.args.i) (sym c.is_line.ensures ∙ c.if-not-is_line.false) in
    element-predicate old mid c.requires c.choice_law.ensures.carries c.args.i c.in-Ok.number c.conclusion-concl.result q.0 q.1 c.conclusion-concl.ensures.within c.conclusion-concl.ensures.is
    c.in-Ok.ensures.reaches c.in-Some.parts.0 c.in-Some.parts.1 (within-some _ c.in_ok-parts.parts c.in-Some.parts c.in-Some.is c.in_ok-parts.ensures.within)
    (read-some _ c.in_ok-parts.parts (as_existence (tree_at mid.nodes c.conclusion-concl.result)) c.in-Some.parts c.in-Some.is c.in_ok-parts.ensures.parts)

pub returns-clause-reaches : goal.returns-clause-reaches
returns-clause-reaches g c =
    let old = c.args.proof.now in
    let mid = c.choice_law.new.proof in
    let q = some-of (line_at (sequents old) c.args.i) (sym c.is_line.ensures ∙ c.if-not-is_line.false) in
    same-reaches c.mp.new.self c.mp.result (nameless_mp_gives (sequents c.choice_at.new.proof) c.in_ok-at.at c.args.i) (with_line (sequents old) c.args.i (chosen_element (statements old)))
    (element-goes old mid c.requires c.choice_law.ensures.carries c.args.i c.in-Ok.number c.conclusion-concl.result q.0 q.1 c.conclusion-concl.ensures.within c.conclusion-concl.ensures.is
    c.in-Ok.ensures.reaches c.in-Some.parts.0 c.in-Some.parts.1 (within-some _ c.in_ok-parts.parts c.in-Some.parts c.in-Some.is c.in_ok-parts.ensures.within)
    (read-some _ c.in_ok-parts.parts (as_existence (tree_at mid.nodes c.conclusion-concl.result)) c.in-Some.parts c.in-Some.is c.in_ok-parts.ensures.parts)
    c.choice_at.new.proof c.in_ok-at.at c.choice_at.ensures.carries c.in_ok-at.ensures.line)
    c.mp.ensures.reaches
