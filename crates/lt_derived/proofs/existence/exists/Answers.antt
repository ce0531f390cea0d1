use Rattle.std.proofs.Common.{◌∙◌, sym, ap, subst}
use Rattle.lt_definitions.specs.Rules.{line_at, with_line}
use Rattle.lt_definitions.specs.Types.{bool, fun}
use Rattle.lt_nameless.specs.NamelessRules.{nameless_has_type}
use Rattle.lt_definitions.specs.Typing.{Signature}
use Rattle.lt_store.specs.Trees.{tree_at}
use Rattle.lt_store.specs.Typed.{IsTyped}
use Rattle.lt_kernel.specs.State.{sequents, statements}
use Rattle.lt_kernel.proofs.ReachingLemmas.{lacks}
use Rattle.lt_programs.specs.Connectives.{exists_at}
use Rattle.lt_derived.proofs.Repeated.{some-of, none-of, still-typed}
use Rattle.lt_derived.proofs.Stated.{same-reaches}
use Rattle.lt_derived.proofs.UnfoldingLemmas.{still-sound}
use Rattle.lt_derived.proofs.ConnectiveSteps.{still-there}
use Rattle.lt_derived.proofs.ExistenceSteps.{wanted, exists-fails, ex-law, not-predicate, not-element, predicate-mid, element-mid, exists-goes, still-of-type, implication-kept}
use Rattle.lt_derived.proofs.existence.exists.Goals as goal

pub returns-then-not-is_line-clause-reaches : goal.returns-then-not-is_line-clause-reaches
returns-then-not-is_line-clause-reaches g c =
    let old = c.args.proof.now in
    lacks old c.args.i (exists_at old.signature (statements old) (tree_at old.nodes c.args.p) (tree_at old.nodes c.args.t))
    (none-of (line_at (sequents old) c.args.i) (sym c.is_line.ensures ∙ c.if-not-is_line.true))

pub returns-in-Err-clause-reaches : goal.returns-in-Err-clause-reaches
returns-in-Err-clause-reaches g c =
    let old = c.args.proof.now in
    let there = some-of (line_at (sequents old) c.args.i) (sym c.is_line.ensures ∙ c.if-not-is_line.false) in
    exists-fails old c.existence_law.new.proof c.args.i c.args.p c.args.t there.0 c.in-Err.fault there.1 c.in-Err.ensures.reaches

pub over_type-requires : goal.over_type-requires
over_type-requires g c = still-typed c.args.proof.now c.existence_law.new.proof c.args.p c.existence_law.ensures.carries c.requires.p

pub returns-in-None-clause-reaches : goal.returns-in-None-clause-reaches
returns-in-None-clause-reaches g c =
    let old = c.args.proof.now in
    let there = some-of (line_at (sequents old) c.args.i) (sym c.is_line.ensures ∙ c.if-not-is_line.false) in
    not-predicate old c.existence_law.new.proof c.args.i c.in-Ok.number c.args.p c.args.t there.0 there.1 c.existence_law.ensures.carries c.requires.p c.requires.t c.in-Ok.ensures.reaches
    (sym c.in-None.is ∙ c.in_ok-over.ensures)

pub has_type-requires : goal.has_type-requires
has_type-requires g c =
    let mid = c.existence_law.new.proof in
    subst (λ (sig : Signature). IsTyped sig mid.nodes c.args.t) (sym c.signature.ensures)
    (still-typed c.args.proof.now mid c.args.t c.existence_law.ensures.carries c.requires.t)

pub returns-then-not-is_element-clause-reaches : goal.returns-then-not-is_element-clause-reaches
returns-then-not-is_element-clause-reaches g c =
    let old = c.args.proof.now in
    let mid = c.existence_law.new.proof in
    let there = some-of (line_at (sequents old) c.args.i) (sym c.is_line.ensures ∙ c.if-not-is_line.false) in
    not-element old mid c.args.i c.in-Ok.number c.args.p c.args.t there.0 there.1 c.existence_law.ensures.carries c.requires.p c.requires.t c.in-Ok.ensures.reaches
    c.in-Some.ty (sym c.in-Some.is ∙ c.in_ok-over.ensures)
    (sym (c.in_ok-is_element.ensures ∙ ap (λ s. nameless_has_type s (tree_at mid.nodes c.args.t) c.in-Some.ty) c.signature.ensures) ∙ c.if-not-is_element.true)

pub existence_at-requires-clause-sound : goal.existence_at-requires-clause-sound
existence_at-requires-clause-sound g c = still-sound c.args.proof.now c.existence_law.new.proof c.existence_law.ensures.carries c.requires.sound

pub existence_at-requires-clause-law : goal.existence_at-requires-clause-law
existence_at-requires-clause-law g c =
    let old = c.args.proof.now in
    let mid = c.existence_law.new.proof in
    let there = some-of (line_at (sequents old) c.args.i) (sym c.is_line.ensures ∙ c.if-not-is_line.false) in
    ex-law old mid c.args.i c.in-Ok.number c.args.p c.args.t there.0 there.1 c.existence_law.ensures.carries c.requires.p c.requires.t c.in-Ok.ensures.reaches

pub existence_at-requires-clause-p : goal.existence_at-requires-clause-p
existence_at-requires-clause-p g c = still-typed c.args.proof.now c.existence_law.new.proof c.args.p c.existence_law.ensures.carries c.requires.p

pub existence_at-requires-clause-t : goal.existence_at-requires-clause-t
existence_at-requires-clause-t g c = still-typed c.args.proof.now c.existence_law.new.proof c.args.t c.existence_law.ensures.carries c.requires.t

pub existence_at-requires-clause-predicate : goal.existence_at-requires-clause-predicate
existence_at-requires-clause-predicate g c =
    let old = c.args.proof.now in
    let mid = c.existence_law.new.proof in
    let there = some-of (line_at (sequents old) c.args.i) (sym c.is_line.ensures ∙ c.if-not-is_line.false) in
    let is = sym c.in-Some.is ∙ c.in_ok-over.ensures in
    predicate-mid old mid c.args.i c.in-Ok.number c.args.p c.args.t there.0 there.1 c.existence_law.ensures.carries c.requires.p c.requires.t c.in-Ok.ensures.reaches c.in-Some.ty is

pub existence_at-requires-clause-element : goal.existence_at-requires-clause-element
existence_at-requires-clause-element g c =
    let old = c.args.proof.now in
    let mid = c.existence_law.new.proof in
    let there = some-of (line_at (sequents old) c.args.i) (sym c.is_line.ensures ∙ c.if-not-is_line.false) in
    let is = sym c.in-Some.is ∙ c.in_ok-over.ensures in
    element-mid old mid c.args.i c.in-Ok.number c.args.p c.args.t there.0 there.1 c.existence_law.ensures.carries c.requires.p c.requires.t c.in-Ok.ensures.reaches c.in-Some.ty is
    (sym (c.in_ok-is_element.ensures ∙ ap (λ s. nameless_has_type s (tree_at mid.nodes c.args.t) c.in-Some.ty) c.signature.ensures) ∙ c.if-not-is_element.false)

pub from_element-requires-clause-there : goal.from_element-requires-clause-there
from_element-requires-clause-there g c =
    let old = c.args.proof.now in
    let there = some-of (line_at (sequents old) c.args.i) (sym c.is_line.ensures ∙ c.if-not-is_line.false) in
    still-there old c.existence_at.new.proof c.args.i there.0 (λ first h. c.existence_at.ensures.carries first (c.existence_law.ensures.carries first h)) there.1

pub from_element-requires-clause-at : goal.from_element-requires-clause-at
from_element-requires-clause-at g c =
    let mid = c.existence_law.new.proof in
    let p = still-typed c.args.proof.now mid c.args.p c.existence_law.ensures.carries c.requires.p in
    let t = still-typed c.args.proof.now mid c.args.t c.existence_law.ensures.carries c.requires.t in
    implication-kept mid c.existence_at.new.proof c.in_ok-at.at c.args.p c.args.t c.in-Some.ty c.existence_at.ensures.carries p.within t.within c.in_ok-at.ensures.line

pub from_element-requires-clause-p : goal.from_element-requires-clause-p
from_element-requires-clause-p g c =
    let p = still-typed c.args.proof.now c.existence_at.new.proof c.args.p (λ first h. c.existence_at.ensures.carries first (c.existence_law.ensures.carries first h)) c.requires.p in p.within

pub from_element-requires-clause-t : goal.from_element-requires-clause-t
from_element-requires-clause-t g c =
    let t = still-typed c.args.proof.now c.existence_at.new.proof c.args.t (λ first h. c.existence_at.ensures.carries first (c.existence_law.ensures.carries first h)) c.requires.t in t.within

pub from_element-requires-clause-predicate : goal.from_element-requires-clause-predicate
from_element-requires-clause-predicate g c =
    let old = c.args.proof.now in
    let mid = c.existence_law.new.proof in
    let there = some-of (line_at (sequents old) c.args.i) (sym c.is_line.ensures ∙ c.if-not-is_line.false) in
    let is = sym c.in-Some.is ∙ c.in_ok-over.ensures in
    let p = still-typed old mid c.args.p c.existence_law.ensures.carries c.requires.p in
    still-of-type mid c.existence_at.new.proof c.args.p (fun c.in-Some.ty bool) c.existence_at.ensures.carries p.within
    (predicate-mid old mid c.args.i c.in-Ok.number c.args.p c.args.t there.0 there.1 c.existence_law.ensures.carries c.requires.p c.requires.t c.in-Ok.ensures.reaches c.in-Some.ty is)

pub from_element-requires-clause-element : goal.from_element-requires-clause-element
from_element-requires-clause-element g c =
    let old = c.args.proof.now in
    let mid = c.existence_law.new.proof in
    let there = some-of (line_at (sequents old) c.args.i) (sym c.is_line.ensures ∙ c.if-not-is_line.false) in
    let is = sym c.in-Some.is ∙ c.in_ok-over.ensures in
    let t = still-typed old mid c.args.t c.existence_law.ensures.carries c.requires.t in
    still-of-type mid c.existence_at.new.proof c.args.t c.in-Some.ty c.existence_at.ensures.carries t.within
    (element-mid old mid c.args.i c.in-Ok.number c.args.p c.args.t there.0 there.1 c.existence_law.ensures.carries c.requires.p c.requires.t c.in-Ok.ensures.reaches c.in-Some.ty is
    (sym (c.in_ok-is_element.ensures ∙ ap (λ s. nameless_has_type s (tree_at mid.nodes c.args.t) c.in-Some.ty) c.signature.ensures) ∙ c.if-not-is_element.false))

pub returns-clause-reaches : goal.returns-clause-reaches
returns-clause-reaches g c =
    let old = c.args.proof.now in
    let mid = c.existence_law.new.proof in
    let there = some-of (line_at (sequents old) c.args.i) (sym c.is_line.ensures ∙ c.if-not-is_line.false) in
    let is = sym c.in-Some.is ∙ c.in_ok-over.ensures in
    let next = c.existence_at.new.proof in
    same-reaches c.from_element.new.proof c.from_element.result
    (with_line (sequents next) c.args.i (wanted (tree_at next.nodes c.args.p) (tree_at next.nodes c.args.t) c.in-Some.ty))
    (with_line (sequents old) c.args.i (exists_at old.signature (statements old) (tree_at old.nodes c.args.p) (tree_at old.nodes c.args.t)))
    (exists-goes old mid c.args.i c.in-Ok.number c.args.p c.args.t there.0 there.1 c.existence_law.ensures.carries c.requires.p c.requires.t c.in-Ok.ensures.reaches c.in-Some.ty is
    (sym (c.in_ok-is_element.ensures ∙ ap (λ s. nameless_has_type s (tree_at mid.nodes c.args.t) c.in-Some.ty) c.signature.ensures) ∙ c.if-not-is_element.false) next c.existence_at.ensures.carries)
    c.from_element.ensures.reaches
