use Rattle.std.proofs.Common.{◌∙◌, sym, refl}
use Rattle.lt_definitions.specs.Rules.{line_at, with_line}
use Rattle.lt_nameless.specs.NamelessRules.{nameless_mp_gives, nameless_type_of}
use Rattle.lt_store.specs.Trees.{tree_at}
use Rattle.lt_kernel.specs.State.{sequents}
use Rattle.lt_derived.proofs.Repeated.{some-of}
use Rattle.lt_derived.proofs.Stated.{same-reaches}
use Rattle.lt_derived.proofs.EquationLemmas.{beta-sure}
use Rattle.lt_derived.proofs.ConnectiveSteps.{still-there}
use Rattle.lt_derived.proofs.ExistenceSteps.{wanted, applied-goes, applied-typed, neither-goes, sym-sure, opened-fails, opened-goes}
use Rattle.lt_derived.proofs.existence.from_element.Goals as goal

pub conclusion-concl-requires : goal.conclusion-concl-requires
conclusion-concl-requires g c =
    let old = c.args.proof.now in
    let there = some-of (line_at (sequents old) c.args.i) c.requires.there in
    still-there old c.mk_app.new.self c.args.i there.0 c.mk_app.ensures.carries there.1

pub returns-then-is_applied-clause-reaches : goal.returns-then-is_applied-clause-reaches
returns-then-is_applied-clause-reaches g c =
    let old = c.args.proof.now in
    let mid = c.mk_app.new.self in
    let p = tree_at old.nodes c.args.p in
    let t = tree_at old.nodes c.args.t in
    let there = some-of (line_at (sequents old) c.args.i) c.requires.there in
    same-reaches c.mp.new.self c.mp.result (nameless_mp_gives (sequents mid) c.args.at c.args.i) (with_line (sequents old) c.args.i (wanted p t c.args._ty.now))
    (applied-goes old mid c.args.i c.args.at p t c.args._ty.now there.0 c.mk_app.ensures.carries there.1 c.requires.at
    (tree_at mid.nodes c.conclusion-concl.result) c.conclusion-concl.ensures.is (tree_at mid.nodes c.in_ok-applied.applied) c.in_ok-applied.ensures.ok.stands
    (sym c.in_ok-is_applied.ensures ∙ c.if-is_applied.true)) c.mp.ensures.reaches

pub returns-then-not-is_redex-clause-reaches : goal.returns-then-not-is_redex-clause-reaches
returns-then-not-is_redex-clause-reaches g c =
    let old = c.args.proof.now in
    let mid = c.mk_app.new.self in
    let there = some-of (line_at (sequents old) c.args.i) c.requires.there in
    neither-goes old mid c.args.i c.args.at (tree_at old.nodes c.args.p) (tree_at old.nodes c.args.t) c.args._ty.now there.0 c.mk_app.ensures.carries there.1 c.requires.at
    (tree_at mid.nodes c.conclusion-concl.result) c.conclusion-concl.ensures.is (tree_at mid.nodes c.in_ok-applied.applied) c.in_ok-applied.ensures.ok.stands
    (sym c.in_ok-is_applied.ensures ∙ c.if-is_applied.false) (sym c.is_redex.ensures ∙ c.if-not-is_redex.true)

pub beta-requires-clause-t : goal.beta-requires-clause-t
beta-requires-clause-t g c =
    let old = c.args.proof.now in
    applied-typed old c.mk_app.new.self c.in_ok-applied.applied (tree_at old.nodes c.args.p) (tree_at old.nodes c.args.t) c.args._ty.now c.mk_app.ensures.carries
    c.in_ok-applied.ensures.ok.within c.in_ok-applied.ensures.ok.stands c.requires.predicate c.requires.element

pub beta-requires-clause-sure : goal.beta-requires-clause-sure
beta-requires-clause-sure g c =
    let old = c.args.proof.now in
    let mid = c.mk_app.new.self in
    let typed = applied-typed old mid c.in_ok-applied.applied (tree_at old.nodes c.args.p) (tree_at old.nodes c.args.t) c.args._ty.now c.mk_app.ensures.carries
    c.in_ok-applied.ensures.ok.within c.in_ok-applied.ensures.ok.stands c.requires.predicate c.requires.element in
    beta-sure mid (tree_at mid.nodes c.in_ok-applied.applied) typed.typed (sym c.is_redex.ensures ∙ c.if-not-is_redex.false)

pub sym-requires : goal.sym-requires
sym-requires g c =
    let old = c.args.proof.now in
    let mid = c.mk_app.new.self in
    let there = some-of (line_at (sequents old) c.args.i) c.requires.there in
    sym-sure old mid c.args.i c.args.at (tree_at old.nodes c.args.p) (tree_at old.nodes c.args.t) c.args._ty.now there.0 c.mk_app.ensures.carries there.1 c.requires.at
    (tree_at mid.nodes c.conclusion-concl.result) c.conclusion-concl.ensures.is (tree_at mid.nodes c.in_ok-applied.applied) c.in_ok-applied.ensures.ok.stands
    (sym c.in_ok-is_applied.ensures ∙ c.if-is_applied.false)
    c.beta.new.proof c.beta.new.proof c.in_ok-opens.opens 0 (nameless_type_of mid.signature (tree_at mid.nodes c.in_ok-applied.applied)) refl c.beta.ensures.carries (λ f x. x)
    (sym c.is_redex.ensures ∙ c.if-not-is_redex.false) c.in_ok-opens.ensures.line

pub returns-in-Err-clause-reaches : goal.returns-in-Err-clause-reaches
returns-in-Err-clause-reaches g c =
    let old = c.args.proof.now in
    let mid = c.mk_app.new.self in
    let there = some-of (line_at (sequents old) c.args.i) c.requires.there in
    opened-fails old mid c.args.i c.args.at (tree_at old.nodes c.args.p) (tree_at old.nodes c.args.t) c.args._ty.now there.0 c.mk_app.ensures.carries there.1 c.requires.at
    (tree_at mid.nodes c.conclusion-concl.result) c.conclusion-concl.ensures.is (tree_at mid.nodes c.in_ok-applied.applied) c.in_ok-applied.ensures.ok.stands
    (sym c.in_ok-is_applied.ensures ∙ c.if-is_applied.false)
    c.beta.new.proof c.sym.new.proof c.in_ok-opens.opens c.in_ok-back.back (nameless_type_of mid.signature (tree_at mid.nodes c.in_ok-applied.applied)) refl c.beta.ensures.carries c.sym.ensures.carries
    (sym c.is_redex.ensures ∙ c.if-not-is_redex.false) c.in_ok-opens.ensures.line c.in_ok-back.ensures.line c.eqmp.new.self c.in-Err.fault c.in-Err.ensures.reaches

pub returns-clause-reaches : goal.returns-clause-reaches
returns-clause-reaches g c =
    let old = c.args.proof.now in
    let mid = c.mk_app.new.self in
    let p = tree_at old.nodes c.args.p in
    let t = tree_at old.nodes c.args.t in
    let there = some-of (line_at (sequents old) c.args.i) c.requires.there in
    same-reaches c.mp-2.new.self c.mp-2.result (nameless_mp_gives (sequents c.eqmp.new.self) c.args.at c.in-Ok.number) (with_line (sequents old) c.args.i (wanted p t c.args._ty.now))
    (opened-goes old mid c.args.i c.args.at p t c.args._ty.now there.0 c.mk_app.ensures.carries there.1 c.requires.at
    (tree_at mid.nodes c.conclusion-concl.result) c.conclusion-concl.ensures.is (tree_at mid.nodes c.in_ok-applied.applied) c.in_ok-applied.ensures.ok.stands
    (sym c.in_ok-is_applied.ensures ∙ c.if-is_applied.false)
    c.beta.new.proof c.sym.new.proof c.in_ok-opens.opens c.in_ok-back.back (nameless_type_of mid.signature (tree_at mid.nodes c.in_ok-applied.applied)) refl c.beta.ensures.carries c.sym.ensures.carries
    (sym c.is_redex.ensures ∙ c.if-not-is_redex.false) c.in_ok-opens.ensures.line c.in_ok-back.ensures.line c.eqmp.new.self c.in-Ok.number c.eqmp.ensures.carries c.in-Ok.ensures.reaches)
    c.mp-2.ensures.reaches
