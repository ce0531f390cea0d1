use Rattle.std.proofs.Common.{◌≡◌, sym, subst, slice_get, length, Some}
use Rattle.lt_store.specs.declared.node.Node.{Node}
use Rattle.lt_store.specs.declared.change.Work.{Work}
use Rattle.lt_store.specs.Memos.{AllKept}
use Rattle.lt_store.specs.Passes.{IsSound, IsResult, children, step_of, WorkIsIn}
use Rattle.lt_store.proofs.Images.{made_result}
use Rattle.lt_store.proofs.pass.result_of.Goals as goal

pub image_of-requires-clause-sound : goal.image_of-requires-clause-sound
image_of-requires-clause-sound g c = subst (λ (w : Work). IsSound w (g.S.TermStore.nodes c.args.store.now) c.args.memo.now) c.in-Make.is c.requires.sound

pub image_of-requires-clause-ready : goal.image_of-requires-clause-ready
image_of-requires-clause-ready g c =
    subst (λ (w : Work). (n : Node) → slice_get (g.S.TermStore.nodes c.args.store.now) c.args.id ≡ Some n → AllKept c.args.memo.now (children (step_of w) n c.args.depth)) c.in-Make.is c.requires.ready

pub found_in-requires-clause-sound : goal.found_in-requires-clause-sound
found_in-requires-clause-sound g c = subst (λ (w : Work). IsSound w (g.S.TermStore.nodes c.args.store.now) c.args.memo.now) c.in-Find.is c.requires.sound

pub found_in-requires-clause-ready : goal.found_in-requires-clause-ready
found_in-requires-clause-ready g c =
    subst (λ (w : Work). (n : Node) → slice_get (g.S.TermStore.nodes c.args.store.now) c.args.id ≡ Some n → AllKept c.args.memo.now (children (step_of w) n c.args.depth)) c.in-Find.is c.requires.ready

pub returns-in_ok-made-in-Make-clause-is : goal.returns-in_ok-made-in-Make-clause-is
returns-in_ok-made-in-Make-clause-is g c =
    let old = g.S.TermStore.nodes c.args.store.now in
    let new = g.S.TermStore.nodes c.image_of.new.store in
    let within = subst (λ (w : Work). WorkIsIn (length old) w) c.in-Make.is c.requires.work in
    subst (λ (w : Work). IsResult w new c.args.id c.args.depth c.in_ok-made-in-Make.made) (sym c.in-Make.is)
    (made_result old new c.in-Make.change c.args.id c.args.depth _ c.in_ok-made-in-Make.ensures.kept within c.requires.id c.in_ok-made-in-Make.ensures.made c.in_ok-made-in-Make.ensures.is)

pub measured-requires-clause-sound : goal.measured-requires-clause-sound
measured-requires-clause-sound g c = subst (λ (w : Work). IsSound w (g.S.TermStore.nodes c.args.store.now) c.args.memo.now) c.in-Measure.is c.requires.sound

pub measured-requires-clause-ready : goal.measured-requires-clause-ready
measured-requires-clause-ready g c =
    subst (λ (w : Work). (n : Node) → slice_get (g.S.TermStore.nodes c.args.store.now) c.args.id ≡ Some n → AllKept c.args.memo.now (children (step_of w) n c.args.depth)) c.in-Measure.is c.requires.ready
