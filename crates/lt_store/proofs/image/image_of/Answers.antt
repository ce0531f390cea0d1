use Rattle.std.proofs.Common.{◌≡◌, refl}
use Rattle.lt_nameless.specs.Nameless.{nameless_application}
use Rattle.lt_store.specs.Trees.{tree_at}
use Rattle.lt_store.proofs.TreeLemmas.{extends_same}
use Rattle.lt_store.proofs.Images.{made_application, made_abstraction}
use Rattle.lt_store.proofs.image.image_of.Goals as goal

pub kept-function-requires : goal.kept-function-requires
kept-function-requires g c = (c.requires.ready _ c.in-App.ensures.node).0

pub kept-argument-requires : goal.kept-argument-requires
kept-argument-requires g c = (c.requires.ready _ c.in-App.ensures.node).1.0

pub kept-requires : goal.kept-requires
kept-requires g c = rw c.step.ensures.step ((c.requires.ready _ c.in-Lam.ensures.node).0)

pub mk_app-requires-clause-f : goal.mk_app-requires-clause-f
mk_app-requires-clause-f g c = (c.requires.sound _ _ _ c.kept-function.ensures).1.0

pub mk_app-requires-clause-a : goal.mk_app-requires-clause-a
mk_app-requires-clause-a g c = (c.requires.sound _ _ _ c.kept-argument.ensures).1.0

pub mk_lam-requires : goal.mk_lam-requires
mk_lam-requires g c = (c.requires.sound _ _ _ c.kept.ensures).1.0

pub returns-then-are_same : goal.returns-then-are_same
returns-then-are_same g c =
    let ns = g.S.TermStore.nodes c.args.store.now in
    let same = c.if-are_same.ensures refl in
    let f : c.kept-function.result ≡ c.in-App.f = same.0 in
    let a : c.kept-argument.result ≡ c.in-App.a = same.1 in
    let is : tree_at ns c.args.id ≡ nameless_application (tree_at ns c.kept-function.result) (tree_at ns c.kept-argument.result) = cc (f, a, c.in-App.ensures.stands) in
    record { kept = extends_same ns; made = c.requires.id; is = made_application ns c.args.change c.args.depth _ _ _ _ _ _ is c.in-App.ensures.stands (c.requires.sound _ _ _ c.kept-function.ensures).1.1 (c.requires.sound _ _ _ c.kept-argument.ensures).1.1 }

pub returns-in_ok-made-in-App : goal.returns-in_ok-made-in-App
returns-in_ok-made-in-App g c = record {
  kept = c.in_ok-made-in-App.ensures.kept;
  made = c.in_ok-made-in-App.ensures.ok.within;
  is = made_application _ c.args.change c.args.depth _ _ _ _ _ _ c.in_ok-made-in-App.ensures.ok.stands c.in-App.ensures.stands (c.requires.sound _ _ _ c.kept-function.ensures).1.1 (c.requires.sound _ _ _ c.kept-argument.ensures).1.1;
}

pub returns-in_ok-made-in-Lam : goal.returns-in_ok-made-in-Lam
returns-in_ok-made-in-Lam g c = record {
  kept = c.in_ok-made-in-Lam.ensures.kept;
  made = c.in_ok-made-in-Lam.ensures.ok.within;
  is = made_abstraction _ c.args.change c.args.depth _ _ _ _ _ _ c.in_ok-made-in-Lam.ensures.ok.stands c.in-Lam.ensures.stands c.in_ok-ty-in-Lam.ensures (rw c.step.ensures.step at (c.requires.sound _ _ _ c.kept.ensures).1.1);
}
