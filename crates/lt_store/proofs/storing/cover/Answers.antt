use Rattle.std.proofs.Common.{◌∙◌, ap}
use Rattle.lt_nameless.specs.Nameless.{nameless_abstraction}
use Rattle.lt_store.specs.Trees.{tree_at}
use Rattle.lt_store.proofs.StoredTerms.{covered_stands}
use Rattle.lt_store.proofs.storing.cover.Goals as goal

pub returns-clause-is : goal.returns-clause-is
returns-clause-is g c =
    let ns = g.S.TermStore.nodes c.args.store.now in
    covered_stands _ _ c.in_ok-made.ensures.kept _ _ _ _ c.args.ty.now c.requires.below c.take_last-body.ensures
    (c.in_ok-made.ensures.ok.stands ∙ ap (λ t. nameless_abstraction t (tree_at ns c.take_last-body.result)) c.in_ok-ty.ensures)
