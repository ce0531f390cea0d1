use Rattle.std.proofs.Common.{◌∙◌, ap, sym}
use Rattle.lt_nameless.specs.Nameless.{nameless_free, nameless_bound, nameless_constant}
use Rattle.lt_terms.specs.declared.term.TermNode.{TermNode}
use Rattle.lt_store.specs.Stacks.{stack, grown}
use Rattle.lt_store.proofs.StoredTerms.{leaf_stands}
use Rattle.lt_store.proofs.storing.add.Goals as goal

pub returns-in_ok-made-in-Free-clause-is : goal.returns-in_ok-made-in-Free-clause-is
returns-in_ok-made-in-Free-clause-is g c =
    leaf_stands _ _ c.in_ok-made-in-Free.ensures.kept _ _ _ c.requires.below
    (c.in_ok-made-in-Free.ensures.ok.stands ∙ (λ i. nameless_free (c.in_ok-copy-in-Free.ensures i) (c.in_ok-copy-in-Free-2.ensures i)))
    ∙ ap (λ (n : TermNode). grown (stack (g.S.TermStore.nodes c.args.store.now) c.args.ids.now.items) n c.args.binder) (sym c.in-Free.is)

pub returns-in_ok-made-in-Bound-clause-is : goal.returns-in_ok-made-in-Bound-clause-is
returns-in_ok-made-in-Bound-clause-is g c =
    leaf_stands _ _ c.in_ok-made-in-Bound.ensures.kept _ _ _ c.requires.below (c.in_ok-made-in-Bound.ensures.ok.stands ∙ ap nameless_bound c.index_of.ensures)
    ∙ ap (λ (n : TermNode). grown (stack (g.S.TermStore.nodes c.args.store.now) c.args.ids.now.items) n c.args.binder) (sym c.in-Bound.is)

pub returns-in_ok-made-in-Const-clause-is : goal.returns-in_ok-made-in-Const-clause-is
returns-in_ok-made-in-Const-clause-is g c =
    leaf_stands _ _ c.in_ok-made-in-Const.ensures.kept _ _ _ c.requires.below
    (c.in_ok-made-in-Const.ensures.ok.stands ∙ (λ i. nameless_constant (c.in_ok-copy-in-Const.ensures i) (c.in_ok-copy-in-Const-2.ensures i)))
    ∙ ap (λ (n : TermNode). grown (stack (g.S.TermStore.nodes c.args.store.now) c.args.ids.now.items) n c.args.binder) (sym c.in-Const.is)
