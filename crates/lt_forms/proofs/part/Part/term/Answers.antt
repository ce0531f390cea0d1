use Rattle.std.proofs.Common.{◌≡◌, ◌∙◌, ◌+◌, [], ◌∷◌, List, take, length, ap, sym, subst}
use Rattle.lt_definitions.specs.Terms.{TermTree}
use Rattle.lt_terms.specs.Layout.{HasRoom, grow, forest, term_of_nodes}
use Rattle.lt_forms.proofs.PartPasses.{has-room, grows, whole-part, only}
use Rattle.lt_forms.proofs.part.Part.term.Goals as goal

pub node-requires : goal.node-requires
node-requires c =
    subst (HasRoom c.loop-node.builder) (sym c.in_ok-copy.ensures)
    (subst (λ (b : List TermTree). HasRoom b c.node-item.result) (sym c.loop-node.invariant)
    (has-room c.self.inside.from _ _ _ c.self.invariant c.loop-node-test.true c.node-item.is))

pub loop-node-preserved : goal.loop-node-preserved
loop-node-preserved c =
    c.in_ok-builder.ensures ∙ (λ i. grow (c.loop-node.invariant i) (c.in_ok-copy.ensures i))
    ∙ sym (grows _ _ c.node-item.result c.loop-node-test.true c.node-item.is)

pub finish-requires : goal.finish-requires
finish-requires c =
    ap length (c.loop-node.invariant ∙ whole-part _ _ _ c.self.invariant c.loop-node.auto.node-index-end c.loop-node-test.false)

pub returns : goal.returns
returns c =
    only _ _ _ c.finish.ensures (c.loop-node.invariant ∙ whole-part _ _ _ c.self.invariant c.loop-node.auto.node-index-end c.loop-node-test.false)
    ∙ c.self.view_is
