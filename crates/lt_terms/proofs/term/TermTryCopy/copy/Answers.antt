use Rattle.std.proofs.Common.{◌∙◌}
use Rattle.lt_terms.proofs.LayoutLemmas.{copied-more, copied-laid, copied-whole}
use Rattle.lt_terms.proofs.term.TermTryCopy.copy.Goals as goal

pub loop-node-preserved : goal.loop-node-preserved
loop-node-preserved c =
    copied-more c.nodes-node-items.result.now c.loop-node.nodes.items c.push.new.self.items c.loop-node.node-index c.node-item.result c.in_ok-copy.field-0
    c.loop-node.invariant c.in_ok-copy.ensures c.node-item.is c.loop-node-test.true c.in_ok-push.ensures.items

pub from_nodes-requires : goal.from_nodes-requires
from_nodes-requires c =
    copied-laid c.nodes-node-items.result.now c.loop-node.nodes.items c.args.self.now c.loop-node.node-index c.nodes-node-items.ensures c.loop-node.auto.node-index-end c.loop-node-test.false c.loop-node.invariant

pub returns : goal.returns
returns c =
    c.from_nodes.ensures
    ∙ copied-whole c.nodes-node-items.result.now c.loop-node.nodes.items c.args.self.now c.loop-node.node-index c.nodes-node-items.ensures c.loop-node.auto.node-index-end c.loop-node-test.false c.loop-node.invariant
