use Rattle.lt_terms.proofs.Stacks.{stack-one, stack-reads, stack-again}
use Rattle.lt_terms.proofs.term_builder.TermBuilder.after.Goals as goal

pub invariant_of-result : goal.invariant_of-result
invariant_of-result c = stack-again _ _ _ (stack-one _ _ c.args.term c.into_nodes-nodes.ensures c.new-roots.ensures.items)

pub returns : goal.returns
returns c = stack-reads _ _ _ (stack-one _ _ c.args.term c.into_nodes-nodes.ensures c.new-roots.ensures.items)
