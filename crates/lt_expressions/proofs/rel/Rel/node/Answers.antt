use Rattle.std.proofs.Common.{◌∙◌, ap, sym, arith, length, slice_get, Some}
use Rattle.std.proofs.lemmas.Option.{slice_get-get_or}
use Rattle.lt_expressions.proofs.LayoutLemmas.{length-relation_nodes}
use Rattle.lt_expressions.proofs.rel.Rel.node.Goals as goal

pub offset_bounds-nodes-at : goal.offset_bounds-nodes-at
offset_bounds-nodes-at c = omega (arith, c.nodes.type_inv, ap length c.nodes.ensures, length-relation_nodes 0 c.args.self.now, c.requires)

pub bounds-nodes-at : goal.bounds-nodes-at
bounds-nodes-at c = omega (arith, ap length c.nodes.ensures, length-relation_nodes 0 c.args.self.now, c.requires)

pub returns : goal.returns
returns c =
    ap (λ ns. slice_get ns c.args.at) (sym c.nodes.ensures)
    ∙ slice_get-get_or c.nodes.result.now c.args.at c.index-nodes-at.result (omega (arith, ap length c.nodes.ensures, length-relation_nodes 0 c.args.self.now, c.requires))
    ∙ ap Some (sym c.index-nodes-at.is)
