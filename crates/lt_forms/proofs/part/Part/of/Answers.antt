use Rattle.std.proofs.Common.{◌∙◌, arith}
use Rattle.lt_forms.proofs.PartLemmas.{as-part, part-is}
use Rattle.lt_forms.proofs.part.Part.of.Goals as goal

pub part_from-requires : goal.part_from-requires
part_from-requires c = as-part 0 _ c.args.term.now c.nodes.ensures (omega (arith, c.nodes.type_inv))

pub returns : goal.returns
returns c = c.part_from.ensures ∙ part-is 0 _ c.args.term.now c.nodes.ensures
