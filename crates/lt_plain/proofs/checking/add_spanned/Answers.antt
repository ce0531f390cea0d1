use Rattle.lt_extend.specs.Theories.{context_behind}
use Rattle.lt_plain.proofs.Tellings.{refuses_item}
use Rattle.lt_plain.proofs.checking.add_spanned.Goals as goal

pub returns-clause-adds : goal.returns-clause-adds
returns-clause-adds g c = (
  c.item_from.result,
  c.item_from.ensures,
  refuses_item (context_behind c.args.th.now.items) c.item_from.result c.args.spanned.from c.args.spanned.lines c.in-Err.fault c.of_item_fault.result c.in-Err.ensures.adds.0 c.of_item_fault.ensures.refusal
      c.of_item_fault.ensures.at,
  c.in-Err.ensures.adds.1,
)
