use Rattle.std.proofs.Common.{◌∙◌}
use Rattle.lt_types.proofs.Words.{fun-word, fun-chars}
use Rattle.lt_hol.proofs.TypeNumbers.{empty-table}
use Rattle.lt_hol.proofs.type_table.TypeTable.new.Goals as goal

pub word-requires : goal.word-requires
word-requires c = fun-word

pub invariant_of-result : goal.invariant_of-result
invariant_of-result c = empty-table c.new.result.keys c.in_ok-word.field-0 c.new-recent.result.items c.new.ensures.empty (c.in_ok-word.ensures ∙ fun-chars) c.new-recent.ensures.items
