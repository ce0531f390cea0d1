use Rattle.std.proofs.Common.{◌∷◌, [], reverse}
use Rattle.lt_hol.specs.TypeTables.{type_at}
use Rattle.lt_hol.proofs.ReadTypes.{IsMaking, work}
use Rattle.lt_hol.proofs.type_table.TypeTable.ty.Given as goal

abbrev pub invariant-loop-task : goal.invariant-loop-task
invariant-loop-task l = IsMaking l.self (type_at l.self l.fn.id ∷ []) l.builder (reverse l.tasks.items)

abbrev pub decreases-loop-task : goal.decreases-loop-task
decreases-loop-task l = work l.self (reverse l.tasks.items)
