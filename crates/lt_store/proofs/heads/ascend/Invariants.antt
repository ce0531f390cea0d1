use Rattle.std.proofs.Common.{◌≡◌, ◌<◌, length, reverse}
use Rattle.lt_hol.specs.TypeTables.{type_at}
use Rattle.lt_store.specs.KnownTypes.{outwards}
use Rattle.lt_store.proofs.heads.ascend.Given as goal

abbrev pub invariant-loop-step : goal.invariant-loop-step
invariant-loop-step l = record {
  within : l.number < length l.types;
  is : outwards (reverse l.steps.items) (type_at l.types l.number) ≡ outwards (reverse l.fn.steps.items) (type_at l.fn.types l.leaf);
}

abbrev pub decreases-loop-step : goal.decreases-loop-step
decreases-loop-step l = length l.steps.items
