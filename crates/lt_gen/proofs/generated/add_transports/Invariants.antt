use Rattle.std.proofs.Common.{◌≡◌, ◌≤◌, ◌++◌, ◌-◌}
use Rattle.std.specs.List.{flat_map, range_with_len}
use Rattle.lt_transport_definitions.specs.GeneratedTexts.{generated_transport}
use Rattle.lt_gen.proofs.generated.add_transports.Given as goal

abbrev pub invariant-transports : goal.invariant-transports
invariant-transports l = record { text : l.text ≡ l.fn.text ++ flat_map generated_transport (range_with_len 1 l.k); k : l.k ≤ l.n }

abbrev pub decreases-transports : goal.decreases-transports
decreases-transports l = l.n - l.k
