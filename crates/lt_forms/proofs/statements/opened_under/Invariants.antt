use Rattle.std.proofs.Common.{◌≡◌, ◌≤◌, take, length}
use Rattle.lt_transport_definitions.specs.Reading.{opened_from}
use Rattle.lt_forms.proofs.statements.opened_under.Given as goal

abbrev pub invariant-loop-at : goal.invariant-loop-at
invariant-loop-at l = (opened_from 1 (take l.at l.binders) l.t ≡ opened_from 1 l.binders l.fn.body) × (l.at ≤ length l.binders)

abbrev pub decreases-loop-at : goal.decreases-loop-at
decreases-loop-at l = l.at
