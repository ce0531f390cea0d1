use Rattle.std.proofs.Common.{[], take, reverse}
use Rattle.lt_hol.specs.Outcomes.{AreOutcomes, AreHints, bound_types}
use Rattle.lt_hol.specs.TypeTables.{Extends}
use Rattle.lt_hol.proofs.TypingSteps.{typed_stack}
use Rattle.lt_hol.proofs.signature.Signature.outcome_of.Given as goal

abbrev pub invariant-loop-i : goal.invariant-loop-i
invariant-loop-i l = record {
  outcomes : AreOutcomes l.table (reverse l.outcomes.items) (typed_stack l.self [] (take l.i l.nodes) (bound_types [] l.t));
  hints : AreHints l.table l.hints.items (bound_types [] l.t);
  grows : Extends l.fn.table l.table;
}
