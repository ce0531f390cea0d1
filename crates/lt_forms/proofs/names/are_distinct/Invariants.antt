use Rattle.lt_forms.proofs.NameLists.{IsTold}
use Rattle.lt_forms.proofs.names.are_distinct.Given as goal

abbrev pub invariant-loop-at : goal.invariant-loop-at
invariant-loop-at l = IsTold l.names l.later.keys l.at l.distinct

abbrev pub decreases-loop-at : goal.decreases-loop-at
decreases-loop-at l = l.at
