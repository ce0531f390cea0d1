use Rattle.lt_types.proofs.NameLemmas.{IsLeft}
use Rattle.lt_types.proofs.name.is_name.Given as goal

abbrev pub invariant-loop-c : goal.invariant-loop-c
invariant-loop-c l = IsLeft l.text l.c-iterator.rest.now l.first
