use Rattle.std.proofs.Common.{◌∷◌, [], drop}
use Rattle.lt_terms.proofs.OpenNodes.{Reaches, around_opened}
use Rattle.lt_terms.proofs.opening.opened_body.Given as goal

abbrev pub invariant-loop-at : goal.invariant-loop-at
invariant-loop-at l = Reaches l.root l.by l.builder (drop l.at l.nodes) (drop l.at l.binders.items) (around_opened l.by l.lam ∷ [])
