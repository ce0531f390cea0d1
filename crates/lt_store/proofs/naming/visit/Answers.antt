use Rattle.lt_store.proofs.NameTaskLemmas.{bound_turn, abstraction_turn}
use Rattle.lt_store.proofs.naming.visit.Goals as goal

pub returns-in_ok-builder-in-Bound-clause-turns : goal.returns-in_ok-builder-in-Bound-clause-turns
returns-in_ok-builder-in-Bound-clause-turns g c =
    bound_turn _ _ _ _ _ _ _ _ _ c.ranges.depth.fits c.in-Bound.ensures.stands c.in_ok-name-in-Bound.ensures c.in_ok-builder-in-Bound.ensures

pub returns-in_ok-push_abstraction-in-Lam-clause-turns : goal.returns-in_ok-push_abstraction-in-Lam-clause-turns
returns-in_ok-push_abstraction-in-Lam-clause-turns g c =
    abstraction_turn _ _ _ _ _ _ _ _ _ _ _ c.in-Lam.ensures.stands c.in-Lam.ensures.below c.in_ok-ty-in-Lam.ensures c.in_ok-reach-in-Lam.ensures.reaches c.in_ok-reach-in-Lam.ensures.grows c.in_ok-push_abstraction-in-Lam.ensures
