use Rattle.lt_store.proofs.image.found_in.Goals as goal

pub kept-requires : goal.kept-requires
kept-requires g c = (c.requires.ready _ c.in-App.ensures.node).0

pub kept-requires-else-kept-eq1 : goal.kept-requires-else-kept-eq1
kept-requires-else-kept-eq1 g c = (c.requires.ready _ c.in-App.ensures.node).1.0

pub kept-requires-in-Lam : goal.kept-requires-in-Lam
kept-requires-in-Lam g c = rw c.step.ensures.step ((c.requires.ready _ c.in-Lam.ensures.node).0)
