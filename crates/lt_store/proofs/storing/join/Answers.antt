use Rattle.lt_store.proofs.Lists.{AllBelow-wider}
use Rattle.lt_store.proofs.StoredTerms.{AllBelow-front, joined_stands}
use Rattle.lt_store.proofs.storing.join.Goals as goal

pub returns-clause-below : goal.returns-clause-below
returns-clause-below g c =
    AllBelow-wider _ _ _ c.mk_app.ensures.kept.grows
    (AllBelow-front _ _ _ _ c.take_last-function.ensures (AllBelow-front _ _ _ _ c.take_last-argument.ensures c.requires.below).0).0

pub returns-clause-is : goal.returns-clause-is
returns-clause-is g c =
    joined_stands _ _ c.in_ok-made.ensures.kept _ _ _ _ _ _ c.requires.below c.take_last-argument.ensures c.take_last-function.ensures c.in_ok-made.ensures.ok.stands
