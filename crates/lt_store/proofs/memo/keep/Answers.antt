use Rattle.lt_store.proofs.memo.keep.Goals as goal

pub returns : goal.returns
returns c = λ i d. c.in_ok-insert.ensures.updates.0 (i, d)
