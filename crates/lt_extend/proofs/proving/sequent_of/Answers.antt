use Rattle.lt_extend.proofs.proving.sequent_of.Goals as goal

pub terms_of-requires : goal.terms_of-requires
terms_of-requires g c = record { within = c.requires.within.0; whole = c.requires.whole.hyps }

pub from_store-requires : goal.from_store-requires
from_store-requires g c = record { t = c.requires.within.1; whole = c.requires.whole.concl }

pub returns : goal.returns
returns g c = λ i. record { hyps = c.in_ok-hyps.ensures i; concl = c.in_ok-concl.ensures i }
