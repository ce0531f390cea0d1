use Rattle.lt_conv.proofs.EverywhereLemmas.{everywhere-application, everywhere-abstraction, everywhere-leaf}
use Rattle.lt_conv.proofs.laws.parts_come_first.Goals as goal

pub returns-clause-application : goal.returns-clause-application
returns-clause-application c = everywhere-application

pub returns-clause-abstraction : goal.returns-clause-abstraction
returns-clause-abstraction c = everywhere-abstraction

pub returns-clause-leaf : goal.returns-clause-leaf
returns-clause-leaf c = everywhere-leaf
