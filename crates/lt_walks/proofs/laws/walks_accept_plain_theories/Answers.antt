use Rattle.lt_walks.proofs.PlainWalkLemmas.{checks_accept}
use Rattle.lt_walks.proofs.laws.walks_accept_plain_theories.Goals as goal

pub returns : goal.returns
returns c = checks_accept
