use Rattle.lt_search_laws.proofs.AskingLemmas.{prefixes-grow}
use Rattle.lt_search_laws.proofs.prefixes_grow.Goals as goal

pub returns : goal.returns
returns c = prefixes-grow
