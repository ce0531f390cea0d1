use Rattle.lt_search_laws.proofs.ChoosingLemmas.{choices-grow}
use Rattle.lt_search_laws.proofs.choices_grow.Goals as goal

pub returns : goal.returns
returns c = choices-grow
