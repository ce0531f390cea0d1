use Rattle.lt_grammar.proofs.WithBytes.{type_goes_on, term_goes_on}
use Rattle.lt_grammar.proofs.viability.what_goes_on_alone_has_bytes.Goals as goal

pub returns-clause-types : goal.returns-clause-types
returns-clause-types c = type_goes_on

pub returns-clause-terms : goal.returns-clause-terms
returns-clause-terms c = term_goes_on
