use Rattle.lt_grammar.proofs.PrintedAlone.{printed_term_alone}
use Rattle.lt_grammar.proofs.laws.printed_terms_stand_alone.Goals as goal

pub returns : goal.returns
returns c = printed_term_alone
