use Rattle.lt_grammar.proofs.FirstWrong.{one_first_wrong}
use Rattle.lt_grammar.proofs.laws.one_first_wrong.Goals as goal

pub returns : goal.returns
returns c = one_first_wrong
