use Rattle.lt_grammar.proofs.FirstWrong.{wrong_no_text}
use Rattle.lt_grammar.proofs.laws.wrong_text_is_no_text.Goals as goal

pub returns : goal.returns
returns c = wrong_no_text
