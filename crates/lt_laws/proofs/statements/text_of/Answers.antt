use Rattle.lt_laws.proofs.statements.text_of.Goals as goal

pub returns : goal.returns
returns c = c.find_text.ensures
