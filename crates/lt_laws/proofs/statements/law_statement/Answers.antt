use Rattle.std.proofs.Common.{◌∙◌}
use Rattle.lt_laws.proofs.Agreeing.{read-some, read-none}
use Rattle.lt_laws.proofs.statements.law_statement.Goals as goal

pub returns-in_ok-term_of-in-Some : goal.returns-in_ok-term_of-in-Some
returns-in_ok-term_of-in-Some c = c.in_ok-term_of-in-Some.ensures ∙ read-some c.args.name.now c.in-Some.text c.text_of.result c.in-Some.is c.text_of.ensures

pub returns-in-None : goal.returns-in-None
returns-in-None c = read-none c.args.name.now c.text_of.result c.in-None.is c.text_of.ensures
