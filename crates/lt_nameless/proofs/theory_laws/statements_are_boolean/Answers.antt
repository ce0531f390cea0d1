use Rattle.lt_nameless.proofs.StatementTypes.{statements_are_boolean}
use Rattle.lt_nameless.proofs.theory_laws.statements_are_boolean.Goals as goal

pub returns : goal.returns
returns c = statements_are_boolean
