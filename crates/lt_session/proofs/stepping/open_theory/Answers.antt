use Rattle.std.proofs.Common.{◌∙◌}
use Rattle.lt_session.proofs.Steppings.{theory_chars, stands_behind, refuses_behind}
use Rattle.lt_session.proofs.stepping.open_theory.Goals as goal

pub returns-in-Ok-clause-theory : goal.returns-in-Ok-clause-theory
returns-in-Ok-clause-theory c = record { word = c.in-Ok.ensures.ok.0 ∙ theory_chars; number = c.in-Ok.ensures.ok.1 }

pub returns-in-Ok-clause-header : goal.returns-in-Ok-clause-header
returns-in-Ok-clause-header c = stands_behind c.new-script.result c.args.text.now _ _ c.new-script.ensures theory_chars c.in-Ok.ensures.header

pub returns-clause-wrong : goal.returns-clause-wrong
returns-clause-wrong c = refuses_behind c.new-script.result c.args.text.now _ c.in-Err.error _ c.new-script.ensures theory_chars c.of_read_error.ensures c.in-Err.ensures.wrong
