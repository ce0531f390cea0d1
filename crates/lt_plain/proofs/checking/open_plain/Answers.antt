use Rattle.std.proofs.Common.{◌∙◌}
use Rattle.lt_plain.proofs.Steppings.{plain_chars, stands_behind, refuses_behind}
use Rattle.lt_plain.proofs.checking.open_plain.Goals as goal

pub returns-in-Ok-clause-plain : goal.returns-in-Ok-clause-plain
returns-in-Ok-clause-plain c = record { word = c.in-Ok.ensures.ok.0 ∙ plain_chars; number = c.in-Ok.ensures.ok.1 }

pub returns-in-Ok-clause-header : goal.returns-in-Ok-clause-header
returns-in-Ok-clause-header c = stands_behind c.new-script.result c.args.text.now _ _ c.new-script.ensures plain_chars c.in-Ok.ensures.header

pub returns-clause-wrong : goal.returns-clause-wrong
returns-clause-wrong c = refuses_behind c.new-script.result c.args.text.now _ c.in-Err.error _ c.new-script.ensures plain_chars c.of_read_error.ensures c.in-Err.ensures.wrong
