use Rattle.std.proofs.Common.{◌∙◌}
use Rattle.lt_tables.proofs.Plain.{plain-chars, plain-name}
use Rattle.lt_tables.proofs.letters.word.Goals as goal

pub word-requires : goal.word-requires
word-requires c = plain-name c.args.text.now c.requires

pub returns : goal.returns
returns c = c.in_ok-word.ensures ∙ plain-chars c.args.text.now c.requires
