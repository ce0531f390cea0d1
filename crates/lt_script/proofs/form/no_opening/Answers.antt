-- The empty text has no characters.
use Rattle.std.proofs.Common.{◌∙◌, ap}
use Rattle.std.specs.Prelude.{chars}
use Rattle.std.proofs.lemmas.Str.{chars-nil}
use Rattle.lt_script.proofs.form.no_opening.Goals as goal

pub returns-clause-word : goal.returns-clause-word
returns-clause-word c = ap chars c.new-word.ensures.bytes ∙ chars-nil
