use Rattle.std.proofs.Common.{◌∙◌, sym, ap, is_some}
use Rattle.lt_types.proofs.NameTables.{copied-some}
use Rattle.lt_laws.proofs.registered.Laws.is_registered.Goals as goal

pub returns : goal.returns
returns c = c.is_some.ensures ∙ sym (copied-some c.label.result) ∙ ap is_some c.label.ensures
