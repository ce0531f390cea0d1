use Rattle.std.proofs.Common.{◌∙◌, ap, sym, is_some}
use Rattle.lt_types.proofs.NameTables.{copied-some}
use Rattle.lt_relations.proofs.table.Table.has.Goals as goal

pub returns : goal.returns
returns g c = c.is_some.ensures ∙ sym (copied-some c.get.result) ∙ ap is_some c.get.ensures
