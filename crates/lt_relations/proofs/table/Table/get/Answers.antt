use Rattle.std.proofs.Common.{◌∙◌, ap}
use Rattle.lt_definitions.specs.Types.{found}
use Rattle.lt_types.proofs.MapLemmas.{looked_up}
use Rattle.lt_relations.proofs.table.Table.get.Goals as goal

pub returns : goal.returns
returns g c = c.get.ensures.value ∙ looked_up c.args.name.now c.self.inside.entries.entries ∙ ap (found c.args.name.now) c.self.view_is
