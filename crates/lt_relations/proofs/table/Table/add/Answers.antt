use Rattle.std.proofs.Common.{◌∷◌, ◌++◌, [], ◌∙◌, ap, is_some}
use Rattle.lt_definitions.specs.Types.{found}
use Rattle.lt_types.proofs.NameTables.{inserted-new}
use Rattle.lt_relations.proofs.table.Table.add.Goals as goal

pub returns-clause-ok : goal.returns-clause-ok
returns-clause-ok g c =
    c.in_ok-insert.ensures.entries
    ∙ inserted-new c.args.name c.args.thing c.self.inside.entries.entries (ap (λ es. is_some (found c.args.name es)) c.self.view_is ∙ c.requires)
    ∙ ap (λ es. es ++ (c.args.name, c.args.thing) ∷ []) c.self.view_is
