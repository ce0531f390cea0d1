use Rattle.std.proofs.Common.{◌∙◌, ◌∷◌, ◌++◌, [], ap, is_some}
use Rattle.lt_definitions.specs.Types.{found}
use Rattle.lt_types.proofs.NameTables.{inserted-new}
use Rattle.lt_rules.proofs.IndexLemmas.{changes-new}
use Rattle.lt_rules.proofs.rule_index.RuleIndex.add_first.Goals as goal

pub returns-clause-ok : goal.returns-clause-ok
returns-clause-ok c =
    let x = c.args.constant in
    let old = c.args.self.now in
    let list = c.push.new.self in
    changes-new x (λ rules. rules ++ c.args.rule ∷ []) old _ list c.requires
    (c.in_ok-insert.ensures.entries
    ∙ inserted-new x list c.self.inside.lists.entries (ap (λ es. is_some (found x es)) c.self.view_is ∙ ap is_some c.requires)
    ∙ ap (λ es. es ++ (x, list) ∷ []) c.self.view_is)
    (c.in_ok-push.ensures.ok ∙ ap (λ rules. rules ++ c.args.rule ∷ []) c.new-list.ensures)
