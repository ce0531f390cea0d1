use Rattle.std.proofs.Common.{◌∙◌, ap, refl, option_map, ◌&&◌}
use Rattle.lt_definitions.specs.Types.{same_name}
use Rattle.lt_transport_definitions.specs.Relations.{Registry, property_rule_for}
use Rattle.lt_relations.specs.Told.{property_name, property_rule_told}
use Rattle.lt_relations.specs.Places.{is_rule}
use Rattle.lt_relations.proofs.TableLemmas.{found-told}
use Rattle.lt_relations.proofs.relations.Relations.property_of.Goals as goal

pub returns : goal.returns
returns c =
    let p = c.args.property in
    let x = c.args.head.now in
    ap (option_map property_rule_told) c.get.ensures
    ∙ found-told property_rule_told (is_rule p x) (λ r. same_name (property_name p) r.property && same_name x r.head) c.self.inside.property_rules (λ r. refl)
    ∙ ap (λ (G : Registry). property_rule_for G (property_name p) x) c.self.view_is
