use Rattle.std.proofs.Common.{◌∙◌, ap}
use Rattle.lt_transport_definitions.specs.Relations.{Registry}
use Rattle.lt_relations.specs.Told.{property_name}
use Rattle.lt_relations.specs.Registries.{needs}
use Rattle.lt_relations.proofs.TableLemmas.{premises-told}
use Rattle.lt_relations.proofs.relations.Relations.needs.Goals as goal

pub returns : goal.returns
returns c =
    c.need.ensures
    ∙ premises-told c.args.property c.self.inside.property_rules
    ∙ ap (λ (G : Registry). needs G (property_name c.args.property)) c.self.view_is
