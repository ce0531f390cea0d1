use Rattle.std.proofs.Common.{◌∙◌, ap, refl, option_map}
use Rattle.lt_definitions.specs.Types.{same_name}
use Rattle.lt_transport_definitions.specs.Relations.{Registry, correspondence_of as look_up}
use Rattle.lt_relations.specs.Told.{correspondence_told}
use Rattle.lt_relations.proofs.TableLemmas.{found-thing}
use Rattle.lt_relations.proofs.relations.Relations.correspondence_of.Goals as goal

pub returns : goal.returns
returns c =
    let x = c.args.name.now in
    ap (option_map correspondence_told) c.get.ensures
    ∙ found-thing (λ r. r.name) correspondence_told (λ r. same_name x r.name) x c.self.inside.correspondences (λ r. refl) c.self.invariant.by_name
    ∙ ap (λ (G : Registry). look_up G x) c.self.view_is
