use Rattle.std.proofs.Common.{◌∙◌, ap, refl, option_map}
use Rattle.lt_definitions.specs.Types.{same_name}
use Rattle.lt_transport_definitions.specs.Relations.{Registry, form_for as look_up}
use Rattle.lt_relations.specs.Told.{param_told}
use Rattle.lt_relations.proofs.TableLemmas.{found-thing}
use Rattle.lt_relations.proofs.relations.Relations.param_of.Goals as goal

pub returns : goal.returns
returns c =
    let x = c.args.corr.now in
    ap (option_map param_told) c.get.ensures
    ∙ found-thing (λ r. r.of) param_told (λ r. same_name x r.of) x c.self.inside.forms (λ r. refl) c.self.invariant.by_correspondence
    ∙ ap (λ (G : Registry). look_up G x) c.self.view_is
