use Rattle.std.proofs.Common.{◌∙◌, ap, refl, option_map}
use Rattle.lt_definitions.specs.Types.{same_name}
use Rattle.lt_transport_definitions.specs.Relations.{Registry, relator_of as look_up}
use Rattle.lt_relations.specs.Told.{relator_told}
use Rattle.lt_relations.proofs.TableLemmas.{found-thing}
use Rattle.lt_relations.proofs.relations.Relations.relator_of.Goals as goal

pub returns : goal.returns
returns c =
    let x = c.args.con.now in
    ap (option_map relator_told) c.get.ensures
    ∙ found-thing (λ r. r.con) relator_told (λ r. same_name x r.con) x c.self.inside.relators (λ r. refl) c.self.invariant.by_type
    ∙ ap (λ (G : Registry). look_up G x) c.self.view_is
