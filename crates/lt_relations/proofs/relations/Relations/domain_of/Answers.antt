use Rattle.std.proofs.Common.{◌∙◌, ap, refl, option_map}
use Rattle.lt_definitions.specs.Types.{same_name}
use Rattle.lt_transport_definitions.specs.Relations.{Registry, domain_rule_for as look_up}
use Rattle.lt_relations.specs.Told.{domain_rule_told}
use Rattle.lt_relations.proofs.TableLemmas.{found-thing}
use Rattle.lt_relations.proofs.relations.Relations.domain_of.Goals as goal

pub returns : goal.returns
returns c =
    let x = c.args.head.now in
    ap (option_map domain_rule_told) c.get.ensures
    ∙ found-thing (λ r. r.head) domain_rule_told (λ r. same_name x r.head) x c.self.inside.domain_rules (λ r. refl) c.self.invariant.by_head
    ∙ ap (λ (G : Registry). look_up G x) c.self.view_is
