use Rattle.std.proofs.Common.{◌∙◌, ap, sym}
use Rattle.std.specs.List.{list_all}
use Rattle.std.specs.Option.{option_copied}
use Rattle.std.proofs.Common.{option_map}
use Rattle.lt_transport_definitions.specs.Relations.{relation_row}
use Rattle.lt_relations.specs.Told.{property_rule_told}
use Rattle.lt_relations.specs.Holdings.{rule_test, side_test_at, premise_test}
use Rattle.lt_relations.proofs.HoldingLemmas.{premises-tested}
use Rattle.lt_relations.proofs.relations.Relations.rule_holds.Goals as goal

pub returns-in-Some : goal.returns-in-Some
returns-in-Some c rs e =
    let G = c.args.self.now in
    c.premises_hold.ensures
    ∙ ap (λ args. list_all (premise_test args) c.in-Some.rule.now.premises) e
    ∙ premises-tested G rs c.in-Some.rule.now.premises
    ∙ ap (λ o. rule_test o (side_test_at G (relation_row rs))) (ap (λ r. option_map property_rule_told (option_copied r)) (sym c.in-Some.is) ∙ c.property_of.ensures)
