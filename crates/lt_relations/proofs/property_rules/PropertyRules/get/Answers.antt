use Rattle.std.proofs.Common.{◌∙◌, ap, sym, find}
use Rattle.lt_transport_definitions.specs.Answers.{given}
use Rattle.lt_relations.specs.Places.{is_rule, rule_in}
use Rattle.lt_relations.proofs.PlaceLemmas.{found-placed}
use Rattle.lt_relations.proofs.property_rules.PropertyRules.get.Goals as goal

pub returns-in-Some : goal.returns-in-Some
returns-in-Some c =
    let p = c.args.property in
    let x = c.args.head.now in
    let rules = c.self.inside.rules.items in
    c.rule_in.ensures
    ∙ ap (λ rs. rule_in rs p x c.in-Some.place) c.deref.ensures.value
    ∙ ap (λ o. given o λ i. rule_in rules p x i) (sym c.in-Some.is ∙ c.place_of.ensures)
    ∙ found-placed c.self.inside.heads.entries rules p x c.self.invariant
    ∙ ap (find (is_rule p x)) c.self.view_is

pub returns-in-None : goal.returns-in-None
returns-in-None c =
    let p = c.args.property in
    let x = c.args.head.now in
    let rules = c.self.inside.rules.items in
    ap (λ o. given o λ i. rule_in rules p x i) (sym c.in-None.is ∙ c.place_of.ensures)
    ∙ found-placed c.self.inside.heads.entries rules p x c.self.invariant
    ∙ ap (find (is_rule p x)) c.self.view_is
