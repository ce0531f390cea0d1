use Rattle.std.proofs.Common.{◌∙◌, ap, sym, refl, is_some, Bool, ◌&&◌}
use Rattle.std.specs.List.{list_any}
use Rattle.lt_definitions.specs.Types.{same_name}
use Rattle.lt_types.proofs.NameTables.{copied-some}
use Rattle.lt_transport_definitions.specs.Relations as registry
use Rattle.lt_transport_definitions.specs.Relations.{Registry}
use Rattle.lt_relations.specs.declared.entries.PropertyRule.{PropertyRule}
use Rattle.lt_relations.specs.Told.{property_name, property_rule_told}
use Rattle.lt_relations.specs.Places.{is_rule}
use Rattle.lt_relations.proofs.RegisteringLemmas.{any-told, told-grown, stays, grows}
use Rattle.lt_relations.proofs.relations.Relations.keep_property.Goals as goal

abbrev same_rule : PropertyRule → registry.PropertyRule → Bool
same_rule r e = same_name (property_name r.property) e.property && same_name r.head e.head

pub returns-then-is_some-clause-ok : goal.returns-then-is_some-clause-ok
returns-then-is_some-clause-ok c = λ i. record c.args.self.now {
  property_rules = stays (same_rule c.args.rule) (property_rule_told c.args.rule) c.args.self.now.property_rules
      (ap (λ (G : Registry). list_any (same_rule c.args.rule) G.property_rules) (sym c.self.view_is)
      ∙ any-told property_rule_told (is_rule c.args.rule.property c.args.rule.head) (same_rule c.args.rule) c.self.inside.property_rules (λ r. refl)
      ∙ ap is_some (sym c.get.ensures) ∙ copied-some c.get.result ∙ sym c.is_some.ensures ∙ c.if-is_some.true) i;
}

pub returns-clause-ok : goal.returns-clause-ok
returns-clause-ok c = λ i. record {
  relators = ap (λ (G : Registry). G.relators) c.self.view_is i;
  correspondences = ap (λ (G : Registry). G.correspondences) c.self.view_is i;
  forms = ap (λ (G : Registry). G.forms) c.self.view_is i;
  property_rules = (told-grown property_rule_told c.self.inside.property_rules c.add.new.self c.args.self.now.property_rules c.args.rule c.in_ok-add.ensures.ok
      (ap (λ (G : Registry). G.property_rules) c.self.view_is) ∙ grows (same_rule c.args.rule) (property_rule_told c.args.rule) c.args.self.now.property_rules
      (ap (λ (G : Registry). list_any (same_rule c.args.rule) G.property_rules) (sym c.self.view_is)
      ∙ any-told property_rule_told (is_rule c.args.rule.property c.args.rule.head) (same_rule c.args.rule) c.self.inside.property_rules (λ r. refl)
      ∙ ap is_some (sym c.get.ensures) ∙ copied-some c.get.result ∙ sym c.is_some.ensures ∙ c.if-is_some.false)) i;
  domain_rules = ap (λ (G : Registry). G.domain_rules) c.self.view_is i;
}
