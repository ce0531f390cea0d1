use Rattle.std.proofs.Common.{◌∙◌, ap, sym, refl}
use Rattle.std.specs.List.{list_any}
use Rattle.lt_definitions.specs.Types.{same_name}
use Rattle.lt_transport_definitions.specs.Relations.{Registry}
use Rattle.lt_relations.specs.Told.{domain_rule_told}
use Rattle.lt_relations.proofs.RegisteringLemmas.{any-keyed, keyed-grown, told-grown, stays, grows}
use Rattle.lt_relations.proofs.relations.Relations.keep_domain.Goals as goal

pub returns-then-has-clause-ok : goal.returns-then-has-clause-ok
returns-then-has-clause-ok c = λ i. record c.args.self.now {
  domain_rules = stays (λ e. same_name c.args.rule.head e.head) (domain_rule_told c.args.rule) c.args.self.now.domain_rules
      (ap (λ (G : Registry). list_any (λ e. same_name c.args.rule.head e.head) G.domain_rules) (sym c.self.view_is)
      ∙ any-keyed (λ d. d.head) domain_rule_told (λ e. same_name c.args.rule.head e.head) c.args.rule.head c.self.inside.domain_rules (λ d. refl) c.self.invariant.by_head
      ∙ sym c.has.ensures ∙ c.if-has.true) i;
}

pub invariant_of-self-2 : goal.invariant_of-self-2
invariant_of-self-2 c = record {
  functions = c.self.invariant.functions;
  function_relator = c.self.invariant.function_relator;
  by_type = c.self.invariant.by_type;
  by_relator = c.self.invariant.by_relator;
  by_name = c.self.invariant.by_name;
  by_correspondence = c.self.invariant.by_correspondence;
  by_form = c.self.invariant.by_form;
  by_head = keyed-grown (λ d. d.head) c.self.inside.domain_rules c.add.new.self c.in_ok-copy.field-0 c.args.rule c.self.invariant.by_head c.in_ok-add.ensures.ok c.in_ok-copy.ensures;
}

pub returns-clause-ok : goal.returns-clause-ok
returns-clause-ok c = λ i. record {
  relators = ap (λ (G : Registry). G.relators) c.self.view_is i;
  correspondences = ap (λ (G : Registry). G.correspondences) c.self.view_is i;
  forms = ap (λ (G : Registry). G.forms) c.self.view_is i;
  property_rules = ap (λ (G : Registry). G.property_rules) c.self.view_is i;
  domain_rules = (told-grown (λ e. domain_rule_told e.1) c.self.inside.domain_rules c.add.new.self c.args.self.now.domain_rules (c.in_ok-copy.field-0, c.args.rule) c.in_ok-add.ensures.ok
      (ap (λ (G : Registry). G.domain_rules) c.self.view_is) ∙ grows (λ e. same_name c.args.rule.head e.head) (domain_rule_told c.args.rule) c.args.self.now.domain_rules
      (ap (λ (G : Registry). list_any (λ e. same_name c.args.rule.head e.head) G.domain_rules) (sym c.self.view_is) ∙ any-keyed (λ d. d.head) domain_rule_told (λ e. same_name c.args.rule.head e.head) c.args.rule.head c.self.inside.domain_rules (λ d. refl) c.self.invariant.by_head ∙ sym c.has.ensures ∙ c.if-has.false)) i;
}
