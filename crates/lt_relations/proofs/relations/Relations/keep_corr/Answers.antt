use Rattle.std.proofs.Common.{◌∙◌, ap, sym, refl}
use Rattle.std.specs.List.{list_any}
use Rattle.lt_definitions.specs.Types.{same_name}
use Rattle.lt_transport_definitions.specs.Relations.{Registry}
use Rattle.lt_relations.specs.Told.{correspondence_told}
use Rattle.lt_relations.proofs.RegisteringLemmas.{any-keyed, keyed-grown, told-grown, stays, grows}
use Rattle.lt_relations.proofs.relations.Relations.keep_corr.Goals as goal

pub returns-then-has-clause-ok : goal.returns-then-has-clause-ok
returns-then-has-clause-ok c = λ i. record c.args.self.now {
  correspondences = stays (λ e. same_name c.args.corr.name e.name) (correspondence_told c.args.corr) c.args.self.now.correspondences
      (ap (λ (G : Registry). list_any (λ e. same_name c.args.corr.name e.name) G.correspondences) (sym c.self.view_is)
      ∙ any-keyed (λ d. d.name) correspondence_told (λ e. same_name c.args.corr.name e.name) c.args.corr.name c.self.inside.correspondences (λ d. refl) c.self.invariant.by_name
      ∙ sym c.has.ensures ∙ c.if-has.true) i;
}

pub invariant_of-self-2 : goal.invariant_of-self-2
invariant_of-self-2 c = record {
  functions = c.self.invariant.functions;
  function_relator = c.self.invariant.function_relator;
  by_type = c.self.invariant.by_type;
  by_relator = c.self.invariant.by_relator;
  by_name = keyed-grown (λ d. d.name) c.self.inside.correspondences c.add.new.self c.in_ok-copy.field-0 c.args.corr c.self.invariant.by_name c.in_ok-add.ensures.ok c.in_ok-copy.ensures;
  by_correspondence = c.self.invariant.by_correspondence;
  by_form = c.self.invariant.by_form;
  by_head = c.self.invariant.by_head;
}

pub returns-clause-ok : goal.returns-clause-ok
returns-clause-ok c = λ i. record {
  relators = ap (λ (G : Registry). G.relators) c.self.view_is i;
  correspondences = (told-grown (λ e. correspondence_told e.1) c.self.inside.correspondences c.add.new.self c.args.self.now.correspondences (c.in_ok-copy.field-0, c.args.corr) c.in_ok-add.ensures.ok
      (ap (λ (G : Registry). G.correspondences) c.self.view_is) ∙ grows (λ e. same_name c.args.corr.name e.name) (correspondence_told c.args.corr) c.args.self.now.correspondences
      (ap (λ (G : Registry). list_any (λ e. same_name c.args.corr.name e.name) G.correspondences) (sym c.self.view_is) ∙ any-keyed (λ d. d.name) correspondence_told (λ e. same_name c.args.corr.name e.name) c.args.corr.name c.self.inside.correspondences (λ d. refl) c.self.invariant.by_name ∙ sym c.has.ensures ∙ c.if-has.false)) i;
  forms = ap (λ (G : Registry). G.forms) c.self.view_is i;
  property_rules = ap (λ (G : Registry). G.property_rules) c.self.view_is i;
  domain_rules = ap (λ (G : Registry). G.domain_rules) c.self.view_is i;
}
