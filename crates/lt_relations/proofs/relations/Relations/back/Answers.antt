use Rattle.std.proofs.Common.{ap}
use Rattle.lt_transport_definitions.specs.Relations.{Registry}
use Rattle.lt_relations.specs.Told.{relator_told, correspondence_told, param_told, property_rule_told, domain_rule_told}
use Rattle.lt_relations.proofs.TableLemmas.{keyed-same, named-same, told-same}
use Rattle.lt_relations.proofs.relations.Relations.back.Goals as goal

pub invariant_of-self : goal.invariant_of-self
invariant_of-self c =
    let mark = c.args.mark in
    let old = c.self.inside in
    let kept = c.self.invariant in
    record {
      functions = kept.functions;
      function_relator = kept.function_relator;
      by_type = keyed-same (λ r. r.con) mark.relators old.relators c.cut.new.self c.cut.ensures kept.by_type;
      by_relator = named-same (λ e. (e.1.rel, e.1.con)) mark.relators old.relators c.cut.new.self old.relator_types c.cut-2.new.self c.cut.ensures c.cut-2.ensures kept.by_relator;
      by_name = keyed-same (λ d. d.name) mark.correspondences old.correspondences c.cut-3.new.self c.cut-3.ensures kept.by_name;
      by_correspondence = keyed-same (λ p. p.of) mark.forms old.forms c.cut-4.new.self c.cut-4.ensures kept.by_correspondence;
      by_form = named-same (λ e. (e.1.name, e.1.of)) mark.forms old.forms c.cut-4.new.self old.form_of c.cut-5.new.self c.cut-4.ensures c.cut-5.ensures kept.by_form;
      by_head = keyed-same (λ r. r.head) mark.domain_rules old.domain_rules c.cut-7.new.self c.cut-7.ensures kept.by_head;
    }

pub returns : goal.returns
returns c =
    let mark = c.args.mark in
    let old = c.self.inside in
    let now = c.args.self.now in
    λ i. record {
      relators = told-same (λ e. relator_told e.1) mark.relators old.relators c.cut.new.self now.relators c.cut.ensures (ap (λ (G : Registry). G.relators) c.self.view_is) i;
      correspondences = told-same (λ e. correspondence_told e.1) mark.correspondences old.correspondences c.cut-3.new.self now.correspondences c.cut-3.ensures
          (ap (λ (G : Registry). G.correspondences) c.self.view_is) i;
      forms = told-same (λ e. param_told e.1) mark.forms old.forms c.cut-4.new.self now.forms c.cut-4.ensures (ap (λ (G : Registry). G.forms) c.self.view_is) i;
      property_rules = told-same property_rule_told mark.property_rules old.property_rules c.cut-6.new.self now.property_rules c.cut-6.ensures
          (ap (λ (G : Registry). G.property_rules) c.self.view_is) i;
      domain_rules = told-same (λ e. domain_rule_told e.1) mark.domain_rules old.domain_rules c.cut-7.new.self now.domain_rules c.cut-7.ensures
          (ap (λ (G : Registry). G.domain_rules) c.self.view_is) i;
    }
