use Rattle.std.proofs.Common.{◌∙◌, ap, refl, is_some}
use Rattle.lt_definitions.specs.Types.{same_name, found}
use Rattle.lt_transport_definitions.specs.Relations.{Registry}
use Rattle.lt_relations.specs.Told.{param_told}
use Rattle.lt_relations.proofs.RegisteringLemmas.{none-keyed, second-there, keyed-grown, named-grown}
use Rattle.lt_relations.proofs.relations.Relations.keep_param.Goals as goal

pub add-requires : goal.add-requires
add-requires c =
    let x = c.args.param.name in
    ap (λ y. is_some (found y c.self.inside.form_of)) c.in_ok-name.ensures
    ∙ second-there (λ r. r.name) (λ r. r.of) param_told (λ r. same_name x r.name) (λ r. r.of) x c.self.inside.forms c.self.inside.form_of c.args.self.now.forms (λ r. refl) (λ r. refl)
    c.self.invariant.by_form (ap (λ (G : Registry). G.forms) c.self.view_is)
    ∙ c.requires.name

pub add-requires-2 : goal.add-requires-2
add-requires-2 c =
    let x = c.args.param.of in
    ap (λ y. is_some (found y c.self.inside.forms)) c.in_ok-of.ensures
    ∙ none-keyed (λ r. r.of) param_told (λ r. same_name x r.of) x c.self.inside.forms c.args.self.now.forms (λ r. refl) c.self.invariant.by_correspondence (ap (λ (G : Registry). G.forms) c.self.view_is)
    c.requires.of

pub invariant_of-self-in-Ok : goal.invariant_of-self-in-Ok
invariant_of-self-in-Ok c = record {
  functions = c.self.invariant.functions;
  function_relator = c.self.invariant.function_relator;
  by_type = c.self.invariant.by_type;
  by_relator = c.self.invariant.by_relator;
  by_name = c.self.invariant.by_name;
  by_correspondence = keyed-grown (λ d. d.of) c.self.inside.forms c.add-2.new.self c.in_ok-of.of c.args.param c.self.invariant.by_correspondence c.in-Ok.ensures.ok c.in_ok-of.ensures;
  by_form = named-grown (λ e. (e.1.name, e.1.of)) c.self.inside.forms c.add-2.new.self c.self.inside.form_of c.add.new.self (c.in_ok-of.of, c.args.param) (c.in_ok-name.name, c.in_ok-copy.field-0)
      c.in-Ok.ensures.ok c.in_ok-add.ensures.ok c.self.invariant.by_form (λ i. (c.in_ok-name.ensures i, c.in_ok-copy.ensures i));
  by_head = c.self.invariant.by_head;
}
