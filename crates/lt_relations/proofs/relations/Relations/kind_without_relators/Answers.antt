use Rattle.std.proofs.Common.{◌∙◌, ap, sym, unwrap_or, option_map}
use Rattle.std.specs.Option.{option_copied}
use Rattle.lt_definitions.specs.Typing.{earlier}
use Rattle.lt_transport_definitions.specs.Relations.{no_constructor, a_correspondence, a_form, form_named}
use Rattle.lt_relations.specs.Told.{correspondence_told}
use Rattle.lt_relations.proofs.relations.Relations.kind_without_relators.Goals as goal

pub returns-in-Some : goal.returns-in-Some
returns-in-Some c =
    ap (λ o. unwrap_or (earlier (option_map a_correspondence o) (option_map a_form (form_named c.args.self.now c.args.name.now))) no_constructor)
    (ap (λ r. option_map correspondence_told (option_copied r)) (sym c.in-Some.is) ∙ c.correspondence_of.ensures)

pub returns-in-None : goal.returns-in-None
returns-in-None c =
    c.kind_as_form.ensures
    ∙ ap (λ o. unwrap_or (earlier (option_map a_correspondence o) (option_map a_form (form_named c.args.self.now c.args.name.now))) no_constructor)
    (ap (λ r. option_map correspondence_told (option_copied r)) (sym c.in-None.is) ∙ c.correspondence_of.ensures)
