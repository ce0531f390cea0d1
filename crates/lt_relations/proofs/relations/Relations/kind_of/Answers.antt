use Rattle.std.proofs.Common.{◌∙◌, ap, sym, unwrap_or, option_map}
use Rattle.std.specs.Option.{option_copied}
use Rattle.lt_definitions.specs.Typing.{earlier}
use Rattle.lt_transport_definitions.specs.Relations.{no_constructor, a_relator, a_correspondence, a_form, correspondence_of, form_named}
use Rattle.lt_relations.proofs.relations.Relations.kind_of.Goals as goal

pub returns-in-Some : goal.returns-in-Some
returns-in-Some c =
    let G = c.args.self.now in
    let x = c.args.name.now in
    ap (λ o. unwrap_or (earlier (option_map a_relator o) (earlier (option_map a_correspondence (correspondence_of G x)) (option_map a_form (form_named G x)))) no_constructor)
    (ap option_copied (sym c.in-Some.is) ∙ c.relator_named.ensures)

pub returns-in-None : goal.returns-in-None
returns-in-None c =
    let G = c.args.self.now in
    let x = c.args.name.now in
    c.kind_without_relators.ensures
    ∙ ap (λ o. unwrap_or (earlier (option_map a_relator o) (earlier (option_map a_correspondence (correspondence_of G x)) (option_map a_form (form_named G x)))) no_constructor)
    (ap option_copied (sym c.in-None.is) ∙ c.relator_named.ensures)
