use Rattle.std.proofs.Common.{◌∙◌, ap, sym}
use Rattle.std.specs.Option.{option_copied}
use Rattle.lt_definitions.specs.Types.{found}
use Rattle.lt_transport_definitions.specs.Answers.{given}
use Rattle.lt_transport_definitions.specs.Relations.{Registry, correspondence_of}
use Rattle.lt_relations.proofs.TableLemmas.{form-found}
use Rattle.lt_relations.proofs.relations.Relations.form_named.Goals as goal

pub returns-in-Some : goal.returns-in-Some
returns-in-Some c =
    let x = c.args.name.now in
    c.correspondence_of.ensures
    ∙ ap (λ o. given o λ of. correspondence_of c.args.self.now of) (ap option_copied (sym c.in-Some.is) ∙ c.get.ensures ∙ ap (found x) c.self.invariant.by_form)
    ∙ form-found x c.self.inside.forms c.args.self.now (ap (λ (G : Registry). G.forms) c.self.view_is)

pub returns-in-None : goal.returns-in-None
returns-in-None c =
    let x = c.args.name.now in
    ap (λ o. given o λ of. correspondence_of c.args.self.now of) (ap option_copied (sym c.in-None.is) ∙ c.get.ensures ∙ ap (found x) c.self.invariant.by_form)
    ∙ form-found x c.self.inside.forms c.args.self.now (ap (λ (G : Registry). G.forms) c.self.view_is)
