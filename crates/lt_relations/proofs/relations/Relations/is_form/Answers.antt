use Rattle.std.proofs.Common.{◌∙◌, ap, refl}
use Rattle.lt_definitions.specs.Types.{same_name}
use Rattle.lt_transport_definitions.specs.Relations.{Registry}
use Rattle.lt_relations.specs.Told.{param_told}
use Rattle.lt_relations.proofs.RegisteringLemmas.{second-there}
use Rattle.lt_relations.proofs.relations.Relations.is_form.Goals as goal

pub returns : goal.returns
returns c =
    let x = c.args.name.now in
    c.has.ensures
    ∙ second-there (λ p. p.name) (λ p. p.of) param_told (λ p. same_name x p.name) (λ p. p.of) x c.self.inside.forms c.self.inside.form_of c.args.self.now.forms (λ p. refl) (λ p. refl)
    c.self.invariant.by_form (ap (λ (G : Registry). G.forms) c.self.view_is)
