use Rattle.std.proofs.Common.{◌∙◌, ap, sym, refl, is_some}
use Rattle.lt_definitions.specs.Types.{same_name}
use Rattle.lt_transport_definitions.specs.Relations.{Registry, form_for}
use Rattle.lt_relations.specs.Told.{param_told}
use Rattle.lt_relations.proofs.TableLemmas.{found-thing}
use Rattle.lt_relations.proofs.RegisteringLemmas.{some-map}
use Rattle.lt_definitions.specs.Types.{found}
use Rattle.lt_relations.proofs.relations.Relations.has_form.Goals as goal

pub returns : goal.returns
returns c =
    let x = c.args.corr.now in
    c.has.ensures
    ∙ sym (some-map param_told (found x c.self.inside.forms))
    ∙ ap is_some (found-thing (λ p. p.of) param_told (λ p. same_name x p.of) x c.self.inside.forms (λ p. refl) c.self.invariant.by_correspondence
    ∙ ap (λ (G : Registry). form_for G x) c.self.view_is)
