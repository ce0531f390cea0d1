use Rattle.std.proofs.Common.{◌∙◌, ◌∷◌, ◌++◌, [], option_map, sym, ap}
use Rattle.lt_forms.specs.Told.{quantifier_told}
use Rattle.lt_forms.proofs.StatementLemmas.{quantified-next}
use Rattle.lt_forms.proofs.statements.quantified.Goals as goal

pub loop-name-preserved : goal.loop-name-preserved
loop-name-preserved c =
    quantified-next c.loop-name.binders.items c.push.new.self.items c.loop-name.rest c.in-Some.body c.in-Some.name.now c.in-Some.ty.now
    (sym c.quantifier.ensures ∙ ap (option_map quantifier_told) c.in-Some.is)
    (c.in_ok-push.ensures.items ∙ (λ i. c.loop-name.binders.items ++ (c.in_ok-copy.ensures i, c.in_ok-copy-2.ensures i) ∷ []))
    ∙ c.loop-name.invariant
