use Rattle.std.proofs.Common.{◌≡◌, ◌∷◌, [], ◌∙◌, ap, sym, reverse, Some, arith}
use Rattle.std.proofs.lemmas.Grind.{common_steps}
use Rattle.std.proofs.lemmas.List.{reverse-append}
use Rattle.lt_hol.specs.TypeTables.{type_at}
use Rattle.lt_store.specs.KnownTypes.{outwards}
use Rattle.lt_store.proofs.TypeNumberLemmas.{has-at, has-within, at-has}
use Rattle.lt_store.proofs.heads.ascend.Goals as goal

pub loop-step-preserved : goal.loop-step-preserved
loop-step-preserved c =
    let was = ap reverse c.in-Some.ensures.items ∙ reverse-append c.pop.new.self.items (c.in-Some.step ∷ []) in
    record {
      within = has-within c.step_out.new.types c.in_ok-number.number _ c.in_ok-number.ensures;
      is = ap (outwards (reverse c.pop.new.self.items)) (has-at c.step_out.new.types c.in_ok-number.number _ c.in_ok-number.ensures) ∙ ap (λ ss. outwards ss (type_at c.loop-step.types c.loop-step.number)) (sym was) ∙ c.loop-step.invariant.is;
    }

pub returns : goal.returns
returns c =
    let none : c.loop-step.steps.items ≡ [] = grind (arith, common_steps) in
    at-has _ _ c.loop-step.invariant.within ∙ ap Some (ap (λ ss. outwards ss (type_at c.loop-step.types c.loop-step.number)) (sym (ap reverse none)) ∙ c.loop-step.invariant.is)
