use Rattle.std.proofs.Common.{◌∙◌, ap, sym, arith, ◌<◌, length, ℕ, Some}
use Rattle.lt_terms.proofs.OpenBinders.{found-below, from_outside, binder-outside}
use Rattle.lt_terms.proofs.scope.Scope.binder_of.Goals as goal

pub overflow_sub-result-in-Some : goal.overflow_sub-result-in-Some
overflow_sub-result-in-Some c =
    let below : c.in-Some.opening.depth < length c.args.self.now = found-below c.args.name.now c.args.self.now c.in-Some.opening c.in-Some.ensures in omega (arith, below, c.len.ensures)

pub returns-in-Some : goal.returns-in-Some
returns-in-Some c =
    ap (λ (n : ℕ). from_outside n (Some c.in-Some.opening)) c.len.ensures ∙ ap (from_outside (length c.args.self.now)) c.in-Some.ensures ∙ sym (binder-outside c.args.name.now c.args.self.now)

pub returns-in-None : goal.returns-in-None
returns-in-None c =
    ap (from_outside (length c.args.self.now)) c.in-None.ensures ∙ sym (binder-outside c.args.name.now c.args.self.now)
