use Rattle.std.proofs.Common.{◌≡◌, ◌∙◌, ℕ, [], None, Option, List, ap, arith, replicate}
use Rattle.lt_terms.specs.declared.bound_names.Binder.{Binder}
use Rattle.lt_terms.specs.Layout.{term_size}
use Rattle.lt_terms.proofs.NoBinders.{no-binders}
use Rattle.lt_terms.proofs.bound_names.no_binders.Goals as goal

pub returns : goal.returns
returns c =
    let end : c.loop.counter ≡ term_size c.args.t.now = omega (arith, c.loop.auto.counter-end, c.loop-test.false, c.len-count.ensures) in
    c.loop.invariant ∙ ap (λ (n : ℕ). let none : List (Option Binder) = replicate n None in none) end ∙ no-binders 0 [] c.args.t.now c.requires
