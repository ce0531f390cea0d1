use Rattle.std.proofs.Common.{◌≡◌, ◌∙◌, ◌-◌, [], sym, subst, arith, length, take, reverse, List, Option, ℕ}
use Rattle.lt_terms.specs.declared.bound_names.Binder.{Binder}
use Rattle.lt_terms.specs.Layout.{forest}
use Rattle.lt_terms.proofs.LayoutLemmas.{whole}
use Rattle.lt_terms.proofs.BinderPasses.{IsFinding, at-end, at-start, some-pending, visited}
use Rattle.lt_terms.proofs.bound_names.innermost_binders.Goals as goal

pub loop-at-init : goal.loop-at-init
loop-at-init c =
    subst (λ (found : List (Option Binder)). IsFinding c.args.t.now (forest [] (take (length c.nodes-nodes.result.now) c.nodes-nodes.result.now)) c.in_ok-pending.pending (reverse found)) (sym c.in_ok-found.ensures.items)
    (at-end c.args.t.now _ c.in_ok-pending.pending (whole _ c.args.t.now (length c.nodes-nodes.result.now) c.nodes-nodes.ensures (omega arith) (omega arith)) c.in_ok-pending.ensures)

pub visit-requires : goal.visit-requires
visit-requires c =
    some-pending c.args.t.now c.nodes-nodes.result.now c.loop-at.at (c.loop-at.at - 1) c.index-nodes-at.result c.loop-at.pending (reverse c.loop-at.found.items) c.nodes-nodes.ensures
    (omega (arith, c.loop-at-test.true)) (omega (arith, c.loop-at-test.true, c.loop-at.auto.at)) c.index-nodes-at.is c.loop-at.invariant

pub loop-at-preserved : goal.loop-at-preserved
loop-at-preserved c =
    visited c.args.t.now c.nodes-nodes.result.now c.loop-at.at (c.loop-at.at - 1) c.index-nodes-at.result c.loop-at.pending c.in_ok-later.later c.in_ok-later.binder c.loop-at.found.items c.push.new.self.items c.nodes-nodes.ensures
    (omega (arith, c.loop-at-test.true)) (omega (arith, c.loop-at-test.true, c.loop-at.auto.at)) c.index-nodes-at.is c.in_ok-later.ensures c.in_ok-push.ensures.items c.loop-at.invariant

pub returns : goal.returns
returns c =
    let none : c.loop-at.at ≡ 0 = omega (arith, c.loop-at-test.false) in
    c.reverse.ensures.items
    ∙ sym (at-start c.args.t.now c.loop-at.pending (reverse c.loop-at.found.items)
    (subst (λ (at : ℕ). IsFinding c.args.t.now (forest [] (take at c.nodes-nodes.result.now)) c.loop-at.pending (reverse c.loop-at.found.items)) none c.loop-at.invariant))
