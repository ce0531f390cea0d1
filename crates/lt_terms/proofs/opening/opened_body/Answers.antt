use Rattle.std.proofs.Common.{◌∙◌, ◌∷◌, ◌+◌, ◌-◌, [], ap, sym, subst, refl, arith, length, drop, Some, List}
use Rattle.lt_definitions.specs.Terms.{TermTree}
use Rattle.lt_terms.proofs.Signs.{as-many}
use Rattle.lt_terms.proofs.OpenNodes.{Reaches, around_opened, opens-whole, reaches-next, opens-end, opened-one}
use Rattle.lt_terms.proofs.opening.opened_body.Goals as goal

pub loop-at-init : goal.loop-at-init
loop-at-init c = opens-whole c.args.by.now c.args.lam.now c.nodes-nodes.result.now c.in_ok-binders.binders.items c.new-builder.result _ c.requires c.nodes-nodes.ensures c.in_ok-binders.ensures c.new-builder.ensures refl

pub put-requires : goal.put-requires
put-requires c =
    (reaches-next _ c.args.by.now c.loop-at.builder _ c.nodes-nodes.result.now c.in_ok-binders.binders.items c.loop-at.at c.index-nodes-at.result c.index.result.now (omega (arith, c.loop-at-test.true))
    (as-many c.args.lam.now _ _ c.nodes-nodes.ensures c.in_ok-binders.ensures) c.index-nodes-at.is c.index.ensures c.loop-at.invariant).0

pub loop-at-preserved : goal.loop-at-preserved
loop-at-preserved c =
    subst (λ (ts : List TermTree). Reaches (length c.nodes-nodes.result.now - 1) c.args.by.now ts (drop (c.loop-at.at + 1) c.nodes-nodes.result.now) (drop (c.loop-at.at + 1) c.in_ok-binders.binders.items) (around_opened c.args.by.now c.args.lam.now ∷ [])) (sym c.in_ok-builder.ensures)
    (reaches-next _ c.args.by.now c.loop-at.builder _ c.nodes-nodes.result.now c.in_ok-binders.binders.items c.loop-at.at c.index-nodes-at.result c.index.result.now (omega (arith, c.loop-at-test.true))
    (as-many c.args.lam.now _ _ c.nodes-nodes.ensures c.in_ok-binders.ensures) c.index-nodes-at.is c.index.ensures c.loop-at.invariant).1

pub finish-requires : goal.finish-requires
finish-requires c =
    ap length (opens-end c.args.by.now c.args.lam.now c.nodes-nodes.result.now c.in_ok-binders.binders.items c.loop-at.builder _ c.loop-at.at c.requires c.nodes-nodes.ensures c.in_ok-binders.ensures refl
    c.loop-at-test.false c.loop-at.auto.at-end c.loop-at.invariant).1

pub returns : goal.returns
returns c =
    let end = opens-end c.args.by.now c.args.lam.now c.nodes-nodes.result.now c.in_ok-binders.binders.items c.loop-at.builder _ c.loop-at.at c.requires c.nodes-nodes.ensures c.in_ok-binders.ensures refl
    c.loop-at-test.false c.loop-at.auto.at-end c.loop-at.invariant in
    end.2 ∙ ap Some (opened-one end.0 c.finish.result (sym end.1 ∙ c.finish.ensures))
