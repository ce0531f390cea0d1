use Rattle.std.proofs.Common.{◌∙◌}
use Rattle.lt_definitions.specs.Terms.{abstraction}
use Rattle.lt_terms.proofs.NewNames.{closed-by, closing-nameless}
use Rattle.lt_terms.proofs.closing.close_free.Goals as goal

pub returns-clause-closes : goal.returns-clause-closes
returns-clause-closes c =
    closed-by c.in_ok-binder.binder _ c.args.name.now c.args.ty.now _ c.args.t.now _ _ c.in_ok-lam.field-0
    c.in_ok-binder.ensures c.in_ok-copy.ensures c.in_ok-bound.ensures c.in_ok-body.ensures c.in_ok-copy-2.ensures
    (c.in_ok-lam.ensures ∙ (λ i. abstraction (c.binder.view_is i) c.in_ok-copy-2.field-0 c.in_ok-body.body))

pub returns-clause-nameless : goal.returns-clause-nameless
returns-clause-nameless c =
    closing-nameless c.args.name.now c.args.ty.now c.args.t.now c.in_ok-lam.field-0
    (closed-by c.in_ok-binder.binder _ c.args.name.now c.args.ty.now _ c.args.t.now _ _ c.in_ok-lam.field-0
    c.in_ok-binder.ensures c.in_ok-copy.ensures c.in_ok-bound.ensures c.in_ok-body.ensures c.in_ok-copy-2.ensures
    (c.in_ok-lam.ensures ∙ (λ i. abstraction (c.binder.view_is i) c.in_ok-copy-2.field-0 c.in_ok-body.body)))
