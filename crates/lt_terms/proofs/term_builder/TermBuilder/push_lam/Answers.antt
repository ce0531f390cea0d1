use Rattle.std.proofs.Common.{◌≡◌, ◌∙◌, ◌≤◌, ◌+◌, ◌-◌, [], ap, arith, length}
use Rattle.lt_terms.specs.Layout.{abstracted, forest}
use Rattle.lt_terms.proofs.Stacks.{stack-lam, stack-some, stack-reads, stack-again}
use Rattle.lt_terms.proofs.term_builder.TermBuilder.push_lam.Goals as goal

pub invariant_of-self-2 : goal.invariant_of-self-2
invariant_of-self-2 c =
    let one : 1 ≤ length (forest [] c.self.inside.nodes.items) = omega (arith, ap length c.self.view_is, c.requires) in
    let count : (c.len-body.result - 1) + 1 ≡ length c.self.inside.nodes.items = omega (arith, c.len-body.ensures, c.self.inside.nodes.ok.0, stack-some _ _ _ c.self.invariant one) in
    stack-again _ _ _ (stack-lam _ _ _ _ c.args.name c.args.ty (c.len-body.result - 1) c.self.invariant one count c.in_ok-push.ensures.items)

pub returns-clause-ok : goal.returns-clause-ok
returns-clause-ok c =
    let one : 1 ≤ length (forest [] c.self.inside.nodes.items) = omega (arith, ap length c.self.view_is, c.requires) in
    let count : (c.len-body.result - 1) + 1 ≡ length c.self.inside.nodes.items = omega (arith, c.len-body.ensures, c.self.inside.nodes.ok.0, stack-some _ _ _ c.self.invariant one) in
    stack-reads _ _ _ (stack-lam _ _ _ _ c.args.name c.args.ty (c.len-body.result - 1) c.self.invariant one count c.in_ok-push.ensures.items)
    ∙ ap (abstracted c.args.name c.args.ty) c.self.view_is
