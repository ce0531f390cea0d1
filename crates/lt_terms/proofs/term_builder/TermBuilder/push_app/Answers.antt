use Rattle.std.proofs.Common.{◌≡◌, ◌∙◌, ◌≤◌, ◌+◌, ◌-◌, ◌++◌, ◌∷◌, [], ℕ, ap, sym, arith, length}
use Rattle.lt_terms.specs.Layout.{applied, forest}
use Rattle.lt_terms.proofs.Stacks.{stack-app, stack-some, stack-two, last-root, stack-reads, stack-again}
use Rattle.lt_terms.proofs.term_builder.TermBuilder.push_app.Goals as goal

pub overflow_sub-len : goal.overflow_sub-len
overflow_sub-len c =
    let two : 2 ≤ length (forest [] c.self.inside.nodes.items) = omega (arith, ap length c.self.view_is, c.requires) in
    omega (arith, c.len.ensures, c.self.inside.roots.ok.0, stack-two _ _ _ c.self.invariant two)

pub index-function-requires : goal.index-function-requires
index-function-requires c =
    let two : 2 ≤ length (forest [] c.self.inside.nodes.items) = omega (arith, ap length c.self.view_is, c.requires) in
    omega (arith, c.len.ensures, c.self.inside.roots.ok.0, stack-two _ _ _ c.self.invariant two)

pub take_last-function-requires : goal.take_last-function-requires
take_last-function-requires c =
    let two : 2 ≤ length (forest [] c.self.inside.nodes.items) = omega (arith, ap length c.self.view_is, c.requires) in
    omega (arith, c.self.inside.roots.ok.0, stack-two _ _ _ c.self.invariant two)

pub invariant_of-self-2 : goal.invariant_of-self-2
invariant_of-self-2 c =
    let two : 2 ≤ length (forest [] c.self.inside.nodes.items) = omega (arith, ap length c.self.view_is, c.requires) in
    let count : (c.len-argument.result - 1) + 1 ≡ length c.self.inside.nodes.items =
    omega (arith, c.len-argument.ensures, c.self.inside.nodes.ok.0, stack-some _ _ _ c.self.invariant (omega (arith, two))) in
    let same : c.index-function.result.now ≡ c.take_last-function.result =
    last-root c.self.inside.roots.items c.take_last-function.new.self.items c.take_last-function.result c.index-function.result.now c.len.result
    c.take_last-function.ensures.items (c.len.ensures ∙ c.self.inside.roots.ok.0) c.index-function.ensures in
    stack-again _ _ _ (stack-app _ _ _ _ _ c.index-function.result.now (c.len-argument.result - 1) c.self.invariant two count
    (c.take_last-function.ensures.items ∙ ap (λ (k : ℕ). c.take_last-function.new.self.items ++ k ∷ []) (sym same)) c.in_ok-push.ensures.items)

pub returns-clause-ok : goal.returns-clause-ok
returns-clause-ok c =
    let two : 2 ≤ length (forest [] c.self.inside.nodes.items) = omega (arith, ap length c.self.view_is, c.requires) in
    let count : (c.len-argument.result - 1) + 1 ≡ length c.self.inside.nodes.items =
    omega (arith, c.len-argument.ensures, c.self.inside.nodes.ok.0, stack-some _ _ _ c.self.invariant (omega (arith, two))) in
    let same : c.index-function.result.now ≡ c.take_last-function.result =
    last-root c.self.inside.roots.items c.take_last-function.new.self.items c.take_last-function.result c.index-function.result.now c.len.result
    c.take_last-function.ensures.items (c.len.ensures ∙ c.self.inside.roots.ok.0) c.index-function.ensures in
    stack-reads _ _ _ (stack-app _ _ _ _ _ c.index-function.result.now (c.len-argument.result - 1) c.self.invariant two count
    (c.take_last-function.ensures.items ∙ ap (λ (k : ℕ). c.take_last-function.new.self.items ++ k ∷ []) (sym same)) c.in_ok-push.ensures.items)
    ∙ ap applied c.self.view_is
