use Rattle.std.proofs.Common.{◌≡◌, ◌∙◌, ◌+◌, ◌-◌, ◌++◌, ◌∷◌, [], ℕ, List, ap, arith, length}
use Rattle.lt_terms.specs.Layout.{grow}
use Rattle.lt_terms.proofs.Stacks.{next-leaf, stack-reads, stack-again}
use Rattle.lt_terms.proofs.term_builder.TermBuilder.push_leaf.Goals as goal

pub invariant_of-self-2 : goal.invariant_of-self-2
invariant_of-self-2 c =
    let count : (c.len-count.result - 1) + 1 ≡ length c.self.inside.nodes.items = omega (arith, c.len-count.ensures, c.self.inside.nodes.ok.0, c.if-count-eq0.false) in
    let kept : c.push_reserved.new.self.items ≡ c.self.inside.roots.items ++ (c.len-count.result - 1) ∷ [] =
    c.push_reserved.ensures.items ∙ ap (λ (ps : List ℕ). ps ++ (c.len-count.result - 1) ∷ []) c.in_ok-reserve.ensures.items in
    stack-again _ _ _ (next-leaf _ _ _ _ _ c.args.node (c.len-count.result - 1) c.requires c.self.invariant count kept c.in_ok-push-2.ensures.items)

pub returns-clause-ok : goal.returns-clause-ok
returns-clause-ok c =
    let count : (c.len-count.result - 1) + 1 ≡ length c.self.inside.nodes.items = omega (arith, c.len-count.ensures, c.self.inside.nodes.ok.0, c.if-count-eq0.false) in
    let kept : c.push_reserved.new.self.items ≡ c.self.inside.roots.items ++ (c.len-count.result - 1) ∷ [] =
    c.push_reserved.ensures.items ∙ ap (λ (ps : List ℕ). ps ++ (c.len-count.result - 1) ∷ []) c.in_ok-reserve.ensures.items in
    stack-reads _ _ _ (next-leaf _ _ _ _ _ c.args.node (c.len-count.result - 1) c.requires c.self.invariant count kept c.in_ok-push-2.ensures.items)
    ∙ (λ i. grow (c.self.view_is i) c.args.node)
