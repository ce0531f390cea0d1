use Rattle.std.proofs.Common.{◌∙◌, ◌∷◌, ap, sym, subst, List}
use Rattle.lt_definitions.specs.Terms.{TermTree}
use Rattle.lt_terms.specs.Layout.{HasRoom, grow}
use Rattle.lt_terms.proofs.Replacements.{replaces, keeps}
use Rattle.lt_terms.proofs.replacing.put.Goals as goal

pub returns-then-is_free : goal.returns-then-is_free
returns-then-is_free c before e =
    c.in_ok-term.ensures ∙ ap (λ (ts : List TermTree). c.args.by.now ∷ ts) e ∙ replaces c.args.name.now c.args.ty.now c.args.by.now before c.args.node.now (sym c.is_free.ensures ∙ c.if-is_free.true)

pub node-requires : goal.node-requires
node-requires c = subst (HasRoom c.args.builder) (sym c.in_ok-copy.ensures) c.requires

pub returns : goal.returns
returns c before e =
    c.in_ok-node.ensures ∙ (λ i. grow (e i) (c.in_ok-copy.ensures i)) ∙ keeps c.args.name.now c.args.ty.now c.args.by.now before c.args.node.now (sym c.is_free.ensures ∙ c.if-is_free.false) (subst (λ (ts : List TermTree). HasRoom ts c.args.node.now) e c.requires)
