use Rattle.std.proofs.Common.{◌∙◌, ap, sym, length, arith}
use Rattle.lt_terms.proofs.LayoutLemmas.{length-term_nodes}
use Rattle.lt_terms.proofs.Signs.{alpha-differs, as-many, alpha-vectors}
use Rattle.lt_terms.proofs.alpha.alpha_eq.Goals as goal

pub returns-then-len : goal.returns-then-len
returns-then-len c = sym (alpha-differs c.args.s.now c.args.t.now (λ e. c.if-len.true (c.len.ensures ∙ e ∙ sym c.len-2.ensures)))

pub agree-requires-clause-same : goal.agree-requires-clause-same
agree-requires-clause-same c =
    omega (arith, c.if-len.false, c.len.ensures, c.len-2.ensures, ap length c.nodes.ensures, ap length c.nodes-2.ensures, length-term_nodes 0 c.args.s.now, length-term_nodes 0 c.args.t.now)

pub agree-requires-clause-left : goal.agree-requires-clause-left
agree-requires-clause-left c = as-many c.args.s.now _ _ c.nodes.ensures (c.as_slice.ensures.value ∙ c.in_ok-left.ensures)

pub agree-requires-clause-right : goal.agree-requires-clause-right
agree-requires-clause-right c = as-many c.args.t.now _ _ c.nodes-2.ensures (c.as_slice-2.ensures.value ∙ c.in_ok-right.ensures)

pub returns : goal.returns
returns c =
    c.agree.ensures
    ∙ alpha-vectors c.args.s.now c.args.t.now _ _ _ _ c.nodes.ensures (c.as_slice.ensures.value ∙ c.in_ok-left.ensures) c.nodes-2.ensures (c.as_slice-2.ensures.value ∙ c.in_ok-right.ensures)
