use Rattle.std.proofs.Common.{◌≡◌, ◌+◌, ◌∙◌, ap, arith, length, true, List}
use Rattle.std.specs.List.{list_all}
use Rattle.lt_terms.specs.declared.term.TermNode.{TermNode}
use Rattle.lt_hol.specs.Lines.{are_in_order, has_children_below, is_within, rules_of}
use Rattle.lt_hol.proofs.LineLemmas.{grown, order-more, within-node, rules-stay}
use Rattle.lt_hol.proofs.lines.Lines.add_node.Goals as goal

pub invariant_of-self : goal.invariant_of-self
invariant_of-self c =
    let z : 0 + length c.args.self.now.nodes ≡ length c.args.self.now.nodes = omega arith in
    record {
      in_order = grown c.push.result (λ (ns : List TermNode). are_in_order 0 ns ≡ true) c.args.self.now.nodes c.push.new.self c.args.node c.push.ensures.ok c.push.ensures.err c.args.self.now.in_order
          (order-more 0 c.args.self.now.nodes c.args.node c.args.self.now.in_order (ap (λ k. has_children_below k c.args.node) z ∙ c.requires));
      within = grown c.push.result (λ (ns : List TermNode). list_all (is_within (length ns)) c.args.self.now.lines ≡ true) c.args.self.now.nodes c.push.new.self c.args.node c.push.ensures.ok c.push.ensures.err c.args.self.now.within
          (within-node c.args.self.now.nodes c.args.node c.args.self.now.lines c.args.self.now.within);
    }

pub returns-clause-rules : goal.returns-clause-rules
returns-clause-rules c =
    ap (λ (ns : List TermNode). rules_of ns c.args.self.now.lines) c.in_ok-push.ensures.ok ∙ rules-stay c.args.self.now.nodes c.args.node c.args.self.now.lines c.args.self.now.within
