use Rattle.std.proofs.Common.{List, length, sym, subst}
use Rattle.lt_store.specs.declared.node.Node.{Node}
use Rattle.lt_store.specs.Trees.{IsBelow, IsGrounded, Makes}
use Rattle.lt_store.specs.contracts.node.NodePartialEq.TheImpl.{eq-value}
use Rattle.lt_shared.proofs.NodeEquality.{node-same, same-node}
use Rattle.lt_shared.proofs.SeparateLemmas.{grounded_insert, makes_insert, separate_from_distinct}
use Rattle.lt_shared.proofs.distinct.Distinct.insert.Goals as goal

pub invariant_of-self-2 : goal.invariant_of-self-2
invariant_of-self-2 c =
    let below = subst (λ (ns : List Node). IsBelow (length ns) c.args.node) (sym c.self.view_is) c.requires in
    record {
      grounded = subst IsGrounded (sym c.in_ok-id.ensures.keys) (grounded_insert _ _ _ c.self.invariant.grounded below);
      separate = separate_from_distinct eq-value.it same-node _ c.in_ok-id.ensures.unique;
    }

pub returns-clause-ok : goal.returns-clause-ok
returns-clause-ok c =
    let new = c.insert_full.new.self.keys in
    let below = subst (λ (ns : List Node). IsBelow (length ns) c.args.node) (sym c.self.view_is) c.requires in
    let grounded : IsGrounded new = subst IsGrounded (sym c.in_ok-id.ensures.keys) (grounded_insert _ _ _ c.self.invariant.grounded below) in
    let stored = c.in_ok-id.ensures.stored in
    let made : Makes c.self.inside.set.keys new c.args.node c.in_ok-id.id = makes_insert _ _ _ _ _ _ c.in_ok-id.ensures.keys grounded below stored.1 (node-same c.args.node stored.0 stored.2) in
    subst (λ (ns : List Node). Makes ns new c.args.node c.in_ok-id.id) c.self.view_is made
