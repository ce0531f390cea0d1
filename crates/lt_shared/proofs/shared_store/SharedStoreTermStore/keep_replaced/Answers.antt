use Rattle.std.proofs.Common.{List, sym, subst}
use Rattle.lt_store.specs.declared.node.Node.{Node}
use Rattle.lt_store.specs.Replaced.{IsReplacing}
use Rattle.lt_shared.proofs.shared_store.SharedStoreTermStore.keep_replaced.Goals as goal

pub invariant_of-self : goal.invariant_of-self
invariant_of-self c = record {
  bounded = c.self.invariant.bounded;
  replaced = subst (λ (ns : List Node). IsReplacing ns c.args.replacing) (sym c.self.view_is) c.requires;
}
