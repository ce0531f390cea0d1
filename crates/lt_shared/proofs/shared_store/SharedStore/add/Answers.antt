use Rattle.lt_store.proofs.BoundLemmas.{bounded-extends}
use Rattle.lt_store.proofs.ReplacedLemmas.{replacing-extends}
use Rattle.lt_shared.proofs.shared_store.SharedStore.add.Goals as goal

pub invariant_of-self : goal.invariant_of-self
invariant_of-self c = record {
  bounded = bounded-extends _ _ c.self.inside.bounds.items c.in_err-id.ensures.kept c.self.invariant.bounded;
  replaced = replacing-extends _ _ c.self.inside.replaced c.in_err-id.ensures.kept c.self.invariant.replaced;
}

pub note-requires-clause-bounded : goal.note-requires-clause-bounded
note-requires-clause-bounded c = bounded-extends _ _ c.self.inside.bounds.items c.in_ok-id.ensures.kept c.self.invariant.bounded

pub invariant_of-self-in_err-note : goal.invariant_of-self-in_err-note
invariant_of-self-in_err-note c = record {
  bounded = c.in_err-note.ensures;
  replaced = replacing-extends _ _ c.self.inside.replaced c.in_ok-id.ensures.kept c.self.invariant.replaced;
}

pub invariant_of-self-2 : goal.invariant_of-self-2
invariant_of-self-2 c = record {
  bounded = c.in_ok-note.ensures;
  replaced = replacing-extends _ _ c.self.inside.replaced c.in_ok-id.ensures.kept c.self.invariant.replaced;
}
