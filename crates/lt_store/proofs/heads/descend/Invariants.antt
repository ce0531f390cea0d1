use Rattle.std.proofs.Common.{◌≡◌, ◌<◌, length, reverse}
use Rattle.lt_definitions.specs.Typing.{Signature}
use Rattle.lt_store.specs.Trees.{tree_at}
use Rattle.lt_store.specs.KnownTypes.{whole_type}
use Rattle.lt_store.proofs.heads.descend.Given as goal

abbrev pub invariant-loop-part : goal.invariant-loop-part
invariant-loop-part g l =
    let ns = g.S.TermStore.nodes l.store in
    record {
      within : l.at < length ns;
      whole : (sig : Signature) → whole_type sig (reverse l.steps.items) (reverse l.binders.items) (tree_at ns l.at) ≡ whole_type sig (reverse l.fn.steps.items) (reverse l.fn.binders.items) (tree_at ns l.t);
    }

abbrev pub decreases-loop-part : goal.decreases-loop-part
decreases-loop-part g l = l.at
