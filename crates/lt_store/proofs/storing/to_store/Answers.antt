use Rattle.std.proofs.Common.{◌≡◌, [], ℕ, List, sym, subst, refl, length, arith}
use Rattle.std.proofs.lemmas.Grind.{common_steps}
use Rattle.lt_nameless.specs.Nameless.{nameless}
use Rattle.lt_store.specs.Trees.{AllBelow}
use Rattle.lt_store.specs.Stacks.{stack}
use Rattle.lt_store.proofs.TreeLemmas.{extends_same}
use Rattle.lt_store.proofs.Lists.{AllBelow-none}
use Rattle.lt_store.proofs.StoredTerms.{Remains, remains_first, AllBelow-front}
use Rattle.lt_store.proofs.storing.to_store.Goals as goal

pub loop-at-init : goal.loop-at-init
loop-at-init g c =
    let ns = g.S.TermStore.nodes c.args.store.now in
    let none : [] ≡ c.new-ids.result.items = sym c.new-ids.ensures.items in
    record {
      kept = extends_same ns;
      below = subst (AllBelow (length ns)) none (AllBelow-none (length ns));
      remains = subst (λ (ids : List ℕ). Remains (nameless [] c.args.t.now) (stack ns ids) c.nodes-nodes.result.now c.in_ok-binders.binders.items) none
          (remains_first _ c.args.t.now _ _ c.nodes-nodes.ensures c.in_ok-binders.ensures c.requires refl);
    }

pub returns : goal.returns
returns g c = record {
  kept = c.loop-at.invariant.kept;
  made = (AllBelow-front _ _ _ _ c.take_last.ensures c.loop-at.invariant.below).1;
  is = grind (arith, common_steps);
}
