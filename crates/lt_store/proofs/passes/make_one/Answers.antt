use Rattle.std.proofs.Common.{◌∙◌, ap}
use Rattle.lt_store.specs.Passes.{image}
use Rattle.lt_store.proofs.TreeLemmas.{tree_at-extends}
use Rattle.lt_store.proofs.Images.{image-extends}
use Rattle.lt_store.proofs.passes.make_one.Goals as goal

pub returns : goal.returns
returns g c =
    let kept = c.in_ok-made.ensures.kept in
    record {
      kept = kept;
      made = c.in_ok-made.ensures.is.0;
      is = c.in_ok-made.ensures.is.1 ∙ image-extends _ _ c.args.change 0 _ kept c.requires.change
          ∙ ap (image (g.S.TermStore.nodes c.args.store.now) c.args.change 0) (tree_at-extends _ _ c.args.root kept c.requires.root);
    }
