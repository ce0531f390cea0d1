use Rattle.std.proofs.Common.{◌∙◌, ap, nat_eq}
use Rattle.lt_nameless.specs.NamelessRules.{has_index}
use Rattle.lt_store.proofs.TreeLemmas.{tree_at-extends}
use Rattle.lt_store.proofs.Images.{number_test}
use Rattle.lt_store.proofs.passes.has_loose.Goals as goal

pub returns-clause-is : goal.returns-clause-is
returns-clause-is g c =
    ap (λ k. nat_eq k 1) c.in_ok-run.ensures.is ∙ number_test _ ∙ ap (has_index 0) (tree_at-extends _ _ c.args.t c.in_ok-run.ensures.kept c.requires)
