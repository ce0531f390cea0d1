use Rattle.std.proofs.Common.{◌∙◌, sym}
use Rattle.lt_store.specs.Trees.{tree_at}
use Rattle.lt_derived.proofs.UnfoldingLemmas.{application-right, linked-sure}
use Rattle.lt_derived.proofs.unfolding.open_right.Goals as goal

pub trans-requires : goal.trans-requires
trans-requires g c =
    let old = c.args.proof.now in
    let nodes = old.nodes in
    let q = c.requires.form in
    linked-sure old c.args.i q c.beta.new.proof c.in_ok-opened.opened (tree_at nodes c.application-right.result.1) c.beta.ensures.carries
    (application-right old c.args.i q (tree_at nodes c.conclusion-concl.result) (tree_at nodes c.application-right.result.0) (tree_at nodes c.application-right.result.1)
    c.conclusion-concl.ensures.is c.application-right.ensures.is)
    (sym c.is_redex.ensures ∙ c.if-not-is_redex.false) c.in_ok-opened.ensures.line
