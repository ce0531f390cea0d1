use Rattle.std.proofs.Common.{◌∙◌}
use Rattle.lt_nameless.specs.Nameless.{nameless_free, nameless_application}
use Rattle.lt_store.proofs.TreeLemmas.{tree_at-extends}
use Rattle.lt_conv.proofs.opening.at_variable.Goals as goal

pub returns-clause-made : goal.returns-clause-made
returns-clause-made g c =
    let function = tree_at-extends c.args.proof.now.nodes c.mk_free.new.self.nodes c.args.t c.mk_free.ensures.kept c.requires in
    let variable = c.in_ok-variable.ensures.ok.stands ∙ (λ i. nameless_free (c.in_ok-x.ensures i) (c.in_ok-ty.ensures i)) in
    record { within = c.in_ok-applied.ensures.ok.within; is = c.in_ok-applied.ensures.ok.stands ∙ (λ i. nameless_application (function i) (variable i)) }
