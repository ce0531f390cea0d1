use Rattle.std.proofs.Common.{◌∙◌}
use Rattle.lt_nameless.specs.Nameless.{nameless_application}
use Rattle.lt_store.proofs.TreeLemmas.{tree_at-extends}
use Rattle.lt_relating.proofs.abstracting.relate_variables.Goals as goal

pub returns-clause-stands : goal.returns-clause-stands
returns-clause-stands g c =
    let y = tree_at-extends c.args.proof.now.nodes c.mk_app.new.self.nodes c.args.y c.mk_app.ensures.kept c.requires.y in
    record { within = c.in_ok-both.ensures.ok.within; is = c.in_ok-both.ensures.ok.stands ∙ (λ i. nameless_application (c.in_ok-first.ensures.ok.stands i) (y i)) }
