use Rattle.std.proofs.Common.{◌∙◌, sym}
use Rattle.lt_laws.proofs.RegisteringLemmas.{law-added, law-there}
use Rattle.lt_laws.proofs.registered.Laws.keep.Goals as goal

pub returns-then-is_registered-clause-ok : goal.returns-then-is_registered-clause-ok
returns-then-is_registered-clause-ok c =
    law-there c.args.name.now c.args.label c.args.self.now (sym c.is_registered.ensures ∙ c.if-is_registered.true)

pub returns-clause-ok : goal.returns-clause-ok
returns-clause-ok c =
    c.in_ok-insert.ensures.entries
    ∙ law-added c.args.name.now c.args.label c.in_ok-copy.field-0 c.self.inside.labels.entries c.args.self.now c.in_ok-copy.ensures c.self.view_is (sym c.is_registered.ensures ∙ c.if-is_registered.false)
