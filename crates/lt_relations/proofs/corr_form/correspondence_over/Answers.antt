use Rattle.std.proofs.Common.{◌≡◌, ◌∙◌, Some, sym, ap}
use Rattle.std.specs.Option.{option_copied}
use Rattle.lt_relations.proofs.FormLemmas.{over-none, over-not, over-some}
use Rattle.lt_relations.proofs.corr_form.correspondence_over.Goals as goal

pub returns-in_default : goal.returns-in_default
returns-in_default c =
    over-none c.args.name.now c.args.raw c.args.over (sym c.constructor_of.ensures ∙ ap option_copied c.in_default.is)

pub returns-then-not-formed : goal.returns-then-not-formed
returns-then-not-formed c =
    over-not c.args.name.now c.args.raw c.args.over c.in-Some.con.now c.in_ok-parameters.parameters c.in_ok-formed.formed (sym c.constructor_of.ensures ∙ ap option_copied c.in-Some.is)
    c.in_ok-parameters.ensures c.in_ok-formed.ensures c.if-not-formed.true

pub returns : goal.returns
returns c =
    over-some c.args.name.now c.args.raw c.args.over c.in-Some.con.now c.in_ok-parameters.parameters c.in_ok-formed.formed _ (sym c.constructor_of.ensures ∙ ap option_copied c.in-Some.is)
    c.in_ok-parameters.ensures c.in_ok-formed.ensures c.if-not-formed.false c.in_ok-correspondence_of.ensures
