use Rattle.std.proofs.Common.{◌∙◌, ap, sym, is_some}
use Rattle.lt_types.proofs.NameTables.{copied-some, none-found}
use Rattle.lt_terms.proofs.NumberedNames.{underway-old}
use Rattle.lt_terms.proofs.numbering.number_name.Goals as goal

pub returns-then-is_some : goal.returns-then-is_some
returns-then-is_some c later all h =
    underway-old c.args.map c.args.name.now later all (ap is_some (sym c.get.ensures) ∙ copied-some c.get.result ∙ sym c.is_some.ensures ∙ c.if-is_some.true) h

pub add_number-requires : goal.add_number-requires
add_number-requires c = none-found _ (ap is_some (sym c.get.ensures) ∙ copied-some c.get.result ∙ sym c.is_some.ensures ∙ c.if-is_some.false)
