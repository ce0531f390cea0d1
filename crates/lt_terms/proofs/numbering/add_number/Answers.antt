use Rattle.std.proofs.Common.{ap, is_some}
use Rattle.lt_terms.proofs.NumberedNames.{underway-new}
use Rattle.lt_terms.proofs.numbering.add_number.Goals as goal

pub returns : goal.returns
returns c later all h =
    underway-new c.args.map c.put.new.self c.args.name.now c.in_ok-copy.field-0 c.in_ok-image.image c.len.result later all (ap is_some c.requires) c.in_ok-put.ensures.ok c.in_ok-copy.ensures
    c.in_ok-image.ensures c.len.ensures.len h
