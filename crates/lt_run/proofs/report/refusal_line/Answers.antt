use Rattle.std.proofs.Common.{◌∙◌}
use Rattle.lt_run.proofs.Lines.{in_some, names-some, line_printed}
use Rattle.lt_run.proofs.report.refusal_line.Goals as goal

pub returns : goal.returns
returns c = λ held are joined.
    let p = in_some held c.args.placed.now.at (names-some c.args.names.now c.args.joined.now held c.requires are) in
    line_printed held c.args.placed.now p.0 c.deref.result.now c.deref-2.result.now _ p.1 (c.deref.ensures ∙ c.in_ok-place.ensures held are joined p.0 p.1) (c.deref-2.ensures ∙ c.in_ok-refusal.ensures)
    c.in_ok-line_of.ensures
