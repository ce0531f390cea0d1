use Rattle.std.proofs.Common.{◌∙◌, ap, length}
use Rattle.lt_expressions.proofs.Rows.{length-row}
use Rattle.lt_expressions.proofs.rel_builder.RelBuilder.len.Goals as goal

pub returns : goal.returns
returns c = c.len.ensures ∙ c.self.inside.roots.ok.0 ∙ length-row _ _ _ c.self.invariant ∙ ap length c.self.view_is
