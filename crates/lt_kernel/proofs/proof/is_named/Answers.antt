use Rattle.std.proofs.Common.{◌∙◌, sym, ap, is_some}
use Rattle.lt_types.proofs.MapLemmas.{looked_up}
use Rattle.lt_types.proofs.NameTables.{copied-some}
use Rattle.lt_kernel.proofs.proof.is_named.Goals as goal

pub returns : goal.returns
returns c = c.is_some.ensures ∙ sym (copied-some c.get.result) ∙ ap is_some (c.get.ensures.value ∙ looked_up c.args.label.now c.args.named.now.entries)
