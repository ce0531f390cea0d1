use Rattle.std.proofs.Common.{◌∙◌, ap, length}
use Rattle.std.proofs.lemmas.Iterator.{YieldsList-from_chars}
use Rattle.std.proofs.lemmas.Iterator.Consumers.{count_from_yields_List}
use Rattle.lt_types.proofs.name.Name.len.Goals as goal

pub returns : goal.returns
returns c = count_from_yields_List c.chars.result _ c.count.ensures.ran (YieldsList-from_chars c.text.result.now c.text.utf8 cc) ∙ ap length c.text.ensures.same
