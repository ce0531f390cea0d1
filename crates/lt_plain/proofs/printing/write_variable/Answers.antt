use Rattle.std.proofs.Common.{◌∙◌, ◌++◌, ap, append_assoc, codes}
use Rattle.lt_plain.proofs.printing.write_variable.Goals as goal

pub returns : goal.returns
returns c = c.in_ok-name.ensures ∙ ap (λ s. s ++ c.args.name.now) c.in_ok-signs.ensures ∙ append_assoc c.args.text.now (codes "LooseTypeVar '") c.args.name.now
