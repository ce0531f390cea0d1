use Rattle.std.proofs.Common.{◌∙◌, ◌++◌, ap, sym}
use Rattle.lt_syntax.proofs.LineTexts.{hyps_by}
use Rattle.lt_syntax.proofs.sequents.write_hyps.Goals as goal

pub returns-in_ok-write_some-in-len1-up : goal.returns-in_ok-write_some-in-len1-up
returns-in_ok-write_some-in-len1-up c =
    c.in_ok-write_some-in-len1-up.ensures ∙ ap (λ s. c.args.text.now ++ s) (sym (hyps_by c.args.hyps.now c.first-item.result c.in-len1-up.len_at_least c.first-item.is))
