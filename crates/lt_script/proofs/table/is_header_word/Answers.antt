-- The texts are compared, whose characters are the name and the word.
use Rattle.std.proofs.Common.{◌∙◌}
use Rattle.std.specs.Prelude.{bytes_eq, chars}
use Rattle.lt_script.proofs.Names.{text_same}
use Rattle.lt_script.proofs.table.is_header_word.Goals as goal

pub returns : goal.returns
returns c =
    c.eq.ensures ∙ text_same c.text.result.now c.as_str.result.now c.text.utf8 c.as_str.utf8
    ∙ (λ i. bytes_eq (c.text.ensures.same i) (chars (c.as_str.ensures.value i)))
