use Rattle.std.proofs.Common.{◌∙◌, nat_eq}
use Rattle.std.specs.Cmp.Lexicographic.{pointwise}
use Rattle.lt_types.proofs.NameLemmas.{same_by_chars}
use Rattle.lt_types.proofs.name.NamePartialEq.eq.Goals as goal

pub returns : goal.returns
returns c = c.eq.ensures ∙ same_by_chars _ _ c.text.utf8 c.text-2.utf8 ∙ (λ i. pointwise nat_eq (c.text.ensures.same i) (c.text-2.ensures.same i))
