use Rattle.std.proofs.Common.{◌∙◌}
use Rattle.lt_definitions.specs.Types.{type_constructor, row}
use Rattle.lt_types.proofs.Words.{bool-word, bool-chars}
use Rattle.lt_types.proofs.ty.Ty.bool.Goals as goal

pub word-requires : goal.word-requires
word-requires c = bool-word

pub returns : goal.returns
returns c = c.in_ok-con.ensures ∙ (λ i. type_constructor ((c.in_ok-word.ensures ∙ bool-chars) i) (row (c.new.ensures i)))
