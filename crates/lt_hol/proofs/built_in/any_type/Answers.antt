use Rattle.std.proofs.Common.{◌∙◌, ap}
use Rattle.lt_definitions.specs.Types.{type_variable}
use Rattle.lt_types.proofs.Words.{a-word, a-chars}
use Rattle.lt_hol.proofs.built_in.any_type.Goals as goal

pub word-requires : goal.word-requires
word-requires c = a-word

pub returns : goal.returns
returns c = c.in_ok-var.ensures ∙ ap type_variable (c.in_ok-word.ensures ∙ a-chars)
