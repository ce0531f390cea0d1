use Rattle.std.proofs.Common.{◌∙◌, ap, refl}
use Rattle.lt_definitions.specs.Types.{type_variable}
use Rattle.lt_types.proofs.Ascii.{number-chars, number-is-name}
use Rattle.lt_terms.proofs.numbering.numbered_variable.Goals as goal

pub word-requires : goal.word-requires
word-requires c = number-is-name 116 c.args.number c.as_str.result.now refl c.ranges.number.fits (c.as_str.ensures.value ∙ c.in_ok-text.ensures.ok)

pub returns : goal.returns
returns c = c.in_ok-var.ensures ∙ ap type_variable (c.in_ok-name.ensures ∙ number-chars 116 c.args.number c.as_str.result.now refl c.ranges.number.fits (c.as_str.ensures.value ∙ c.in_ok-text.ensures.ok))
