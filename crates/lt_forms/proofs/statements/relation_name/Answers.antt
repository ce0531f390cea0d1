use Rattle.std.proofs.Common.{◌∙◌, refl}
use Rattle.lt_types.proofs.Ascii.{number-chars, number-is-name}
use Rattle.lt_forms.proofs.statements.relation_name.Goals as goal

pub word-requires : goal.word-requires
word-requires c = number-is-name 65 c.args.number c.as_str.result.now refl c.ranges.number.fits (c.as_str.ensures.value ∙ c.in_ok-text.ensures.ok)

pub returns : goal.returns
returns c = c.in_ok-word.ensures ∙ number-chars 65 c.args.number c.as_str.result.now refl c.ranges.number.fits (c.as_str.ensures.value ∙ c.in_ok-text.ensures.ok)
