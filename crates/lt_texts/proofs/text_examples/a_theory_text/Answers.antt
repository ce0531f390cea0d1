use Rattle.std.proofs.Common.{refl, [], ◌∷◌, codes}
use Rattle.lt_texts.specs.Commands.{carry_command}
use Rattle.lt_texts.specs.Forms.{a_command}
use Rattle.lt_texts.proofs.text_examples.a_theory_text.Goals as goal

pub returns : goal.returns
returns c = (
  a_command (carry_command (codes "N") (codes "E") (codes "L")) ∷ [],
  (refl, tt),
  (_, refl, (_, refl, (_, refl, (_, refl, (_, refl, (_, refl, (_, refl, (_, refl, refl)))))))),
  refl,
)
