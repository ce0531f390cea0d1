use Rattle.std.proofs.Common.{refl, [], ◌∷◌, codes}
use Rattle.lt_definitions.specs.Types.{bool}
use Rattle.lt_definitions.specs.Rules.{by_thm}
use Rattle.lt_definitions.specs.Items.{const_item, lemma_item}
use Rattle.lt_definitions.specs.Samples.{p}
use Rattle.lt_texts.specs.Commands.{item_command}
use Rattle.lt_texts.specs.Forms.{header_again, a_command}
use Rattle.lt_texts.specs.Writing.{word}
use Rattle.lt_texts.proofs.text_examples.a_plain_text.Goals as goal

pub returns : goal.returns
returns c = (
  a_command (item_command (const_item (codes "p") bool)) ∷ header_again ∷ a_command (item_command (lemma_item (codes "l") p (by_thm (codes "a") ∷ []))) ∷ [],
  (refl, (tt, (refl, tt))),
  (
    _,
    refl,
    (
      _,
      refl,
      (
        _,
        refl,
        (
          _,
          refl,
          (
            _,
            refl,
            (
              _,
              refl,
              (
                _,
                refl,
                (
                  _,
                  refl,
                  (
                    _,
                    refl,
                    (
                      _,
                      refl,
                      (
                        _,
                        refl,
                        (_, refl, (_, refl, (_, refl, (_, (word (codes "p") [], refl, refl), (_, refl, (_, refl, (_, refl, (_, refl, (_, refl, (_, refl, refl)))))))))),
                      ),
                    ),
                  ),
                ),
              ),
            ),
          ),
        ),
      ),
    ),
  ),
  refl,
)
