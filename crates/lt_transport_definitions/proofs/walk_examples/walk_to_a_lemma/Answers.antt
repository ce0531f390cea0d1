use Rattle.std.proofs.Common.{refl, inr}
use Rattle.std.specs.Prelude.{[], ◌∷◌, codes}
use Rattle.std.specs.Fmt.{digits}
use Rattle.lt_definitions.specs.Items.{lemma_item}
use Rattle.lt_definitions.specs.Rules.{by_assume, by_mp}
use Rattle.lt_definitions.specs.Samples.{p, q}
use Rattle.lt_texts.specs.Commands.{item_command}
use Rattle.lt_transport_definitions.specs.Samples.{proof_of_q}
use Rattle.lt_transport_definitions.proofs.walk_examples.walk_to_a_lemma.Goals as goal

pub returns-clause-walk : goal.returns-clause-walk
returns-clause-walk c = λ a b h. inr (inr (item_command (lemma_item (codes "l") q proof_of_q), 64, 78 ∷ 86 ∷ 96 ∷ [], 106, b, h, _, refl, refl))

pub returns-clause-line : goal.returns-clause-line
unfolding digits lib.Utf8.encode
returns-clause-line c = refl

pub returns-clause-bad_line : goal.returns-clause-bad_line
returns-clause-bad_line c = λ a b h.
    inr (inr (item_command (lemma_item (codes "l") q (by_assume p ∷ by_mp 1 1 ∷ [])), 64, 78 ∷ 88 ∷ [], 98, b, h, _, refl, refl))
