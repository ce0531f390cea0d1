use Rattle.std.proofs.Common.{◌∙◌, ◌∷◌, []}
use Rattle.lt_definitions.specs.Terms.{constant}
use Rattle.lt_conditions.proofs.LabelNames.{word-names, word-is}
use Rattle.lt_conditions.proofs.building.plain.Goals as goal

pub word-requires : goal.word-requires
word-requires c = word-names c.args.name.now c.requires

pub returns : goal.returns
returns c =
    c.in_ok-constant.ensures ∙ (λ i. constant ((c.in_ok-name.ensures ∙ word-is c.args.name.now c.requires) i) (c.new.ensures i) ∷ c.args.builder)
