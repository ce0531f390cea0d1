use Rattle.std.proofs.Common.{◌∙◌, ◌∷◌}
use Rattle.lt_definitions.specs.Terms.{bound_name}
use Rattle.lt_conditions.proofs.LabelNames.{word-names, word-is}
use Rattle.lt_conditions.proofs.building.bound.Goals as goal

pub word-requires : goal.word-requires
word-requires c = word-names c.args.name.now c.requires

pub returns : goal.returns
returns c =
    c.in_ok-bound.ensures ∙ (λ i. bound_name ((c.in_ok-name.ensures ∙ word-is c.args.name.now c.requires) i) ∷ c.args.builder)
