use Rattle.std.proofs.Common.{codes, refl}
use Rattle.lt_conditions.proofs.LabelNames.{ending-continues, labelled}
use Rattle.lt_conditions.proofs.labels.definition_label.Goals as goal

pub with_ending-requires : goal.with_ending-requires
with_ending-requires c = ending-continues (codes "_def") refl refl

pub returns : goal.returns
returns c = labelled c.with_ending.result c.args.name.now (codes "_def") refl c.with_ending.ensures
