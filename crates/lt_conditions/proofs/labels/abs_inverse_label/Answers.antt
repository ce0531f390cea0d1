use Rattle.std.proofs.Common.{codes, refl}
use Rattle.lt_conditions.proofs.LabelNames.{ending-continues, labelled}
use Rattle.lt_conditions.proofs.labels.abs_inverse_label.Goals as goal

pub with_ending-requires : goal.with_ending-requires
with_ending-requires c = ending-continues (codes "_abs_inverse") refl refl

pub returns : goal.returns
returns c = labelled c.with_ending.result c.args.name.now (codes "_abs_inverse") refl c.with_ending.ensures
