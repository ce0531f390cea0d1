use Rattle.std.proofs.Common.{refl}
use Rattle.std.specs.Fmt.{digits}
use Rattle.lt_transport_rows.proofs.integers_rows.other_image_row.Goals as goal

pub returns : goal.returns
unfolding digits
returns c = record { text = refl }
