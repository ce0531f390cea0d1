use Rattle.std.proofs.Common.{refl}
use Rattle.std.specs.Fmt.{digits}
use Rattle.lt_transport_rows.proofs.correspondences_rows.open_statement_row.Goals as goal

pub returns : goal.returns
unfolding digits
returns c = record { text = refl }
