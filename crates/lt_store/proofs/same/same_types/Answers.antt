use Rattle.lt_definitions.specs.Types.{same_types, row}
use Rattle.lt_definitions.proofs.SameNames.{row-true, true-row}
use Rattle.lt_store.proofs.SameTerms.{one_test}
use Rattle.lt_store.proofs.same.same_types.Goals as goal

pub returns : goal.returns
returns c =
    one_test c.same_row.result (same_types (row c.args.left.now) (row c.args.right.now))
    (λ e. true-row c.args.left.now c.args.right.now (rw (c.as_slice.ensures, c.as_slice-2.ensures) at c.same_row.ensures.0 e))
    (λ e. c.same_row.ensures.1 (rw (c.as_slice.ensures, c.as_slice-2.ensures) (row-true c.args.left.now c.args.right.now e)))
