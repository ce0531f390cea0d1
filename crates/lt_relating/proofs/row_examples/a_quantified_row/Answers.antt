use Rattle.std.proofs.Common.{refl}
use Rattle.lt_relating.specs.TypedRelations.{IsRelation}
use Rattle.lt_relating.specs.Plans.{IsRelatedBy}
use Rattle.lt_relating.specs.Rows.{cr_int, predicates, truth, row_signature, row_lines}
use Rattle.lt_relating.proofs.row_examples.a_quantified_row.Goals as goal

pub returns-clause-relates : goal.returns-clause-relates
returns-clause-relates g =
    let cr : IsRelation row_signature cr_int = record { typed = refl; closed = refl; left = refl; right = refl } in (
      predicates,
      (truth, cr, refl, (cr_int, (refl, refl), record { relation = record { typed = refl; closed = refl; left = refl; right = refl }; line = refl; image = refl; given = refl; image_closed = refl; given_closed = refl })),
      record { relation = record { typed = refl; closed = refl; left = refl; right = refl }; line = refl; image = refl; given = refl; image_closed = refl; given_closed = refl },
    )

pub returns-clause-gives : goal.returns-clause-gives
returns-clause-gives g = refl
