use Rattle.std.proofs.Common.{◌+◌, ◌++◌, drop}
use Rattle.lt_definitions.specs.Types.{row, types_names}
use Rattle.lt_terms.proofs.NumberedNames.{moved, types-first, types-next, types-last}
use Rattle.lt_terms.proofs.numbering.number_types.Goals as goal

pub loop-ty-init : goal.loop-ty-init
loop-ty-init c later all h = moved c.args.map _ _ all (types-first c.as_slice-ty-items.result.now c.args.types.now later c.as_slice-ty-items.ensures) h

pub loop-ty-preserved : goal.loop-ty-preserved
loop-ty-preserved c later all h =
    c.in_ok-map.ensures (types_names (row (drop (c.loop-ty.ty-index + 1) c.as_slice-ty-items.result.now)) ++ later) all
    (moved c.loop-ty.map _ _ all (types-next c.as_slice-ty-items.result.now c.loop-ty.ty-index c.ty-item.result later c.loop-ty-test.true c.ty-item.is) (c.loop-ty.invariant later all h))

pub returns : goal.returns
returns c later all h =
    moved c.loop-ty.map _ _ all (types-last c.as_slice-ty-items.result.now c.loop-ty.ty-index later c.loop-ty-test.false) (c.loop-ty.invariant later all h)
