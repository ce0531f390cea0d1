use Rattle.std.proofs.Common.{List, ◌++◌, drop}
use Rattle.lt_definitions.specs.Types.{Chars, row, types_names}
use Rattle.lt_terms.specs.Numberings.{IsUnderway}
use Rattle.lt_terms.proofs.numbering.number_types.Given as goal

abbrev pub invariant-loop-ty : goal.invariant-loop-ty
invariant-loop-ty l =
    (later all : List Chars) → IsUnderway l.fn.map (types_names (row l.types) ++ later) all → IsUnderway l.map (types_names (row (drop l.ty-index l.ty-items)) ++ later) all
