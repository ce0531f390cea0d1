use Rattle.std.proofs.Common.{List, ◌++◌, drop}
use Rattle.lt_definitions.specs.Types.{Chars, type_names}
use Rattle.lt_terms.specs.Numberings.{IsUnderway}
use Rattle.lt_terms.proofs.NumberedNames.{all_names}
use Rattle.lt_terms.proofs.numbering.number_type.Given as goal

abbrev pub invariant-loop-node : goal.invariant-loop-node
invariant-loop-node l =
    (later all : List Chars) → IsUnderway l.fn.map (type_names l.ty ++ later) all → IsUnderway l.map (all_names (drop l.node-index l.node-items) ++ later) all
