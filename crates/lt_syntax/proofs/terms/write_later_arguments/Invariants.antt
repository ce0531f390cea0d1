use Rattle.std.proofs.Common.{◌≡◌, ◌++◌, drop}
use Rattle.lt_definitions.specs.Printing.{printed_later_arguments}
use Rattle.lt_syntax.proofs.terms.write_later_arguments.Given as goal

-- what was written, and the types that are left, is the whole
abbrev pub invariant-loop-ty : goal.invariant-loop-ty
invariant-loop-ty l = l.text ++ printed_later_arguments (drop l.ty-index l.types) ≡ l.fn.text ++ printed_later_arguments l.types
