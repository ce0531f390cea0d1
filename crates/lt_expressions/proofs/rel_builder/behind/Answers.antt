use Rattle.std.proofs.Common.{◌≡◌, ◌+◌, ◌-◌, ◌∙◌, sym, arith, length, slice_get, Some}
use Rattle.lt_expressions.specs.Layout.{behind}
use Rattle.lt_expressions.proofs.Rows.{behind-last}
use Rattle.lt_expressions.proofs.rel_builder.behind.Goals as goal

pub overflow_add-result : goal.overflow_add-result
overflow_add-result c = omega (arith, behind-last c.args.roots.now c.in-Some.root.now (sym c.in-Some.ensures.value), c.requires)

pub returns-in-Some : goal.returns-in-Some
returns-in-Some c = sym (behind-last c.args.roots.now c.in-Some.root.now (sym c.in-Some.ensures.value))
