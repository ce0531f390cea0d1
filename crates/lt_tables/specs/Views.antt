-- The stacks of code, as trees.
use Rattle.std.specs.Prelude.{reverse}
use Rattle.lt_tables.specs.declared.stacks.Making.{Making}
use Rattle.lt_tables.specs.Stacks.{Stacks}

abbrev pub stacks_of : Making → Stacks
stacks_of m = record {
  last = m.last;
  declared = reverse m.declared.items;
  types = reverse m.types.items;
  terms = m.terms;
}
