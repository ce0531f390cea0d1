use Rattle.std.proofs.Common.{[], ap, arith, length, subst}
use Rattle.lt_hol.specs.TypeTables.{IsApart}
use Rattle.lt_hol.proofs.DistinctTypes.{length-types_after}
use Rattle.lt_hol.proofs.type_table.TypeTable.len.Goals as goal

pub returns-clause-len : goal.returns-clause-len
returns-clause-len c = omega (arith, c.len.ensures, length-types_after [] c.self.inside.nodes.keys, ap length c.self.view_is)

pub returns-clause-apart : goal.returns-clause-apart
returns-clause-apart c = subst IsApart c.self.view_is c.self.invariant.apart
