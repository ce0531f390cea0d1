use Rattle.std.proofs.Common.{◌≡◌, [], List, arith, length, ap, subst}
use Rattle.lt_definitions.specs.Types.{TypeTree}
use Rattle.lt_hol.specs.TypeTables.{type_at, made_of}
use Rattle.lt_hol.proofs.DistinctTypes.{length-types_after, type_at-node, node-below}
use Rattle.lt_hol.proofs.type_table.TypeTable.node.Goals as goal

pub index-requires : goal.index-requires
index-requires c = omega (arith, c.requires, length-types_after [] c.self.inside.nodes.keys, ap length c.self.view_is)

pub returns-clause-made : goal.returns-clause-made
returns-clause-made c =
    subst (λ (ts : List TypeTree). type_at ts c.args.id ≡ made_of ts c.index.result.now) c.self.view_is (type_at-node c.self.inside.nodes.keys c.args.id c.index.result.now c.self.invariant.grounded c.index.ensures)

pub returns-clause-below : goal.returns-clause-below
returns-clause-below c = node-below c.self.inside.nodes.keys c.args.id c.index.result.now c.self.invariant.grounded c.index.ensures
