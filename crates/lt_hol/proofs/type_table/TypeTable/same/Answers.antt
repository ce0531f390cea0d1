use Rattle.std.proofs.Common.{◌≡◌, ap, arith, subst, eq-eqb}
use Rattle.std.proofs.lemmas.Bool.Decides.{nat_tests}
use Rattle.std.proofs.lemmas.Grind.{common_steps}
use Rattle.lt_hol.specs.TypeTables.{type_at, IsApart}
use Rattle.lt_hol.proofs.type_table.TypeTable.same.Goals as goal

pub returns-clause-types : goal.returns-clause-types
returns-clause-types c =
    let apart : IsApart c.args.self.now = subst IsApart c.self.view_is c.self.invariant.apart in (
      λ e. let one : c.args.a ≡ c.args.b = grind (arith, common_steps, nat_tests) in ap (type_at c.args.self.now) one,
      λ e. eq-eqb _ _ (apart c.args.a c.args.b c.requires.a c.requires.b e),
    )
