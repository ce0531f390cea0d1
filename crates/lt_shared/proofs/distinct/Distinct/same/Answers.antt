use Rattle.std.proofs.Common.{◌≡◌, arith, ap, eq-eqb}
use Rattle.std.proofs.lemmas.Bool.Decides.{nat_tests}
use Rattle.std.proofs.lemmas.Grind.{common_steps}
use Rattle.lt_store.specs.Trees.{tree_at}
use Rattle.lt_shared.proofs.SeparateLemmas.{same_id}
use Rattle.lt_shared.proofs.distinct.Distinct.same.Goals as goal

pub returns : goal.returns
returns c =
    let grounded = rw c.self.view_is at c.self.invariant.grounded in
    let separate = rw c.self.view_is at c.self.invariant.separate in (
      λ e. let one : c.args.a ≡ c.args.b = grind (arith, common_steps, nat_tests) in ap (tree_at c.args.self.now) one,
      λ e. eq-eqb _ _ (same_id c.args.self.now grounded separate c.args.a c.args.b c.requires.a c.requires.b e),
    )
