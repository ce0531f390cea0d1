use Rattle.std.proofs.Common.{◌≡◌, slice_get, Some, arith}
use Rattle.std.proofs.lemmas.Grind.{common_steps}
use Rattle.std.proofs.lemmas.Option.{gets}
use Rattle.lt_store.specs.Views.{node_of}
use Rattle.lt_store.proofs.TreeLemmas.{stands_at}
use Rattle.lt_shared.proofs.distinct.Distinct.view.Goals as goal

pub returns-clause-stands : goal.returns-clause-stands
returns-clause-stands c =
    let grounded = rw c.self.view_is at c.self.invariant.grounded in
    let at : slice_get c.args.self.now c.args.id ≡ Some (node_of c.view.result) = grind (arith, common_steps, gets) in
    stands_at _ _ _ grounded at

pub returns-clause-once : goal.returns-clause-once
returns-clause-once c other there =
    let separate = rw c.self.view_is at c.self.invariant.separate in
    let here : slice_get c.args.self.now c.args.id ≡ Some (node_of c.view.result) = grind (arith, common_steps, gets) in
    separate other c.args.id _ there here
