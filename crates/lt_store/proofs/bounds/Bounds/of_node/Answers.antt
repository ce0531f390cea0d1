use Rattle.std.proofs.Common.{◌≡◌, slice_get, Some, arith, sym, subst}
use Rattle.std.proofs.lemmas.Grind.{common_steps}
use Rattle.std.proofs.lemmas.Option.{gets}
use Rattle.lt_store.specs.declared.node.View.{View}
use Rattle.lt_store.specs.Trees.{node_tree}
use Rattle.lt_store.specs.Views.{node_of}
use Rattle.lt_store.specs.Bounds.{IsBounded}
use Rattle.lt_store.proofs.bounds.Bounds.of_node.Goals as goal

pub returns-in-Some-get : goal.returns-in-Some-get
returns-in-Some-get c ns known =
    let function : slice_get c.args.known.now c.in-App.f ≡ Some c.in-Some.function.now = grind (arith, common_steps, gets) in
    let argument : slice_get c.args.known.now c.in-App.a ≡ Some c.in-Some-get.argument.now = grind (arith, common_steps, gets) in
    subst (λ (v : View). IsBounded (node_tree ns (node_of v)) c.joined.result) (sym c.in-App.is) (c.joined.ensures _ _ (known _ _ function).1 (known _ _ argument).1)

pub returns-in-Some-get-2 : goal.returns-in-Some-get-2
returns-in-Some-get-2 c ns known =
    let body : slice_get c.args.known.now c.in-Lam.body ≡ Some c.in-Some-get-2.body.now = grind (arith, common_steps, gets) in
    subst (λ (v : View). IsBounded (node_tree ns (node_of v)) c.covered.result) (sym c.in-Lam.is) (c.covered.ensures _ _ (known _ _ body).1)
