use Rattle.std.proofs.Common.{◌≡◌, ◌+◌, ◌-◌, ◌<◌, ◌∙◌, sym, subst, arith, length, None, true, is_some, Option, Bor}
use Rattle.lt_types.specs.declared.ty.TyNode.{TyNode}
use Rattle.lt_types.proofs.LayoutLemmas.{whole}
use Rattle.lt_hol.specs.TypeNodes.{node_fault}
use Rattle.lt_types.proofs.NameTables.{none-found}
use Rattle.lt_hol.proofs.TypeFaults.{IsWrong, at-end, at-skipped, at-wrong, at-right, few}
use Rattle.lt_hol.proofs.signature.Signature.check_type.Goals as goal

pub loop-at-init : goal.loop-at-init
loop-at-init c =
    (at-end c.args.self.now c.args.ty.now _ (whole _ c.args.ty.now (length c.nodes-nodes.result.now) c.nodes-nodes.ensures (omega arith) (omega arith)), tt)

pub overflow_add-skipped : goal.overflow_add-skipped
overflow_add-skipped c =
    let e : c.loop-at.at ≡ (c.loop-at.at - 1) + 1 = omega (arith, c.loop-at-test.true) in
    let lt : c.loop-at.at - 1 < length c.nodes-nodes.result.now = omega (arith, c.loop-at-test.true, c.loop-at.auto.at) in
    omega (
      arith,
      (at-skipped c.args.self.now c.args.ty.now c.nodes-nodes.result.now c.loop-at.at (c.loop-at.at - 1) c.index-nodes-at.result c.loop-at.skipped c.arguments.result _ c.nodes-nodes.ensures e lt c.index-nodes-at.is c.if-skipped-gt0.true c.arguments.ensures c.loop-at.invariant.0).fits,
      few c.nodes-nodes.result.now (c.loop-at.at - 1) (omega (arith, lt)),
      lt,
      c.nodes-nodes.type_inv,
    )

pub loop-at-preserved-then-skipped-gt0 : goal.loop-at-preserved-then-skipped-gt0
loop-at-preserved-then-skipped-gt0 c =
    let e : c.loop-at.at ≡ (c.loop-at.at - 1) + 1 = omega (arith, c.loop-at-test.true) in
    let lt : c.loop-at.at - 1 < length c.nodes-nodes.result.now = omega (arith, c.loop-at-test.true, c.loop-at.auto.at) in (
      at-skipped c.args.self.now c.args.ty.now c.nodes-nodes.result.now c.loop-at.at (c.loop-at.at - 1) c.index-nodes-at.result c.loop-at.skipped c.arguments.result _ c.nodes-nodes.ensures e lt c.index-nodes-at.is c.if-skipped-gt0.true c.arguments.ensures c.loop-at.invariant.0,
      c.loop-at.invariant.1,
    )

pub loop-at-preserved-then-is_wrong : goal.loop-at-preserved-then-is_wrong
loop-at-preserved-then-is_wrong c =
    let e : c.loop-at.at ≡ (c.loop-at.at - 1) + 1 = omega (arith, c.loop-at-test.true) in
    let lt : c.loop-at.at - 1 < length c.nodes-nodes.result.now = omega (arith, c.loop-at-test.true, c.loop-at.auto.at) in
    let z : c.loop-at.skipped ≡ 0 = omega (arith, c.if-skipped-gt0.false) in
    let bad : is_some (node_fault c.args.self.now c.index-nodes-at.result) ≡ true = sym c.is_wrong.ensures ∙ c.if-is_wrong.true in (
      at-wrong c.args.self.now c.args.ty.now c.nodes-nodes.result.now c.loop-at.at (c.loop-at.at - 1) c.index-nodes-at.result c.loop-at.skipped c.arguments-skipped.result _ c.nodes-nodes.ensures e lt c.index-nodes-at.is z c.arguments-skipped.ensures bad c.loop-at.invariant.0,
      bad,
    )

pub loop-at-preserved : goal.loop-at-preserved
loop-at-preserved c =
    let e : c.loop-at.at ≡ (c.loop-at.at - 1) + 1 = omega (arith, c.loop-at-test.true) in
    let lt : c.loop-at.at - 1 < length c.nodes-nodes.result.now = omega (arith, c.loop-at-test.true, c.loop-at.auto.at) in
    let z : c.loop-at.skipped ≡ 0 = omega (arith, c.if-skipped-gt0.false) in
    let right : node_fault c.args.self.now c.index-nodes-at.result ≡ None = none-found (node_fault c.args.self.now c.index-nodes-at.result) (sym c.is_wrong.ensures ∙ c.if-is_wrong.false) in (
      at-right c.args.self.now c.args.ty.now c.nodes-nodes.result.now c.loop-at.at (c.loop-at.at - 1) c.index-nodes-at.result c.loop-at.skipped _ c.nodes-nodes.ensures e lt c.index-nodes-at.is z right c.loop-at.invariant.0,
      c.loop-at.invariant.1,
    )

pub node_fault-requires : goal.node_fault-requires
node_fault-requires c = subst (λ (o : Option (Bor TyNode)). IsWrong c.args.self.now (λ b. b.now) o) c.in-Some.is c.loop-at.invariant.1
