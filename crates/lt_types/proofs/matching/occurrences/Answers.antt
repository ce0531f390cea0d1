use Rattle.std.proofs.Common.{◌≡◌, ◌+◌, ◌-◌, ◌<◌, ◌∷◌, ◌++◌, [], ◌∙◌, ap, sym, subst, refl, arith, length, take, get_or, reverse}
use Rattle.std.proofs.lemmas.List.{reverse-append, get_or_default}
use Rattle.lt_definitions.specs.Types.{TypeMap}
use Rattle.lt_types.specs.declared.ty.TyNode.{TyNode}
use Rattle.lt_types.specs.declared.ty.TyNode.TheVariants as TheVariants
use Rattle.lt_types.specs.Layout.{type_nodes, forest}
use Rattle.lt_types.proofs.LayoutLemmas.{length-type_nodes, whole}
use Rattle.lt_types.proofs.MatchingLemmas.{IsLeft, left-init, past-none, past-var, past-con}
use Rattle.lt_types.proofs.matching.occurrences.Goals as goal

pub loop-at-init : goal.loop-at-init
loop-at-init c =
    let ps : forest [] (take (length c.nodes-nodes.result.now) (type_nodes 0 c.args.pattern.now)) ≡ c.args.pattern.now ∷ [] =
    whole _ c.args.pattern.now (length c.nodes-nodes.result.now) refl (omega (arith, ap length c.nodes-nodes.ensures)) (omega (arith, ap length c.nodes-nodes.ensures)) in
    let ts : forest [] (take c.len-end.result (type_nodes 0 c.args.ty.now)) ≡ c.args.ty.now ∷ [] =
    whole _ c.args.ty.now c.len-end.result refl (omega (arith, c.len-end.ensures, length-type_nodes 0 c.args.ty.now)) (omega (arith, c.len-end.ensures, length-type_nodes 0 c.args.ty.now)) in
    let qs : reverse c.new-pairs.result.items ≡ [] = ap reverse c.new-pairs.ensures.items in
    (rw (ps, ts, qs) (left-init c.args.pattern.now c.args.ty.now), omega (arith, c.len-end.ensures, length-type_nodes 0 c.args.ty.now))

pub returns-then-end-eq0 : goal.returns-then-end-eq0
returns-then-end-eq0 c =
    let n : TyNode = get_or (type_nodes 0 c.args.pattern.now) (c.loop-at.at - 1) (TheVariants.Var []) in
    let lt : c.loop-at.at - 1 < length (type_nodes 0 c.args.pattern.now) = omega (arith, c.loop-at-test.true, c.loop-at.auto.at, ap length c.nodes-nodes.ensures) in
    past-none c.args.pattern.now c.args.ty.now c.loop-at.at (c.loop-at.at - 1) c.loop-at.end n _ (omega (arith, c.loop-at-test.true)) lt
    (get_or_default (type_nodes 0 c.args.pattern.now) (c.loop-at.at - 1) (TheVariants.Var []) n lt) c.if-end-eq0.true c.loop-at.invariant.0

pub start_of-start-requires-clause-within : goal.start_of-start-requires-clause-within
start_of-start-requires-clause-within c = omega (arith, c.loop-at.invariant.1, length-type_nodes 0 c.args.ty.now)

pub part-requires-clause-within : goal.part-requires-clause-within
part-requires-clause-within c = omega (arith, c.loop-at.invariant.1, length-type_nodes 0 c.args.ty.now)

pub loop-at-preserved-in-Var : goal.loop-at-preserved-in-Var
loop-at-preserved-in-Var c =
    let e : c.loop-at.at ≡ (c.loop-at.at - 1) + 1 = omega (arith, c.loop-at-test.true) in
    let lt : c.loop-at.at - 1 < length (type_nodes 0 c.args.pattern.now) = omega (arith, c.loop-at-test.true, c.loop-at.auto.at, ap length c.nodes-nodes.ensures) in
    let is : c.index-nodes-at.result ≡ get_or (type_nodes 0 c.args.pattern.now) (c.loop-at.at - 1) c.index-nodes-at.result = c.index-nodes-at.is ∙ ap (λ ns. get_or ns (c.loop-at.at - 1) c.index-nodes-at.result) c.nodes-nodes.ensures in
    let pairs : reverse c.push.new.self.items ≡ (c.in-Var.name, c.in_ok-part-in-Var.field-0) ∷ reverse c.loop-at.pairs.items =
    ap reverse (c.in_ok-push-in-Var.ensures.items ∙ (λ i. c.loop-at.pairs.items ++ (c.in_ok-copy-in-Var.ensures i, c.in_ok-part-in-Var.field-0) ∷ [])) ∙ reverse-append c.loop-at.pairs.items ((c.in-Var.name, c.in_ok-part-in-Var.field-0) ∷ []) in (
      subst (λ (qs : TypeMap). IsLeft c.args.pattern.now c.args.ty.now (forest [] (take (c.loop-at.at - 1) (type_nodes 0 c.args.pattern.now))) (forest [] (take c.start_of-start.result (type_nodes 0 c.args.ty.now))) qs) (sym pairs)
          (past-var c.args.pattern.now c.args.ty.now c.loop-at.at (c.loop-at.at - 1) c.loop-at.end c.start_of-start.result c.in-Var.name c.in_ok-part-in-Var.field-0 c.index-nodes-at.result _ e lt is c.in-Var.is c.in_ok-part-in-Var.ensures c.loop-at.invariant.0),
      omega (arith, c.start_of-start.ensures.before, c.loop-at.invariant.1),
    )

pub loop-at-preserved : goal.loop-at-preserved
loop-at-preserved c =
    let e : c.loop-at.at ≡ (c.loop-at.at - 1) + 1 = omega (arith, c.loop-at-test.true) in
    let lt : c.loop-at.at - 1 < length (type_nodes 0 c.args.pattern.now) = omega (arith, c.loop-at-test.true, c.loop-at.auto.at, ap length c.nodes-nodes.ensures) in
    let is : c.index-nodes-at.result ≡ get_or (type_nodes 0 c.args.pattern.now) (c.loop-at.at - 1) c.index-nodes-at.result = c.index-nodes-at.is ∙ ap (λ ns. get_or ns (c.loop-at.at - 1) c.index-nodes-at.result) c.nodes-nodes.ensures in
    let f : c.loop-at.end ≡ (c.loop-at.end - 1) + 1 = omega (arith, c.if-end-eq0.false) in (
      past-con c.args.pattern.now c.args.ty.now c.loop-at.at (c.loop-at.at - 1) c.loop-at.end (c.loop-at.end - 1) c.in-Con.field-0 c.in-Con.field-1 c.index-nodes-at.result _ e lt is c.in-Con.is f (omega (arith, c.loop-at.invariant.1, f)) c.loop-at.invariant.0,
      omega (arith, c.loop-at.invariant.1),
    )
