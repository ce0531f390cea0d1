use Rattle.std.proofs.Common.{◌∙◌, sym}
use Rattle.lt_store.specs.Trees.{tree_at}
use Rattle.lt_definitions.proofs.SameNames.{name-true}
use Rattle.lt_conv.proofs.Matched.{none-left, none-right}
use Rattle.lt_conv.proofs.Unfolded.{constants-apart, constants-fit}
use Rattle.lt_conv.proofs.unfolding.match_constants.Goals as goal

pub returns-then-not-is_constant : goal.returns-then-not-is_constant
returns-then-not-is_constant g c = none-left (tree_at (g.S.TermStore.nodes c.args.store.now) c.args.c) (tree_at (g.S.TermStore.nodes c.args.store.now) c.args.t) (sym c.is_constant.ensures ∙ c.if-not-is_constant.true)

pub returns-then-not-is_constant-2 : goal.returns-then-not-is_constant-2
returns-then-not-is_constant-2 g c = none-right (tree_at (g.S.TermStore.nodes c.args.store.now) c.args.c) (tree_at (g.S.TermStore.nodes c.args.store.now) c.args.t) (sym c.is_constant-2.ensures ∙ c.if-not-is_constant-2.true)

pub returns-then-not-same : goal.returns-then-not-same
returns-then-not-same g c =
    constants-apart (tree_at (g.S.TermStore.nodes c.args.store.now) c.args.c) (tree_at (g.S.TermStore.nodes c.args.store.now) c.args.t) c.constant.result.0.now c.constant-2.result.0.now c.constant.result.1.now
    c.constant-2.result.1.now c.constant.ensures c.constant-2.ensures (sym c.eq-same.ensures ∙ c.if-not-same.true)

pub returns : goal.returns
returns g c =
    constants-fit (tree_at (g.S.TermStore.nodes c.args.store.now) c.args.c) (tree_at (g.S.TermStore.nodes c.args.store.now) c.args.t) c.constant.result.0.now c.constant-2.result.0.now c.constant.result.1.now
    c.constant-2.result.1.now c.in_ok-map.map c.constant.ensures c.constant-2.ensures (name-true c.constant-2.result.0.now c.constant.result.0.now (sym c.eq-same.ensures ∙ c.if-not-same.false)) c.in_ok-map.ensures
