use Rattle.std.proofs.Common.{reverse, ap}
use Rattle.lt_store.specs.Trees.{tree_at}
use Rattle.lt_kernel.specs.State.{statements}
use Rattle.lt_conv.specs.declared.places.Place.TheVariants.{Node as AtNode, Line as AtLine}
use Rattle.lt_conv.specs.Places.{levels_of}
use Rattle.lt_conv.proofs.Placed.{at-work, work-begins, empty-lines, leads-at, place-less, goes-at, ends-at, some-less}
use Rattle.lt_conv.proofs.everywhere.convert_everywhere.Goals as goal

pub loop-place-init : goal.loop-place-init
loop-place-init g c = record {
  carries = λ first h. h;
  leads = work-begins (g.A.Conversion.gives c.args.inner.now (statements c.args.proof.now)) c.args.proof.now _ _ c.args.t c.requires.t (ap reverse c.new-levels.ensures.items) (empty-lines c.new-lines.result c.new-lines.ensures.empty);
}

pub enter-requires : goal.enter-requires
enter-requires g c = at-work (g.A.Conversion.gives c.args.inner.now) c.args.proof.now c.loop-place.proof (tree_at c.args.proof.now.nodes c.args.t) (levels_of c.loop-place.work) c.loop-place.work.lines (AtNode c.in-Node.id) c.loop-place.invariant.carries c.requires.sound (leads-at c.in-Node.is c.loop-place.invariant.leads)

pub loop-place-preserved-in-Node : goal.loop-place-preserved-in-Node
loop-place-preserved-in-Node g c = record {
  carries = λ first h. c.enter.ensures.carries first (c.loop-place.invariant.carries first h);
  leads = c.in_ok-next-in-Node.ensures.leads (at-work (g.A.Conversion.gives c.args.inner.now) c.args.proof.now c.loop-place.proof (tree_at c.args.proof.now.nodes c.args.t) (levels_of c.loop-place.work) c.loop-place.work.lines (AtNode c.in-Node.id) c.loop-place.invariant.carries c.requires.sound (leads-at c.in-Node.is c.loop-place.invariant.leads));
}

pub loop-place-smaller-in-Node : goal.loop-place-smaller-in-Node
loop-place-smaller-in-Node g c = place-less c.loop-place.proof.nodes (levels_of c.loop-place.work) c.loop-place.place (AtNode c.in-Node.id) _ c.in-Node.is c.in_ok-next-in-Node.ensures.less

pub leave-requires : goal.leave-requires
leave-requires g c = at-work (g.A.Conversion.gives c.args.inner.now) c.args.proof.now c.loop-place.proof (tree_at c.args.proof.now.nodes c.args.t) (levels_of c.loop-place.work) c.loop-place.work.lines (AtLine c.in-Line.line) c.loop-place.invariant.carries c.requires.sound (leads-at c.in-Line.is c.loop-place.invariant.leads)

pub loop-place-preserved : goal.loop-place-preserved
loop-place-preserved g c = record {
  carries = λ first h. c.leave.ensures.carries first (c.loop-place.invariant.carries first h);
  leads = goes-at (g.A.Conversion.gives c.args.inner.now (statements c.args.proof.now)) (tree_at c.args.proof.now.nodes c.args.t) c.leave.new.proof (levels_of c.leave.new.work) c.leave.new.work.lines c.in-Line.line c.in_ok-behind-in-Line.behind c.in-Some.next c.in-Some.is
      (c.in_ok-behind-in-Line.ensures.leads (at-work (g.A.Conversion.gives c.args.inner.now) c.args.proof.now c.loop-place.proof (tree_at c.args.proof.now.nodes c.args.t) (levels_of c.loop-place.work) c.loop-place.work.lines (AtLine c.in-Line.line) c.loop-place.invariant.carries c.requires.sound (leads-at c.in-Line.is c.loop-place.invariant.leads)));
}

pub loop-place-smaller : goal.loop-place-smaller
loop-place-smaller g c = place-less c.loop-place.proof.nodes (levels_of c.loop-place.work) c.loop-place.place (AtLine c.in-Line.line) _ c.in-Line.is
    (some-less c.leave.new.proof.nodes (levels_of c.leave.new.work) c.in_ok-behind-in-Line.behind c.in-Some.next _ c.in-Some.is c.in_ok-behind-in-Line.ensures.less)

pub returns-in-None-clause-carries : goal.returns-in-None-clause-carries
returns-in-None-clause-carries g c = λ first h. c.leave.ensures.carries first (c.loop-place.invariant.carries first h)

pub returns-in-None-clause-line : goal.returns-in-None-clause-line
returns-in-None-clause-line g c =
    ends-at (g.A.Conversion.gives c.args.inner.now (statements c.args.proof.now)) (tree_at c.args.proof.now.nodes c.args.t) c.leave.new.proof (levels_of c.leave.new.work) c.leave.new.work.lines c.in-Line.line c.in_ok-behind-in-Line.behind c.in-None.is
    (c.in_ok-behind-in-Line.ensures.leads (at-work (g.A.Conversion.gives c.args.inner.now) c.args.proof.now c.loop-place.proof (tree_at c.args.proof.now.nodes c.args.t) (levels_of c.loop-place.work) c.loop-place.work.lines (AtLine c.in-Line.line) c.loop-place.invariant.carries c.requires.sound (leads-at c.in-Line.is c.loop-place.invariant.leads)))
