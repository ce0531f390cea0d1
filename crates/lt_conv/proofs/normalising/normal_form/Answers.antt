use Rattle.std.proofs.Common.{ap, reverse, arith}
use Rattle.lt_store.specs.Trees.{tree_at}
use Rattle.lt_reductions.specs.Reducts.{nodes_over, normal_form_of}
use Rattle.lt_conv.specs.Machines.{spot}
use Rattle.lt_conv.proofs.Contracting.{counts-is, counts-more}
use Rattle.lt_conv.proofs.Running.{running, leads-ends, goes-ends, ended-ends, goes-on-runs, is-large-at-once, starts-large, starts, down-smaller}
use Rattle.lt_conv.proofs.normalising.normal_form.Goals as goal

pub count-requires-clause-most : goal.count-requires-clause-most
count-requires-clause-most g c = omega arith

pub returns-then-large-clause-ends : goal.returns-then-large-clause-ends
returns-then-large-clause-ends g c = is-large-at-once (tree_at c.args.proof.now.nodes c.args.t) (c.in_ok-large.ensures c.if-large.true)

pub returns-in_default-clause-ends : goal.returns-in_default-clause-ends
returns-in_default-clause-ends g c = let t = tree_at c.args.proof.now.nodes c.args.t in
    starts-large c.in_ok-floor.floor t c.in_ok-floor.ensures (counts-more 65536 (nodes_over c.in_ok-floor.floor t) c.in_ok-size.field-0 c.in_default.is c.in_ok-size.ensures)

pub loop-machine-init : goal.loop-machine-init
loop-machine-init g c = let t = tree_at c.args.proof.now.nodes c.args.t in
    let counted = counts-is 65536 (nodes_over c.in_ok-floor.floor t) c.in-Some.size c.in_ok-size.field-0 c.in-Some.is c.in_ok-size.ensures in record {
      carries = c.refl.ensures.carries;
      runs = starts c.refl.new.proof t c.in_ok-floor.floor c.in_ok-line.line c.in-Some.size _ c.in_ok-floor.ensures c.in_ok-line.ensures.line counted.0 counted.1 (ap reverse c.new.ensures.items);
    }

pub loop-machine-smaller-in-Ok : goal.loop-machine-smaller-in-Ok
loop-machine-smaller-in-Ok g c = down-smaller (spot c.loop-machine.machine) (spot c.go_down.new.machine) c.go_down.new.proof (normal_form_of (tree_at c.args.proof.now.nodes c.args.t)) (tree_at c.args.proof.now.nodes c.args.t) c.in-Ok.ensures.less (c.in-Ok.ensures.leads (running (normal_form_of (tree_at c.args.proof.now.nodes c.args.t)) (tree_at c.args.proof.now.nodes c.args.t) c.loop-machine.proof (spot c.loop-machine.machine) c.loop-machine.invariant.runs))

pub loop-machine-preserved-in-Ok : goal.loop-machine-preserved-in-Ok
loop-machine-preserved-in-Ok g c = record {
  carries = λ first h. c.go_down.ensures.carries first (c.loop-machine.invariant.carries first h);
  runs = c.in-Ok.ensures.leads (running (normal_form_of (tree_at c.args.proof.now.nodes c.args.t)) (tree_at c.args.proof.now.nodes c.args.t) c.loop-machine.proof (spot c.loop-machine.machine) c.loop-machine.invariant.runs);
}

pub returns-in-Err-clause-ends : goal.returns-in-Err-clause-ends
returns-in-Err-clause-ends g c = leads-ends (normal_form_of (tree_at c.args.proof.now.nodes c.args.t)) (tree_at c.args.proof.now.nodes c.args.t) c.go_down.new.proof (spot c.go_down.new.machine) c.in-Err.fault (c.in-Err.ensures.leads (running (normal_form_of (tree_at c.args.proof.now.nodes c.args.t)) (tree_at c.args.proof.now.nodes c.args.t) c.loop-machine.proof (spot c.loop-machine.machine) c.loop-machine.invariant.runs))

pub returns-then-ended-clause-ends : goal.returns-then-ended-clause-ends
returns-then-ended-clause-ends g c = ended-ends (normal_form_of (tree_at c.args.proof.now.nodes c.args.t)) (tree_at c.args.proof.now.nodes c.args.t) c.go_up.new.proof (spot c.go_up.new.machine) c.in-Ok-go_up.ended c.if-ended.true (c.in-Ok-go_up.ensures.goes (running (normal_form_of (tree_at c.args.proof.now.nodes c.args.t)) (tree_at c.args.proof.now.nodes c.args.t) c.loop-machine.proof (spot c.loop-machine.machine) c.loop-machine.invariant.runs))

pub loop-machine-preserved : goal.loop-machine-preserved
loop-machine-preserved g c = record {
  carries = λ first h. c.go_up.ensures.carries first (c.loop-machine.invariant.carries first h);
  runs = goes-on-runs (normal_form_of (tree_at c.args.proof.now.nodes c.args.t)) (tree_at c.args.proof.now.nodes c.args.t) c.go_up.new.proof (spot c.go_up.new.machine) c.in-Ok-go_up.ended c.if-ended.false (c.in-Ok-go_up.ensures.goes (running (normal_form_of (tree_at c.args.proof.now.nodes c.args.t)) (tree_at c.args.proof.now.nodes c.args.t) c.loop-machine.proof (spot c.loop-machine.machine) c.loop-machine.invariant.runs));
}

pub returns-in-Err-go_up-clause-ends : goal.returns-in-Err-go_up-clause-ends
returns-in-Err-go_up-clause-ends g c = goes-ends (normal_form_of (tree_at c.args.proof.now.nodes c.args.t)) (tree_at c.args.proof.now.nodes c.args.t) c.go_up.new.proof (spot c.go_up.new.machine) c.in-Err-go_up.fault (c.in-Err-go_up.ensures.goes (running (normal_form_of (tree_at c.args.proof.now.nodes c.args.t)) (tree_at c.args.proof.now.nodes c.args.t) c.loop-machine.proof (spot c.loop-machine.machine) c.loop-machine.invariant.runs))
