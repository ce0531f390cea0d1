use Rattle.std.proofs.Common.{◌-◌, arith}
use Rattle.lt_reductions.specs.Reducts.{nodes_over}
use Rattle.lt_conv.specs.Machines.{spot}
use Rattle.lt_conv.proofs.Contracting.{redex, opened, redex-at, as-equation, at-limit, within, too-large, contracted, counts-not, counts-is, counts-more, opened-equation}
use Rattle.lt_conv.proofs.moves.contract.Goals as goal

pub returns-then-machine-eq10000-clause-leads : goal.returns-then-machine-eq10000-clause-leads
returns-then-machine-eq10000-clause-leads g c = λ q. at-limit c.args.proof.now (spot c.args.machine.now) q c.if-machine-eq10000.true

pub count_right-requires-clause-line : goal.count_right-requires-clause-line
count_right-requires-clause-line g c = as-equation c.args.proof.now (spot c.args.machine.now) c.requires

pub unreachable-requires : goal.unreachable-requires
unreachable-requires g c = counts-not c.args.machine.now.size (nodes_over c.args.machine.now.floor (redex c.args.proof.now (spot c.args.machine.now) c.requires)) c.in_ok-before.field-0 c.in_default.is (c.in_ok-before.ensures (as-equation c.args.proof.now (spot c.args.machine.now) c.requires)) (within c.args.proof.now (spot c.args.machine.now) c.requires)

pub reduce-requires : goal.reduce-requires
reduce-requires g c = redex-at c.args.proof.now (spot c.args.machine.now) c.requires

pub count_right-requires-2-clause-line : goal.count_right-requires-2-clause-line
count_right-requires-2-clause-line g c = opened-equation c.args.proof.now (spot c.args.machine.now) c.requires c.reduce.new.proof c.in_ok-line.line (c.in_ok-line.ensures.line (redex-at c.args.proof.now (spot c.args.machine.now) c.requires))

pub returns-in_default-2-clause-leads : goal.returns-in_default-2-clause-leads
returns-in_default-2-clause-leads g c = λ q. too-large c.args.proof.now (spot c.args.machine.now) q c.if-machine-eq10000.false c.in-Some.before (counts-is c.args.machine.now.size (nodes_over c.args.machine.now.floor (redex c.args.proof.now (spot c.args.machine.now) q)) c.in-Some.before c.in_ok-before.field-0 c.in-Some.is (c.in_ok-before.ensures (as-equation c.args.proof.now (spot c.args.machine.now) q))).0
    (counts-more (65536 - (c.args.machine.now.size - c.in-Some.before)) (nodes_over c.args.machine.now.floor (opened c.args.proof.now (spot c.args.machine.now) q)) c.in_ok-behind.field-0 c.in_default-2.is (c.in_ok-behind.ensures (opened-equation c.args.proof.now (spot c.args.machine.now) q c.reduce.new.proof c.in_ok-line.line (c.in_ok-line.ensures.line (redex-at c.args.proof.now (spot c.args.machine.now) q)))))

pub returns-clause-leads : goal.returns-clause-leads
returns-clause-leads g c = λ q.
    let before = (counts-is c.args.machine.now.size (nodes_over c.args.machine.now.floor (redex c.args.proof.now (spot c.args.machine.now) q)) c.in-Some.before c.in_ok-before.field-0 c.in-Some.is (c.in_ok-before.ensures (as-equation c.args.proof.now (spot c.args.machine.now) q))) in
    let behind = (counts-is (65536 - (c.args.machine.now.size - c.in-Some.before)) (nodes_over c.args.machine.now.floor (opened c.args.proof.now (spot c.args.machine.now) q)) c.in-Some-2.behind c.in_ok-behind.field-0 c.in-Some-2.is (c.in_ok-behind.ensures (opened-equation c.args.proof.now (spot c.args.machine.now) q c.reduce.new.proof c.in_ok-line.line (c.in_ok-line.ensures.line (redex-at c.args.proof.now (spot c.args.machine.now) q))))) in
    contracted c.args.proof.now (spot c.args.machine.now) q c.if-machine-eq10000.false c.reduce.new.proof c.in_ok-line.line c.in-Some.before c.in-Some-2.behind c.reduce.ensures.carries before.0 behind.0 behind.1 (c.in_ok-line.ensures.line (redex-at c.args.proof.now (spot c.args.machine.now) q))

pub overflow_sub-rest : goal.overflow_sub-rest
overflow_sub-rest g c = (counts-is c.args.machine.now.size (nodes_over c.args.machine.now.floor (redex c.args.proof.now (spot c.args.machine.now) c.requires)) c.in-Some.before c.in_ok-before.field-0 c.in-Some.is (c.in_ok-before.ensures (as-equation c.args.proof.now (spot c.args.machine.now) c.requires))).1

pub overflow_add-machine-2 : goal.overflow_add-machine-2
overflow_add-machine-2 g c = let b = (counts-is (65536 - (c.args.machine.now.size - c.in-Some.before)) (nodes_over c.args.machine.now.floor (opened c.args.proof.now (spot c.args.machine.now) c.requires)) c.in-Some-2.behind c.in_ok-behind.field-0 c.in-Some-2.is (c.in_ok-behind.ensures (opened-equation c.args.proof.now (spot c.args.machine.now) c.requires c.reduce.new.proof c.in_ok-line.line (c.in_ok-line.ensures.line (redex-at c.args.proof.now (spot c.args.machine.now) c.requires))))).1 in let r = c.requires.runs.small in omega (arith, b, r)

pub overflow_mul-machine : goal.overflow_mul-machine
overflow_mul-machine g c = let b = (counts-is (65536 - (c.args.machine.now.size - c.in-Some.before)) (nodes_over c.args.machine.now.floor (opened c.args.proof.now (spot c.args.machine.now) c.requires)) c.in-Some-2.behind c.in_ok-behind.field-0 c.in-Some-2.is (c.in_ok-behind.ensures (opened-equation c.args.proof.now (spot c.args.machine.now) c.requires c.reduce.new.proof c.in_ok-line.line (c.in_ok-line.ensures.line (redex-at c.args.proof.now (spot c.args.machine.now) c.requires))))).1 in let r = c.requires.runs.small in omega (arith, b, r)

pub count_right-requires-clause-most : goal.count_right-requires-clause-most
count_right-requires-clause-most g c = c.requires.runs.small

pub count_right-requires-2-clause-most : goal.count_right-requires-2-clause-most
count_right-requires-2-clause-most g c = omega arith
