use Rattle.std.proofs.Common.{◌∙◌, sym, reverse, inr, refl, arith}
use Rattle.lt_conv.specs.Machines.{spot}
use Rattle.lt_conv.proofs.Downwards.{running-equation, at-redex, at-application, at-head, at-abstraction, at-leaf, leaf-room, same-leads}
use Rattle.lt_conv.proofs.normalising.go_down.Goals as goal

pub is_redex-requires : goal.is_redex-requires
is_redex-requires g c = (c.right-t.ensures (running-equation c.args.proof.now (spot c.args.machine.now) c.requires.running)).within

pub contract-requires : goal.contract-requires
contract-requires g c = at-redex c.args.proof.now (spot c.args.machine.now) c.requires.running c.right-t.result (c.right-t.ensures (running-equation c.args.proof.now (spot c.args.machine.now) c.requires.running)) c.requires.down (sym c.is_redex.ensures ∙ c.if-is_redex.true)

pub returns-then-is_redex-clause-leads : goal.returns-then-is_redex-clause-leads
returns-then-is_redex-clause-leads g c = λ q. c.contract.ensures.leads (at-redex c.args.proof.now (spot c.args.machine.now) q c.right-t.result (c.right-t.ensures (running-equation c.args.proof.now (spot c.args.machine.now) q)) c.requires.down (sym c.is_redex.ensures ∙ c.if-is_redex.true))

pub is_application-requires : goal.is_application-requires
is_application-requires g c = (c.right-t.ensures (running-equation c.args.proof.now (spot c.args.machine.now) c.requires.running)).within

pub enter_head-requires : goal.enter_head-requires
enter_head-requires g c = at-application c.args.proof.now (spot c.args.machine.now) c.requires.running c.right-t.result (c.right-t.ensures (running-equation c.args.proof.now (spot c.args.machine.now) c.requires.running)) c.requires.down (sym c.is_redex.ensures ∙ c.if-is_redex.false) (sym c.is_application.ensures ∙ c.if-is_application.true)

pub returns-then-is_application-clause-leads : goal.returns-then-is_application-clause-leads
returns-then-is_application-clause-leads g c = λ q. c.enter_head.ensures.leads (at-application c.args.proof.now (spot c.args.machine.now) q c.right-t.result (c.right-t.ensures (running-equation c.args.proof.now (spot c.args.machine.now) q)) c.requires.down (sym c.is_redex.ensures ∙ c.if-is_redex.false) (sym c.is_application.ensures ∙ c.if-is_application.true))

pub is_lam-requires : goal.is_lam-requires
is_lam-requires g c = (c.right-t.ensures (running-equation c.args.proof.now (spot c.args.machine.now) c.requires.running)).within

pub join_head-requires : goal.join_head-requires
join_head-requires g c = at-head c.args.proof.now (spot c.args.machine.now) c.requires.running c.right-t.result (c.right-t.ensures (running-equation c.args.proof.now (spot c.args.machine.now) c.requires.running)) c.requires.down (sym c.is_lam.ensures ∙ c.if-is_lam.true) c.in-Some.whole (reverse c.take_head.new.frames.items) c.in-Some.ensures.some

pub contract-requires-in-Some : goal.contract-requires-in-Some
contract-requires-in-Some g c = (c.in_ok-join_head-in-Some.ensures.redex (at-head c.args.proof.now (spot c.args.machine.now) c.requires.running c.right-t.result (c.right-t.ensures (running-equation c.args.proof.now (spot c.args.machine.now) c.requires.running)) c.requires.down (sym c.is_lam.ensures ∙ c.if-is_lam.true) c.in-Some.whole (reverse c.take_head.new.frames.items) c.in-Some.ensures.some)).at

pub enter_body-requires : goal.enter_body-requires
enter_body-requires g c = at-abstraction c.args.proof.now (spot c.args.machine.now) c.requires.running c.right-t.result (c.right-t.ensures (running-equation c.args.proof.now (spot c.args.machine.now) c.requires.running)) c.requires.down (sym c.is_lam.ensures ∙ c.if-is_lam.true) (reverse c.take_head.new.frames.items) (c.take_head.ensures.none c.in-None.is).0 (c.take_head.ensures.none c.in-None.is).1

pub returns-in-None-clause-leads : goal.returns-in-None-clause-leads
returns-in-None-clause-leads g c = λ q. c.enter_body.ensures.leads (at-abstraction c.args.proof.now (spot c.args.machine.now) q c.right-t.result (c.right-t.ensures (running-equation c.args.proof.now (spot c.args.machine.now) q)) c.requires.down (sym c.is_lam.ensures ∙ c.if-is_lam.true) (reverse c.take_head.new.frames.items) (c.take_head.ensures.none c.in-None.is).0 (c.take_head.ensures.none c.in-None.is).1)

pub returns-in_ok-join_head-in-Some-clause-leads : goal.returns-in_ok-join_head-in-Some-clause-leads
returns-in_ok-join_head-in-Some-clause-leads g c = λ q. let r = (c.in_ok-join_head-in-Some.ensures.redex (at-head c.args.proof.now (spot c.args.machine.now) q c.right-t.result (c.right-t.ensures (running-equation c.args.proof.now (spot c.args.machine.now) q)) c.requires.down (sym c.is_lam.ensures ∙ c.if-is_lam.true) c.in-Some.whole (reverse c.take_head.new.frames.items) c.in-Some.ensures.some)) in same-leads r.at.whole q.whole r.at.t q.t c.contract-in-Some.new.proof (spot c.contract-in-Some.new.machine) c.contract-in-Some.result r.whole_is r.t_is (c.contract-in-Some.ensures.leads r.at)

pub overflow_sub-machine : goal.overflow_sub-machine
overflow_sub-machine g c = leaf-room c.args.proof.now (spot c.args.machine.now) c.requires.running c.requires.down

pub returns-clause-leads : goal.returns-clause-leads
returns-clause-leads g c = λ q. at-leaf c.args.proof.now (spot c.args.machine.now) q c.right-t.result (c.right-t.ensures (running-equation c.args.proof.now (spot c.args.machine.now) q)) c.requires.down (sym c.is_application.ensures ∙ c.if-is_application.false) (sym c.is_lam.ensures ∙ c.if-is_lam.false)

pub returns-clause-less : goal.returns-clause-less
returns-clause-less g c = let r = leaf-room c.args.proof.now (spot c.args.machine.now) c.requires.running c.requires.down in inr (record { steps = refl; room = omega (arith, r) })
