use Rattle.std.proofs.Common.{◌≤◌, ◌∙◌, ap, sym, subst, length, take, List}
use Rattle.lt_hol.specs.declared.item.Item.{Item}
use Rattle.lt_kernel.specs.State.{State}
use Rattle.lt_extend.specs.Standing.{StandsFor}
use Rattle.lt_extend.specs.Theories.{Holding, context_behind}
use Rattle.lt_extend.proofs.Committed.{in-step-inside}
use Rattle.lt_extend.proofs.Backward.{mark-now, stands-back, held-back}
use Rattle.lt_extend.proofs.theory.Theory.back.Goals as goal

pub mark_before-then-requires : goal.mark_before-then-requires
mark_before-then-requires g c = record {
  within = subst (λ (h : Holding). c.args.mark ≤ length h.items) (sym c.self.view_is) c.requires.within;
  valid = c.self.invariant.valid;
  now = mark-now c.self.inside.items c.self.inside.proof c.self.inside.statements.entries c.mark_of-now.result c.self.invariant
      (in-step-inside c.self.inside.items c.self.inside.proof c.args.self.now c.self.view_is c.requires.in_step) c.mark_of-now.ensures;
}

pub returns-clause-items : goal.returns-clause-items
returns-clause-items g c = c.truncate.ensures ∙ ap (λ (h : Holding). take c.args.mark h.items) c.self.view_is

pub returns-clause-lines : goal.returns-clause-lines
returns-clause-lines g c = ap (λ (s : State). s.steps) c.go_back.ensures.proof

pub returns-clause-nodes : goal.returns-clause-nodes
returns-clause-nodes g c = ap (λ (s : State). s.nodes) c.go_back.ensures.proof ∙ ap (λ (h : Holding). h.proof.nodes) c.self.view_is

pub returns-clause-in_step : goal.returns-clause-in_step
returns-clause-in_step g c =
    subst (λ (items : List Item). StandsFor (context_behind items) c.go_back.new.proof) (sym c.truncate.ensures)
    (stands-back c.self.inside.items c.args.mark c.self.inside.proof c.go_back.new.proof c.mark_before-then.result
    (in-step-inside c.self.inside.items c.self.inside.proof c.args.self.now c.self.view_is c.requires.in_step) c.mark_before-then.ensures c.go_back.ensures.proof)

pub invariant_of-self : goal.invariant_of-self
invariant_of-self g c =
    held-back c.self.inside.items c.truncate.new.items c.args.mark c.self.inside.statements.entries c.go_back.new.statements.entries c.mark_before-then.result c.self.invariant c.mark_before-then.ensures
    c.truncate.ensures c.go_back.ensures.statements
