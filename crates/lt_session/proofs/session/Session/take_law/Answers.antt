use Rattle.std.proofs.Common.{None, refl, sym, ◌∙◌, ap}
use Rattle.lt_commands.specs.declared.refusal.Refusal.{Refusal}
use Rattle.lt_commands.specs.declared.refusal.Refused.{Refused}
use Rattle.lt_session.proofs.Takings.{law_taken, law_refused, label_refused, takes_ok, takes_err}
use Rattle.lt_session.proofs.session.Session.take_law.Goals as goal
use Rattle.lt_session.proofs.session.Session.take_law.Goals.{in-Ok, in-Err}

pub returns-in_default : goal.returns-in_default
returns-in_default c = label_refused c.args.self.now _ c.args.law.now c.args.label _ c.self.view_is (sym c.in_default.ensures) c.refused.ensures

pub returns : goal.returns
returns c =
    elim c.match-register_law.branch [
      | in-Ok w ↦ takes_ok c.args.self.now (record { items = c.self.inside.theory.items; laws = c.register_law.new.self; registry = c.self.inside.relations; limit = c.self.inside.limit }) _ _ c.match-register_law.result w.result-is
          (law_taken c.args.self.now _ _ c.args.law.now c.args.label c.in-Some.statement.now c.next_block-block.result c.self.view_is c.next_block-block.ensures (sym c.in-Some.ensures) w.in-Ok.ensures.0 w.in-Ok.ensures.1 refl)
      | in-Err w ↦ takes_err c.args.self.now (record { items = c.self.inside.theory.items; laws = c.register_law.new.self; registry = c.self.inside.relations; limit = c.self.inside.limit }) _ _ c.match-register_law.result w.result-is
          (law_refused c.args.self.now _ _ c.args.law.now c.args.label c.in-Some.statement.now w.in-Err.fault w.refused-in-Err.result c.self.view_is (sym c.in-Some.ensures) w.in-Err.ensures.0 w.in-Err.ensures.1 refl
          (w.refused-in-Err.ensures ∙ ap told w.of_law_fault.ensures))
    ]
  where
    told : Refusal → Refused
    told x = record { refusal = x; line = None }
