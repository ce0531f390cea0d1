use Rattle.std.proofs.Common.{None, refl, sym, ◌∙◌, ap}
use Rattle.lt_commands.specs.declared.refusal.Refusal.{Refusal}
use Rattle.lt_commands.specs.declared.refusal.Refused.{Refused}
use Rattle.lt_session.proofs.Correspondences.{corr_taken, corr_refused, const_refused}
use Rattle.lt_session.proofs.session.Session.take_corr.Goals as goal

pub returns-in_default : goal.returns-in_default
returns-in_default c =
    const_refused c.args.self.now _ c.signature-sig.result.now c.args.name _ c.self.view_is (c.signature-sig.ensures ∙ c.self.invariant.signature) (sym c.in_default.ensures) c.refused.ensures

pub returns-in-Ok : goal.returns-in-Ok
returns-in-Ok c =
    corr_taken c.args.self.now _ (record { items = c.self.inside.theory.items; laws = c.self.inside.laws; registry = c.register_corr.new.self; limit = c.self.inside.limit }) c.signature-sig.result.now c.args.name
    c.in-Some.field-0.now c.next_block-block.result c.self.view_is c.next_block-block.ensures (c.signature-sig.ensures ∙ c.self.invariant.signature) (sym c.in-Some.ensures) c.in-Ok.ensures.0 c.in-Ok.ensures.1 refl

pub returns : goal.returns
returns c =
    corr_refused c.args.self.now _ (record { items = c.self.inside.theory.items; laws = c.self.inside.laws; registry = c.register_corr.new.self; limit = c.self.inside.limit }) c.signature-sig.result.now c.args.name
    c.in-Some.field-0.now c.in-Err.fault _ c.self.view_is (c.signature-sig.ensures ∙ c.self.invariant.signature) (sym c.in-Some.ensures) c.in-Err.ensures.0 c.in-Err.ensures.1 refl
    (c.refused-in-Err.ensures ∙ ap told c.of_rel_fault.ensures)
  where
    told : Refusal → Refused
    told x = record { refusal = x; line = None }
