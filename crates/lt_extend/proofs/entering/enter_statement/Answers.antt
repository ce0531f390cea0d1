use Rattle.std.proofs.Common.{◌∙◌, ap}
use Rattle.lt_definitions.specs.Types.{found}
use Rattle.lt_extend.proofs.Behind.{behind-keeps}
use Rattle.lt_extend.proofs.Entered.{stored-behind, stored-signature, stored-named, stored-stands}
use Rattle.lt_extend.proofs.entering.enter_statement.Goals as goal

pub enter_stored-requires-clause-new : goal.enter_stored-requires-clause-new
enter_stored-requires-clause-new g c = ap (found c.args.label.now) c.add_term.ensures.keeps.stays.named ∙ c.requires.new

pub returns-in_err-id-clause-behind : goal.returns-in_err-id-clause-behind
returns-in_err-id-clause-behind g c = behind-keeps c.args.proof.now c.add_term.new.self c.add_term.ensures.keeps

pub returns-clause-signature : goal.returns-clause-signature
returns-clause-signature g c =
    stored-signature c.args.proof.now c.add_term.new.self c.enter_stored.new.proof c.args.statements.now.entries c.enter_stored.new.statements.entries c.args.label.now c.args.t.now c.in_ok-id.id c.enter_stored.result
    c.add_term.ensures.keeps.stays.signature (record { ok = c.enter_stored.ensures.ok; kept = c.enter_stored.ensures.kept; err = c.enter_stored.ensures.err; front = c.enter_stored.ensures.front })

pub returns-clause-named : goal.returns-clause-named
returns-clause-named g c =
    stored-named c.args.proof.now c.add_term.new.self c.enter_stored.new.proof c.args.statements.now.entries c.enter_stored.new.statements.entries c.args.label.now c.args.t.now c.in_ok-id.id c.enter_stored.result
    c.add_term.ensures.keeps.stays.named (record { ok = c.enter_stored.ensures.ok; kept = c.enter_stored.ensures.kept; err = c.enter_stored.ensures.err; front = c.enter_stored.ensures.front })

pub returns-clause-behind : goal.returns-clause-behind
returns-clause-behind g c =
    stored-behind c.args.proof.now c.add_term.new.self c.enter_stored.new.proof c.args.statements.now.entries c.enter_stored.new.statements.entries c.args.label.now c.args.t.now c.in_ok-id.id c.enter_stored.result
    (behind-keeps c.args.proof.now c.add_term.new.self c.add_term.ensures.keeps)
    (record { ok = c.enter_stored.ensures.ok; kept = c.enter_stored.ensures.kept; err = c.enter_stored.ensures.err; front = c.enter_stored.ensures.front })

pub returns-clause-stands : goal.returns-clause-stands
returns-clause-stands g c =
    stored-stands c.args.proof.now c.add_term.new.self c.enter_stored.new.proof c.args.statements.now.entries c.enter_stored.new.statements.entries c.args.label.now c.args.t.now c.in_ok-id.id c.enter_stored.result
    c.add_term.ensures.keeps c.in_ok-id.ensures.builds.is
    (record { ok = c.enter_stored.ensures.ok; kept = c.enter_stored.ensures.kept; err = c.enter_stored.ensures.err; front = c.enter_stored.ensures.front })
