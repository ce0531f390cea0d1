use Rattle.std.proofs.Common.{refl}
use Rattle.lt_session.specs.Sessions.{session_of}
use Rattle.lt_session.proofs.Steppings.{refuses_theory, next_theory, stops_unread, steps_on, steps_end}
use Rattle.lt_session.proofs.stepping.next_command.Goals as goal

pub returns-in-Err-clause-steps : goal.returns-in-Err-clause-steps
returns-in-Err-clause-steps c =
    (stops_unread (session_of c.args.session.now) c.args.script.now.left c.in-Err.error _ c.of_read_error.ensures (refuses_theory c.args.script.now c.in-Err.error c.requires.theory c.in-Err.ensures.wrong), refl)

pub returns-in-Ok-take_spanned-clause-steps : goal.returns-in-Ok-take_spanned-clause-steps
returns-in-Ok-take_spanned-clause-steps c =
    steps_on c.args.script.now.left c.in-Some.spanned c.args.session.now c.parse_command.new.self.left c.take_spanned.new.session c.in-Ok-take_spanned.block
    (next_theory c.args.script.now _ _ _ _ _ c.requires.theory (rw c.in-Some.is at c.in-Ok.ensures.command)) c.in-Ok-take_spanned.ensures

pub returns-in-Err-take_spanned-clause-steps : goal.returns-in-Err-take_spanned-clause-steps
returns-in-Err-take_spanned-clause-steps c =
    steps_end c.args.script.now.left c.in-Some.spanned c.args.session.now c.parse_command.new.self.left c.take_spanned.new.session c.in-Err-take_spanned.placed
    (next_theory c.args.script.now _ _ _ _ _ c.requires.theory (rw c.in-Some.is at c.in-Ok.ensures.command)) c.in-Err-take_spanned.ensures
