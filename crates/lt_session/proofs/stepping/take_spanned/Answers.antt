use Rattle.std.proofs.Common.{refl}
use Rattle.lt_commands.specs.Views.{command_of}
use Rattle.lt_session.specs.Sessions.{session_of}
use Rattle.lt_session.proofs.Steppings.{refuses_command}
use Rattle.lt_session.proofs.stepping.take_spanned.Goals as goal

pub returns : goal.returns
returns c = (
  refuses_command (session_of c.args.session.now) (command_of c.args.spanned.command) c.args.spanned.from c.args.spanned.lines c.in-Err.field-0 _ c.in-Err.ensures.0 refl c.place_in-at.ensures,
  c.in-Err.ensures.1,
)
