-- What is printed of an answered refusal is what is printed of what it tells.
use Rattle.std.proofs.Common.{◌≡◌, ap}
use Rattle.lt_definitions.specs.Printing.{words}
use Rattle.lt_commands.specs.declared.refusal.Refusal.{Refusal}
use Rattle.lt_plain.specs.Showing.{shown_words}
use Rattle.lt_plain.proofs.Showings.{told_prints}
use Rattle.lt_transport_definitions.specs.Commands.{as_item, in_words}
use Rattle.lt_session.specs.Walks.{RunRefusal, by_table, not_built, printed}
use Rattle.lt_session.specs.Stepping.{TellsRun}

pub told_run_prints : (r : RunRefusal) (x : Refusal) → TellsRun r x → words (shown_words x) ≡ printed r
told_run_prints (by_table (as_item r)) x h = told_prints r x h
told_run_prints (by_table (in_words ws)) x h = ap words h
told_run_prints not_built x h = ap (λ (y : Refusal). words (shown_words y)) h
