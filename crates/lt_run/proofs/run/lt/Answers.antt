-- What comes of a call is what comes of what its words ask for.
use Rattle.std.proofs.Common.{rules, ◌≡◌, Some}
use Rattle.std.specs.Prelude.{option_map}
use Rattle.lt_words.specs.Calls.{asked, call_of}
use Rattle.lt_run.proofs.Asking.{files_read, reads_none}
use Rattle.lt_run.proofs.run.lt.Goals as goal

pub do_asked-requires : goal.do_asked-requires
do_asked-requires g c =
    let read : option_map asked (Some c.in-Some.asked) ≡ call_of c.args.words.now = search rules in
    files_read c.args.words.now c.in-Some.asked read

pub returns-clause-untouched : goal.returns-clause-untouched
returns-clause-untouched g c = λ none.
    let read : option_map asked (Some c.in-Some.asked) ≡ call_of c.args.words.now = search rules in
    c.do_asked.ensures.untouched (reads_none c.args.words.now c.in-Some.asked read none)
