use Rattle.std.proofs.Common.{rules, ◌≢◌, ◌∙◌, [], map}
use Rattle.clap.specs.Words.{fault_of}
use Rattle.lt_words.specs.Command.{lt_app}
use Rattle.lt_words.proofs.WordTests.{taken, not_taken}
use Rattle.lt_words.proofs.read.read_words.Goals as goal

pub returns-in_ok-words_in-in-Ok : goal.returns-in_ok-words_in-in-Ok
returns-in_ok-words_in-in-Ok c = c.in_ok-words_in-in-Ok.ensures ∙ taken c.args.words.now _ c.in-Ok.ensures.taken c.in-Ok.ensures.rows

pub returns-else-ran_out : goal.returns-else-ran_out
returns-else-ran_out c =
    let refused : fault_of lt_app (map (λ w. w) c.args.words.now) ≢ [] = search rules in
    not_taken c.args.words.now refused
