use Rattle.std.proofs.Common.{refl}
use Rattle.clap.proofs.OnLiterals.{clap_on_literals}
use Rattle.lt_words.specs.Calls.{call_of}
use Rattle.lt_words.proofs.examples.words_that_are_refused.Goals as goal

pub returns-clause-nothing : goal.returns-clause-nothing
unfolding call_of clap_on_literals
returns-clause-nothing c = refl

pub returns-clause-mode : goal.returns-clause-mode
unfolding call_of clap_on_literals
returns-clause-mode c = refl

pub returns-clause-file : goal.returns-clause-file
unfolding call_of clap_on_literals
returns-clause-file c = refl

pub returns-clause-no_file : goal.returns-clause-no_file
unfolding call_of clap_on_literals
returns-clause-no_file c = refl

pub returns-clause-size : goal.returns-clause-size
unfolding call_of clap_on_literals
returns-clause-size c = refl

pub returns-clause-zero : goal.returns-clause-zero
unfolding call_of clap_on_literals
returns-clause-zero c = refl

pub returns-clause-value : goal.returns-clause-value
unfolding call_of clap_on_literals
returns-clause-value c = refl

pub returns-clause-negative : goal.returns-clause-negative
unfolding call_of clap_on_literals
returns-clause-negative c = refl

pub returns-clause-twice : goal.returns-clause-twice
unfolding call_of clap_on_literals
returns-clause-twice c = refl

pub returns-clause-flag : goal.returns-clause-flag
unfolding call_of clap_on_literals
returns-clause-flag c = refl

pub returns-clause-help : goal.returns-clause-help
unfolding call_of clap_on_literals
returns-clause-help c = refl

pub returns-clause-short : goal.returns-clause-short
unfolding call_of clap_on_literals
returns-clause-short c = refl
