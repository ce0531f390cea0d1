use Rattle.std.proofs.Common.{refl}
use Rattle.clap.proofs.OnLiterals.{clap_on_literals}
use Rattle.lt_words.specs.Calls.{call_of}
use Rattle.lt_words.proofs.examples.words_that_are_accepted.Goals as goal

pub returns-clause-plain : goal.returns-clause-plain
unfolding call_of clap_on_literals
returns-clause-plain c = refl

pub returns-clause-options : goal.returns-clause-options
unfolding call_of clap_on_literals
returns-clause-options c = refl

pub returns-clause-between : goal.returns-clause-between
unfolding call_of clap_on_literals
returns-clause-between c = refl

pub returns-clause-ended : goal.returns-clause-ended
unfolding call_of clap_on_literals
returns-clause-ended c = refl

pub returns-clause-odd : goal.returns-clause-odd
unfolding call_of clap_on_literals
returns-clause-odd c = refl

pub returns-clause-laws : goal.returns-clause-laws
unfolding call_of clap_on_literals
returns-clause-laws c = refl

pub returns-clause-generator : goal.returns-clause-generator
unfolding call_of clap_on_literals
returns-clause-generator c = refl
