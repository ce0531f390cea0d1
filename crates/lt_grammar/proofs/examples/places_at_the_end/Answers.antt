use Rattle.std.proofs.Common.{refl}
use Rattle.std.specs.Fmt.{digits}
use Rattle.lt_grammar.proofs.examples.places_at_the_end.Goals as goal

pub returns-clause-end : goal.returns-clause-end
unfolding digits lib.Utf8.encode
returns-clause-end c = refl

pub returns-clause-printed : goal.returns-clause-printed
unfolding digits lib.Utf8.encode
returns-clause-printed c = refl

pub returns-clause-bytes : goal.returns-clause-bytes
unfolding digits lib.Utf8.encode
returns-clause-bytes c = refl

pub returns-clause-column : goal.returns-clause-column
unfolding digits lib.Utf8.encode
returns-clause-column c = refl
