use Rattle.std.proofs.Common.{refl}
use Rattle.std.specs.Fmt.{digits}
use Rattle.lt_grammar.proofs.examples.places_in_two_files.Goals as goal

pub returns-clause-joined : goal.returns-clause-joined
unfolding digits lib.Utf8.encode
returns-clause-joined c = refl

pub returns-clause-second : goal.returns-clause-second
unfolding digits lib.Utf8.encode
returns-clause-second c = refl

pub returns-clause-printed : goal.returns-clause-printed
unfolding digits lib.Utf8.encode
returns-clause-printed c = refl

pub returns-clause-joint : goal.returns-clause-joint
unfolding digits lib.Utf8.encode
returns-clause-joint c = refl

pub returns-clause-begin : goal.returns-clause-begin
unfolding digits lib.Utf8.encode
returns-clause-begin c = refl

pub returns-clause-first : goal.returns-clause-first
unfolding digits lib.Utf8.encode
returns-clause-first c = refl
