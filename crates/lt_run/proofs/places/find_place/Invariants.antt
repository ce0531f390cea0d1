use Rattle.std.proofs.Common.{List, ◌-◌, length}
use Rattle.lt_texts.specs.Files.{File}
use Rattle.lt_run.specs.Joining.{IsJoinedOf}
use Rattle.lt_run.specs.Places.{AreNames}
use Rattle.lt_run.proofs.InFiles.{IsAt}
use Rattle.lt_run.proofs.places.find_place.Given as goal

abbrev pub invariant-files : goal.invariant-files
invariant-files l = (held : List File) → AreNames l.names held → IsJoinedOf held l.joined → IsAt held l.place l.file l.from

abbrev pub decreases-files : goal.decreases-files
decreases-files l = length l.joined.lengths.items - l.file
