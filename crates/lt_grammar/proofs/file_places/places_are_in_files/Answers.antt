use Rattle.lt_grammar.proofs.FilePlaces.{file_found}
use Rattle.lt_grammar.proofs.file_places.places_are_in_files.Goals as goal

pub returns : goal.returns
returns c = file_found
