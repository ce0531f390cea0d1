use Rattle.lt_grammar.proofs.FilePlaces.{end_found}
use Rattle.lt_grammar.proofs.file_places.the_end_is_the_last_files_end.Goals as goal

pub returns : goal.returns
returns c = end_found
