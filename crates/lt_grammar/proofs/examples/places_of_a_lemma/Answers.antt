use Rattle.lt_grammar.proofs.PlaceExamples.{lemma_has_places}
use Rattle.lt_grammar.proofs.examples.places_of_a_lemma.Goals as goal

pub returns : goal.returns
returns c = lemma_has_places
