-- What a search answers, as the definitions have it.
use Rattle.lt_transport_definitions.specs.Search as search
use Rattle.lt_transport_definitions.specs.SearchAnswers as answers
use Rattle.lt_search.specs.declared.choice.Top.{Top}
use Rattle.lt_search.specs.declared.choice.Top.TheVariants.{Equal, Implied}
use Rattle.lt_search.specs.declared.choice.Choice.{Choice}

abbrev pub top_told : Top → search.Top
top_told Equal = search.equal
top_told Implied = search.implied

abbrev pub choice_told : Choice → answers.Choice
choice_told c = record {
  rules = c.rules;
  top = top_told c.top;
  relations = c.relations;
  image = c.image;
  visits = c.visits;
}
