-- How many items there are, by kind.
use Rattle.std.specs.Prelude.{List, length, count_by}
use Rattle.lt_definitions.specs.Items.{Item}
use Rattle.lt_definitions.specs.Printing.{is_axiom, is_lemma}
use Rattle.lt_session.specs.declared.counts.Counts.{Counts}

-- how many of a list there are
abbrev pub counts_of : List Item → Counts
counts_of items = record { items = length items; axioms = count_by is_axiom items; lemmas = count_by is_lemma items }
