use Rattle.std.proofs.Common.{refl}
use Rattle.std.specs.Fmt.{digits}
use Rattle.lt_texts.proofs.text_examples.texts_of_items.Goals as goal

pub returns-clause-type_item : goal.returns-clause-type_item
unfolding digits
returns-clause-type_item c = refl

pub returns-clause-const_item : goal.returns-clause-const_item
unfolding digits
returns-clause-const_item c = refl

pub returns-clause-axiom_item : goal.returns-clause-axiom_item
unfolding digits
returns-clause-axiom_item c = refl

pub returns-clause-def_item : goal.returns-clause-def_item
unfolding digits
returns-clause-def_item c = refl

pub returns-clause-typedef_item : goal.returns-clause-typedef_item
unfolding digits
returns-clause-typedef_item c = refl

pub returns-clause-lemma_item : goal.returns-clause-lemma_item
unfolding digits
returns-clause-lemma_item c = refl
