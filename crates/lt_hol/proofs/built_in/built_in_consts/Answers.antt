use Rattle.std.proofs.Common.{◌∙◌, nat_eq}
use Rattle.std.specs.Cmp.Lexicographic.{pointwise}
use Rattle.indexmap.specs.IndexMap.{insert_entry}
use Rattle.lt_types.proofs.Words.{eq-word, eq-chars, imp-word, imp-chars, all-word, all-chars, eps-word, eps-chars}
use Rattle.lt_hol.proofs.built_in.built_in_consts.Goals as goal

pub word-requires : goal.word-requires
word-requires c = eq-word

pub word-requires-2 : goal.word-requires-2
word-requires-2 c = imp-word

pub word-requires-3 : goal.word-requires-3
word-requires-3 c = all-word

pub word-requires-4 : goal.word-requires-4
word-requires-4 c = eps-word

pub returns : goal.returns
returns c =
    c.in_ok-insert-4.ensures.entries ∙ (λ i. insert_entry (pointwise nat_eq)
    ((c.in_ok-insert-3.ensures.entries ∙ (λ i. insert_entry (pointwise nat_eq)
    ((c.in_ok-insert-2.ensures.entries ∙ (λ i. insert_entry (pointwise nat_eq)
    ((c.in_ok-insert.ensures.entries ∙ (λ i. insert_entry (pointwise nat_eq) (c.new-consts.ensures.empty i) ((c.in_ok-word.ensures ∙ eq-chars) i) (c.in_ok-relation.ensures i))) i)
    ((c.in_ok-word-2.ensures ∙ imp-chars) i) (c.in_ok-connective.ensures i))) i)
    ((c.in_ok-word-3.ensures ∙ all-chars) i) (c.in_ok-quantifier.ensures i))) i)
    ((c.in_ok-word-4.ensures ∙ eps-chars) i) (c.in_ok-choice.ensures i))
