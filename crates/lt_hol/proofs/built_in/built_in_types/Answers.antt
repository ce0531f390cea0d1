use Rattle.std.proofs.Common.{◌≡◌, ◌∙◌, ◌∷◌, [], nat_eq}
use Rattle.std.specs.Cmp.Lexicographic.{pointwise}
use Rattle.indexmap.specs.IndexMap.{insert_entry}
use Rattle.lt_types.proofs.Words.{bool-word, bool-chars, fun-word, fun-chars}
use Rattle.lt_hol.proofs.built_in.built_in_types.Goals as goal

pub word-requires : goal.word-requires
word-requires c = bool-word

pub word-requires-2 : goal.word-requires-2
word-requires-2 c = fun-word

pub returns : goal.returns
returns c =
    let one : c.insert.new.self.entries ≡ (98 ∷ 111 ∷ 111 ∷ 108 ∷ [], 0) ∷ [] =
    c.in_ok-insert.ensures.entries ∙ (λ i. insert_entry (pointwise nat_eq) (c.new-types.ensures.empty i) ((c.in_ok-word.ensures ∙ bool-chars) i) 0) in
    c.in_ok-insert-2.ensures.entries ∙ (λ i. insert_entry (pointwise nat_eq) (one i) ((c.in_ok-word-2.ensures ∙ fun-chars) i) 2)
