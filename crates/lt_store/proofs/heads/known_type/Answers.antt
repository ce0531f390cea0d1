use Rattle.std.proofs.Common.{◌≡◌, List, [], ◌∙◌, ap, sym, reverse}
use Rattle.lt_definitions.specs.Types.{TypeTree}
use Rattle.lt_store.specs.Trees.{tree_at}
use Rattle.lt_store.specs.KnownTypes.{outwards, whole_type}
use Rattle.lt_store.proofs.KnownTypeLemmas.{head_known}
use Rattle.lt_store.proofs.TypeNumberLemmas.{has-at, has-within}
use Rattle.lt_store.proofs.heads.known_type.Goals as goal

pub ascend-requires : goal.ascend-requires
ascend-requires g c = has-within c.leaf_number.new.types c.in_ok-of_leaf.of_leaf _ c.in_ok-of_leaf.ensures

pub ty-requires : goal.ty-requires
ty-requires g c = has-within c.ascend.new.types c.in_ok-of_whole.of_whole _ c.in_ok-of_whole.ensures

pub returns : goal.returns
returns g c =
    let ns = g.S.TermStore.nodes c.args.store.now in
    let sig = c.args.sig.now in
    let steps = reverse c.descend.new.steps.items in
    let slice : c.as_slice.result.now ≡ c.descend.new.binders.items = c.as_slice.ensures.value in
    c.in_ok-ty.ensures ∙ has-at c.ascend.new.types c.in_ok-of_whole.of_whole _ c.in_ok-of_whole.ensures ∙ ap (outwards steps) (has-at c.leaf_number.new.types c.in_ok-of_leaf.of_leaf _ c.in_ok-of_leaf.ensures)
    ∙ ap (λ (tys : List TypeTree). whole_type sig steps (reverse tys) (tree_at ns c.in_ok-leaf.leaf)) slice ∙ c.in_ok-leaf.ensures.whole sig
    ∙ (λ i. whole_type sig (reverse (c.new-steps.ensures.items i)) (reverse (c.new-binders.ensures.items i)) (tree_at ns c.args.t)) ∙ head_known sig (tree_at ns c.args.t) c.requires.typed
