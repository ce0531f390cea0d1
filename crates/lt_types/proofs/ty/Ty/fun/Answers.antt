use Rattle.std.proofs.Common.{◌∙◌, ◌∷◌, ◌++◌, [], ap, List}
use Rattle.lt_definitions.specs.Types.{TypeTree, type_constructor, row}
use Rattle.lt_types.proofs.Words.{fun-word, fun-chars}
use Rattle.lt_types.proofs.ty.Ty.fun.Goals as goal

pub word-requires : goal.word-requires
word-requires c = fun-word

pub returns : goal.returns
returns c =
    c.in_ok-con.ensures ∙ (λ i. type_constructor ((c.in_ok-word.ensures ∙ fun-chars) i)
    (row ((c.in_ok-push-2.ensures.ok ∙ ap (λ (ts : List TypeTree). ts ++ c.args.to ∷ []) (c.in_ok-push.ensures.ok ∙ ap (λ (ts : List TypeTree). ts ++ c.args.from ∷ []) c.new-args.ensures)) i)))
