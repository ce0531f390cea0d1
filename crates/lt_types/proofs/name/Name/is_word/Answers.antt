-- The name's text is compared, whose characters are the name.
use Rattle.std.proofs.Common.{◌∙◌, ap, List, ℕ}
use Rattle.lt_definitions.specs.Types.{same_name}
use Rattle.lt_types.proofs.NameLemmas.{word-same}
use Rattle.lt_types.proofs.name.Name.is_word.Goals as goal

pub returns : goal.returns
returns c =
    c.eq.ensures ∙ word-same c.text.result.now c.args.word.now c.text.utf8 c.utf8.word c.requires
    ∙ ap (λ (z : List ℕ). same_name z c.args.word.now) c.text.ensures.same
