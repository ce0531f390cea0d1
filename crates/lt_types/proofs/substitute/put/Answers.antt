use Rattle.std.proofs.Common.{◌∙◌, ◌-◌, ◌++◌, ◌∷◌, [], ap, sym, length, take, drop, map}
use Rattle.lt_definitions.specs.Types.{type_constructor, row}
use Rattle.lt_types.specs.Layout.{grow}
use Rattle.lt_definitions.specs.Types.{type_instance}
use Rattle.lt_types.proofs.MapLemmas.{grow-type_instance}
use Rattle.lt_types.proofs.substitute.put.Goals as goal

pub returns-in_ok-con-in-Con : goal.returns-in_ok-con-in-Con
returns-in_ok-con-in-Con c before e =
    c.in_ok-con-in-Con.ensures
    ∙ (λ i. take (length (e i) - c.len.ensures i) (e i) ++ type_constructor (c.in_ok-copy-in-Con.ensures i) (row (drop (length (e i) - c.len.ensures i) (e i))) ∷ [])
    ∙ grow-type_instance c.args.by.now before c.in-Con.name c.in-Con.places
    ∙ ap (λ n. map (type_instance c.args.by.now) (grow before n)) (sym c.in-Con.is)
