use Rattle.std.proofs.Common.{◌∙◌, ◌++◌, ap, sym}
use Rattle.lt_definitions.specs.Printing.{printed_head}
use Rattle.lt_hol.specs.Items.{item_of}
use Rattle.lt_syntax.proofs.ItemHeads.{typedef-words}
use Rattle.lt_syntax.proofs.items.write_head.Goals as goal

pub returns-in_ok-write_typedef-in-Typedef : goal.returns-in_ok-write_typedef-in-Typedef
returns-in_ok-write_typedef-in-Typedef c =
    c.in_ok-write_typedef-in-Typedef.ensures
    ∙ ap (λ s. c.args.text.now ++ s) (sym (typedef-words c.in-Typedef.name c.in-Typedef.params c.in-Typedef.predicate c.in-Typedef.label c.in-Typedef.abs c.in-Typedef.rep))
    ∙ ap (λ it. c.args.text.now ++ printed_head (item_of it)) (sym c.in-Typedef.is)
