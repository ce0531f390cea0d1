use Rattle.std.proofs.Common.{◌∙◌}
use Rattle.lt_commands.specs.Views.{made_of}
use Rattle.lt_commands.proofs.LemmaRows.{lemma_made}
use Rattle.lt_commands.proofs.maker.Maker.lemma.Goals as goal

pub returns : goal.returns
returns c =
    c.lemma_from.ensures
    ∙ lemma_made (made_of c.args.self) (made_of c.whole-statement.new.self) (made_of c.newest_label-label.new.self) c.whole-statement.result c.newest_label-label.result
    c.whole-statement.ensures.newest c.whole-statement.ensures.left c.newest_label-label.ensures.newest c.newest_label-label.ensures.left
