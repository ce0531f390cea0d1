use Rattle.std.proofs.Common.{◌≡◌}
use Rattle.lt_commands.specs.Views.{made_of}
use Rattle.lt_commands.proofs.ClosingLemmas.{closing}
use Rattle.lt_commands.proofs.maker.Maker.type_close.Goals as goal

-- src/maker.rt:98:5
pub returns-in_ok-self : goal.returns-in_ok-self
returns-in_ok-self c =
    closing (made_of c.args.self.now) c.args.self.now.pending.items c.pop.new.self.items c.in-Some.name c.in-Some.before c.saturating_sub-count.result c.len.result
    c.replace-forming.result c.in_ok-self.field-0 c.in-Some.ensures.items c.len.ensures c.saturating_sub-count.ensures c.replace-forming.ensures.value c.in_ok-self.ensures
