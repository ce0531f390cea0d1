use Rattle.std.proofs.Common.{◌∙◌, ap, sym, length}
use Rattle.std.proofs.lemmas.List.{length-map}
use Rattle.lt_rules.proofs.rule_base.RuleBase.rule_count.Goals as goal

pub returns : goal.returns
returns c = c.len.ensures.len ∙ sym (length-map c.self.inside.rules.entries (λ e. e.1)) ∙ ap length c.self.view_is
