use Rattle.std.proofs.Common.{◌∙◌, ap, sym, is_some}
use Rattle.lt_types.proofs.MapLemmas.{looked_up}
use Rattle.lt_types.proofs.NameTables.{copied-some}
use Rattle.lt_rules.specs.Registering.{has_label}
use Rattle.lt_rules.proofs.BaseLemmas.{label-found}
use Rattle.lt_rules.proofs.rule_base.RuleBase.has_label.Goals as goal

pub returns : goal.returns
returns c =
    let l = c.args.label.now in
    let es = c.self.inside.rules.entries in
    c.is_some.ensures ∙ sym (copied-some c.get.result) ∙ ap is_some (c.get.ensures.value ∙ looked_up l es) ∙ label-found es l c.self.invariant.0
    ∙ ap (λ rules. has_label rules l) c.self.view_is
