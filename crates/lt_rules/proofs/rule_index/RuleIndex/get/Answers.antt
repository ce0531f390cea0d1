use Rattle.std.proofs.Common.{◌∙◌, [], ap, sym, unwrap_or}
use Rattle.std.specs.Option.{option_copied}
use Rattle.lt_definitions.specs.Types.{found}
use Rattle.lt_types.proofs.MapLemmas.{looked_up}
use Rattle.lt_rules.proofs.rule_index.RuleIndex.get.Goals as goal

pub returns-in-Some : goal.returns-in-Some
returns-in-Some c =
    let x = c.args.constant.now in
    ap (λ o. unwrap_or o []) (ap option_copied (sym c.in-Some.is) ∙ c.get.ensures.value ∙ looked_up x c.self.inside.lists.entries ∙ ap (found x) c.self.view_is)

pub returns-in-None : goal.returns-in-None
returns-in-None c =
    let x = c.args.constant.now in
    c.self.invariant
    ∙ ap (λ o. unwrap_or o []) (ap option_copied (sym c.in-None.is) ∙ c.get.ensures.value ∙ looked_up x c.self.inside.lists.entries ∙ ap (found x) c.self.view_is)
