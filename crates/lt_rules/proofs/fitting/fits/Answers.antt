use Rattle.lt_rules.specs.Told.{rule_told}
use Rattle.lt_rules.proofs.FittingLemmas.{fit-told}
use Rattle.lt_rules.proofs.fitting.fits.Goals as goal

pub returns : goal.returns
returns c = fit-told (rule_told c.args.rule.now) c.args.types.now _ _ _ c.in_ok-pattern.ensures c.in_ok-ty.ensures c.in_ok-match_type.ensures
