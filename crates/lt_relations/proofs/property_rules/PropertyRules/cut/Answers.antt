use Rattle.std.proofs.Common.{sym, subst}
use Rattle.lt_relations.specs.Places.{ArePlaced}
use Rattle.lt_relations.proofs.PlaceLemmas.{placed-cut}
use Rattle.lt_relations.proofs.property_rules.PropertyRules.cut.Goals as goal

pub invariant_of-self : goal.invariant_of-self
invariant_of-self c =
    subst (ArePlaced c.self.inside.heads.entries) (sym c.truncate.ensures.items) (placed-cut c.self.inside.heads.entries c.self.inside.rules.items c.args.count c.self.invariant)
