use Rattle.std.proofs.Common.{◌∙◌, ap, sym}
use Rattle.lt_relations.specs.Told.{property_name}
use Rattle.lt_relations.specs.Holdings.{has_property}
use Rattle.lt_relations.proofs.HoldingLemmas.{has-named, side-from, side-to}
use Rattle.lt_relations.proofs.relations.Relations.side_holds.Goals as goal

pub returns : goal.returns
returns c =
    let G = c.args.self.now in
    let told = c.has.ensures ∙ ap (λ h. has_property h c.args.property) c.in_ok-holding.ensures ∙ has-named G c.args.rel.now c.args.property in (
      λ h. side-from G c.args.rel.now (property_name c.args.property) (sym told ∙ h),
      λ h. told ∙ side-to G c.args.rel.now (property_name c.args.property) h,
    )
