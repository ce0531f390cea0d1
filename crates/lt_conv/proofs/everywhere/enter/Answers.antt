use Rattle.std.proofs.Common.{sym, ◌∙◌}
use Rattle.lt_conv.specs.Places.{levels_of}
use Rattle.lt_conv.proofs.Placed.{node-typed, line-known, known-less}
use Rattle.lt_conv.proofs.everywhere.enter.Goals as goal

pub returns-in-Some-clause-leads : goal.returns-in-Some-clause-leads
returns-in-Some-clause-leads g c = λ q.
    line-known (g.A.Conversion.gives c.args.inner.now) c.args.proof.now (levels_of c.args.work.now) c.args.work.now.lines c.args.id q c.in-Some.line (sym c.known.ensures ∙ c.in-Some.is)

pub returns-in-Some-clause-less : goal.returns-in-Some-clause-less
returns-in-Some-clause-less g c = known-less (g.A.Conversion.gives c.args.inner.now) c.args.proof.now (levels_of c.args.work.now) c.args.work.now.lines c.args.id c.requires c.in-Some.line

pub is_application-requires : goal.is_application-requires
is_application-requires g c = (node-typed (g.A.Conversion.gives c.args.inner.now) c.args.proof.now (levels_of c.args.work.now) c.args.work.now.lines c.args.id c.requires).within

pub is_lam-requires : goal.is_lam-requires
is_lam-requires g c = (node-typed (g.A.Conversion.gives c.args.inner.now) c.args.proof.now (levels_of c.args.work.now) c.args.work.now.lines c.args.id c.requires).within
