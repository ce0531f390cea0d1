use Rattle.std.proofs.Common.{◌∙◌, ap}
use Rattle.lt_types.specs.Maps.{with_pair}
use Rattle.lt_types.proofs.MapLemmas.{inserted}
use Rattle.lt_types.proofs.ty_map.TyMap.put.Goals as goal

pub returns-clause-ok : goal.returns-clause-ok
returns-clause-ok c =
    c.in_ok-insert.ensures.entries ∙ inserted c.args.name c.args.ty c.self.inside.pairs.entries ∙ ap (with_pair c.args.name c.args.ty) c.self.view_is
