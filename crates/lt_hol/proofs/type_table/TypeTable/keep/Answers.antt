use Rattle.std.proofs.Common.{◌≡◌, ◌∙◌, List, Some, ap, sym, subst, slice_get}
use Rattle.lt_definitions.specs.Types.{TypeTree}
use Rattle.lt_hol.proofs.RecentTypes.{kept-one}
use Rattle.lt_hol.proofs.type_table.TypeTable.keep.Goals as goal

pub invariant_of-self-2 : goal.invariant_of-self-2
invariant_of-self-2 c =
    kept-one c.self.inside.nodes.keys c.self.inside.fun c.self.inside.recent.items c.push.new.self.items _ c.self.invariant
    (ap (λ (ts : List TypeTree). slice_get ts c.args.id) c.self.view_is ∙ c.requires ∙ ap Some (sym c.in_ok-ty.ensures)) c.in_ok-push.ensures.items
