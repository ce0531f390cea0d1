use Rattle.std.proofs.Common.{◌≡◌, ◌∙◌, refl, [], ◌∷◌, List, Some, length, true, ap, sym, subst}
use Rattle.lt_types.specs.contracts.ty.TyNodePartialEq.TheImpl.{eq-value}
use Rattle.lt_definitions.specs.Types.{TypeTree}
use Rattle.lt_hol.specs.TypeTables.{made_of, is_below, types_after, Extends, ExtendsBy}
use Rattle.lt_hol.proofs.NodeEquality.{node-same, same-node}
use Rattle.lt_hol.proofs.DistinctTypes.{IsAdded, inserted}
use Rattle.lt_hol.proofs.RecentTypes.{recent-later}
use Rattle.lt_hol.proofs.type_table.TypeTable.add.Goals as goal

pub invariant_of-self-2 : goal.invariant_of-self-2
invariant_of-self-2 c =
    let more : IsAdded c.self.inside.nodes.keys c.insert_full.new.self.keys c.args.node c.in_ok-id.id = inserted eq-value.it same-node _ c.self.inside.nodes.keys c.insert_full.new.self.keys c.args.node c.in_ok-id.id refl c.in_ok-id.ensures.keys c.self.invariant.grounded c.self.invariant.apart
    (subst (λ (ts : List TypeTree). is_below (length ts) c.args.node ≡ true) (sym c.self.view_is) c.requires)
    (c.in_ok-id.ensures.stored.1 ∙ ap Some (sym (node-same c.args.node c.in_ok-id.ensures.stored.0 c.in_ok-id.ensures.stored.2))) in
    record {
      grounded = more.grounded;
      apart = more.apart;
      named = c.self.invariant.named;
      recent = recent-later (types_after [] c.self.inside.nodes.keys) (types_after [] c.insert_full.new.self.keys) c.self.inside.recent.items more.grows c.self.invariant.recent;
    }

pub returns-clause-ok : goal.returns-clause-ok
returns-clause-ok c =
    let more : IsAdded c.self.inside.nodes.keys c.insert_full.new.self.keys c.args.node c.in_ok-id.id = inserted eq-value.it same-node _ c.self.inside.nodes.keys c.insert_full.new.self.keys c.args.node c.in_ok-id.id refl c.in_ok-id.ensures.keys c.self.invariant.grounded c.self.invariant.apart
    (subst (λ (ts : List TypeTree). is_below (length ts) c.args.node ≡ true) (sym c.self.view_is) c.requires)
    (c.in_ok-id.ensures.stored.1 ∙ ap Some (sym (node-same c.args.node c.in_ok-id.ensures.stored.0 c.in_ok-id.ensures.stored.2))) in
    more.made ∙ ap (λ (ts : List TypeTree). Some (made_of ts c.args.node)) c.self.view_is

pub returns-clause-grows : goal.returns-clause-grows
returns-clause-grows c =
    let more : IsAdded c.self.inside.nodes.keys c.insert_full.new.self.keys c.args.node c.in_ok-id.id = inserted eq-value.it same-node _ c.self.inside.nodes.keys c.insert_full.new.self.keys c.args.node c.in_ok-id.id refl c.in_ok-id.ensures.keys c.self.invariant.grounded c.self.invariant.apart
    (subst (λ (ts : List TypeTree). is_below (length ts) c.args.node ≡ true) (sym c.self.view_is) c.requires)
    (c.in_ok-id.ensures.stored.1 ∙ ap Some (sym (node-same c.args.node c.in_ok-id.ensures.stored.0 c.in_ok-id.ensures.stored.2))) in
    subst (λ (ts : List TypeTree). Extends ts (types_after [] c.insert_full.new.self.keys)) c.self.view_is more.grows

pub returns-clause-added : goal.returns-clause-added
returns-clause-added c =
    let more : IsAdded c.self.inside.nodes.keys c.insert_full.new.self.keys c.args.node c.in_ok-id.id = inserted eq-value.it same-node _ c.self.inside.nodes.keys c.insert_full.new.self.keys c.args.node c.in_ok-id.id refl c.in_ok-id.ensures.keys c.self.invariant.grounded c.self.invariant.apart
    (subst (λ (ts : List TypeTree). is_below (length ts) c.args.node ≡ true) (sym c.self.view_is) c.requires)
    (c.in_ok-id.ensures.stored.1 ∙ ap Some (sym (node-same c.args.node c.in_ok-id.ensures.stored.0 c.in_ok-id.ensures.stored.2))) in
    subst (λ (ts : List TypeTree). ExtendsBy (made_of ts c.args.node ∷ []) ts (types_after [] c.insert_full.new.self.keys)) c.self.view_is more.added
