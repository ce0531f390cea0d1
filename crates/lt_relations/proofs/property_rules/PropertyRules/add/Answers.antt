use Rattle.std.proofs.Common.{◌∙◌, ◌∷◌, ◌++◌, [], ap, find, nat_eq}
use Rattle.std.specs.Cmp.Lexicographic.{pointwise}
use Rattle.indexmap.specs.IndexMap.{insert_entry}
use Rattle.lt_relations.specs.Places.{is_rule}
use Rattle.lt_relations.proofs.PlaceLemmas.{placed-before, placed-more, placed-same}
use Rattle.lt_relations.proofs.property_rules.PropertyRules.add.Goals as goal

pub invariant_of-self-in_err-push : goal.invariant_of-self-in_err-push
invariant_of-self-in_err-push c =
    let rule = c.args.rule in
    let heads = c.self.inside.heads.entries in
    let rules = c.self.inside.rules.items in
    let before = placed-before heads rules rule c.places_of.result c.with-places.result c.len.result
    c.self.invariant (ap (find (is_rule rule.property rule.head)) c.self.view_is ∙ c.requires) c.places_of.ensures c.with-places.ensures in
    placed-same (insert_entry (pointwise nat_eq) heads rule.head c.with-places.result) c.insert.new.self.entries rules c.push.new.self.items
    (c.in_ok-insert.ensures.entries ∙ ap (λ k. insert_entry (pointwise nat_eq) heads k c.with-places.result) c.in_ok-copy.ensures) c.in_err-push.ensures.items before

pub invariant_of-self-2 : goal.invariant_of-self-2
invariant_of-self-2 c =
    let rule = c.args.rule in
    let heads = c.self.inside.heads.entries in
    let rules = c.self.inside.rules.items in
    let before = placed-before heads rules rule c.places_of.result c.with-places.result c.len.result
    c.self.invariant (ap (find (is_rule rule.property rule.head)) c.self.view_is ∙ c.requires) c.places_of.ensures c.with-places.ensures in
    let more = placed-more heads rules rule c.places_of.result c.with-places.result c.len.result before (c.len.ensures ∙ c.self.inside.rules.ok.0) c.with-places.ensures in
    placed-same (insert_entry (pointwise nat_eq) heads rule.head c.with-places.result) c.insert.new.self.entries (rules ++ rule ∷ []) c.push.new.self.items
    (c.in_ok-insert.ensures.entries ∙ ap (λ k. insert_entry (pointwise nat_eq) heads k c.with-places.result) c.in_ok-copy.ensures) c.in_ok-push.ensures.items more
