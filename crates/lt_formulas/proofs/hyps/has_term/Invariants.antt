use Rattle.std.proofs.Common.{◌≡◌, drop}
use Rattle.std.specs.List.{list_any}
use Rattle.lt_nameless.specs.NamelessRules.{same_nameless}
use Rattle.lt_store.specs.Trees.{tree_at, trees}
use Rattle.lt_formulas.proofs.hyps.has_term.Given as goal

abbrev pub invariant-loop-h : goal.invariant-loop-h
invariant-loop-h g l =
    let ns = g.S.TermStore.nodes l.store in
    list_any (same_nameless (tree_at ns l.p)) (trees ns (drop l.h-index l.ids)) ≡ list_any (same_nameless (tree_at ns l.p)) (trees ns l.ids)
