use Rattle.std.proofs.Common.{◌≡◌, map, take, []}
use Rattle.lt_nameless.specs.Nameless.{nameless}
use Rattle.lt_store.specs.Trees.{trees}
use Rattle.lt_extend.proofs.proving.terms_of.Given as goal

abbrev pub invariant-loop-at : goal.invariant-loop-at
invariant-loop-at g l = map (nameless []) l.terms ≡ trees (g.S.TermStore.nodes l.store) (take l.at l.ids)
