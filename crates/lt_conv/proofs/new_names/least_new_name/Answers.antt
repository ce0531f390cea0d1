use Rattle.lt_store.specs.Trees.{tree_at}
use Rattle.lt_conv.proofs.NewNames.{first-new-is, first-new-free}
use Rattle.lt_conv.proofs.new_names.least_new_name.Goals as goal

pub returns-clause-least : goal.returns-clause-least
returns-clause-least g c = first-new-is (tree_at (g.S.TermStore.nodes c.args.store.now) c.args.t) c.in_ok-names.names.keys c.in_ok-name.name c.in_ok-names.ensures c.in_ok-name.ensures

pub returns-clause-new : goal.returns-clause-new
returns-clause-new g c = λ ty. first-new-free (tree_at (g.S.TermStore.nodes c.args.store.now) c.args.t) c.in_ok-names.names.keys c.in_ok-name.name ty c.in_ok-names.ensures c.in_ok-name.ensures
