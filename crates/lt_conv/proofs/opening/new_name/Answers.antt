use Rattle.std.proofs.Common.{ℕ, ◌+◌, replicate, length, ◌∙◌, ap, add-one, arith}
use Rattle.std.proofs.lemmas.List.{length-replicate}
use Rattle.lt_store.specs.Trees.{tree_at}
use Rattle.lt_conv.proofs.NodeTotals.{new-is, shorter}
use Rattle.lt_conv.proofs.opening.new_name.Goals as goal

pub returns-clause-new : goal.returns-clause-new
returns-clause-new g c = λ ty. new-is c.max-longest.result ty (tree_at (g.S.TermStore.nodes c.args.store.now) c.args.t) c.in_ok-name.name
    (c.in_ok-name.ensures ∙ ap (λ k. replicate k 116) (add-one c.max-longest.result)) (shorter c.in_ok-longest.field-0 c.max-longest.result (tree_at (g.S.TermStore.nodes c.args.store.now) c.args.t) (omega (arith, c.max-longest.ensures)) c.in_ok-longest.ensures)

pub returns-clause-long : goal.returns-clause-long
returns-clause-long g c = let l = ap length c.in_ok-name.ensures in let m = length-replicate {A = ℕ} (c.max-longest.result + 1) 116 in omega (arith, l, m, c.max-longest.ensures)
