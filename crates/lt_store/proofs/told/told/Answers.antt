use Rattle.std.proofs.Common.{sym, subst}
use Rattle.lt_store.specs.declared.change.Work.{Work}
use Rattle.lt_store.specs.Passes.{IsResult}
use Rattle.lt_store.proofs.BoundLemmas.{unchanged_result, absent_result}
use Rattle.lt_store.proofs.told.told.Goals as goal

pub returns-then-leaves : goal.returns-then-leaves
returns-then-leaves g c =
    let ns = g.S.TermStore.nodes c.args.store.now in
    let left = c.leaves.ensures c.if-leaves.true in
    subst (λ (w : Work). IsResult w ns c.args.id c.args.depth c.args.id) (sym c.in-Make.is) (unchanged_result ns c.in-Make.change c.in-Some.known c.args.id c.args.depth c.requires c.in-Some.ensures left)

pub returns-then-lacks : goal.returns-then-lacks
returns-then-lacks g c =
    let ns = g.S.TermStore.nodes c.args.store.now in
    let lacked = c.lacks.ensures c.if-lacks.true in
    subst (λ (w : Work). IsResult w ns c.args.id c.args.depth 0) (sym c.in-Find.is) (absent_result ns c.in-Find.sought c.in-Some.known c.args.id c.args.depth c.in-Some.ensures lacked)
