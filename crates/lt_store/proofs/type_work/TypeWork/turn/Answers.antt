use Rattle.std.proofs.Common.{ℕ, [], ◌∷◌, sym, subst}
use Rattle.lt_store.specs.declared.type_work.TypeTask.{TypeTask}
use Rattle.lt_store.specs.TypeTasks.{IsGoing, Turns}
use Rattle.lt_store.proofs.type_work.TypeWork.turn.Goals as goal

pub returns-in-Apply : goal.returns-in-Apply
returns-in-Apply g c =
    let sig = c.args.sig.now in
    let ns = g.S.TermStore.nodes c.args.store.now in
    subst (λ (t : TypeTask). (root base : ℕ) → IsGoing sig ns root base (t ∷ []) c.args.self.now → Turns sig ns root base t c.args.self.now c.apply.new.self c.apply.result) (sym c.in-Apply.is) c.apply.ensures

pub returns-in-Leave : goal.returns-in-Leave
returns-in-Leave g c =
    let sig = c.args.sig.now in
    let ns = g.S.TermStore.nodes c.args.store.now in
    subst (λ (t : TypeTask). (root base : ℕ) → IsGoing sig ns root base (t ∷ []) c.args.self.now → Turns sig ns root base t c.args.self.now c.leave.new.self c.leave.result) (sym c.in-Leave.is) c.leave.ensures
