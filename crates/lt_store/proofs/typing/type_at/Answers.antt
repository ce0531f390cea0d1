use Rattle.std.proofs.Common.{◌≡◌, ◌∷◌, [], ◌∙◌, ap, sym, arith, reverse, refl, Ok, Some}
use Rattle.std.proofs.lemmas.Grind.{common_steps}
use Rattle.std.proofs.lemmas.List.{reverse-append}
use Rattle.lt_store.specs.declared.type_work.TypeTask.TheVariants.{Visit}
use Rattle.lt_store.specs.TypeTasks.{weights}
use Rattle.lt_store.proofs.MemoLemmas.{empty_memo}
use Rattle.lt_store.proofs.TypeNumberLemmas.{has-at, has-within}
use Rattle.lt_store.proofs.TypeTaskLemmas.{typing-as, typing_first, typing_found}
use Rattle.lt_store.proofs.typing.type_at.Goals as goal

pub loop-task-init : goal.loop-task-init
loop-task-init g c =
    let is : c.push.new.self.items ≡ Visit c.args.t c.in_ok-no_binders.no_binders ∷ [] = grind (arith, common_steps) in
    typing_first _ _ _ _ _ c.new-3.result _ _ (ap reverse c.new-2.ensures.items) (ap reverse is) (empty_memo c.new-3.result c.new-3.ensures.empty) c.requires.t (c.in_ok-no_binders.ensures.ok ∙ ap Some c.in_ok-bool.ensures) c.requires.whole

pub loop-task-preserved : goal.loop-task-preserved
loop-task-preserved g c =
    let was = ap reverse c.in-Some.ensures.items ∙ reverse-append c.pop.new.self.items (c.in-Some.task ∷ []) in
    (c.in-Ok.ensures _ _ (typing-as _ _ _ _ _ c.loop-task.work.found _ _ _ _ refl (sym was) c.loop-task.invariant)).0

pub loop-task-smaller : goal.loop-task-smaller
loop-task-smaller g c =
    let was = ap reverse c.in-Some.ensures.items ∙ reverse-append c.pop.new.self.items (c.in-Some.task ∷ []) in
    let now = typing-as _ _ _ _ _ c.loop-task.work.found _ _ _ _ refl (sym was) c.loop-task.invariant in
    omega (arith, ap (weights (g.S.TermStore.nodes c.args.store.now)) was, (c.in-Ok.ensures _ _ now).1)

pub returns-in-Err : goal.returns-in-Err
returns-in-Err g c =
    let was = ap reverse c.in-Some.ensures.items ∙ reverse-append c.pop.new.self.items (c.in-Some.task ∷ []) in
    c.in-Err.ensures _ _ (typing-as _ _ _ _ _ c.loop-task.work.found _ _ _ _ refl (sym was) c.loop-task.invariant)

pub ty-requires : goal.ty-requires
ty-requires g c =
    let none : c.loop-task.work.tasks.items ≡ [] = grind (arith, common_steps) in
    has-within _ _ _ (typing_found _ _ _ _ _ c.loop-task.work.found _ _ (ap reverse none) c.loop-task.invariant _ c.kept-number.ensures).has

pub returns : goal.returns
returns g c =
    let none : c.loop-task.work.tasks.items ≡ [] = grind (arith, common_steps) in
    let found = typing_found _ _ _ _ _ c.loop-task.work.found _ _ (ap reverse none) c.loop-task.invariant _ c.kept-number.ensures in
    found.is ∙ ap Ok (sym (has-at c.loop-task.work.types _ _ found.has) ∙ sym c.in_ok-ty.ensures)
