use Rattle.std.proofs.Common.{◌≡◌, ◌∷◌, [], arith, refl, rules, Fits, w64}
use Rattle.std.proofs.lemmas.Grind.{common_steps}
use Rattle.lt_store.specs.Passes.{step_of}
use Rattle.lt_store.specs.declared.pass.Task.TheVariants.{Visit}
use Rattle.lt_store.proofs.TreeLemmas.{extends_on, extends_same}
use Rattle.lt_store.proofs.Images.{sound-extends, sound_keep, WorkIsIn-wider}
use Rattle.lt_store.proofs.TaskLemmas.{underway_first, underway_last, visit_turn, skip_turn, finish_turn, finish_ready, inside}
use Rattle.lt_store.proofs.pass.run.Goals as goal

pub loop-task-init : goal.loop-task-init
loop-task-init g c =
    let is : c.push.new.self.items ≡ Visit c.args.root 0 ∷ [] = grind (arith, common_steps) in
    record { kept = extends_same _; sound = c.requires.sound; underway = underway_first _ _ _ c.args.memo.now _ is }

pub is_settled-requires-clause-id : goal.is_settled-requires-clause-id
is_settled-requires-clause-id g c =
    let was = rw c.in-Visit.is at c.in-Some.ensures.items in
    let in_root = inside _ _ _ c.loop-task.memo _ _ _ was c.loop-task.invariant.underway in
    omega (arith, in_root, c.requires.root, c.loop-task.invariant.kept.grows)

pub view-requires : goal.view-requires
view-requires g c =
    let was = rw c.in-Visit.is at c.in-Some.ensures.items in
    let in_root = inside _ _ _ c.loop-task.memo _ _ _ was c.loop-task.invariant.underway in
    omega (arith, in_root, c.requires.root, c.loop-task.invariant.kept.grows)

pub push_children-requires : goal.push_children-requires
push_children-requires g c =
    let was = rw c.in-Visit.is at c.in-Some.ensures.items in
    let in_root = inside _ _ _ c.loop-task.memo _ _ _ was c.loop-task.invariant.underway in
    let fits : Fits w64 c.len-end.result = search rules in
    omega (arith, in_root, c.len-end.ensures, c.requires.root, c.step-step.ensures.most)

pub loop-task-smaller-then-branch : goal.loop-task-smaller-then-branch
loop-task-smaller-then-branch g c =
    let was = rw c.in-Visit.is at c.in-Some.ensures.items in
    (skip_turn _ _ _ c.loop-task.memo _ _ _ _ c.loop-task.invariant.underway c.is_settled.new.memo c.in_ok-is_settled-in-Visit.ensures.kept was (c.in_ok-is_settled-in-Visit.ensures.is c.if-branch.true)).smaller

pub loop-task-preserved-then-branch : goal.loop-task-preserved-then-branch
loop-task-preserved-then-branch g c =
    let was = rw c.in-Visit.is at c.in-Some.ensures.items in
    let turn = skip_turn _ _ _ c.loop-task.memo _ _ _ _ c.loop-task.invariant.underway c.is_settled.new.memo c.in_ok-is_settled-in-Visit.ensures.kept was (c.in_ok-is_settled-in-Visit.ensures.is c.if-branch.true) in
    record { kept = c.loop-task.invariant.kept; sound = c.in_ok-is_settled-in-Visit.ensures.sound; underway = turn.underway }

pub result_of-requires-clause-id : goal.result_of-requires-clause-id
result_of-requires-clause-id g c =
    let was = rw c.in-Finish.is at c.in-Some.ensures.items in
    let in_root = inside _ _ _ c.loop-task.memo _ _ _ was c.loop-task.invariant.underway in
    omega (arith, in_root, c.requires.root, c.loop-task.invariant.kept.grows)

pub result_of-requires-clause-depth : goal.result_of-requires-clause-depth
result_of-requires-clause-depth g c =
    let was = rw c.in-Finish.is at c.in-Some.ensures.items in
    let in_root = inside _ _ _ c.loop-task.memo _ _ _ was c.loop-task.invariant.underway in
    let fits : Fits w64 c.len-end.result = search rules in
    omega (arith, in_root, c.len-end.ensures, c.requires.root)

pub result_of-requires-clause-work : goal.result_of-requires-clause-work
result_of-requires-clause-work g c = WorkIsIn-wider _ _ c.args.work c.loop-task.invariant.kept.grows c.requires.work

pub result_of-requires-clause-ready : goal.result_of-requires-clause-ready
result_of-requires-clause-ready g c =
    let was = rw c.in-Finish.is at c.in-Some.ensures.items in
    finish_ready _ _ _ c.loop-task.memo _ _ _ _ c.loop-task.invariant.underway _ was c.requires.root c.loop-task.invariant.kept

pub loop-task-smaller-in-Continue-branch-4 : goal.loop-task-smaller-in-Continue-branch-4
loop-task-smaller-in-Continue-branch-4 g c =
    let was = rw c.in-Visit.is at c.in-Some.ensures.items in
    let small = rw c.step-step.ensures.step at c.step-step.ensures.most in
    (visit_turn (step_of c.args.work) _ _ c.loop-task.memo _ _ _ _ c.loop-task.invariant.underway c.is_settled.new.memo c.in_ok-is_settled-in-Visit.ensures.kept small _ _ _ _ was c.in_ok-push-in-Visit.ensures.items (rw c.step-step.ensures.step at c.in_ok-push_children-in-Visit.ensures) c.requires.root c.loop-task.invariant.kept
    c.view.ensures.node c.view.ensures.below c.view.ensures.stands).smaller

pub loop-task-preserved-in-Continue-branch-4 : goal.loop-task-preserved-in-Continue-branch-4
loop-task-preserved-in-Continue-branch-4 g c =
    let was = rw c.in-Visit.is at c.in-Some.ensures.items in
    let small = rw c.step-step.ensures.step at c.step-step.ensures.most in
    let turn = visit_turn (step_of c.args.work) _ _ c.loop-task.memo _ _ _ _ c.loop-task.invariant.underway c.is_settled.new.memo c.in_ok-is_settled-in-Visit.ensures.kept small _ _ _ _ was c.in_ok-push-in-Visit.ensures.items (rw c.step-step.ensures.step at c.in_ok-push_children-in-Visit.ensures) c.requires.root c.loop-task.invariant.kept
    c.view.ensures.node c.view.ensures.below c.view.ensures.stands in
    record { kept = c.loop-task.invariant.kept; sound = c.in_ok-is_settled-in-Visit.ensures.sound; underway = turn.underway }

pub loop-task-smaller : goal.loop-task-smaller
loop-task-smaller g c =
    let was = rw c.in-Finish.is at c.in-Some.ensures.items in
    (finish_turn _ _ _ c.loop-task.memo _ _ _ _ c.loop-task.invariant.underway c.keep.new.memo _ was c.in_ok-keep-in-Finish.ensures).smaller

pub loop-task-preserved : goal.loop-task-preserved
loop-task-preserved g c =
    let was = rw c.in-Finish.is at c.in-Some.ensures.items in
    let in_root = inside _ _ _ c.loop-task.memo _ _ _ was c.loop-task.invariant.underway in
    let turn = finish_turn _ _ _ c.loop-task.memo _ _ _ _ c.loop-task.invariant.underway c.keep.new.memo _ was c.in_ok-keep-in-Finish.ensures in
    let within = WorkIsIn-wider _ _ c.args.work c.loop-task.invariant.kept.grows c.requires.work in
    let more = c.in_ok-made-in-Finish.ensures.kept in
    record {
      kept = extends_on _ _ _ c.loop-task.invariant.kept more;
      sound = sound_keep _ c.args.work c.loop-task.memo c.keep.new.memo _ _ _ c.in_ok-keep-in-Finish.ensures (omega (arith, in_root, c.requires.root, c.loop-task.invariant.kept.grows, more.grows))
          c.in_ok-made-in-Finish.ensures.is (sound-extends _ _ c.args.work c.loop-task.memo more within c.loop-task.invariant.sound);
      underway = turn.underway;
    }

pub kept-requires : goal.kept-requires
kept-requires g c =
    let none : c.loop-task.tasks.items ≡ [] = grind (arith, common_steps) in
    underway_last _ _ _ c.loop-task.memo _ none c.loop-task.invariant.underway

pub returns-clause-is : goal.returns-clause-is
returns-clause-is g c = (c.loop-task.invariant.sound _ _ _ c.kept.ensures).1
