use Rattle.std.proofs.Common.{◌≡◌, ◌∙◌, [], List, ap, sym, subst, length, arith}
use Rattle.std.proofs.lemmas.Grind.{common_steps}
use Rattle.lt_definitions.specs.Terms.{TermTree}
use Rattle.lt_terms.specs.declared.term.TermNode.{TermNode}
use Rattle.lt_terms.specs.Layout.{HasRoom, grow}
use Rattle.lt_terms.proofs.OpenNodes.{opened-one}
use Rattle.lt_hol.proofs.SharedTrees.{tree_at, MakesLast, makes-first, makes-last, visit-within, visit-step, make-step, visit-smaller, make-smaller}
use Rattle.lt_hol.proofs.shared_nodes.term_at.Goals as goal

pub loop-task-init : goal.loop-task-init
loop-task-init c =
    makes-first c.args.nodes.now c.args.place c.new-tasks.result.items c.push.new.self.items c.new-builder.result c.requires.place c.new-tasks.ensures.items c.in_ok-push.ensures.items c.new-builder.ensures

pub loop-task-smaller-in_ok-push_children-in-Visit : goal.loop-task-smaller-in_ok-push_children-in-Visit
loop-task-smaller-in_ok-push_children-in-Visit c =
    visit-smaller c.args.nodes.now c.loop-task.tasks.items c.pop.new.self.items c.push-in-Visit.new.self.items c.push_children.new.tasks.items c.in-Some.task c.in-Visit.at c.index-nodes-at.result c.requires.order
    (visit-within c.args.nodes.now _ c.loop-task.tasks.items c.pop.new.self.items c.in-Some.task c.in-Visit.at c.loop-task.builder c.in-Some.ensures.items c.in-Visit.is c.loop-task.invariant)
    c.index-nodes-at.is c.in-Some.ensures.items c.in-Visit.is c.in_ok-push-in-Visit.ensures.items c.in_ok-push_children-in-Visit.ensures

pub loop-task-preserved-in_ok-push_children-in-Visit : goal.loop-task-preserved-in_ok-push_children-in-Visit
loop-task-preserved-in_ok-push_children-in-Visit c =
    visit-step c.args.nodes.now _ c.loop-task.tasks.items c.pop.new.self.items c.push-in-Visit.new.self.items c.push_children.new.tasks.items c.in-Some.task c.in-Visit.at c.index-nodes-at.result c.loop-task.builder c.requires.order
    c.index-nodes-at.is c.in-Some.ensures.items c.in-Visit.is c.in_ok-push-in-Visit.ensures.items c.in_ok-push_children-in-Visit.ensures c.loop-task.invariant

pub node-requires : goal.node-requires
node-requires c =
    subst (λ (q : List TermTree × TermNode). HasRoom q.0 q.1) (λ i. (sym c.builder-in-Make.view_is i, sym c.in_ok-copy-in-Make.ensures i))
    (make-step c.args.nodes.now (tree_at c.args.nodes.now c.args.place) c.loop-task.tasks.items c.pop.new.self.items c.in-Some.task c.in-Make.at c.index-nodes-at-in-Make.result c.loop-task.builder c.index-nodes-at-in-Make.is c.in-Some.ensures.items c.in-Make.is c.loop-task.invariant).0

pub loop-task-smaller : goal.loop-task-smaller
loop-task-smaller c = make-smaller c.args.nodes.now c.loop-task.tasks.items c.pop.new.self.items c.in-Some.task c.in-Make.at c.in-Some.ensures.items c.in-Make.is

pub loop-task-preserved : goal.loop-task-preserved
loop-task-preserved c =
    subst (MakesLast c.args.nodes.now (tree_at c.args.nodes.now c.args.place) c.pop.new.self.items) (sym (c.in_ok-builder-in-Make.ensures ∙ (λ i. grow (c.builder-in-Make.view_is i) (c.in_ok-copy-in-Make.ensures i))))
    (make-step c.args.nodes.now (tree_at c.args.nodes.now c.args.place) c.loop-task.tasks.items c.pop.new.self.items c.in-Some.task c.in-Make.at c.index-nodes-at-in-Make.result c.loop-task.builder c.index-nodes-at-in-Make.is c.in-Some.ensures.items c.in-Make.is c.loop-task.invariant).1

pub finish-requires : goal.finish-requires
finish-requires c =
    let none : c.loop-task.tasks.items ≡ [] = grind (arith, common_steps) in
    ap length (makes-last c.args.nodes.now (tree_at c.args.nodes.now c.args.place) c.loop-task.tasks.items c.loop-task.builder none c.loop-task.invariant)

pub returns : goal.returns
returns c =
    let none : c.loop-task.tasks.items ≡ [] = grind (arith, common_steps) in
    opened-one c.finish.result (tree_at c.args.nodes.now c.args.place)
    (sym c.finish.ensures ∙ makes-last c.args.nodes.now (tree_at c.args.nodes.now c.args.place) c.loop-task.tasks.items c.loop-task.builder none c.loop-task.invariant)
