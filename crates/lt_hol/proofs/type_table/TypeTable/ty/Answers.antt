use Rattle.std.proofs.Common.{◌≡◌, ◌∙◌, ◌∷◌, ◌++◌, ◌<◌, ◌≤◌, [], List, length, reverse, ap, sym, subst}
use Rattle.lt_definitions.specs.Types.{TypeTree}
use Rattle.lt_hol.specs.declared.read_type.Making.{Making}
use Rattle.lt_hol.specs.declared.read_type.Making.TheVariants.{Whole, Root}
use Rattle.lt_hol.specs.TypeTables.{type_at}
use Rattle.lt_hol.proofs.ReadTypes.{IsMaking, work, arity_of, rooted, rooted-node, room-node, expand, expand-less, taken}
use Rattle.lt_hol.proofs.type_table.TypeTable.ty.Goals as goal

pub loop-task-smaller-in-Whole : goal.loop-task-smaller-in-Whole
loop-task-smaller-in-Whole c =
    let next : reverse c.loop-task.tasks.items ≡ Whole c.in-Whole.id ∷ reverse c.pop.new.self.items =
    taken c.loop-task.tasks.items c.pop.new.self.items (Whole c.in-Whole.id) (c.in-Some.ensures.items ∙ ap (λ (t : Making). c.pop.new.self.items ++ t ∷ []) c.in-Whole.is) in
    subst (λ (ts : List Making). work c.args.self.now (reverse c.in_ok-tasks-in-Whole.tasks.items) < work c.args.self.now ts) (sym next)
    (subst (λ (ts : List Making). work c.args.self.now ts < work c.args.self.now (Whole c.in-Whole.id ∷ reverse c.pop.new.self.items)) (sym c.in_ok-tasks-in-Whole.ensures)
    (expand-less c.args.self.now c.in-Whole.id c.node.result.now (reverse c.pop.new.self.items) c.node.ensures.made))

pub loop-task-preserved-in-Whole : goal.loop-task-preserved-in-Whole
loop-task-preserved-in-Whole c =
    let goal : List TypeTree = type_at c.args.self.now c.args.id ∷ [] in
    let next : reverse c.loop-task.tasks.items ≡ Whole c.in-Whole.id ∷ reverse c.pop.new.self.items =
    taken c.loop-task.tasks.items c.pop.new.self.items (Whole c.in-Whole.id) (c.in-Some.ensures.items ∙ ap (λ (t : Making). c.pop.new.self.items ++ t ∷ []) c.in-Whole.is) in
    subst (IsMaking c.args.self.now goal c.loop-task.builder) (sym c.in_ok-tasks-in-Whole.ensures)
    (expand c.args.self.now goal c.loop-task.builder c.in-Whole.id c.node.result.now (reverse c.pop.new.self.items) c.node.ensures.made c.node.ensures.below
    (subst (IsMaking c.args.self.now goal c.loop-task.builder) next c.loop-task.invariant))

pub node-requires-in-Root-2 : goal.node-requires-in-Root-2
node-requires-in-Root-2 c =
    let goal : List TypeTree = type_at c.args.self.now c.args.id ∷ [] in
    let next : reverse c.loop-task.tasks.items ≡ Root c.in-Root.id ∷ reverse c.pop.new.self.items =
    taken c.loop-task.tasks.items c.pop.new.self.items (Root c.in-Root.id) (c.in-Some.ensures.items ∙ ap (λ (t : Making). c.pop.new.self.items ++ t ∷ []) c.in-Root.is) in
    let now : IsMaking c.args.self.now goal c.loop-task.builder (Root c.in-Root.id ∷ reverse c.pop.new.self.items) = subst (IsMaking c.args.self.now goal c.loop-task.builder) next c.loop-task.invariant in
    room-node c.args.self.now c.loop-task.builder c.node-in-Root.result.now (subst (λ (t : TypeTree). arity_of t ≤ length c.loop-task.builder) c.node-in-Root.ensures.made now.1)

pub loop-task-preserved : goal.loop-task-preserved
loop-task-preserved c =
    let goal : List TypeTree = type_at c.args.self.now c.args.id ∷ [] in
    let next : reverse c.loop-task.tasks.items ≡ Root c.in-Root.id ∷ reverse c.pop.new.self.items =
    taken c.loop-task.tasks.items c.pop.new.self.items (Root c.in-Root.id) (c.in-Some.ensures.items ∙ ap (λ (t : Making). c.pop.new.self.items ++ t ∷ []) c.in-Root.is) in
    let now : IsMaking c.args.self.now goal c.loop-task.builder (Root c.in-Root.id ∷ reverse c.pop.new.self.items) = subst (IsMaking c.args.self.now goal c.loop-task.builder) next c.loop-task.invariant in
    subst (λ (ts : List TypeTree). IsMaking c.args.self.now goal ts (reverse c.pop.new.self.items))
    (ap (λ (t : TypeTree). rooted t c.loop-task.builder) c.node-in-Root.ensures.made ∙ rooted-node c.args.self.now c.loop-task.builder c.node-in-Root.result.now ∙ sym c.in_ok-builder-in-Root.ensures) now.2
