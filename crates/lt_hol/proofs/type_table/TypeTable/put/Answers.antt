use Rattle.std.proofs.Common.{◌≡◌, ◌-◌, ◌∙◌, sym, subst, length, true, List, ℕ}
use Rattle.lt_types.specs.declared.ty.TyNode.{TyNode}
use Rattle.lt_types.specs.Layout.{grow}
use Rattle.lt_hol.specs.TypeTables.{types_at, all_below}
use Rattle.lt_hol.proofs.AddedTypes.{by-last}
use Rattle.lt_hol.proofs.TypeNumbers.{AreNumbers, put-variable, put-constructor, below-drop}
use Rattle.lt_hol.proofs.type_table.TypeTable.put.Goals as goal

pub add-requires-in-Con : goal.add-requires-in-Con
add-requires-in-Con c =
    subst (λ (ids : List ℕ). all_below (length c.args.self.now) ids ≡ true) (sym (c.from_vec.ensures ∙ c.in_ok-args-in-Con.ensures.tail))
    (below-drop (length c.args.self.now) (c.len.result - c.len-in-Con.result) c.args.numbers.items c.requires.below)

variable : (c : goal.In_ok-push-in-Var) → AreNumbers c.add.new.self c.push.new.self.items (grow (types_at c.args.self.now c.args.numbers.items) c.args.node.now)
variable c =
    subst (λ (n : TyNode). AreNumbers c.add.new.self c.push.new.self.items (grow (types_at c.args.self.now c.args.numbers.items) n)) (sym c.in-Var.is)
    (put-variable c.args.self.now c.add.new.self c.args.numbers.items c.push.new.self.items c.in_ok-id-in-Var.id c.in-Var.name c.in_ok-copy-in-Var.field-0 c.requires.below
    c.in_ok-id-in-Var.ensures.grows c.in_ok-id-in-Var.ensures.ok c.in_ok-copy-in-Var.ensures c.in_ok-push-in-Var.ensures.items)

constructor : (c : goal.In_ok-push-in-Con) → AreNumbers c.add-in-Con.new.self c.push-in-Con.new.self.items (grow (types_at c.args.self.now c.args.numbers.items) c.args.node.now)
constructor c =
    subst (λ (n : TyNode). AreNumbers c.add-in-Con.new.self c.push-in-Con.new.self.items (grow (types_at c.args.self.now c.args.numbers.items) n)) (sym c.in-Con.is)
    (put-constructor c.args.self.now c.add-in-Con.new.self c.args.numbers.items c.split_off.new.self.items c.from_vec.result c.push-in-Con.new.self.items c.in_ok-id-in-Con.id
    (c.len.result - c.len-in-Con.result) c.in-Con.name c.in_ok-copy-in-Con.field-0 c.in-Con.places c.requires.below c.in_ok-id-in-Con.ensures.grows
    (λ i. (c.len.ensures ∙ c.args.numbers.ok.0) i - c.len-in-Con.ensures i) c.in_ok-args-in-Con.ensures.items (c.from_vec.ensures ∙ c.in_ok-args-in-Con.ensures.tail)
    c.in_ok-id-in-Con.ensures.ok c.in_ok-copy-in-Con.ensures c.in_ok-push-in-Con.ensures.items)

pub returns-in_ok-push-in-Var-clause-added : goal.returns-in_ok-push-in-Var-clause-added
returns-in_ok-push-in-Var-clause-added c =
    by-last c.args.self.now c.add.new.self c.args.numbers.items c.push.new.self.items c.in_ok-id-in-Var.id _ c.in_ok-id-in-Var.ensures.added c.in_ok-id-in-Var.ensures.ok c.in_ok-push-in-Var.ensures.items

pub returns-in_ok-push-in-Con-clause-added : goal.returns-in_ok-push-in-Con-clause-added
returns-in_ok-push-in-Con-clause-added c =
    by-last c.args.self.now c.add-in-Con.new.self c.split_off.new.self.items c.push-in-Con.new.self.items c.in_ok-id-in-Con.id _ c.in_ok-id-in-Con.ensures.added c.in_ok-id-in-Con.ensures.ok c.in_ok-push-in-Con.ensures.items

pub returns-in_ok-push-in-Var-clause-types : goal.returns-in_ok-push-in-Var-clause-types
returns-in_ok-push-in-Var-clause-types c = (variable c).made

pub returns-in_ok-push-in-Var-clause-below : goal.returns-in_ok-push-in-Var-clause-below
returns-in_ok-push-in-Var-clause-below c = (variable c).below

pub returns-in_ok-push-in-Con-clause-types : goal.returns-in_ok-push-in-Con-clause-types
returns-in_ok-push-in-Con-clause-types c = (constructor c).made

pub returns-in_ok-push-in-Con-clause-below : goal.returns-in_ok-push-in-Con-clause-below
returns-in_ok-push-in-Con-clause-below c = (constructor c).below
