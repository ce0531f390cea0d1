use Rattle.std.proofs.Common.{sym, subst, Err}
use Rattle.lt_hol.specs.Lines.{trees, rule_of}
use Rattle.lt_conditions.specs.declared.item_fault.ItemFault.{ItemFault}
use Rattle.lt_extend.specs.Deriving.{DerivesLine}
use Rattle.lt_extend.proofs.LineOutcomes.{line-added, line-bad, line-refused}
use Rattle.lt_extend.proofs.derivation.add_line.Goals as goal

pub returns-in-Err-clause-derives : goal.returns-in-Err-clause-derives
returns-in-Err-clause-derives g c = λ ctx done stands has. let rule = rule_of (trees c.args.lines.now.nodes) c.args.line.now in
    subst (λ (e : ItemFault). DerivesLine ctx done rule c.args.number c.store_line.new.proof (Err e)) (sym c.in_line.ensures)
    (line-refused ctx done rule c.args.proof.now c.store_line.new.proof c.store_line.new.proof.nodes c.in-Err.fault c.args.number stands c.in-Err.ensures.stores)

pub returns-in-Ok-apply-clause-derives : goal.returns-in-Ok-apply-clause-derives
returns-in-Ok-apply-clause-derives g c = λ ctx done stands has.
    line-added ctx done (rule_of (trees c.args.lines.now.nodes) c.args.line.now) c.args.proof.now c.store_line.new.proof c.apply.new.self c.in-Ok.stored c.in-Ok-apply.field-0 c.args.number
    stands has c.in-Ok.ensures.kept c.in-Ok.ensures.stores c.in-Ok-apply.ensures.answers

pub returns-in-Err-Bad-clause-derives : goal.returns-in-Err-Bad-clause-derives
returns-in-Err-Bad-clause-derives g c = λ ctx done stands has. let told = rw c.in-Err-Bad.field-0-is at c.in-Err-Bad.ensures.answers in
    line-bad ctx done (rule_of (trees c.args.lines.now.nodes) c.args.line.now) c.args.proof.now c.store_line.new.proof c.apply.new.self c.in-Ok.stored c.in-Err-Bad.reason c.args.number
    stands has c.in-Ok.ensures.kept c.in-Ok.ensures.stores told.0
