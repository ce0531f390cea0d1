use Rattle.std.proofs.Common.{sym, subst}
use Rattle.lt_definitions.specs.Derivations.{term_fault}
use Rattle.lt_definitions.specs.Theory.{fault_test}
use Rattle.lt_conditions.specs.declared.item_fault.ItemFault.{ItemFault}
use Rattle.lt_conditions.specs.Refusing.{Refuses}
use Rattle.lt_conditions.proofs.Refusals.{term-refused}
use Rattle.lt_conditions.proofs.testing.type_of.Goals as goal

pub returns-in-Err : goal.returns-in-Err
returns-in-Err c =
    subst (λ (e : ItemFault). Refuses (fault_test (term_fault c.args.sig.now c.args.t.now)) e) (sym c.of_type.ensures)
    (term-refused c.args.sig.now c.args.t.now c.in-Err.fault c.in-Err.ensures)
