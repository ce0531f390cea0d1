use Rattle.std.proofs.Common.{sym, subst}
use Rattle.lt_definitions.specs.Typing.{type_fault}
use Rattle.lt_definitions.specs.Theory.{fault_test}
use Rattle.lt_conditions.specs.declared.item_fault.ItemFault.{ItemFault}
use Rattle.lt_conditions.specs.Refusing.{Refuses}
use Rattle.lt_conditions.proofs.Refusals.{type-refused}
use Rattle.lt_conditions.proofs.testing.check_type.Goals as goal

pub returns-in-Err : goal.returns-in-Err
returns-in-Err c =
    subst (λ (e : ItemFault). Refuses (fault_test (type_fault c.args.sig.now c.args.ty.now)) e) (sym c.of_type.ensures) (type-refused _ c.in-Err.fault c.in-Err.ensures)
