-- The rules with one more, and why a rule isn't registered.
use Rattle.std.specs.Prelude.{◌≡◌, List, Bool, Option, Some, None, Result, Ok, Err}
use Rattle.std.specs.List.{list_any}
use Rattle.lt_definitions.specs.Types.{Chars, same_name}
use Rattle.lt_transport_definitions.specs.Answers.{wrong_where}
use Rattle.lt_transport_definitions.specs.Commands.{unless_there}
use Rattle.lt_transport_definitions.specs.RuleForm.{TransferRule}
use Rattle.lt_rules.specs.declared.rule_read_fault.RuleReadFault.{RuleReadFault}
use Rattle.lt_rules.specs.declared.rule_read_fault.RuleReadFault.TheVariants.{RuleShape, Duplicate, Memory}

-- whether a rule has the label
abbrev pub has_label : List TransferRule → Chars → Bool
has_label rules l = list_any (λ r. same_name l r.label) rules

-- what is there already stays as it is
abbrev pub with_rule : TransferRule → List TransferRule → List TransferRule
with_rule r rules = unless_there (λ e. same_name r.label e.label) r rules

abbrev pub label_fault : List TransferRule → Chars → Option RuleReadFault
label_fault rules l = wrong_where (has_label rules l) (Duplicate l)

-- It is refused for this reason, or for want of memory.
abbrev pub IsFault : Option RuleReadFault → RuleReadFault → Type 0
IsFault fault (RuleShape part) = fault ≡ Some (RuleShape part)
IsFault fault (Duplicate label) = fault ≡ Some (Duplicate label)
IsFault fault Memory = Unit {0}

-- Nothing is wrong and it is registered, or it is refused and all is as before.
abbrev pub Registers : Option RuleReadFault → (old new registered : List TransferRule)
    → Result (Unit {0}) RuleReadFault → Type 0
Registers fault old new registered (Ok _) = (fault ≡ None) × (new ≡ registered)
Registers fault old new registered (Err e) = IsFault fault e × (new ≡ old)
