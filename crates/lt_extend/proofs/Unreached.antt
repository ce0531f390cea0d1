-- What can't be refused for another reason is refused for want of memory.
use Rattle.std.proofs.Common.{◌≡◌, ℕ, is_some, true, false, None, Err, refl, sym, ◌∙◌, ap}
use Rattle.lt_definitions.specs.Types.{Chars, TypeTree, found}
use Rattle.lt_definitions.specs.Typing.{Signature, type_fault}
use Rattle.lt_hol.specs.Faults.{DeclaresType, DeclaresConst}
use Rattle.lt_hol.specs.declared.type_fault.TypeFault as faults
use Rattle.lt_hol.specs.declared.type_fault.TypeFault.{TypeFault}
use Rattle.lt_kernel.specs.declared.rule_fault.RuleFault as rules
use Rattle.lt_kernel.specs.declared.rule_fault.RuleFault.{RuleFault}
use Rattle.lt_kernel.specs.State.{State, Names}

pub type-memory : (old new : Signature) (n : Chars) (k : ℕ) (e : TypeFault) → found n old.types ≡ None → DeclaresType old new n k (Err e) → e ≡ faults.TheVariants.Memory
type-memory old new n k (faults.TheVariants.Duplicate c) h d = let no : true ≡ false = sym d.1.1 ∙ ap is_some h in absurd (cc no)
type-memory old new n k (faults.TheVariants.UnknownType c) h d = absurd d.1
type-memory old new n k (faults.TheVariants.Arity c) h d = absurd d.1
type-memory old new n k (faults.TheVariants.UnknownConst c) h d = absurd d.1
type-memory old new n k (faults.TheVariants.TypeArgs c) h d = absurd d.1
type-memory old new n k (faults.TheVariants.Unbound c) h d = absurd d.1
type-memory old new n k (faults.TheVariants.Mismatch t u) h d = absurd d.1
type-memory old new n k faults.TheVariants.Memory h d = refl

pub const-memory : (old new : Signature) (n : Chars) (ty : TypeTree) (e : TypeFault) → found n old.consts ≡ None → type_fault old ty ≡ None → DeclaresConst old new n ty (Err e)
    → e ≡ faults.TheVariants.Memory
const-memory old new n ty (faults.TheVariants.Duplicate c) h k d = let no : true ≡ false = sym d.1.1 ∙ ap is_some h in absurd (cc no)
const-memory old new n ty (faults.TheVariants.UnknownType c) h k d = absurd (cc (sym k ∙ d.1.1))
const-memory old new n ty (faults.TheVariants.Arity c) h k d = absurd (cc (sym k ∙ d.1.1))
const-memory old new n ty (faults.TheVariants.UnknownConst c) h k d = absurd (cc (sym k ∙ d.1.1))
const-memory old new n ty (faults.TheVariants.TypeArgs c) h k d = absurd (cc (sym k ∙ d.1.1))
const-memory old new n ty (faults.TheVariants.Unbound c) h k d = absurd (cc (sym k ∙ d.1.1))
const-memory old new n ty (faults.TheVariants.Mismatch t u) h k d = absurd (cc (sym k ∙ d.1.1))
const-memory old new n ty faults.TheVariants.Memory h k d = refl

pub label-memory : (old new : State) (l : Chars) (id : ℕ) (e : RuleFault) → found l old.named ≡ None → Names old new l id (Err e) → e ≡ rules.TheVariants.Memory
label-memory old new l id (rules.TheVariants.Bad r) h d = absurd d
label-memory old new l id (rules.TheVariants.Duplicate m) h d = let no : true ≡ false = sym d.1 ∙ ap is_some h in absurd (cc no)
label-memory old new l id rules.TheVariants.Memory h d = refl
