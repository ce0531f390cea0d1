-- What follows from the words in which typing is written.
use Rattle.std.proofs.Common.{◌≡◌, Option, Some, None, Result, Ok, Err, refl, ap}
use Rattle.std.specs.Result.{result_ok, result_err}
use Rattle.std.proofs.lemmas.Bool.{cond-true}
use Rattle.lt_definitions.specs.Types.{TypeTree, fun, same_type}
use Rattle.lt_definitions.specs.Typing.{Fault, earlier, applied_type}
use Rattle.lt_definitions.specs.Rules.{joined_type}
use Rattle.lt_definitions.proofs.SameNames.{type-refl}

-- neither of two faults
pub both-none : {F : Type 0} (a b : Option F) → earlier a b ≡ None → (a ≡ None) × (b ≡ None)
both-none None b e = (refl, e)
both-none (Some f) b e = absurd (cc e)

pub none-both : {F : Type 0} (a b : Option F) → a ≡ None → b ≡ None → earlier a b ≡ None
none-both None b d e = e
none-both (Some f) b d e = absurd (cc d)

-- what has no fault has a type
pub typed-some : (r : Result TypeTree Fault) → result_err r ≡ None → (ty : TypeTree) × (r ≡ Ok ty)
typed-some (Ok ty) e = (ty, refl)
typed-some (Err f) e = absurd (cc e)

-- a function's type takes its argument's
pub applied-fun : (from to : TypeTree) → applied_type (fun from to) from ≡ Ok to
applied-fun from to = cond-true (same_type from from) (Ok to) _ (type-refl from)

pub joined-fun : (from to : TypeTree) → joined_type (fun from to) from ≡ Some to
joined-fun from to = ap result_ok (applied-fun from to)
