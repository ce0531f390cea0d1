-- Equality of types as a test is an equivalence.
use Rattle.std.specs.Cmp.{IsEquivalence, decided}
use Rattle.std.specs.Hash.{HashWrites, Alike, same_Alike}
use Rattle.lt_definitions.specs.Types.{TypeTree, same_type}
use Rattle.lt_definitions.proofs.SameNames.{type-true, true-type}

pub same_type-equiv : IsEquivalence same_type
same_type-equiv = decided same_type (λ t u. (type-true t u, true-type t u))

-- equal types feed a hasher the same
pub same_type-alike : (F : TypeTree → HashWrites) → Alike same_type F
same_type-alike F = same_Alike F (λ t u. (type-true t u, true-type t u))
