-- How signatures are stored as values that contracts see.
use Rattle.std.specs.Prelude.{◌≡◌, ℕ, List}
use Rattle.std.proofs.Common.{ap}
use Rattle.std.specs.Coded.{Coded, coded_list, coded×, coded_ℕ}
use base.Stored.{gcons}
use Rattle.lt_definitions.specs.Types.{Chars, TypeTree}
use Rattle.lt_definitions.specs.Typing.{Signature}
use Rattle.lt_types.specs.Codes.{coded_name, coded_type, left, right}

abbrev pub coded_arities : Coded (List (Chars × ℕ))
coded_arities = coded_list (coded× coded_name coded_ℕ)

abbrev pub coded_typings : Coded (List (Chars × TypeTree))
coded_typings = coded_list (coded× coded_name coded_type)

pub signature-inj : (s t : Signature) → gcons (coded_arities.code s.types) (coded_typings.code s.consts) ≡ gcons (coded_arities.code t.types) (coded_typings.code t.consts) → s ≡ t
signature-inj s t p = λ i. record {
  types = coded_arities.inj s.types t.types (ap left p) i;
  consts = coded_typings.inj s.consts t.consts (ap right p) i;
}

abbrev pub coded_signature : Coded Signature
coded_signature = record { code = λ s. gcons (coded_arities.code s.types) (coded_typings.code s.consts); inj = signature-inj }
