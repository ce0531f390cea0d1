-- Whether a typed term has a type.
use Rattle.std.proofs.Common.{◌≡◌, Option, None, Result, Ok, Err, [], refl, ap, sym, ◌∙◌}
use Rattle.std.specs.Result.{result_unwrap_or, result_err}
use Rattle.lt_definitions.specs.Types.{TypeTree, bool, same_type}
use Rattle.lt_definitions.specs.Typing.{Signature, Fault, is_of_type}
use Rattle.lt_nameless.specs.Nameless.{Nameless}
use Rattle.lt_nameless.specs.NamelessRules.{nameless_typed, nameless_fault, nameless_has_type, nameless_type_of}

-- it has a type exactly where that is its type
pub typed-has : (sig : Signature) (t : Nameless) (ty : TypeTree) → nameless_fault sig t ≡ None → same_type ty (nameless_type_of sig t) ≡ nameless_has_type sig t ty
typed-has sig t ty h = by (nameless_typed sig [] t) h
  where
    by : (r : Result TypeTree Fault) → result_err r ≡ None → same_type ty (result_unwrap_or r bool) ≡ is_of_type ty r
    by (Ok u) k = refl
    by (Err f) k = cc k
