-- The parts of types of functions, read off by matching.
use Rattle.std.proofs.Common.{◌≡◌, ◌∙◌, ◌&&◌, [], ◌∷◌, Bool, true, false, Option, Some, None, Ok, Err, refl, ap, sym, if◌then◌else◌}
use Rattle.std.specs.Prelude.{codes}
use Rattle.lt_definitions.specs.Types.{Chars, TypeTree, TypeMap, Matches, type_variable, type_constructor, no_types, type_and, bool, fun, same_name, same_type, type_instance}
use Rattle.lt_definitions.specs.Typing.{mismatch}
use Rattle.std.specs.Result.{result_ok}
use Rattle.lt_definitions.specs.Rules.{joined_type, predicate_over}
use Rattle.lt_definitions.proofs.SameNames.{name-true}
use Rattle.lt_types.specs.FunctionTypes.{function_parts}

-- what a match says of the parts
pub parts-of-match : (m : TypeMap) (ty a x : TypeTree) → Matches (fun a x) m ty → Some (type_instance m a, type_instance m x) ≡ function_parts ty
parts-of-match m ty a x h = ap function_parts h.instance

-- the pattern's variables
abbrev pub any_function : TypeTree
any_function = fun (type_variable (97 ∷ [])) (type_variable (120 ∷ []))

matched : (c : Chars) (from to : TypeTree) → same_name c (codes "fun") ≡ true
    → Matches any_function ((97 ∷ [], from) ∷ (120 ∷ [], to) ∷ []) (type_constructor c (type_and from (type_and to no_types)))
matched c from to e = record {
  instance = ap (λ d. type_constructor d (type_and from (type_and to no_types))) (sym (name-true c (codes "fun") e));
  domain = refl;
}

-- where nothing matches there are no parts
pub no-parts : (ty : TypeTree) → ((m : TypeMap) → Matches any_function m ty → ⊥) → None ≡ function_parts ty
no-parts (type_variable a) h = refl
no-parts (type_constructor c no_types) h = refl
no-parts (type_constructor c (type_and from no_types)) h = refl
no-parts (type_constructor c (type_and from (type_and to (type_and t ts)))) h = refl
no-parts (type_constructor c (type_and from (type_and to no_types))) h = by (same_name c (codes "fun")) refl
  where
    by : (b : Bool) → same_name c (codes "fun") ≡ b → let parts : Option (TypeTree × TypeTree) = if b then Some (from, to) else None in None ≡ parts
    by true e = absurd (h ((97 ∷ [], from) ∷ (120 ∷ [], to) ∷ []) (matched c from to e))
    by false e = refl

-- the type of an application, by the parts
abbrev pub joined_of : Option (TypeTree × TypeTree) → TypeTree → Option TypeTree
joined_of None a = None
joined_of (Some p) a = if same_type p.0 a then Some p.1 else None

pub joined-parts : (f a : TypeTree) → joined_of (function_parts f) a ≡ joined_type f a
joined-parts (type_variable x) a = refl
joined-parts (type_constructor c no_types) a = refl
joined-parts (type_constructor c (type_and from no_types)) a = refl
joined-parts (type_constructor c (type_and from (type_and to (type_and t ts)))) a = refl
joined-parts (type_constructor c (type_and from (type_and to no_types))) a = by (same_name c (codes "fun"))
  where
    taken : (d : Bool) → (if d then Some to else None) ≡ result_ok (if d then Ok to else Err (mismatch (type_constructor c (type_and from (type_and to no_types))) a))
    taken true = refl
    taken false = refl

    by : (b : Bool) → joined_of (if b then Some (from, to) else None) a ≡ result_ok (if b && same_type from a then Ok to else Err (mismatch (type_constructor c (type_and from (type_and to no_types))) a))
    by true = taken (same_type from a)
    by false = refl

-- the type that a predicate is over, by the parts
abbrev pub over_of : Option (TypeTree × TypeTree) → Option TypeTree
over_of None = None
over_of (Some p) = if same_type p.1 bool then Some p.0 else None

pub over-parts : (f : TypeTree) → over_of (function_parts f) ≡ predicate_over f
over-parts (type_variable x) = refl
over-parts (type_constructor c no_types) = refl
over-parts (type_constructor c (type_and from no_types)) = refl
over-parts (type_constructor c (type_and from (type_and to (type_and t ts)))) = refl
over-parts (type_constructor c (type_and from (type_and to no_types))) = by (same_name c (codes "fun"))
  where
    by : (b : Bool) → over_of (if b then Some (from, to) else None) ≡ (if b && same_type to bool then Some from else None)
    by true = refl
    by false = refl
