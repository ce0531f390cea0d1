-- Types that are the same up to type names, by terms; and the constants of the table.
use Rattle.std.proofs.Common.{◌≡◌, Bool, false, Option, Some, option_map, unwrap_or, codes, refl, sym, ◌∙◌, ap}
use Rattle.lt_definitions.specs.Types.{Chars, found, TypeTree}
use Rattle.lt_definitions.specs.Terms.{TermTree, free_variable}
use Rattle.lt_definitions.specs.Alpha.{is_same_up_to_types}
use Rattle.lt_definitions.specs.Typing.{Signature}
use Rattle.lt_transport_definitions.specs.Constants.{constant_types, is_declared_as, is_counted}
use Rattle.lt_transport_definitions.specs.Patterns.{is_same_type_up_to_names}

pub by-terms : (t u : TypeTree) (s r : TermTree) (x y : Chars) → s ≡ free_variable x t → r ≡ free_variable y u → x ≡ codes "x" → y ≡ codes "x"
    → is_same_up_to_types s r ≡ is_same_type_up_to_names t u
by-terms t u s r x y h k p q =
    (λ i. is_same_up_to_types ((h ∙ ap (λ (z : Chars). free_variable z t) p) i) ((k ∙ ap (λ (z : Chars). free_variable z u) q) i))

pub counted-as : (sig : Signature) (c : Chars) (ty : TypeTree) → found c constant_types ≡ Some ty → is_declared_as sig c ty ≡ is_counted sig c
counted-as sig c ty h = ap (λ (o : Option TypeTree). unwrap_or (option_map (is_declared_as sig c) o) false) (sym h)
