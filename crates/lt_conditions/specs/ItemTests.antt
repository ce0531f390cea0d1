-- What the tests of a typedef answer.
use Rattle.std.specs.Borrow.{Bor}
use Rattle.std.specs.Prelude.{◌≡◌, List, [], ◌∷◌, Bool, true, ◌&&◌, not, is_some, Option, Some, None, Result, Ok, Err}
use Rattle.lt_definitions.specs.Types.{Chars, TypeTree, bool, fun, are_distinct, found}
use Rattle.lt_definitions.specs.Terms.{TermTree}
use Rattle.lt_definitions.specs.Typing.{typed}
use Rattle.lt_definitions.specs.Rules.{predicate_over}
use Rattle.lt_definitions.specs.Items.{Context, typedef_item}
use Rattle.lt_definitions.specs.Theory.{Refusal, refusal, first_of, refused_where, typedef_shape, closed_test, variables_test, label_test, is_applied}
use Rattle.lt_conditions.specs.declared.item_fault.ItemFault.{ItemFault}
use Rattle.lt_conditions.specs.Refusing.{Refuses}

-- whether the shape of a typedef is there
abbrev pub is_shape : Bool → TermTree → TypeTree → TermTree → Bool
is_shape distinct p ty statement =
    distinct && is_some (predicate_over ty) && is_applied p (Some statement)

-- the type that the predicate is over, where the shape is there
abbrev pub HasShape : Bool → TermTree → TypeTree → TermTree → Result TypeTree ItemFault → Type 0
HasShape distinct p ty statement (Ok raw) =
    (is_shape distinct p ty statement ≡ true) × (ty ≡ fun raw bool)
HasShape distinct p ty statement (Err e) =
    Refuses (refused_where (not (is_shape distinct p ty statement)) typedef_shape) e

-- the tests of a predicate of this type
abbrev pub predicate_tests : List Chars → TermTree → TypeTree → TermTree → Option Refusal
predicate_tests params p ty statement = first_of (closed_test p ∷ variables_test params p
    ∷ refused_where (not (is_shape (are_distinct params) p ty statement)) typedef_shape ∷ [])

-- the type that the predicate is over, where no test refuses it
abbrev pub IsPredicate : List Chars → TermTree → TypeTree → TermTree → Result TypeTree ItemFault
    → Type 0
IsPredicate params p ty statement (Ok raw) =
    (predicate_tests params p ty statement ≡ None) × (ty ≡ fun raw bool)
IsPredicate params p ty statement (Err e) = Refuses (predicate_tests params p ty statement) e

-- the statement of the label, or there is none
abbrev pub IsNamed : Context → Chars → Result (Bor TermTree) ItemFault → Type 0
IsNamed ctx l (Ok t) = found l ctx.statements ≡ Some t.now
IsNamed ctx l (Err e) = Refuses (label_test ctx l) e

-- the type that the predicate is over, where the typedef is not refused
abbrev pub IsRawType : Context → Chars → List Chars → TermTree → Chars → Chars → Chars
    → Result TypeTree ItemFault → Type 0
IsRawType ctx n params p l a b (Ok raw) = (refusal ctx (typedef_item n params p l a b) ≡ None)
    × (typed ctx.signature [] p ≡ Ok (fun raw bool))
IsRawType ctx n params p l a b (Err e) = Refuses (refusal ctx (typedef_item n params p l a b)) e
