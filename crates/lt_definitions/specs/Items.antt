-- Items of a plain theory, and what each declares and states.
-- Source: definitions and typedefs as in Gordon's HOL; the items, their names and labels are this
-- project's own.
use Rattle.std.specs.Prelude.{ℕ, List, [], ◌∷◌, ◌++◌, if◌then◌else◌, ◌&&◌, map, length, Option, Some, None, Result, Ok, codes}
use Rattle.std.specs.Option.{option_and_then}
use Rattle.std.specs.Result.{result_ok}
use Rattle.lt_definitions.specs.Types.{Chars, TypeTree, type_variable, type_constructor, no_types, type_and, bool, fun, row, same_type, type_variables}
use Rattle.lt_definitions.specs.Terms.{TermTree, bound_name, constant, application, abstraction, equation, implies, for_all}
use Rattle.lt_definitions.specs.Typing.{Signature, built_in, Fault, typed}
use Rattle.lt_definitions.specs.Rules.{Rule, predicate_over}

-- An item: a type, a constant, an axiom, a definition, a typedef or a lemma with its derivation.
pub data Item : Type 0 where
  type_item : (name : Chars) (arity : ℕ) → Item
  const_item : (name : Chars) (ty : TypeTree) → Item
  axiom_item : (label : Chars) (statement : TermTree) → Item
  def_item : (name : Chars) (ty : TypeTree) (body : TermTree) → Item
  typedef_item : (name : Chars) (params : List Chars) (predicate : TermTree)
      (by_label abs rep : Chars) → Item
  lemma_item : (label : Chars) (statement : TermTree) (lines : List (Rule TermTree)) → Item

-- What the items so far declare and state.
pub record Context : Type 0 where
  pub signature : Signature
  pub statements : List (Chars × TermTree)

-- before the first item
abbrev pub empty : Context
empty = record { signature = built_in; statements = [] }

-- further types behind the earlier ones
abbrev pub with_types : List (Chars × ℕ) → Context → Context
with_types ts ctx =
    record ctx { signature = record ctx.signature { types = ctx.signature.types ++ ts } }

-- further constants behind the earlier ones
abbrev pub with_consts : List (Chars × TypeTree) → Context → Context
with_consts cs ctx =
    record ctx { signature = record ctx.signature { consts = ctx.signature.consts ++ cs } }

-- further named statements behind the earlier ones
abbrev pub with_statements : List (Chars × TermTree) → Context → Context
with_statements ps ctx = record ctx { statements = ctx.statements ++ ps }

-- a constant at the type variables of its declared type
abbrev pub declared : Chars → TypeTree → TermTree
declared c ty = constant c (map type_variable (type_variables ty))

-- the label of a definition's statement
abbrev pub definition_label : Chars → Chars
definition_label n = n ++ codes "_def"

-- N = t
abbrev pub definition_statement : Chars → TypeTree → TermTree → TermTree
definition_statement n ty body = equation ty (declared n ty) body

-- a typedef's new type over its parameters
abbrev pub new_type : Chars → List Chars → TypeTree
new_type n params = type_constructor n (row (map type_variable params))

-- the label of a typedef's first statement
abbrev pub rep_label : Chars → Chars
rep_label n = n ++ codes "_rep"

-- of its second
abbrev pub rep_inverse_label : Chars → Chars
rep_inverse_label n = n ++ codes "_rep_inverse"

-- of its third
abbrev pub abs_inverse_label : Chars → Chars
abs_inverse_label n = n ++ codes "_abs_inverse"

-- all a. P (B a)
abbrev pub rep_statement : TypeTree → TypeTree → TermTree → Chars → TermTree
rep_statement new raw p b = let x : TermTree = bound_name (codes "a") in
    for_all new (abstraction (codes "a") new
    (application p (application (declared b (fun new raw)) x)))

-- all a. A (B a) = a
abbrev pub rep_inverse_statement : TypeTree → TypeTree → Chars → Chars → TermTree
rep_inverse_statement new raw a b =
    let x : TermTree = bound_name (codes "a") in
    let abs : TermTree = declared a (fun raw new) in
    let rep : TermTree = declared b (fun new raw) in
    for_all new (abstraction (codes "a") new (equation new (application abs (application rep x)) x))

-- all r. P r --> B (A r) = r
abbrev pub abs_inverse_statement : TypeTree → TypeTree → TermTree → Chars → Chars → TermTree
abs_inverse_statement new raw p a b =
    let x : TermTree = bound_name (codes "r") in
    let abs : TermTree = declared a (fun raw new) in
    let rep : TermTree = declared b (fun new raw) in
    for_all raw (abstraction (codes "r") raw
    (implies (application p x) (equation raw (application rep (application abs x)) x)))

-- the three statements with their labels
abbrev pub typedef_statements : Chars → TypeTree → TypeTree → TermTree → Chars → Chars
    → List (Chars × TermTree)
typedef_statements n new raw p a b = (rep_label n, rep_statement new raw p b)
    ∷ (rep_inverse_label n, rep_inverse_statement new raw a b)
    ∷ (abs_inverse_label n, abs_inverse_statement new raw p a b) ∷ []

-- the type that a predicate is over, where it has the type of a predicate
abbrev pub raw_type : Result TypeTree Fault → Option TypeTree
raw_type r = option_and_then predicate_over (result_ok r)

-- A typedef adds its type, its constants B and A, and its three statements.
abbrev pub with_typedef : Chars → List Chars → TermTree → Chars → Chars → Option TypeTree
    → Context → Context
with_typedef n params p a b None ctx = ctx
with_typedef n params p a b (Some raw) ctx = let new : TypeTree = new_type n params in
    with_statements (typedef_statements n new raw p a b)
    (with_consts ((b, fun new raw) ∷ (a, fun raw new) ∷ [])
    (with_types ((n, length params) ∷ []) ctx))

-- what an item adds
abbrev pub with_item : Context → Item → Context
with_item ctx (type_item n k) = with_types ((n, k) ∷ []) ctx
with_item ctx (const_item n ty) = with_consts ((n, ty) ∷ []) ctx
with_item ctx (axiom_item l t) = with_statements ((l, t) ∷ []) ctx
with_item ctx (def_item n ty body) =
    with_statements ((definition_label n, definition_statement n ty body) ∷ [])
    (with_consts ((n, ty) ∷ []) ctx)
with_item ctx (typedef_item n params p l a b) =
    with_typedef n params p a b (raw_type (typed ctx.signature [] p)) ctx
with_item ctx (lemma_item l t lines) = with_statements ((l, t) ∷ []) ctx

-- the context behind items
abbrev pub context_of : Context → List Item → Context
context_of ctx [] = ctx
context_of ctx (item ∷ later) = context_of (with_item ctx item) later
