-- What the law says that the image of a transport has its type.
-- Source: this project's own.
use Rattle.std.specs.Prelude.{◌≡◌, ℕ, zero, suc, List, [], ◌∷◌, true, Some, None, codes, map, length}
use Rattle.std.specs.List.{zip}
use Rattle.lt_definitions.specs.Types.{Chars, has_name, are_distinct, found, TypeTree, type_variable, type_constructor, TypeTrees, no_types, type_and, bool, listed, type_instance, type_names, types_names, row}
use Rattle.lt_definitions.specs.Terms.{TermTree, free_variable, bound_name, constant, application, abstraction}
use Rattle.lt_definitions.specs.Typing.{Signature, type_fault, types_fault, HasType}
use Rattle.lt_nameless.specs.Booleans.{IsSoundSignature}
use Rattle.lt_transport_definitions.specs.Notation.{◌⇒◌, ◌~◌}
use Rattle.lt_transport_definitions.specs.Constants.{is_counted}
use Rattle.lt_transport_definitions.specs.Relations.{Relation, relation_variable, equality, constructed, Relations, no_relations, relation_and, relation_list, Correspondence, RelationVariable, Registry, relator_for, Kind, a_correspondence, a_form, kind_of}
use Rattle.lt_transport_definitions.specs.Expressions.{abstract_type, variables_of, left_of, left, right, IsExpression, implication}
use Rattle.lt_transport_definitions.specs.RelationTerms.{domain_of}
use Rattle.lt_transport_definitions.specs.RuleForm.{TransferRule}
use Rattle.lt_transport_definitions.specs.RelatorForm.{functions_from}
use Rattle.lt_transport_definitions.specs.Search.{Question, Solution, IsWhole, image_by}
use Rattle.lt_transport_laws.specs.Statements.{IsRegistry, IsTyped}

-- the left type variable of the relation variable with a number
abbrev pub left_variable : List RelationVariable → ℕ → TypeTree
left_variable [] i = bool
left_variable (x ∷ xs) zero = type_variable x.left_name
left_variable (x ∷ xs) (suc i) = left_variable xs i

-- the left type of an expression over relation variables
abbrev mutual
  pub left_over : Registry → List RelationVariable → Relation → TypeTree
  left_over G xs (relation_variable i t) = left_variable xs i
  left_over G xs (equality t) = t
  left_over G xs (constructed c ts rs) = left_of (kind_of G c) ts (lefts_over G xs rs)

  pub lefts_over : Registry → List RelationVariable → Relations → TypeTrees
  lefts_over G xs no_relations = no_types
  lefts_over G xs (relation_and r rs) = type_and (left_over G xs r) (lefts_over G xs rs)

-- the types of relation variables
abbrev pub variable_types : List RelationVariable → List (Chars × TypeTree)
variable_types [] = []
variable_types (x ∷ xs) =
    (x.name, type_variable x.left_name ~ type_variable x.right_name) ∷ variable_types xs

-- Each free variable of a term is one of these, with its type.
abbrev pub HasOnly : List (Chars × TypeTree) → TermTree → Type 0
HasOnly vs (free_variable x ty) = found x vs ≡ Some ty
HasOnly vs (bound_name x) = Unit {0}
HasOnly vs (constant c ts) = Unit {0}
HasOnly vs (application f a) = HasOnly vs f × HasOnly vs a
HasOnly vs (abstraction x ty b) = HasOnly vs b

-- None of these names is in the other list.
abbrev pub AreApart : List Chars → List Chars → Type 0
AreApart names others = (a : Chars) → has_name a names ≡ true → has_name a others ≡ true → ⊥

-- A parametrised correspondence stands over a relation for each parameter, and its raw type has no
-- other type variable.
abbrev pub IsFull : Kind → Relations → Type 0
IsFull (a_form d) rs = (length (relation_list rs) ≡ length d.parameters)
    × ((a : Chars) → has_name a (type_names d.raw) ≡ true → has_name a d.parameters ≡ true)
IsFull _ rs = Unit {0}

-- The types in an expression have none of these type variables, and each parametrised correspondence
-- in it is full.
abbrev mutual
  pub IsApart : Registry → List Chars → Relation → Type 0
  IsApart G ns (relation_variable i t) = Unit {0}
  IsApart G ns (equality t) = AreApart ns (type_names t)
  IsApart G ns (constructed c ts rs) =
      AreApart ns (types_names (row ts)) × IsFull (kind_of G c) rs × EachApart G ns rs

  pub EachApart : Registry → List Chars → Relations → Type 0
  EachApart G ns no_relations = Unit {0}
  EachApart G ns (relation_and r rs) = IsApart G ns r × EachApart G ns rs

-- A rule's raw side has the left type of its relation, its free variables are the relation
-- variables, and the left type variables are distinct, and in no other type of the rule.
pub record IsSoundRule (G : Registry) (sig : Signature) (rule : TransferRule) : Type 0 where
  pub typed : IsTyped G sig rule
  pub raw : HasType sig [] rule.raw (left_over G rule.variables rule.relation)
  pub free : HasOnly (variable_types rule.variables) rule.raw
  pub distinct : are_distinct (map (λ x. x.left_name) rule.variables) ≡ true
  pub rights : AreApart (map (λ x. x.left_name) rule.variables)
      (map (λ x. x.right_name) rule.variables)
  pub apart : IsApart G (map (λ x. x.left_name) rule.variables) rule.relation

abbrev pub AreSoundRules : Registry → Signature → List TransferRule → Type 0
AreSoundRules G sig [] = Unit {0}
AreSoundRules G sig (rule ∷ rules) = IsSoundRule G sig rule × AreSoundRules G sig rules

-- types, one of each list after the other
abbrev pub interleaved : List TypeTree → List TypeTree → List TypeTree
interleaved (t ∷ ts) (u ∷ us) = t ∷ u ∷ interleaved ts us
interleaved _ _ = []

-- relations between types at the same places
abbrev pub relations_between : TypeTrees → TypeTrees → List TypeTree
relations_between ls rs = map (λ p. p.0 ~ p.1) (zip (listed ls) (listed rs))

-- The constants of what is registered have their types, at any types without a fault; and so have
-- the domains of expressions, where Domainp counts.
pub record IsSoundRegistry (G : Registry) (sig : Signature) : Type 0 where
  pub signature : IsSoundSignature sig
  pub implied : left G implication ≡ bool
  pub relators : (K c : Chars) (ls rs : TypeTrees) → relator_for G K ≡ Some c
      → type_fault sig (type_constructor K ls) ≡ None
      → type_fault sig (type_constructor K rs) ≡ None
      → HasType sig [] (constant c (interleaved (listed ls) (listed rs)))
      (functions_from (relations_between ls rs) (type_constructor K ls ~ type_constructor K rs))
  pub correspondences : (c : Chars) (d : Correspondence) (ts : List TypeTree)
      → kind_of G c ≡ a_correspondence d → length ts ≡ length (variables_of d)
      → type_fault sig (type_instance (zip (variables_of d) ts) (abstract_type d)) ≡ None
      → HasType sig [] (constant c ts) (type_instance (zip (variables_of d) ts) d.raw
      ~ type_instance (zip (variables_of d) ts) (abstract_type d))
  pub forms : (c : Chars) (d : Correspondence) (ls rs : TypeTrees) → kind_of G c ≡ a_form d
      → types_fault sig ls ≡ None → type_fault sig (type_constructor d.con rs) ≡ None
      → length (listed ls) ≡ length (listed rs)
      → HasType sig [] (constant c (interleaved (listed ls) (listed rs)))
      (functions_from (relations_between ls rs)
      (type_instance (zip d.parameters (listed ls)) d.raw ~ type_constructor d.con rs))
  pub counted : is_counted sig (codes "Domainp") ≡ true → (l r : TypeTree)
      → type_fault sig l ≡ None → type_fault sig r ≡ None
      → HasType sig [] (constant (codes "Domainp") (l ∷ r ∷ [])) ((l ~ r) ⇒ l ⇒ bool)
  pub domains : is_counted sig (codes "Domainp") ≡ true → (r : Relation) → IsExpression G r
      → type_fault sig (right G r) ≡ None → HasType sig [] (domain_of G r) (left G r ⇒ bool)

-- Where all that is registered is sound, the image of a boolean statement is boolean.
abbrev pub ImagesAreTyped : Type 0
ImagesAreTyped = (q : Question) (choices : List ℕ) (w : Solution q choices) → IsRegistry q.registry
    → IsSoundRegistry q.registry q.signature → AreSoundRules q.registry q.signature q.rules
    → HasType q.signature [] q.statement bool → IsWhole q choices
    → HasType q.signature [] (image_by w) bool
