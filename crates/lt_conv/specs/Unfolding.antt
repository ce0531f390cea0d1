-- Constants unfolded by named equations.
-- Source: this project's own.
use Rattle.std.specs.Prelude.{◌≡◌, ℕ, [], map, Bool, true, false, if◌then◌else◌, Option, Some, None}
use Rattle.lt_definitions.specs.Types.{TypeTree, TypeMap, row, are_distinct, Matches}
use Rattle.lt_definitions.specs.Typing.{Signature, types_fault}
use Rattle.lt_definitions.specs.Rules.{line_at}
use Rattle.lt_kernel.specs.State.{State, sequents}
use Rattle.lt_programs.specs.Programs.{theorem}
use Rattle.lt_nameless.specs.Nameless.{Nameless, nameless_constant}
use Rattle.lt_nameless.specs.NamelessRules.{nameless_fault, nameless_equation, nameless_as_equation, nameless_instance, same_nameless}
use Rattle.lt_transport_definitions.specs.Patterns.{types_match}

-- what stands for the type variables of a constant's type arguments in other ones
abbrev pub types_for : Nameless → Nameless → TypeMap
types_for (nameless_constant c ps) (nameless_constant d ts) = types_match (row ps) (row ts)
types_for c t = []

-- whether a term is an instance of a constant, by types
abbrev pub is_instance : Nameless → Nameless → Bool
is_instance (nameless_constant c ps) t = same_nameless t (nameless_instance (types_for (nameless_constant c ps) t) (nameless_constant c ps))
is_instance c t = false

-- An equation c = b of a constant, at a term: b at the types that make c the term, where the term is an instance of c.
abbrev pub unfolded_by : Option (TypeTree × Nameless × Nameless) → Nameless → Option Nameless
unfolded_by None t = None
unfolded_by (Some e) t = if is_instance e.1 t then Some (nameless_instance (types_for e.1 t) e.2) else None

-- The same of a statement, if there is one.
abbrev pub unfolded : Option Nameless → Nameless → Option Nameless
unfolded None t = None
unfolded (Some p) t = unfolded_by (nameless_as_equation p) t

-- The map makes the pattern the type, with one pair for a name; or there is none.
abbrev pub FitsRows : TypeTree → TypeTree → Option TypeMap → Type 0
FitsRows p t (Some m) = (are_distinct (map (λ q. q.0) m) ≡ true) × Matches p m t
FitsRows p t None = (m : TypeMap) → Matches p m t → ⊥

-- The map makes the constant the term; or the term is no instance of it.
pub record IsFitBy (c t : Nameless) (m : TypeMap) : Type 0 where
  pub test : is_instance c t ≡ true
  pub left : nameless_instance m c ≡ t
  pub puts : (u : Nameless) → nameless_instance m u ≡ nameless_instance (types_for c t) u
  pub sound : (sig : Signature) → nameless_fault sig t ≡ None → types_fault sig (row (map (λ q. q.1) m)) ≡ None

abbrev pub FitsBy : Nameless → Nameless → Option TypeMap → Type 0
FitsBy c t (Some m) = IsFitBy c t m
FitsBy c t None = is_instance c t ≡ false

-- The line has the statement; or there is neither.
abbrev pub IsStated : State → Option Nameless → Option ℕ → Type 0
IsStated s (Some p) (Some n) = line_at (sequents s) n ≡ Some (theorem p)
IsStated s None None = Unit {0}
IsStated s _ _ = ⊥

-- The map makes the statement an equation of the term with what it is unfolded to.
pub record IsUnfoldedBy (sig : Signature) (o : Option Nameless) (t : Nameless) (m : TypeMap) : Type 0 where
  pub statement : Nameless
  pub is : o ≡ Some statement
  pub ty : TypeTree
  pub to : Nameless
  pub instance : nameless_instance m statement ≡ nameless_equation ty t to
  pub gives : unfolded o t ≡ Some to
  pub sound : types_fault sig (row (map (λ q. q.1) m)) ≡ None

abbrev pub AreTypesOf : Signature → Option Nameless → Nameless → Option TypeMap → Type 0
AreTypesOf sig o t (Some m) = IsUnfoldedBy sig o t m
AreTypesOf sig o t None = unfolded o t ≡ None
