-- Lines that equate terms.
-- Source: this project's own.
use Rattle.std.specs.Prelude.{◌≡◌, ℕ, ◌<◌, List, length, Option, Some, None}
use Rattle.lt_definitions.specs.Types.{TypeTree}
use Rattle.lt_definitions.specs.Typing.{Signature}
use Rattle.lt_definitions.specs.Rules.{line_at}
use Rattle.lt_nameless.specs.Nameless.{Nameless, nameless_application}
use Rattle.lt_nameless.specs.NamelessRules.{nameless_equation, nameless_eta, nameless_fault, nameless_type_of}
use Rattle.lt_store.specs.Trees.{tree_at}
use Rattle.lt_kernel.specs.State.{State, sequents}
use Rattle.lt_programs.specs.Programs.{theorem}
use Rattle.lt_programs.specs.TypedTerms.{IsOfType}

-- The line is |- l = r, and both sides have one type.
pub record Equates (s : State) (n : ℕ) (l r : Nameless) : Type 0 where
  pub ty : TypeTree
  pub line : line_at (sequents s) n ≡ Some (theorem (nameless_equation ty l r))
  pub left : IsOfType s.signature l ty
  pub right : IsOfType s.signature r ty

-- The id stands for the term.
pub record Stands (s : State) (id : ℕ) (t : Nameless) : Type 0 where
  pub within : id < length s.nodes
  pub is : tree_at s.nodes id ≡ t

-- A line that equates terms.
pub record IsEquation (s : State) (n : ℕ) : Type 0 where
  pub from : Nameless
  pub to : Nameless
  pub holds : Equates s n from to

-- Two such lines that meet in the middle.
pub record Meet (s : State) (i j : ℕ) : Type 0 where
  pub from : Nameless
  pub middle : Nameless
  pub to : Nameless
  pub first : Equates s i from middle
  pub second : Equates s j middle to

-- Two such lines, of functions and of arguments to which these may be applied.
pub record Apply (s : State) (i j : ℕ) : Type 0 where
  pub f : Nameless
  pub g : Nameless
  pub a : Nameless
  pub b : Nameless
  pub functions : Equates s i f g
  pub arguments : Equates s j a b
  pub typed : nameless_fault s.signature (nameless_application f a) ≡ None

-- A line that equates a term with an application, under hypotheses.
pub record OfApplication (s : State) (i : ℕ) : Type 0 where
  pub hyps : List Nameless
  pub ty : TypeTree
  pub left : Nameless
  pub f : Nameless
  pub t : Nameless
  pub line : line_at (sequents s) i
      ≡ Some (record { hyps = hyps; concl = nameless_equation ty left (nameless_application f t) })

-- A line that equates terms, under hypotheses.
pub record IsEquationUnder (s : State) (i : ℕ) : Type 0 where
  pub hyps : List Nameless
  pub ty : TypeTree
  pub left : Nameless
  pub right : Nameless
  pub line : line_at (sequents s) i
      ≡ Some (record { hyps = hyps; concl = nameless_equation ty left right })

-- The line is |- t = f, where t is \x. f x; there is none where t isn't such a term.
abbrev pub Contracts : State → Signature → Nameless → Option ℕ → Type 0
Contracts s sig t (Some n) = (f : Nameless) × (nameless_eta t ≡ Some f)
    × (line_at (sequents s) n ≡ Some (theorem (nameless_equation (nameless_type_of sig t) t f)))
Contracts s sig t None = nameless_eta t ≡ None
