-- Where a conversion is at work in a term: the place, what is around it, and what is known of nodes.
-- Source: this project's own.
use Rattle.std.specs.Prelude.{◌≡◌, ℕ, ◌+◌, ◌*◌, ◌<◌, ◌==◌, List, [], ◌∷◌, reverse, false, length, Option, Some, None}
use Rattle.std.specs.declared.hash.FoldHasher.{FoldHasher}
use Rattle.std.specs.declared.hash.BuildHasherDefault.{BuildHasherDefault}
use Rattle.std.specs.HashMap.{get, HashMap}
use Rattle.lt_definitions.specs.Types.{Chars, TypeTree}
use Rattle.lt_nameless.specs.Nameless.{Nameless, nameless_free, nameless_application, nameless_abstraction}
use Rattle.lt_nameless.specs.NamelessRules.{nameless_has_free, instance_at}
use Rattle.lt_store.specs.declared.node.Node.{Node}
use Rattle.lt_store.specs.Trees.{tree_at, tree_size}
use Rattle.lt_store.specs.Typed.{IsTyped}
use Rattle.lt_kernel.specs.State.{State, statements}
use Rattle.lt_kernel.specs.Growing.{IsSound}
use Rattle.lt_derived.specs.Equations.{Equates}
use Rattle.lt_conv.specs.declared.places.Level.{Level}
use Rattle.lt_conv.specs.declared.places.Level.TheVariants.{Function, Argument, Body}
use Rattle.lt_conv.specs.declared.places.Place.{Place}
use Rattle.lt_conv.specs.declared.places.Place.TheVariants.{Node as AtNode, Line as AtLine}
use Rattle.lt_conv.specs.declared.places.Work.{Work}
use Rattle.lt_conv.specs.Everywhere.{new_name, everywhere}

-- Lines by ids.
abbrev pub Lines : Type 0
Lines = HashMap ℕ ℕ (BuildHasherDefault FoldHasher)

-- the line that was kept for an id
abbrev pub line_in : Lines → ℕ → Option ℕ
line_in lines id = get ◌==◌ lines id

-- The line equates the id's term with what becomes of it.
pub record IsConverted (f : Nameless → Option Nameless) (s : State) (id n : ℕ) : Type 0 where
  pub within : id < length s.nodes
  pub line : Equates s n (tree_at s.nodes id) (everywhere f (tree_at s.nodes id))

-- Each line that was kept does.
abbrev pub AreConverted : (Nameless → Option Nameless) → State → Lines → Type 0
AreConverted f s lines = (id n : ℕ) → line_in lines id ≡ Some n → IsConverted f s id n

-- The term is the head of the id's application.
pub record IsHeadOf (s : State) (id : ℕ) (t : Nameless) : Type 0 where
  pub typed : IsTyped s.signature s.nodes id
  pub a : Nameless
  pub is : tree_at s.nodes id ≡ nameless_application t a

-- It is the argument of one, whose head's line is this.
pub record IsArgumentOf (f : Nameless → Option Nameless) (s : State) (id n : ℕ) (t : Nameless) : Type 0 where
  pub typed : IsTyped s.signature s.nodes id
  pub g : Nameless
  pub is : tree_at s.nodes id ≡ nameless_application g t
  pub head : Equates s n g (everywhere f g)

-- It is the body of the id's abstraction, opened by a new variable.
pub record IsBodyOf (s : State) (id : ℕ) (x : Chars) (ty : TypeTree) (t : Nameless) : Type 0 where
  pub typed : IsTyped s.signature s.nodes id
  pub b : Nameless
  pub is : tree_at s.nodes id ≡ nameless_abstraction ty b
  pub name : x ≡ new_name b
  pub new : nameless_has_free x ty b ≡ false
  pub opened : t ≡ instance_at 0 (nameless_free x ty) b

-- The levels, from the inside, lead from a term to the whole one.
abbrev pub IsInside : (Nameless → Option Nameless) → State → List Level → Nameless → Nameless → Type 0
IsInside f s [] t root = t ≡ root
IsInside f s (Function id ∷ ls) t root = IsHeadOf s id t × IsInside f s ls (tree_at s.nodes id) root
IsInside f s (Argument id n ∷ ls) t root = IsArgumentOf f s id n t × IsInside f s ls (tree_at s.nodes id) root
IsInside f s (Body id x ty ∷ ls) t root = IsBodyOf s id x ty t × IsInside f s ls (tree_at s.nodes id) root

-- A line that equates a term inside the whole one with what becomes of it.
pub record IsLineInside (f : Nameless → Option Nameless) (s : State) (ls : List Level) (n : ℕ) (root : Nameless) : Type 0 where
  pub t : Nameless
  pub line : Equates s n t (everywhere f t)
  pub inside : IsInside f s ls t root

-- A node that is to be converted, or a line that does so.
abbrev pub IsPlace : (Nameless → Option Nameless) → State → List Level → Place → Nameless → Type 0
IsPlace f s ls (AtNode id) root = IsTyped s.signature s.nodes id × IsInside f s ls (tree_at s.nodes id) root
IsPlace f s ls (AtLine n) root = IsLineInside f s ls n root

-- A conversion, which gives what it does over the named statements, is at work at a place.
pub record IsAtWork (gives : List (Chars × Nameless) → Nameless → Option Nameless) (s : State) (ls : List Level) (lines : Lines) (p : Place) : Type 0 where
  pub named : List (Chars × Nameless)
  pub same : statements s ≡ named
  pub root : Nameless
  pub place : IsPlace (gives named) s ls p root
  pub known : AreConverted (gives named) s lines
  pub sound : IsSound s

-- What a move leads to.
pub record LeadsOn (f : Nameless → Option Nameless) (root : Nameless) (s : State) (ls : List Level) (lines : Lines) (p : Place) : Type 0 where
  pub place : IsPlace f s ls p root
  pub known : AreConverted f s lines

-- .. or the whole term's line.
abbrev pub LeadsOrEnds : (Nameless → Option Nameless) → Nameless → State → List Level → Lines → ℕ → Option Place → Type 0
LeadsOrEnds f root s ls lines n None = Equates s n root (everywhere f root)
LeadsOrEnds f root s ls lines n (Some p) = LeadsOn f root s ls lines p

-- the levels from the inside
abbrev pub levels_of : Work → List Level
levels_of w = reverse w.levels.items

-- how many nodes the argument of an application has
abbrev pub argument_size : Nameless → ℕ
argument_size (nameless_application f a) = tree_size a
argument_size t = 0

-- How many moves a level, levels and a place may still take.
abbrev pub level_work : List Node → Level → ℕ
level_work ns (Function id) = 2 + 4 * argument_size (tree_at ns id)
level_work ns (Argument id n) = 1
level_work ns (Body id x ty) = 1

abbrev pub levels_work : List Node → List Level → ℕ
levels_work ns [] = 0
levels_work ns (l ∷ ls) = level_work ns l + levels_work ns ls

abbrev pub place_work : List Node → Place → ℕ
place_work ns (AtNode id) = 4 * tree_size (tree_at ns id)
place_work ns (AtLine n) = 0

abbrev pub moves_left : List Node → List Level → Place → ℕ
moves_left ns ls p = place_work ns p + levels_work ns ls
