-- Small types, terms, statements and theories of which the examples speak. Nothing but examples
-- cites them.
-- Source: this project's own.
use Prim.Native.String.{String}
use Rattle.std.specs.Prelude.{ℕ, List, [], ◌∷◌, ◌++◌, Bool, false, ◌&&◌, Option, Some, None, Result, Ok, Err, codes}
use Rattle.std.specs.Cmp.Lexicographic.{pointwise}
use Rattle.lt_definitions.specs.Types.{Chars, TypeTree, type_variable, type_constructor, bool, fun, row}
use Rattle.lt_definitions.specs.Terms.{TermTree, free_variable, bound_name, constant, application, abstraction, equation, implies, for_all}
use Rattle.lt_definitions.specs.Typing.{Signature, built_in}
use Rattle.lt_definitions.specs.Alpha.{is_alpha}
use Rattle.lt_definitions.specs.Rules.{Sequent, Rule}
use Rattle.lt_definitions.specs.Derivations.{LineFault, derived}
use Rattle.lt_definitions.specs.Items.{Item, type_item, const_item, axiom_item, typedef_item, Context, empty, context_of}

-- 'a
abbrev pub tyvar : String → TypeTree
tyvar a = type_variable (codes a)

-- (list 'a)
abbrev pub type_of_args : String → List TypeTree → TypeTree
type_of_args c ts = type_constructor (codes c) (row ts)

-- nat
abbrev pub nat : TypeTree
nat = type_of_args "nat" []

-- ($x T)
abbrev pub free : String → TypeTree → TermTree
free x ty = free_variable (codes x) ty

-- %x
abbrev pub bound : String → TermTree
bound x = bound_name (codes x)

-- c
abbrev pub con : String → TermTree
con c = constant (codes c) []

-- c[T U]
abbrev pub con_at : String → List TypeTree → TermTree
con_at c ts = constant (codes c) ts

-- (f a)
abbrev pub app : TermTree → TermTree → TermTree
app f a = application f a

-- (\x T b)
abbrev pub lambda : String → TypeTree → TermTree → TermTree
lambda x ty b = abstraction (codes x) ty b

-- a truth value
abbrev pub p : TermTree
p = con "p"

-- another
abbrev pub q : TermTree
q = con "q"

-- a function on truth values
abbrev pub f : TermTree
f = con "f"

-- a free variable
abbrev pub x : TermTree
x = free "x" bool

-- \y. f y
abbrev pub f_of : TermTree
f_of = lambda "y" bool (app f (bound "y"))

-- all x. x = x over a type
abbrev pub all_equal : TypeTree → TermTree
all_equal ty = for_all ty (lambda "x" ty (equation ty (bound "x") (bound "x")))

-- the signature of these constants
abbrev pub samples : Signature
samples =
    record built_in {
      consts = built_in.consts ++ (codes "p", bool) ∷ (codes "q", bool)
          ∷ (codes "f", fun bool bool) ∷ [];
    }

-- |- f = f, p --> q, q --> p, all y. f y, all f
abbrev pub facts : List (Chars × TermTree)
facts =
    (codes "ff", equation (fun bool bool) f f) ∷ (codes "pq", implies p q)
    ∷ (codes "qp", implies q p)
    ∷ (codes "fs", for_all bool f_of) ∷ (codes "fx", for_all bool f) ∷ []

-- the number and the fault, where there is one
abbrev pub fault_of_lines : Result (List Sequent) (ℕ × LineFault) → Option (ℕ × LineFault)
fault_of_lines (Ok ss) = None
fault_of_lines (Err e) = Some e

-- the number and the fault of the first of the lines that has no sequent
abbrev pub refused_line : List (Rule TermTree) → Option (ℕ × LineFault)
refused_line lines = fault_of_lines (derived samples facts [] lines)

-- whether the last sequent has these hypotheses in this order and this conclusion, up to alpha
-- equality
abbrev pub is_last : List Sequent → List TermTree → TermTree → Bool
is_last [] hs c = false
is_last (s ∷ []) hs c = pointwise is_alpha s.hyps hs && is_alpha s.concl c
is_last (s ∷ u ∷ later) hs c = is_last (u ∷ later) hs c

-- the same of an outcome
abbrev pub ends : Result (List Sequent) (ℕ × LineFault) → List TermTree → TermTree → Bool
ends (Ok ss) hs c = is_last ss hs c
ends (Err e) hs c = false

-- whether the lines derive, the last one this sequent
abbrev pub derive : List (Rule TermTree) → List TermTree → TermTree → Bool
derive lines hs c = ends (derived samples facts [] lines) hs c

-- a type nat with an element z, two predicates P and Q, and the axiom Pz : P z
abbrev pub numbers : List Item
numbers =
    type_item (codes "nat") 0 ∷ const_item (codes "z") nat
    ∷ const_item (codes "P") (fun nat bool) ∷ const_item (codes "Q") (fun nat bool)
    ∷ axiom_item (codes "Pz") (app (con "P") (con "z")) ∷ []

-- what these items declare and state
abbrev pub over_numbers : Context
over_numbers = context_of empty numbers

-- typedef t 'a.. : P by Pz abs abs_t rep rep_t
abbrev pub typedef_t : List Chars → TermTree → Item
typedef_t params predicate =
    typedef_item (codes "t") params predicate (codes "Pz") (codes "abs_t") (codes "rep_t")

-- p --> q among the axioms
abbrev pub implication : List Item
implication =
    const_item (codes "p") bool ∷ const_item (codes "q") bool
    ∷ axiom_item (codes "pq") (implies p q) ∷ []

-- what these items declare and state
abbrev pub over_implication : Context
over_implication = context_of empty implication
