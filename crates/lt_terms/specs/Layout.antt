-- How a term lies in a vector: its nodes, children before parents and from the left.
use Rattle.std.specs.Prelude.{◌≡◌, ℕ, ◌+◌, List, [], ◌∷◌, ◌++◌, ◌≤◌, length, drop}
use Rattle.lt_terms.specs.declared.term.TermNode.{TermNode}
use Rattle.lt_terms.specs.declared.term.TermNode.TheVariants.{Free, Bound, Const, App, Lam}
use Rattle.lt_definitions.specs.Types.{Chars, TypeTree}
use Rattle.lt_definitions.specs.Terms.{TermTree, free_variable, bound_name, constant, application, abstraction}

-- how many nodes lie below the root, and how many in all
abbrev pub under : TermTree → ℕ
under (free_variable x t) = 0
under (bound_name x) = 0
under (constant c ts) = 0
under (application f a) = (under f + 1) + (under a + 1)
under (abstraction x t b) = under b + 1

abbrev pub term_size : TermTree → ℕ
term_size t = under t + 1

-- the nodes of a term that lies from a place on
abbrev pub term_nodes : ℕ → TermTree → List TermNode
term_nodes from (free_variable x t) = Free x t ∷ []
term_nodes from (bound_name x) = Bound x ∷ []
term_nodes from (constant c ts) = Const c ts ∷ []
term_nodes from (application f a) =
    term_nodes from f ++ (term_nodes (from + (under f + 1)) a ++ App (from + under f) (from + (under f + 1) + under a) ∷ [])
term_nodes from (abstraction x t b) = term_nodes from b ++ Lam x t (from + under b) ∷ []

-- The last two of some terms, the last one first, become an application; the last one becomes an abstraction.
abbrev pub applied : List TermTree → List TermTree
applied (a ∷ f ∷ before) = application f a ∷ before
applied _ = []

abbrev pub abstracted : Chars → TypeTree → List TermTree → List TermTree
abstracted x ty (b ∷ before) = abstraction x ty b ∷ before
abstracted x ty [] = []

-- what a node makes of the terms before it, the last one first
abbrev pub grow : List TermTree → TermNode → List TermTree
grow before (Free x t) = free_variable x t ∷ before
grow before (Bound x) = bound_name x ∷ before
grow before (Const c ts) = constant c ts ∷ before
grow before (App _ _) = applied before
grow before (Lam x t _) = abstracted x t before

-- whether a node has its children before it
abbrev pub HasRoom : List TermTree → TermNode → Type 0
HasRoom before (App i j) = 2 ≤ length before
HasRoom before (Lam x t i) = 1 ≤ length before
HasRoom before _ = Unit {0}

-- whether a node has no children
abbrev pub IsLeaf : TermNode → Type 0
IsLeaf (App i j) = ⊥
IsLeaf (Lam x t i) = ⊥
IsLeaf _ = Unit {0}

-- the terms that nodes make, the last one first
abbrev pub forest : List TermTree → List TermNode → List TermTree
forest before [] = before
forest before (n ∷ ns) = forest (grow before n) ns

abbrev pub first : List TermTree → TermTree
first [] = bound_name []
first (t ∷ _) = t

-- the term that nodes hold
abbrev pub term_of_nodes : List TermNode → TermTree
term_of_nodes nodes = first (forest [] nodes)

-- Terms that lie one after another, the last one first: their number of nodes, their nodes and their roots.
abbrev pub sizes : List TermTree → ℕ
sizes [] = 0
sizes (t ∷ before) = sizes before + (under t + 1)

abbrev pub stacked : List TermTree → List TermNode
stacked [] = []
stacked (t ∷ before) = stacked before ++ term_nodes (sizes before) t

abbrev pub roots : List TermTree → List ℕ
roots [] = []
roots (t ∷ before) = roots before ++ (sizes before + under t) ∷ []

-- The last term's root is the last node, so the roots of those before it are kept.
pub record IsStack (nodes : List TermNode) (places : List ℕ) (terms : List TermTree) : Type 0 where
  pub laid : nodes ≡ stacked terms
  pub at : places ≡ roots (drop 1 terms)
