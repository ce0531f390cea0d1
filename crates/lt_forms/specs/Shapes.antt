-- Parts of terms among the nodes of these, and what they are made of.
use Rattle.std.specs.Prelude.{◌≡◌, ℕ, ◌+◌, ◌<◌, ◌^◌, List, length}
use Rattle.lt_definitions.specs.Terms.{TermTree, free_variable, bound_name, constant, application, abstraction}
use Rattle.lt_terms.specs.declared.term.TermNode.{TermNode}
use Rattle.lt_terms.specs.Layout.{term_nodes, term_of_nodes, term_size}
use Rattle.lt_forms.specs.declared.part.Shape.{Shape}
use Rattle.lt_forms.specs.declared.part.Shape.TheVariants.{Free, Bound, Const, App, Lam}

-- these are the nodes of a term that lies from a place on
pub record IsPart (from : ℕ) (nodes : List TermNode) : Type 0 where
  pub laid : nodes ≡ term_nodes from (term_of_nodes nodes)
  pub bounded : from + length nodes < 2 ^ 63

-- the term that is made of these parts
abbrev pub tree_of : Shape → TermTree
tree_of (Free x ty) = free_variable x.now ty.now
tree_of (Bound x) = bound_name x.now
tree_of (Const c ts) = constant c.now ts.now
tree_of (App f a) = application f a
tree_of (Lam x ty b) = abstraction x.now ty.now b

-- the parts have fewer nodes than so many
abbrev pub AreSmaller : ℕ → Shape → Type 0
AreSmaller n (App f a) = (term_size f < n) × (term_size a < n)
AreSmaller n (Lam x ty b) = term_size b < n
AreSmaller n _ = Unit {0}
