-- Bindings that were found for equations, when further ones come.
use Rattle.std.specs.Prelude.{ℕ, List, ◌++◌, map}
use Rattle.lt_unify.specs.Tree.{Tree, apply}
use Rattle.lt_unify.specs.Solutions.{solution}
use Rattle.lt_search.specs.declared.expression.Expression.{Expression}
use Rattle.lt_search_laws.specs.Slots.{IsSolvedBy, NoneUnifies}
use Rattle.lt_search.specs.ExpressionView.{expression_tree}
use Rattle.lt_search.specs.declared.expression.Equation.{Equation}

-- equations as equations between trees
abbrev pub equation_trees_of : List Equation → List (Tree × Tree)
equation_trees_of es = map (λ e. (expression_tree e.left, expression_tree e.right)) es

-- bindings that were found for some equations are followed by bindings that are found for these and the further ones
abbrev pub GoesOn : List (ℕ × Tree) → List (Tree × Tree) → List (ℕ × Tree) → Type 0
GoesOn old more new = (es : List (Tree × Tree)) → IsSolvedBy es old → IsSolvedBy (es ++ more) new

-- these and the further ones have no solution
abbrev pub CannotGoOn : List (ℕ × Tree) → List (Tree × Tree) → Type 0
CannotGoOn old more = (es : List (Tree × Tree)) → IsSolvedBy es old → NoneUnifies (es ++ more)

-- the trees of expressions with the solution of bindings applied
abbrev pub resolved_trees : List (ℕ × Tree) → List Expression → List Tree
resolved_trees bs rs = map (λ r. apply (solution bs) (expression_tree r)) rs
