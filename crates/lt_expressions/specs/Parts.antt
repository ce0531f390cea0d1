-- The parts of an expression, by the places of their nodes.
use Rattle.std.specs.Prelude.{◌≡◌, ℕ, suc, List, ◌<◌, ◌≤◌, [], length, take}
use Rattle.lt_expressions.specs.declared.rel.RelNode.{RelNode}
use Rattle.lt_expressions.specs.declared.rel.RelNode.TheVariants.{Con}
use Rattle.lt_expressions.specs.Layout.{forest}

-- The last expression that the nodes before a place make begins at another place.
pub record BeginsAt (nodes : List RelNode) (end start : ℕ) : Type 0 where
  pub before : start < end
  pub one : suc (length (forest [] (take start nodes))) ≡ length (forest [] (take end nodes))
  pub inside : (k : ℕ) → start < k → k ≤ end
      → length (forest [] (take start nodes)) < length (forest [] (take k nodes))

-- Both nodes are one constructor with the same type arguments and as many arguments.
abbrev pub HaveOneHead : RelNode → RelNode → Type 0
HaveOneHead (Con c ts ids) (Con d us places) =
    (c ≡ d) × (ts ≡ us) × (length ids ≡ length places)
HaveOneHead _ _ = ⊥
