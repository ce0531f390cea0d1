-- Equations that are solved one after another.
use Rattle.std.proofs.Common.{◌≡◌, ℕ, zero, suc, ◌+◌, ◌<◌, List, [], ◌∷◌, ◌++◌, length, map, take, drop, get_or, refl, subst, sym, ap, ◌∙◌, append_assoc, arith}
use Rattle.lt_unify.specs.Tree.{Tree, IsBelow}
use Rattle.lt_unify.specs.Solutions.{IsMostGeneral, KeepsRelations, HasNoUnifier}
use Rattle.lt_unify.specs.Standing.{EquationsBelow}
use Rattle.lt_search_laws.specs.RelationTrees.{AllUnified}
use Rattle.lt_search_laws.specs.Slots.{IsSolvedBy, NoneUnifies}
use Rattle.lt_search_laws.proofs.Live.{step-solved, step-none}
use Rattle.lt_search.specs.ExpressionView.{expression_tree}
use Rattle.lt_search.specs.Solving.{equation_trees_of, GoesOn, CannotGoOn}
use Rattle.lt_search.specs.declared.expression.Equation.{Equation}

abbrev pub sides : Equation → Tree × Tree
sides e = (expression_tree e.left, expression_tree e.right)

pub split : (es : List Equation) (i : ℕ) (e : Equation) → i < length es → e ≡ get_or es i e → equation_trees_of es ≡ equation_trees_of (take i es) ++ sides e ∷ equation_trees_of (drop (suc i) es)
split [] i e l h = absurd (omega arith)
split (x ∷ es) zero e l h = ap (λ z. sides z ∷ equation_trees_of es) (sym h)
split (x ∷ es) (suc i) e l h = ap (λ z. sides x ∷ z) (split es i e (omega arith) h)

one-more : (es : List Equation) (i : ℕ) (e : Equation) → i < length es → e ≡ get_or es i e → equation_trees_of (take (suc i) es) ≡ equation_trees_of (take i es) ++ sides e ∷ []
one-more [] i e l h = absurd (omega arith)
one-more (x ∷ es) zero e l h = ap (λ z. sides z ∷ []) (sym h)
one-more (x ∷ es) (suc i) e l h = ap (λ z. sides x ∷ z) (one-more es i e (omega arith) h)

below-at : (n : ℕ) (done : List (Tree × Tree)) (a b : Tree) (rest : List (Tree × Tree)) → EquationsBelow n (done ++ (a, b) ∷ rest) → IsBelow n a × IsBelow n b
below-at n [] a b rest h = (h.0, h.1)
below-at n (d ∷ done) a b rest h = below-at n done a b rest h.2

module _ (es : List Equation) (i : ℕ) (e : Equation) (l : i < length es) (h : e ≡ get_or es i e) where
  pub item-below : (n m : ℕ) → m ≡ n → EquationsBelow n (equation_trees_of es) → IsBelow m (expression_tree e.left) × IsBelow m (expression_tree e.right)
  item-below n m p k = subst (λ z. IsBelow z (expression_tree e.left) × IsBelow z (expression_tree e.right)) (sym p)
      (below-at n (equation_trees_of (take i es)) (expression_tree e.left) (expression_tree e.right) (equation_trees_of (drop (suc i) es)) (subst (EquationsBelow n) (split es i e l h) k))

  pub goes-more : (old mid new : List (ℕ × Tree)) → GoesOn old (equation_trees_of (take i es)) mid → IsMostGeneral mid (expression_tree e.left) (expression_tree e.right) new → KeepsRelations mid (expression_tree e.left) (expression_tree e.right) new
      → GoesOn old (equation_trees_of (take (i + 1) es)) new
  goes-more old mid new g most keeps fs k =
      let on : suc i ≡ i + 1 = omega arith in
      let w = step-solved (fs ++ equation_trees_of (take i es)) mid (expression_tree e.left) (expression_tree e.right) new (g fs k) most keeps in
      let p = append_assoc fs (equation_trees_of (take i es)) (sides e ∷ []) ∙ ap (λ z. fs ++ z) (sym (one-more es i e l h) ∙ ap (λ z. equation_trees_of (take z es)) on) in
      subst (λ z. IsSolvedBy z new) p w

  pub cannot-more : (old mid : List (ℕ × Tree)) → GoesOn old (equation_trees_of (take i es)) mid → HasNoUnifier mid (expression_tree e.left) (expression_tree e.right) → CannotGoOn old (equation_trees_of es)
  cannot-more old mid g none fs k =
      let w = step-none (fs ++ equation_trees_of (take i es)) mid (expression_tree e.left) (expression_tree e.right) (equation_trees_of (drop (suc i) es)) (g fs k) none in
      let p = append_assoc fs (equation_trees_of (take i es)) (sides e ∷ equation_trees_of (drop (suc i) es)) ∙ ap (λ z. fs ++ z) (sym (split es i e l h)) in
      subst NoneUnifies p w
