-- What all variables are resolved to, from a list for those below their number.
use Rattle.std.proofs.Common.{◌≡◌, ℕ, zero, suc, ◌+◌, ◌<◌, List, [], ◌∷◌, map, refl, sym, ap, ◌∙◌, inl, inr, arith}
use Rattle.lt_definitions.specs.Types.{bool}
use Rattle.lt_unify.specs.Tree.{Tree, Var, apply}
use Rattle.lt_unify.specs.Solutions.{solution}
use Rattle.lt_unify.specs.Standing.{BindingsBelow}
use Rattle.lt_transport_definitions.specs.Relations.{Relation, relation_variable}
use Rattle.lt_search_laws.specs.RelationTrees.{relation_tree}
use Rattle.lt_search_laws.proofs.Beyond.{solution-beyond}
use Rattle.lt_search_laws.proofs.Walking.{less-or-more}
use Rattle.lt_search.specs.ExpressionView.{relation_of, expression_tree}
use Rattle.lt_search.specs.declared.expression.Expression.{Expression}

-- so many variables from one on
abbrev pub variables_from : ℕ → ℕ → List Tree
variables_from n zero = []
variables_from n (suc k) = Var n ∷ variables_from (suc n) k

abbrev pub pick : List Expression → ℕ → Relation → Relation
pick [] i d = d
pick (r ∷ rs) zero d = relation_of r
pick (r ∷ rs) (suc i) d = pick rs i d

picked : (bs : List (ℕ × Tree)) (rs : List Expression) (from count : ℕ) → map expression_tree rs ≡ map (apply (solution bs)) (variables_from from count) → (i : ℕ) (d : Relation) → i < count
    → relation_tree (pick rs i d) ≡ solution bs (from + i)
picked bs rs from zero h i d l = absurd (omega arith)
picked bs [] from (suc count) h i d l = absurd (cc (h))
picked bs (r ∷ rs) from (suc count) h zero d l =
    let p : expression_tree r ≡ solution bs from = cc (h) in
    let e : from ≡ from + 0 = omega arith in p ∙ ap (solution bs) e
picked bs (r ∷ rs) from (suc count) h (suc i) d l =
    let p : map expression_tree rs ≡ map (apply (solution bs)) (variables_from (suc from) count) = cc (h) in
    let e : suc from + i ≡ from + suc i = omega arith in picked bs rs (suc from) count p i d (omega arith) ∙ ap (solution bs) e

left_out : (bs : List (ℕ × Tree)) (rs : List Expression) (from count : ℕ) → map expression_tree rs ≡ map (apply (solution bs)) (variables_from from count) → (i : ℕ) (d : Relation) → pick rs (i + count) d ≡ d
left_out bs [] from count h i d = refl
left_out bs (r ∷ rs) from zero h i d = absurd (cc (h))
left_out bs (r ∷ rs) from (suc count) h i d =
    let p : map expression_tree rs ≡ map (apply (solution bs)) (variables_from (suc from) count) = cc (h) in
    let e : i + suc count ≡ suc (i + count) = omega arith in ap (λ n. pick (r ∷ rs) n d) e ∙ left_out bs rs (suc from) count p i d

pub all-resolved : (bs : List (ℕ × Tree)) (rs : List Expression) (count : ℕ) → BindingsBelow count bs → map expression_tree rs ≡ map (apply (solution bs)) (variables_from 0 count)
    → (n : ℕ) → relation_tree (pick rs n (relation_variable n bool)) ≡ solution bs n
all-resolved bs rs count below h n = elim (less-or-more n count) [
  | inl l ↦ picked bs rs 0 count h n (relation_variable n bool) l ∙ ap (solution bs) (plain n)
  | inr d ↦ (let e = d.1 in
      ap (λ m. relation_tree (pick rs m (relation_variable n bool))) e ∙ ap relation_tree (left_out bs rs 0 count h d.0 (relation_variable n bool)) ∙ sym (solution-beyond count bs below n (omega arith)))
]
  where
    plain : (n : ℕ) → 0 + n ≡ n
    plain n = omega arith
