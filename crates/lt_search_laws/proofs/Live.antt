-- What unification tells of a prefix.
use Rattle.std.proofs.Common.{◌≡◌, ℕ, zero, suc, ◌+◌, List, [], ◌∷◌, ◌++◌, Option, Some, None, slice_get, refl, subst, sym, ap, ◌∙◌, Bool, arith}
use Rattle.lt_definitions.specs.Types.{TypeTree, bool}
use Rattle.lt_definitions.specs.Terms.{implies}
use Rattle.lt_transport_definitions.specs.Relations.{Relation, equality, no_relations, Registry}
use Rattle.lt_transport_definitions.specs.Expressions.{right, equality_by, normal_equality, IsExpression, implication}
use Rattle.lt_transport_definitions.specs.Below.{Below}
use Rattle.lt_transport_definitions.specs.Correspondence.{ChosenStatement, statement_of}
use Rattle.lt_transport_definitions.specs.Search.{Top, equal, implied, Question, top_candidates, TopHolds}
use Rattle.lt_unify.specs.Tree.{Tree, Var, apply}
use Rattle.lt_unify.specs.Solutions.{solution, Solves, IsMostGeneral, HasNoUnifier, AllRelated, KeepsRelations}
use Rattle.lt_unify.proofs.Trees.{apply-same, apply-apply, general}
use Rattle.lt_transport_laws.specs.Statements.{IsRegistry}
use Rattle.lt_transport_laws.proofs.Equalities.{right-equality, equality-is}
use Rattle.lt_transport_laws.proofs.Meets.{equality-least}
use Rattle.lt_transport_laws.proofs.Assignments.{BelowIn}
use Rattle.lt_search_laws.specs.Equations.{under, reading, structure_at, choices_at, AllSolved}
use Rattle.lt_search_laws.specs.RelationTrees.{relation_tree, equation_trees, AllUnified}
use Rattle.lt_search_laws.specs.Slots.{numbered_variable, top_equation, chosen_top, first_slot, whole_expression, prefix_equations, SidesHold, IsSolvedBy, NoneUnifies, put_equality, IsTop, IsPosed, IsResolved}
use Rattle.lt_search_laws.proofs.Codes.{tree-under, IsClosed, expression-closed, under-closed, tree-injective}
use Rattle.lt_search_laws.proofs.Parts.{tree_type, same_right, simplifiable, solution-typed, IsFitting, Comes, typed-expression}
use Rattle.lt_search_laws.proofs.Systems.{IsNumbered, IsProper, solved-left, solved-right, solved-both, solved-corresponds, gives-left, gives-right, node_values, node_values-length, rule_values, corresponds-solved}
use Rattle.lt_search_laws.proofs.Fitting.{equality-fits, slots-proper, expression-comes, AllAlike, alike-both, structure-alike, choices-alike, alike-related, fit-append, reading-assigned, assigned-sides, sides-below, reading-below, under-below, correspondence-fits, given_or, given_or-gives, given-fits}
use Rattle.lt_search_laws.proofs.Over.{Over}

-- A run of unification.

pub start-solved : IsSolvedBy [] []
start-solved = record { general = λ s. (λ h. tt, λ h. tt); related = λ p ok h. tt }

unified-left : (s : ℕ → Tree) (es fs : List (Tree × Tree)) → AllUnified s (es ++ fs) → AllUnified s es
unified-left s [] fs h = tt
unified-left s (e ∷ es) fs h = (h.0, unified-left s es fs h.1)

unified-right : (s : ℕ → Tree) (es fs : List (Tree × Tree)) → AllUnified s (es ++ fs) → AllUnified s fs
unified-right s [] fs h = h
unified-right s (e ∷ es) fs h = unified-right s es fs h.1

unified-both : (s : ℕ → Tree) (es fs : List (Tree × Tree)) → AllUnified s es → AllUnified s fs → AllUnified s (es ++ fs)
unified-both s [] fs h k = k
unified-both s (e ∷ es) fs h k = (h.0, unified-both s es fs h.1 k)

related-left : (p : Tree → Tree → Bool) (es fs : List (Tree × Tree)) → AllRelated p (es ++ fs) → AllRelated p es
related-left p [] fs h = tt
related-left p (e ∷ es) fs h = (h.0, related-left p es fs h.1)

related-right : (p : Tree → Tree → Bool) (es fs : List (Tree × Tree)) → AllRelated p (es ++ fs) → AllRelated p fs
related-right p [] fs h = h
related-right p (e ∷ es) fs h = related-right p es fs h.1

-- one more equation
pub step-solved : (es : List (Tree × Tree)) (old : List (ℕ × Tree)) (a b : Tree) (new : List (ℕ × Tree)) → IsSolvedBy es old → IsMostGeneral old a b new → KeepsRelations old a b new → IsSolvedBy (es ++ (a, b) ∷ []) new
step-solved es old a b new h most keeps = record {
  general = λ s. (
    (λ k. let u = (most s).0 k in unified-both s es ((a, b) ∷ []) ((h.general s).0 u.0) (u.1, tt)),
    (λ k. (most s).1 ((h.general s).1 (unified-left s es ((a, b) ∷ []) k), (unified-right s es ((a, b) ∷ []) k).0)),
  );
  related = λ p ok k. keeps p ok (h.related p ok (related-left p es ((a, b) ∷ []) k)) (related-right p es ((a, b) ∷ []) k).0;
}

pub step-none : (es : List (Tree × Tree)) (old : List (ℕ × Tree)) (a b : Tree) (rest : List (Tree × Tree)) → IsSolvedBy es old → HasNoUnifier old a b → NoneUnifies (es ++ (a, b) ∷ rest)
step-none es old a b rest h none s k = none s ((h.general s).1 (unified-left s es ((a, b) ∷ rest) k)) (unified-right s es ((a, b) ∷ rest) k).0

-- Trees and expressions.

pub solved-unified : (s : ℕ → Relation) (es : List (Relation × Relation)) → AllSolved s es → AllUnified (λ n. relation_tree (s n)) (equation_trees es)
solved-unified s [] h = tt
solved-unified s (e ∷ es) h = (sym (tree-under s e.0) ∙ ap relation_tree h.0 ∙ tree-under s e.1, solved-unified s es h.1)

pub unified-solved : (s : ℕ → Relation) → ((n : ℕ) → IsClosed (s n)) → (es : List (Relation × Relation)) → AllUnified (λ n. relation_tree (s n)) (equation_trees es) → AllSolved s es
unified-solved s c [] h = tt
unified-solved s c (e ∷ es) h =
    (tree-injective (under s e.0) (under s e.1) (under-closed s c e.0) (under-closed s c e.1) (tree-under s e.0 ∙ h.0 ∙ sym (tree-under s e.1)), unified-solved s c es h.1)

unified-after : (t s u : ℕ → Tree) → ((n : ℕ) → u n ≡ apply t (s n)) → (es : List (Tree × Tree)) → AllUnified s es → AllUnified u es
unified-after t s u h [] k = tt
unified-after t s u h (e ∷ es) k =
    let w : (a : Tree) → apply u a ≡ apply t (apply s a) = (λ a. apply-same u (λ n. apply t (s n)) a h ∙ sym (apply-apply t s a)) in
    (w e.0 ∙ ap (apply t) k.0 ∙ sym (w e.1), unified-after t s u h es k.1)

-- The top.

pub record TopIs (G : Registry) (t : Relation) : Type 0 where
  pub fixed : (s : ℕ → Relation) → under s t ≡ t
  pub comes : Comes G t bool

top-equality : (G : Registry) → IsRegistry G → TopIs G (equality bool)
top-equality G ok = record { fixed = λ s. refl; comes = record { expression = ap (λ o. equality_by o bool no_relations) ok.truth; right_is = refl } }

top-implication : (G : Registry) → IsExpression G implication × (right G implication ≡ bool) → TopIs G implication
top-implication G h = record { fixed = λ s. refl; comes = record { expression = h.0; right_is = h.1 } }

top-is : (G : Registry) → IsRegistry G → IsExpression G implication × (right G implication ≡ bool) → (g : Top) (i : ℕ) (t : Relation) → slice_get (top_candidates g) i ≡ Some t → TopIs G t
top-is G ok imp equal zero t h = let p : equality bool ≡ t = cc (h) in subst (TopIs G) p (top-equality G ok)
top-is G ok imp equal (suc zero) t h = absurd (cc (h))
top-is G ok imp equal (suc (suc i)) t h = absurd (cc (h))
top-is G ok imp implied zero t h = let p : implication ≡ t = cc (h) in subst (TopIs G) p (top-implication G imp)
top-is G ok imp implied (suc zero) t h = let p : equality bool ≡ t = cc (h) in subst (TopIs G) p (top-equality G ok)
top-is G ok imp implied (suc (suc zero)) t h = absurd (cc (h))
top-is G ok imp implied (suc (suc (suc i))) t h = absurd (cc (h))

-- One prefix.

module _ (q : Question) (prefix : List ℕ) (K : ChosenStatement) (top : Option ℕ) (τ : ℕ → TypeTree) (posed : IsPosed q prefix K top τ) where
  abbrev pub whole : Relation
  whole = whole_expression K

  abbrev pub structure : List (Relation × Relation)
  structure = structure_at numbered_variable 0 [] (statement_of K)

  abbrev pub choices : List (Relation × Relation)
  choices = choices_at q.registry q.signature numbered_variable 0 (first_slot K) K

  abbrev pub tops : List (Relation × Relation)
  tops = top_equation (chosen_top q.top top) whole

  pub numbered-ok : IsNumbered numbered_variable
  numbered-ok s n = refl

  pub proper : IsProper q.registry [] K
  proper = slots-proper q.registry q.signature q.rules posed.rules τ 0 [] [] K bool posed.typed_nodes posed.candidates (λ x t h. absurd (cc (h)))

  pub top-of : (i : ℕ) (t : Relation) → slice_get (top_candidates q.top) i ≡ Some t → TopIs q.registry t
  top-of i t h = top-is q.registry posed.registry posed.implies q.top i t h

  pub record OverSolved (v : Over q K top) : Type 0 where
    pub by : ℕ → Relation
    pub fits : IsFitting q.registry τ by
    pub reads : reading by 0 (first_slot K) K ≡ v.assignment
    pub solved : AllSolved by (prefix_equations q K top)

  pub top-solved : (s : ℕ → Relation) (e : Relation) (o : Option ℕ) → under s whole ≡ e → TopHolds q.top o e → AllSolved s (top_equation (chosen_top q.top o) whole)
  top-solved s e None h k = tt
  top-solved s e (Some i) h k = subst (λ z. AllSolved s (top_equation z whole)) (sym k) (h ∙ sym ((top-of i e k).fixed s), tt)

  pub over-solved : (v : Over q K top) → OverSolved v
  over-solved v =
      let G = q.registry in
      let d : ℕ → Relation = (λ k. normal_equality G (τ k)) in
      let vs = node_values G q.signature [] K v.assignment v.expression v.corresponds in
      let ws = rule_values K v.assignment in
      let l = node_values-length G q.signature [] K v.assignment v.expression v.corresponds in
      let f = correspondence-fits G posed.registry q.signature q.rules posed.rules τ 0 (first_slot K) [] [] K bool posed.typed_nodes posed.typed_choices posed.candidates tt v.assignment v.expression v.assigned v.corresponds in
      let s = given_or d (vs ++ ws) in
      let g = given_or-gives d (vs ++ ws) in
      let r = corresponds-solved G q.signature s numbered_variable numbered-ok 0 (first_slot K) [] [] K v.assignment v.expression refl proper v.assigned v.corresponds
      (gives-left s 0 vs ws g) (gives-right s 0 (first_slot K) vs ws (omega arith) g) in
      record {
        by = s;
        fits = given-fits G posed.registry τ (vs ++ ws) (fit-append G τ 0 (first_slot K) vs ws (omega arith) f.each f.picked);
        reads = r.reads;
        solved = solved-both s structure (choices ++ tops) r.structured (solved-both s choices tops r.solved (top-solved s v.expression top r.whole v.top_holds));
      }

  pub none-over : NoneUnifies (equation_trees (prefix_equations q K top)) → Over q K top → ⊥
  none-over none v = let s = over-solved v in none (λ n. relation_tree (s.by n)) (solved-unified s.by (prefix_equations q K top) s.solved)

  module _ (bs : List (ℕ × Tree)) (r : ℕ → Relation) (is : IsResolved (equation_trees (prefix_equations q K top)) bs r) where
    abbrev pub equalities : ℕ → Relation
    equalities k = normal_equality q.registry (τ k)

    abbrev pub least : ℕ → Relation
    least = put_equality q.registry τ r

    pub top-alike : (o : Option ℕ) → AllAlike q.registry equalities (top_equation (chosen_top q.top o) whole)
    top-alike None = tt
    top-alike (Some i) = at (slice_get (top_candidates q.top) i) refl
      where
        at : (o : Option Relation) → slice_get (top_candidates q.top) i ≡ o → AllAlike q.registry equalities (top_equation o whole)
        at None h = tt
        at (Some t) h =
            let k = top-of i t h in
            let e = expression-comes q.registry q.signature τ equalities numbered_variable (equality-fits q.registry posed.registry τ) numbered-ok 0 [] [] (statement_of K) bool posed.typed_nodes tt in
            ((bool, e, subst (λ z. Comes q.registry z bool) (sym (k.fixed equalities)) k.comes), tt)

    pub least-fits : IsFitting q.registry τ least
    least-fits =
        let G = q.registry in
        let fit = equality-fits G posed.registry τ in
        let alike = alike-both G equalities structure (choices ++ tops)
        (structure-alike G q.signature τ equalities numbered_variable fit numbered-ok 0 [] [] (statement_of K) bool posed.typed_nodes tt)
        (alike-both G equalities choices tops
        (choices-alike G posed.registry q.signature q.rules posed.rules τ equalities numbered_variable fit numbered-ok 0 (first_slot K) [] K bool posed.typed_nodes posed.typed_choices posed.candidates)
        (top-alike top)) in
        let respects = is.found_for.related (same_right G τ) (simplifiable G τ) (alike-related G τ equalities fit (prefix_equations q K top) alike) in
        let comes : (n : ℕ) → Comes G (least n) (τ n) =
        (λ n. typed-expression G τ equalities fit (r n) (τ n) (ap (tree_type G τ) (is.resolved n) ∙ solution-typed G τ bs respects n)) in
        record { expressions = λ n. (comes n).expression; types = λ n. (comes n).right_is }

    pub least-solved : AllSolved least (prefix_equations q K top)
    least-solved =
        let e : ℕ → Tree = (λ n. relation_tree (equalities n)) in
        unified-solved least (λ n. expression-closed q.registry (least n) (least-fits.expressions n)) (prefix_equations q K top)
        (unified-after e (solution bs) (λ n. relation_tree (least n)) (λ n. tree-under equalities (r n) ∙ ap (apply e) (is.resolved n)) (equation_trees (prefix_equations q K top))
        ((is.found_for.general (solution bs)).0 is.solves))

    pub top-there : (o : Option ℕ) → IsTop q.top o → AllSolved least (top_equation (chosen_top q.top o) whole) → TopHolds q.top o (under least whole)
    top-there None w h = tt
    top-there (Some i) w h =
        let k : AllSolved least (top_equation (Some w.0) whole) = subst (λ z. AllSolved least (top_equation z whole)) w.1 h in
        w.1 ∙ ap Some (sym (k.0 ∙ (top-of i w.0 w.1).fixed least))

    abbrev pub over-least : SidesHold q.registry K (reading least 0 (first_slot K) K) → Over q K top
    over-least sides = record {
      assignment = reading least 0 (first_slot K) K;
      expression = under least whole;
      assigned = reading-assigned q.registry q.signature τ least least-fits 0 (first_slot K) [] K bool posed.typed_nodes posed.typed_choices sides;
      corresponds = solved-corresponds q.registry q.signature least numbered_variable numbered-ok 0 (first_slot K) [] K proper (solved-left least structure (choices ++ tops) least-solved)
          (solved-left least choices tops (solved-right least structure (choices ++ tops) least-solved));
      top_holds = top-there top posed.top_there (solved-right least choices tops (solved-right least structure (choices ++ tops) least-solved));
    }

    pub least-below : (v : Over q K top) → BelowIn q.registry K (reading least 0 (first_slot K) K) v.assignment
    least-below v =
        let G = q.registry in
        let s = over-solved v in
        let t : ℕ → Tree = (λ n. relation_tree (s.by n)) in
        let k : Solves t bs = (is.found_for.general t).1 (solved-unified s.by (prefix_equations q K top) s.solved) in
        let closed : (n : ℕ) → IsClosed (s.by n) = (λ n. expression-closed G (s.by n) (s.fits.expressions n)) in
        let same : (n : ℕ) → s.by n ≡ under s.by (r n) = (λ n. tree-injective (s.by n) (under s.by (r n)) (closed n) (under-closed s.by closed (r n))
        (is.general_of t k (Var n) ∙ ap (apply t) (sym (is.resolved n)) ∙ sym (tree-under s.by (r n)))) in
        let one : (n : ℕ) → Below G (equalities n) (s.by n) = (λ n. equality-least G (equalities n) (s.by n)
        (right-equality G posed.registry (τ n) ∙ sym (s.fits.types n)) (equality-is G posed.registry (τ n))) in
        let each : (n : ℕ) → Below G (least n) (s.by n) = (λ n. subst (Below G (least n)) (sym (same n)) (under-below G equalities s.by one (r n))) in
        subst (BelowIn G K (reading least 0 (first_slot K) K)) s.reads (reading-below G least s.by each 0 (first_slot K) K)

    pub over-sides : Over q K top → SidesHold q.registry K (reading least 0 (first_slot K) K)
    over-sides v = sides-below q.registry K (reading least 0 (first_slot K) K) v.assignment (least-below v) (assigned-sides q.registry q.signature K v.assignment v.assigned)
