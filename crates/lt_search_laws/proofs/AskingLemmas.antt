-- The prefix that numbers name, and its equations.
use Rattle.std.proofs.Common.{◌≡◌, ℕ, zero, suc, ◌+◌, ◌≤◌, List, [], ◌∷◌, ◌++◌, length, Option, Some, None, slice_get, true, IsSome, refl, subst, sym, ap, ◌∙◌, arith, append_assoc, append-nil}
use Rattle.std.proofs.lemmas.List.{length-append}
use Rattle.std.proofs.lemmas.Option.{slice_get_within}
use Rattle.lt_definitions.specs.Types.{Chars, TypeTree, bool}
use Rattle.lt_definitions.specs.Terms.{is_closed}
use Rattle.lt_definitions.specs.Typing.{HasType}
use Rattle.lt_transport_definitions.specs.Relations.{Relation}
use Rattle.lt_transport_definitions.specs.Candidates.{occurrences, candidates}
use Rattle.lt_transport_definitions.specs.Correspondence.{statement_of}
use Rattle.lt_transport_definitions.specs.Search.{Question, Solution, top_candidates, AreChoices}
use Rattle.lt_unify.specs.Tree.{Tree}
use Rattle.lt_unify.specs.Solutions.{IsMostGeneral, HasNoUnifier, KeepsRelations}
use Rattle.lt_search_laws.specs.RelationTrees.{relation_tree, equation_trees}
use Rattle.lt_search_laws.specs.Equations.{size, rule_slots, expression_at, structure_at, choices_at}
use Rattle.lt_search_laws.specs.Slots.{numbered_variable, top_equation, chosen_top, IsTop, HasNodes, HasChoices, IsPosed, IsSolvedBy, NoneUnifies}
use Rattle.lt_search_laws.specs.Choosing.{choose, number_behind, places, candidate_equation}
use Rattle.lt_search_laws.specs.Asking.{IsAsked, chosen_of, top_of, equations_of, PrefixesGrow}
use Rattle.lt_search_laws.proofs.ChoosingLemmas.{choose-is, choose-size, choices-name, choose-candidates, choose-filled, choose-grown, choose-past}
use Rattle.lt_search_laws.proofs.SlotTypes.{slots-there}
use Rattle.lt_search_laws.proofs.Live.{step-solved, step-none}
use Rattle.lt_search_laws.proofs.Answering.{none-unifies-none}

some-is : (o : Option Relation) → IsSome o → (t : Relation) × (o ≡ Some t)
some-is None h = absurd (cc (h))
some-is (Some t) h = (t, refl)

top-named : (q : Question) (os : List (Chars × List TypeTree)) (p : List ℕ) → AreChoices q os p → IsTop q.top (number_behind (length os) p)
top-named q os [] h = tt
top-named q [] (i ∷ p) h = some-is (slice_get (top_candidates q.top) i) h.0
top-named q (o ∷ os) (i ∷ p) h = top-named q os p h.1

prefix-posed : (q : Question) → IsAsked q → (p : List ℕ) → AreChoices q (occurrences q.statement) p → (τ : ℕ → TypeTree)
    → HasNodes q.signature τ 0 [] q.statement bool → HasChoices τ (size q.statement) (chosen_of q p) → IsPosed q p (chosen_of q p) (top_of q p) τ
prefix-posed q a p h τ nodes choices =
    let is = choose-is q.rules q.statement p a.closed in
    record {
      registry = a.sound.is_registry;
      implies = a.implies;
      rules = a.sound.are_typed;
      of_statement = is;
      candidates = choose-candidates q.rules q.statement p (choices-name q (occurrences q.statement) p h);
      top_there = top-named q (occurrences q.statement) p h;
      filled = choose-filled q p h;
      typed_nodes = subst (λ t. HasNodes q.signature τ 0 [] t bool) (sym is) nodes;
      typed_choices = subst (λ n. HasChoices τ n (chosen_of q p)) (sym (choose-size q.rules q.statement p)) choices;
    }

behind-none : (n : ℕ) (p : List ℕ) → length p ≤ n → number_behind n p ≡ None
behind-none n [] l = refl
behind-none zero (i ∷ p) l = absurd (omega arith)
behind-none (suc n) (i ∷ p) l = behind-none n p (omega arith)

behind-last : (n : ℕ) (p : List ℕ) (i : ℕ) → length p ≡ n → number_behind n (p ++ i ∷ []) ≡ Some i
behind-last zero [] i l = refl
behind-last zero (j ∷ p) i l = absurd (omega arith)
behind-last (suc n) [] i l = absurd (omega arith)
behind-last (suc n) (j ∷ p) i l = behind-last n p i (omega arith)

at-end : {A : Type 0} (xs ys zs : List A) → xs ++ ((ys ++ zs) ++ []) ≡ (xs ++ (ys ++ [])) ++ zs
at-end xs ys zs = ap (λ u. xs ++ u) (append-nil (ys ++ zs)) ∙ sym (append_assoc xs ys zs) ∙ ap (λ u. (xs ++ u) ++ zs) (sym (append-nil ys))

behind-all : {A : Type 0} (xs ys zs : List A) → xs ++ (ys ++ zs) ≡ (xs ++ (ys ++ [])) ++ zs
behind-all xs ys zs = sym (append_assoc xs ys zs) ∙ ap (λ u. (xs ++ u) ++ zs) (sym (append-nil ys))

-- the equations of a prefix whose top isn't chosen
module _ (q : Question) (closed : is_closed q.statement ≡ true) where
  abbrev structure : List (Relation × Relation)
  structure = structure_at numbered_variable 0 [] q.statement

  abbrev chosen : List ℕ → List (Relation × Relation)
  chosen p = choices_at q.registry q.signature numbered_variable 0 (size q.statement) (chosen_of q p)

  without-top : (p : List ℕ) → top_of q p ≡ None → equations_of q p ≡ structure ++ (chosen p ++ [])
  without-top p none =
      let is = choose-is q.rules q.statement p closed in
      (λ j. structure_at numbered_variable 0 [] (is j)
      ++ (choices_at q.registry q.signature numbered_variable 0 (size (is j)) (chosen_of q p)
      ++ top_equation (chosen_top q.top (none j)) (expression_at numbered_variable 0 [] (is j))))

  occurrence-grown : (p : List ℕ) (i n : ℕ) (c : Chars) (ts : List TypeTree)
      → slice_get (places 0 q.statement) (length p) ≡ Some n → slice_get (occurrences q.statement) (length p) ≡ Some (c, ts)
      → equations_of q (p ++ i ∷ []) ≡ equations_of q p
      ++ candidate_equation q.registry q.signature n (size q.statement + rule_slots (chosen_of q p)) (slice_get (candidates q.rules c ts) i) c ts ∷ []
  occurrence-grown p i n c ts h g =
      let N = length (occurrences q.statement) in
      let l = slice_get_within (occurrences q.statement) (length p) (c, ts) g in
      let m = length-append p (i ∷ []) in
      let e = candidate_equation q.registry q.signature n (size q.statement + rule_slots (chosen_of q p)) (slice_get (candidates q.rules c ts) i) c ts ∷ [] in
      let new = without-top (p ++ i ∷ []) (behind-none N (p ++ i ∷ []) (omega arith)) in
      let old = without-top p (behind-none N p (omega arith)) in
      let grown : chosen (p ++ i ∷ []) ≡ chosen p ++ e = choose-grown q.registry q.signature q.rules q.statement 0 (size q.statement) p i n c ts h g in
      new ∙ ap (λ u. structure ++ (u ++ [])) grown ∙ at-end structure (chosen p) e ∙ ap (λ u. u ++ e) (sym old)

  top-grown : (p : List ℕ) (i : ℕ) (t : Relation) → length p ≡ length (occurrences q.statement) → slice_get (top_candidates q.top) i ≡ Some t
      → equations_of q (p ++ i ∷ []) ≡ equations_of q p ++ (expression_at numbered_variable 0 [] q.statement, t) ∷ []
  top-grown p i t l h =
      let N = length (occurrences q.statement) in
      let is = choose-is q.rules q.statement (p ++ i ∷ []) closed in
      let past : chosen_of q (p ++ i ∷ []) ≡ chosen_of q p = choose-past q.rules q.statement p i (omega arith) in
      let o : chosen_top q.top (top_of q (p ++ i ∷ [])) ≡ Some t = ap (chosen_top q.top) (behind-last N p i l) ∙ h in
      let e : List (Relation × Relation) = (expression_at numbered_variable 0 [] q.statement, t) ∷ [] in
      let old = without-top p (behind-none N p (omega arith)) in
      let new : equations_of q (p ++ i ∷ []) ≡ structure ++ (chosen p ++ e) = (λ j. structure_at numbered_variable 0 [] (is j)
      ++ (choices_at q.registry q.signature numbered_variable 0 (size (is j)) (past j)
      ++ top_equation (o j) (expression_at numbered_variable 0 [] (is j)))) in
      new ∙ behind-all structure (chosen p) e ∙ ap (λ u. u ++ e) (sym old)

prefix-posed-so : (q : Question) → IsAsked q → (p : List ℕ) → AreChoices q (occurrences q.statement) p
    → (τ : ℕ → TypeTree) × IsPosed q p (chosen_of q p) (top_of q p) τ
prefix-posed-so q a p h =
    let is = choose-is q.rules q.statement p a.closed in
    let w = slots-there q.signature (chosen_of q p) bool (subst (λ t. HasType q.signature [] t bool) (sym is) a.boolean) in (
      w.0,
      record {
        registry = a.sound.is_registry;
        implies = a.implies;
        rules = a.sound.are_typed;
        of_statement = is;
        candidates = choose-candidates q.rules q.statement p (choices-name q (occurrences q.statement) p h);
        top_there = top-named q (occurrences q.statement) p h;
        filled = choose-filled q p h;
        typed_nodes = w.1;
        typed_choices = w.2;
      },
    )

-- one equation more, as trees
tree-more : (es : List (Relation × Relation)) (e : Relation × Relation) → equation_trees (es ++ e ∷ []) ≡ equation_trees es ++ (relation_tree e.0, relation_tree e.1) ∷ []
tree-more [] e = refl
tree-more (x ∷ es) e = ap (λ z. (relation_tree x.0, relation_tree x.1) ∷ z) (tree-more es e)

next-dead : (q : Question) → IsAsked q → (p : List ℕ) (i : ℕ) (e : Relation × Relation) (bs : List (ℕ × Tree))
    → AreChoices q (occurrences q.statement) (p ++ i ∷ []) → equations_of q (p ++ i ∷ []) ≡ equations_of q p ++ e ∷ []
    → IsSolvedBy (equation_trees (equations_of q p)) bs → HasNoUnifier bs (relation_tree e.0) (relation_tree e.1)
    → Solution q (p ++ i ∷ []) → ⊥
next-dead q a p i e bs h grown found none =
    let w = prefix-posed-so q a (p ++ i ∷ []) h in
    let n = step-none (equation_trees (equations_of q p)) bs (relation_tree e.0) (relation_tree e.1) [] found none in
    let m = subst NoneUnifies (sym (ap equation_trees grown ∙ tree-more (equations_of q p) e)) n in
    none-unifies-none q (p ++ i ∷ []) (chosen_of q (p ++ i ∷ [])) (top_of q (p ++ i ∷ [])) w.0 w.1 m

next-gone-on : (q : Question) (p : List ℕ) (i : ℕ) (e : Relation × Relation) (old new : List (ℕ × Tree))
    → equations_of q (p ++ i ∷ []) ≡ equations_of q p ++ e ∷ [] → IsSolvedBy (equation_trees (equations_of q p)) old
    → IsMostGeneral old (relation_tree e.0) (relation_tree e.1) new → KeepsRelations old (relation_tree e.0) (relation_tree e.1) new
    → IsSolvedBy (equation_trees (equations_of q (p ++ i ∷ []))) new
next-gone-on q p i e old new grown found most keeps =
    subst (λ es. IsSolvedBy es new) (sym (ap equation_trees grown ∙ tree-more (equations_of q p) e))
    (step-solved (equation_trees (equations_of q p)) old (relation_tree e.0) (relation_tree e.1) new found most keeps)

pub prefixes-grow : PrefixesGrow
prefixes-grow = record {
  posed = prefix-posed;
  occurrence = occurrence-grown;
  top = top-grown;
  posed_so = prefix-posed-so;
  dead = next-dead;
  gone_on = next-gone-on;
}
