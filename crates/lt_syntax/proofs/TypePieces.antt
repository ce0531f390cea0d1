-- What is left to write of a type: rows of arguments, the innermost last.
use Rattle.std.proofs.Common.{◌≡◌, ℕ, ◌+◌, ◌*◌, ◌<◌, List, [], ◌∷◌, ◌++◌, length, map, codes, refl, sym, ◌∙◌, ap, subst, arith, append_assoc, append-nil}
use Rattle.lt_types.specs.declared.ty.TyNode.{TyNode}
use Rattle.lt_types.specs.declared.ty.TyNode.TheVariants.{Var, Con}
use Rattle.lt_definitions.specs.Types.{Chars, row}
use Rattle.lt_definitions.specs.Printing.{printed_type, printed_types}
use Rattle.lt_types.specs.Layout.{sizes, type_size}
use Rattle.lt_syntax.specs.TypeText.{type_front, argument_rows}
use Rattle.lt_types.proofs.TypePlaces.{type_at, tree_of, AreBelow, places_of, IsPlace}

-- the arguments of a row and the bracket behind them
abbrev pub row_text : List TyNode → List ℕ → Chars
row_text nodes places = printed_types (row (map (type_at nodes) places)) ++ codes ")"

-- what rows show, the last row first
abbrev pub shown : List TyNode → List (List ℕ) → Chars
shown nodes [] = []
shown nodes (r ∷ rows) = shown nodes rows ++ row_text nodes r

shown-append : (nodes : List TyNode) (rows more : List (List ℕ)) → shown nodes (rows ++ more) ≡ shown nodes more ++ shown nodes rows
shown-append nodes [] more = sym (append-nil (shown nodes more))
shown-append nodes (r ∷ rows) more =
    ap (λ s. s ++ row_text nodes r) (shown-append nodes rows more) ∙ append_assoc (shown nodes more) (shown nodes rows) (row_text nodes r)

-- a type is what its root shows, and then its arguments
begun : (nodes : List TyNode) (n : TyNode) → printed_type (tree_of nodes n) ≡ type_front n ++ shown nodes (argument_rows n)
begun nodes (Var a) = sym (append-nil (codes "'" ++ a))
begun nodes (Con c []) = sym (append-nil c)
begun nodes (Con c (i ∷ places)) =
    ap (λ s. codes "(" ++ (c ++ (codes " " ++ s))) (sym (append_assoc (printed_type (type_at nodes i)) (printed_types (row (map (type_at nodes) places))) (codes ")")))

-- how much work rows are
abbrev pub weight : List TyNode → List ℕ → ℕ
weight nodes [] = 1
weight nodes (i ∷ places) = 2 * type_size (type_at nodes i) + weight nodes places

abbrev pub weights : List TyNode → List (List ℕ) → ℕ
weights nodes [] = 0
weights nodes (r ∷ rows) = weights nodes rows + weight nodes r

weights-append : (nodes : List TyNode) (rows more : List (List ℕ)) → weights nodes (rows ++ more) ≡ weights nodes rows + weights nodes more
weights-append nodes [] more = omega arith
weights-append nodes (r ∷ rows) more = omega (arith, weights-append nodes rows more)

weight-sizes : (nodes : List TyNode) (places : List ℕ) → weight nodes places ≡ 2 * sizes (row (map (type_at nodes) places)) + 1
weight-sizes nodes [] = refl
weight-sizes nodes (i ∷ places) = omega (arith, weight-sizes nodes places)

begun-less : (nodes : List TyNode) (n : TyNode) → weights nodes (argument_rows n) < 2 * type_size (tree_of nodes n)
begun-less nodes (Var a) = omega arith
begun-less nodes (Con c []) = omega arith
begun-less nodes (Con c (i ∷ places)) = omega (arith, weight-sizes nodes (i ∷ places))

-- the places of all rows are places of the type
abbrev pub AllBelow : ℕ → List (List ℕ) → Type 0
AllBelow n [] = Unit {0}
AllBelow n (r ∷ rows) = AreBelow n r × AllBelow n rows

below-append : (n : ℕ) (rows more : List (List ℕ)) → AllBelow n rows → AllBelow n more → AllBelow n (rows ++ more)
below-append n [] more h k = k
below-append n (r ∷ rows) more h k = (h.0, below-append n rows more h.1 k)

below-front : (n : ℕ) (rows more : List (List ℕ)) → AllBelow n (rows ++ more) → AllBelow n rows
below-front n [] more h = tt
below-front n (r ∷ rows) more h = (h.0, below-front n rows more h.1)

below-back : (n : ℕ) (rows more : List (List ℕ)) → AllBelow n (rows ++ more) → AllBelow n more
below-back n [] more h = h
below-back n (r ∷ rows) more h = below-back n rows more h.1

begun-below : (n : ℕ) (node : TyNode) → AreBelow n (places_of node) → AllBelow n (argument_rows node)
begun-below n (Var a) h = tt
begun-below n (Con c []) h = tt
begun-below n (Con c (i ∷ places)) h = (h, tt)

-- What was written, and what the rows show, is the whole text.
pub record IsWriting (nodes : List TyNode) (whole written : Chars) (rows : List (List ℕ)) : Type 0 where
  pub text : written ++ shown nodes rows ≡ whole
  pub within : AllBelow (length nodes) rows

pub starts : (nodes : List TyNode) (at : ℕ) (n : TyNode) (before written : Chars) (rows : List (List ℕ)) → IsPlace nodes at n
    → written ≡ before ++ type_front n → rows ≡ argument_rows n → IsWriting nodes (before ++ printed_type (type_at nodes at)) written rows
starts nodes at n before written rows p w r = record {
  text = (λ i. w i ++ shown nodes (r i)) ∙ append_assoc before (type_front n) (shown nodes (argument_rows n))
      ∙ ap (λ s. before ++ s) (sym (ap printed_type p.tree ∙ begun nodes n));
  within = subst (AllBelow (length nodes)) (sym r) (begun-below (length nodes) n p.within);
}

-- a row without further arguments is closed
pub closes : (nodes : List TyNode) (whole written more : Chars) (rows left : List (List ℕ)) → IsWriting nodes whole written rows
    → rows ≡ left ++ [] ∷ [] → more ≡ written ++ codes ")" → IsWriting nodes whole more left
closes nodes whole written more rows left h e w = record {
  text = ap (λ s. s ++ shown nodes left) w ∙ append_assoc written (codes ")") (shown nodes left)
      ∙ ap (λ s. written ++ s) (sym (ap (shown nodes) e ∙ shown-append nodes left ([] ∷ []))) ∙ h.text;
  within = below-front (length nodes) left ([] ∷ []) (subst (AllBelow (length nodes)) e h.within);
}

pub closes-less : (nodes : List TyNode) (rows left : List (List ℕ)) → rows ≡ left ++ [] ∷ [] → weights nodes left < weights nodes rows
closes-less nodes rows left e = omega (arith, ap (weights nodes) e, weights-append nodes left ([] ∷ []))

-- the first argument of a row is below the type's length
pub first-below : (nodes : List TyNode) (whole written : Chars) (rows left : List (List ℕ)) (i : ℕ) (places : List ℕ) → IsWriting nodes whole written rows
    → rows ≡ left ++ (i ∷ places) ∷ [] → i < length nodes
first-below nodes whole written rows left i places h e =
    (below-back (length nodes) left ((i ∷ places) ∷ []) (subst (AllBelow (length nodes)) e h.within)).0.0

-- the first argument of a row is begun
pub goes : (nodes : List TyNode) (whole written spaced more : Chars) (rows left later : List (List ℕ)) (i : ℕ) (places : List ℕ) (n : TyNode) → IsWriting nodes whole written rows
    → rows ≡ left ++ (i ∷ places) ∷ [] → IsPlace nodes i n → spaced ≡ written ++ codes " " → more ≡ spaced ++ type_front n
    → later ≡ (left ++ places ∷ []) ++ argument_rows n → IsWriting nodes whole more later
goes nodes whole written spaced more rows left later i places n h e p s w r = record {
  text = (λ k. (w ∙ ap (λ x. x ++ type_front n) s) k ++ (ap (shown nodes) r ∙ spread) k)
      ∙ regroup written (codes " ") (type_front n) (shown nodes (argument_rows n)) (row_text nodes places) (shown nodes left)
      ∙ ap (λ x. written ++ (codes " " ++ (x ++ (row_text nodes places ++ shown nodes left)))) (sym (ap printed_type p.tree ∙ begun nodes n))
      ∙ ap (λ x. written ++ (codes " " ++ x)) (whole_row (printed_type (type_at nodes i)) (printed_types (row (map (type_at nodes) places))) (codes ")") (shown nodes left))
      ∙ ap (λ x. written ++ x) (sym (ap (shown nodes) e ∙ shown-append nodes left ((i ∷ places) ∷ [])))
      ∙ h.text;
  within = subst (AllBelow (length nodes)) (sym r)
      (below-append (length nodes) (left ++ places ∷ []) (argument_rows n)
      (below-append (length nodes) left (places ∷ []) (below-front (length nodes) left ((i ∷ places) ∷ []) inside) (first.1, tt))
      (begun-below (length nodes) n p.within));
}
  where
    inside : AllBelow (length nodes) (left ++ (i ∷ places) ∷ [])
    inside = subst (AllBelow (length nodes)) e h.within

    first : AreBelow (length nodes) (i ∷ places)
    first = (below-back (length nodes) left ((i ∷ places) ∷ []) inside).0

    spread : shown nodes ((left ++ places ∷ []) ++ argument_rows n) ≡ shown nodes (argument_rows n) ++ (row_text nodes places ++ shown nodes left)
    spread = shown-append nodes (left ++ places ∷ []) (argument_rows n) ∙ ap (λ x. shown nodes (argument_rows n) ++ x) (shown-append nodes left (places ∷ []))

    regroup : (a b c d f g : Chars) → ((a ++ b) ++ c) ++ (d ++ (f ++ g)) ≡ a ++ (b ++ ((c ++ d) ++ (f ++ g)))
    regroup a b c d f g = simp append_assoc

    whole_row : (a b c d : Chars) → a ++ ((b ++ c) ++ d) ≡ ((a ++ b) ++ c) ++ d
    whole_row a b c d = simp append_assoc

pub goes-less : (nodes : List TyNode) (rows left later : List (List ℕ)) (i : ℕ) (places : List ℕ) (n : TyNode) → rows ≡ left ++ (i ∷ places) ∷ []
    → IsPlace nodes i n → later ≡ (left ++ places ∷ []) ++ argument_rows n → weights nodes later < weights nodes rows
goes-less nodes rows left later i places n e p r =
    omega (
      arith,
      ap (weights nodes) e,
      weights-append nodes left ((i ∷ places) ∷ []),
      ap (weights nodes) r,
      weights-append nodes (left ++ places ∷ []) (argument_rows n),
      weights-append nodes left (places ∷ []),
      begun-less nodes n,
      ap type_size p.tree,
    )
