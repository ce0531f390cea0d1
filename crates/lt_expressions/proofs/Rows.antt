-- Expressions that lie one after another.
use Rattle.std.proofs.Common.{◌≡◌, ℕ, suc, slice_get, Some, ◌+◌, ◌-◌, ◌≤◌, ◌<◌, List, [], ◌∷◌, ◌++◌, length, take, drop, sym, ◌∙◌, ap, subst, arith, append_assoc, append-nil, length-append, refl}
use Rattle.std.proofs.lemmas.Option.{same_Some, none-some}
use Rattle.std.proofs.lemmas.List.{take-append-drop, length-take-le}
use Rattle.std.proofs.Math.Seq.{take-append_seam, drop-append_seam}
use Rattle.lt_expressions.specs.declared.rel.RelNode.{RelNode}
use Rattle.lt_expressions.specs.declared.rel.RelNode.TheVariants.{Con}
use Rattle.lt_definitions.specs.Types.{Chars, TypeTree}
use Rattle.lt_transport_definitions.specs.Relations.{Relation, constructed, relation_row}
use Rattle.lt_expressions.specs.Layout.{behind, below, sizes, relation_size, roots, relation_nodes, row_nodes, forest, IsRow}
use Rattle.lt_expressions.proofs.LayoutLemmas.{list-row, length-roots, length-row_nodes, forest-row_nodes}

sizes-append : (f g : List Relation) → sizes (relation_row (f ++ g)) ≡ sizes (relation_row f) + sizes (relation_row g)
sizes-append [] g = omega arith
sizes-append (t ∷ f) g = omega (arith, sizes-append f g)

all-append : (from : ℕ) (f g : List Relation) → row_nodes from (relation_row (f ++ g)) ≡ row_nodes from (relation_row f) ++ row_nodes (from + sizes (relation_row f)) (relation_row g)
all-append from [] g = let e : from ≡ from + 0 = omega arith in ap (λ n. row_nodes n (relation_row g)) e
all-append from (t ∷ f) g =
    let e : (from + relation_size t) + sizes (relation_row f) ≡ from + (relation_size t + sizes (relation_row f)) = omega arith in
    ap (λ ns. relation_nodes from t ++ ns) (all-append (from + relation_size t) f g ∙ ap (λ n. row_nodes (from + relation_size t) (relation_row f) ++ row_nodes n (relation_row g)) e)
    ∙ sym (append_assoc (relation_nodes from t) (row_nodes (from + relation_size t) (relation_row f)) (row_nodes (from + (relation_size t + sizes (relation_row f))) (relation_row g)))

roots-append : (from : ℕ) (f g : List Relation) → roots from (relation_row (f ++ g)) ≡ roots from (relation_row f) ++ roots (from + sizes (relation_row f)) (relation_row g)
roots-append from [] g = let e : from ≡ from + 0 = omega arith in ap (λ n. roots n (relation_row g)) e
roots-append from (t ∷ f) g =
    let e : (from + relation_size t) + sizes (relation_row f) ≡ from + (relation_size t + sizes (relation_row f)) = omega arith in
    ap (λ ns. (from + below t) ∷ ns) (roots-append (from + relation_size t) f g ∙ ap (λ n. roots (from + relation_size t) (relation_row f) ++ roots n (relation_row g)) e)

pub length-row : (nodes : List RelNode) (places : List ℕ) (made : List Relation) → IsRow nodes places made → length places ≡ length made
length-row nodes places made h = ap length h.at ∙ length-roots 0 (relation_row made) ∙ ap length (list-row made)

pub row-reads : (nodes : List RelNode) (places : List ℕ) (made : List Relation) → IsRow nodes places made → forest [] nodes ≡ made
row-reads nodes places made h =
    ap (forest []) (h.laid ∙ sym (append-nil (row_nodes 0 (relation_row made)))) ∙ forest-row_nodes 0 (relation_row made) [] [] ∙ list-row made

pub row-again : (nodes : List RelNode) (places : List ℕ) (made : List Relation) → IsRow nodes places made → IsRow nodes places (forest [] nodes)
row-again nodes places made h = subst (λ (r : List Relation). IsRow nodes places r) (sym (row-reads nodes places made h)) h

-- one more without arguments
pub row-leaf : (nodes more_nodes : List RelNode) (places more_places : List ℕ) (made : List Relation) (leaf : RelNode) (r : Relation) (n : ℕ) → IsRow nodes places made → n ≡ length nodes
    → ((from : ℕ) → relation_nodes from r ≡ leaf ∷ []) → below r ≡ 0
    → more_places ≡ places ++ n ∷ [] → more_nodes ≡ nodes ++ leaf ∷ [] → IsRow more_nodes more_places (made ++ r ∷ [])
row-leaf nodes more_nodes places more_places made leaf r n h e one none p q = record {
  laid = q ∙ (λ i. h.laid i ++ sym (one (0 + sizes (relation_row made))) i) ∙ ap (λ ns. row_nodes 0 (relation_row made) ++ ns) (sym (append-nil (relation_nodes (0 + sizes (relation_row made)) r)))
      ∙ sym (all-append 0 made (r ∷ []));
  at = p ∙ (λ i. h.at i ++ whole i ∷ []) ∙ sym (roots-append 0 made (r ∷ []));
}
  where
    whole : n ≡ (0 + sizes (relation_row made)) + below r
    whole = omega (arith, e, none, ap length h.laid, length-row_nodes 0 (relation_row made))

-- the last expressions become arguments
joined : (nodes more_nodes : List RelNode) (places more_places ids kept : List ℕ) (f g : List Relation) (name : Chars) (us : List TypeTree) (n : ℕ) → IsRow nodes places (f ++ g) → n ≡ length nodes
    → kept ≡ take (length f) places → ids ≡ drop (length f) places
    → more_places ≡ kept ++ n ∷ [] → more_nodes ≡ nodes ++ Con name us ids ∷ [] → IsRow more_nodes more_places (f ++ constructed name us (relation_row g) ∷ [])
joined nodes more_nodes places more_places ids kept f g name us n h e k d p q = record {
  laid = q ∙ (λ i. (h.laid ∙ all-append 0 f g) i ++ Con name us (tail i) ∷ []) ∙ append_assoc (row_nodes 0 (relation_row f)) (row_nodes (0 + sizes (relation_row f)) (relation_row g)) (Con name us (roots (0 + sizes (relation_row f)) (relation_row g)) ∷ []) ∙ ap (λ ns. row_nodes 0 (relation_row f) ++ ns) (sym (append-nil (relation_nodes (0 + sizes (relation_row f)) (constructed name us (relation_row g))))) ∙ sym (all-append 0 f (constructed name us (relation_row g) ∷ []));
  at = p ∙ (λ i. front i ++ whole i ∷ []) ∙ sym (roots-append 0 f (constructed name us (relation_row g) ∷ []));
}
  where
    split : places ≡ roots 0 (relation_row f) ++ roots (0 + sizes (relation_row f)) (relation_row g)
    split = h.at ∙ roots-append 0 f g

    count : length f ≡ length (roots 0 (relation_row f))
    count = sym (length-roots 0 (relation_row f) ∙ ap length (list-row f))

    tail : ids ≡ roots (0 + sizes (relation_row f)) (relation_row g)
    tail = d ∙ (λ i. drop (count i) (split i)) ∙ drop-append_seam (roots 0 (relation_row f)) (roots (0 + sizes (relation_row f)) (relation_row g))

    front : kept ≡ roots 0 (relation_row f)
    front = k ∙ (λ i. take (count i) (split i)) ∙ take-append_seam (roots 0 (relation_row f)) (roots (0 + sizes (relation_row f)) (relation_row g))

    whole : n ≡ (0 + sizes (relation_row f)) + sizes (relation_row g)
    whole = omega (arith, e, ap length h.laid, length-row_nodes 0 (relation_row (f ++ g)), sizes-append f g)

pub row-con : (nodes more_nodes : List RelNode) (places more_places ids kept : List ℕ) (made : List Relation) (name : Chars) (us : List TypeTree) (n k : ℕ) → IsRow nodes places made → k ≤ length made → n ≡ length nodes
    → kept ≡ take (length places - k) places → ids ≡ drop (length places - k) places
    → more_places ≡ kept ++ n ∷ [] → more_nodes ≡ nodes ++ Con name us ids ∷ [] → IsRow more_nodes more_places (take (length made - k) made ++ constructed name us (relation_row (drop (length made - k) made)) ∷ [])
row-con nodes more_nodes places more_places ids kept made name us n k h fits e ke d p q =
    joined nodes more_nodes places more_places ids kept (take (length made - k) made) (drop (length made - k) made) name us n
    (subst (λ (r : List Relation). IsRow nodes places r) (sym (take-append-drop (length made - k) made)) h) e
    (ke ∙ ap (λ m. take m places) at) (d ∙ ap (λ m. drop m places) at) p q
  where
    at : length places - k ≡ length (take (length made - k) made)
    at = ap (λ m. m - k) (length-row nodes places made h) ∙ sym (length-take-le (length made - k) made (omega arith))

-- ---- the last expression of a row

-- what lies before the last one ends where that one begins
pub behind-roots : (from : ℕ) (f : List Relation) (r : Relation) → behind (roots from (relation_row (r ∷ f))) ≡ from + sizes (relation_row (r ∷ f))
behind-roots from [] r = omega arith
behind-roots from (s ∷ f) r = behind-roots (from + relation_size r) f s ∙ omega arith

pub behind-row : (f : List Relation) → behind (roots 0 (relation_row f)) ≡ sizes (relation_row f)
behind-row [] = refl
behind-row (r ∷ f) = behind-roots 0 f r ∙ omega arith

pub record HasLast (nodes : List RelNode) (places : List ℕ) (made : List Relation) : Type 0 where
  pub front : List Relation
  pub last : Relation
  pub all : made ≡ front ++ last ∷ []
  pub row : IsRow (take (behind (take (length places - 1) places)) nodes) (take (length places - 1) places) front
  pub fits : behind (take (length places - 1) places) ≤ length nodes
  pub tail : drop (behind (take (length places - 1) places)) nodes ≡ relation_nodes (0 + sizes (relation_row front)) last

ends : (r : Relation) (f : List Relation) → (front : List Relation) × (last : Relation) × (r ∷ f ≡ front ++ last ∷ [])
ends r [] = ([], r, refl)
ends r (s ∷ f) = let k = ends s f in (r ∷ k.0, k.1, ap (λ g. r ∷ g) k.2)

parted : (nodes : List RelNode) (places : List ℕ) (front : List Relation) (last : Relation) → IsRow nodes places (front ++ last ∷ []) → HasLast nodes places (front ++ last ∷ [])
parted nodes places front last h = record {
  front = front;
  last = last;
  all = refl;
  row = record { laid = ap (λ k. take k nodes) place ∙ (λ i. take (sym count i) (split i)) ∙ take-append_seam (row_nodes 0 (relation_row front)) (relation_nodes (0 + sizes (relation_row front)) last); at = kept };
  fits = omega (arith, place, ap length split, length-append (row_nodes 0 (relation_row front)) (relation_nodes (0 + sizes (relation_row front)) last), count);
  tail = ap (λ k. drop k nodes) place ∙ (λ i. drop (sym count i) (split i)) ∙ drop-append_seam (row_nodes 0 (relation_row front)) (relation_nodes (0 + sizes (relation_row front)) last);
}
  where
    count : length (row_nodes 0 (relation_row front)) ≡ sizes (relation_row front)
    count = length-row_nodes 0 (relation_row front)

    split : nodes ≡ row_nodes 0 (relation_row front) ++ relation_nodes (0 + sizes (relation_row front)) last
    split = h.laid ∙ all-append 0 front (last ∷ []) ∙ ap (λ ns. row_nodes 0 (relation_row front) ++ ns) (append-nil (relation_nodes (0 + sizes (relation_row front)) last))

    less : length places - 1 ≡ length (roots 0 (relation_row front))
    less = omega (arith, length-row nodes places (front ++ last ∷ []) h, length-append front (last ∷ []), length-roots 0 (relation_row front), ap length (list-row front))

    kept : take (length places - 1) places ≡ roots 0 (relation_row front)
    kept = (λ i. take (less i) ((h.at ∙ roots-append 0 front (last ∷ [])) i)) ∙ take-append_seam (roots 0 (relation_row front)) (roots (0 + sizes (relation_row front)) (relation_row (last ∷ [])))

    place : behind (take (length places - 1) places) ≡ sizes (relation_row front)
    place = ap behind kept ∙ behind-row front

pub has-last : (nodes : List RelNode) (places : List ℕ) (made : List Relation) → IsRow nodes places made → 0 < length made → HasLast nodes places made
has-last nodes places [] h some = absurd (omega (arith, some))
has-last nodes places (r ∷ f) h some =
    let k = ends r f in
    subst (λ (g : List Relation). HasLast nodes places g) (sym k.2) (parted nodes places k.0 k.1 (subst (λ (g : List Relation). IsRow nodes places g) k.2 h))

pub row-moved : (nodes more_nodes : List RelNode) (places more_places : List ℕ) (made : List Relation) → more_nodes ≡ nodes → more_places ≡ places → IsRow nodes places made → IsRow more_nodes more_places made
row-moved nodes more_nodes places more_places made p q h = record { laid = p ∙ h.laid; at = q ∙ h.at }

pub behind-last : (rs : List ℕ) (r : ℕ) → slice_get rs (length rs - 1) ≡ Some r → behind rs ≡ r + 1
behind-last [] r h = absurd (none-some r h)
behind-last (x ∷ []) r h =
    let e : length (x ∷ []) - 1 ≡ 0 = omega arith in
    ap (λ k. k + 1) (same_Some x r (ap (slice_get (x ∷ [])) (sym e) ∙ h))
behind-last (x ∷ y ∷ rs) r h =
    let e : length (x ∷ y ∷ rs) - 1 ≡ suc (length (y ∷ rs) - 1) = omega arith in
    behind-last (y ∷ rs) r (ap (slice_get (x ∷ y ∷ rs)) (sym e) ∙ h)
