-- Types that lie one after another.
use Rattle.std.proofs.Common.{◌≡◌, ℕ, zero, suc, ◌+◌, ◌-◌, ◌≤◌, ◌<◌, List, [], ◌∷◌, ◌++◌, length, take, drop, refl, sym, ◌∙◌, ap, subst, arith, append_assoc, append-nil, length-append}
use Rattle.std.proofs.lemmas.List.{take-append-drop, length-take-le}
use Rattle.std.proofs.Math.Seq.{take-append_seam, drop-append_seam}
use Rattle.lt_types.specs.declared.ty.TyNode.{TyNode}
use Rattle.lt_types.specs.declared.ty.TyNode.TheVariants.{Var, Con}
use Rattle.lt_definitions.specs.Types.{TypeTree, Chars, type_variable, type_constructor, row}
use Rattle.lt_definitions.proofs.SameNames.{listed-row}
use Rattle.lt_types.specs.Layout.{below, sizes, type_size, roots, type_nodes, row_nodes, forest, all_roots, IsRow}
use Rattle.lt_types.proofs.LayoutLemmas.{length-roots, length-row_nodes, forest-row_nodes}

sizes-append : (f g : List TypeTree) → sizes (row (f ++ g)) ≡ sizes (row f) + sizes (row g)
sizes-append [] g = omega arith
sizes-append (t ∷ f) g = omega (arith, sizes-append f g)

all-append : (from : ℕ) (f g : List TypeTree) → row_nodes from (row (f ++ g)) ≡ row_nodes from (row f) ++ row_nodes (from + sizes (row f)) (row g)
all-append from [] g = let e : from ≡ from + 0 = omega arith in ap (λ n. row_nodes n (row g)) e
all-append from (t ∷ f) g =
    let e : (from + type_size t) + sizes (row f) ≡ from + (type_size t + sizes (row f)) = omega arith in
    ap (λ ns. type_nodes from t ++ ns) (all-append (from + type_size t) f g ∙ ap (λ n. row_nodes (from + type_size t) (row f) ++ row_nodes n (row g)) e)
    ∙ sym (append_assoc (type_nodes from t) (row_nodes (from + type_size t) (row f)) (row_nodes (from + (type_size t + sizes (row f))) (row g)))

roots-append : (from : ℕ) (f g : List TypeTree) → roots from (row (f ++ g)) ≡ roots from (row f) ++ roots (from + sizes (row f)) (row g)
roots-append from [] g = let e : from ≡ from + 0 = omega arith in ap (λ n. roots n (row g)) e
roots-append from (t ∷ f) g =
    let e : (from + type_size t) + sizes (row f) ≡ from + (type_size t + sizes (row f)) = omega arith in
    ap (λ ns. (from + below t) ∷ ns) (roots-append (from + type_size t) f g ∙ ap (λ n. roots (from + type_size t) (row f) ++ roots n (row g)) e)

pub length-row : (nodes : List TyNode) (places : List ℕ) (made : List TypeTree) → IsRow nodes places made → length places ≡ length made
length-row nodes places made h = ap length h.at ∙ length-roots 0 (row made) ∙ ap length (listed-row made)

pub row-reads : (nodes : List TyNode) (places : List ℕ) (made : List TypeTree) → IsRow nodes places made → forest [] nodes ≡ made
row-reads nodes places made h =
    ap (forest []) (h.laid ∙ sym (append-nil (row_nodes 0 (row made)))) ∙ forest-row_nodes 0 (row made) [] [] ∙ listed-row made

pub row-again : (nodes : List TyNode) (places : List ℕ) (made : List TypeTree) → IsRow nodes places made → IsRow nodes places (forest [] nodes)
row-again nodes places made h = subst (λ (r : List TypeTree). IsRow nodes places r) (sym (row-reads nodes places made h)) h

pub row-var : (nodes more_nodes : List TyNode) (places more_places : List ℕ) (made : List TypeTree) (name : Chars) (n : ℕ) → IsRow nodes places made → n ≡ length nodes
    → more_places ≡ places ++ n ∷ [] → more_nodes ≡ nodes ++ Var name ∷ [] → IsRow more_nodes more_places (made ++ type_variable name ∷ [])
row-var nodes more_nodes places more_places made name n h e p q = record {
  laid = q ∙ ap (λ ns. ns ++ Var name ∷ []) h.laid ∙ sym (all-append 0 made (type_variable name ∷ []));
  at = p ∙ (λ i. h.at i ++ whole i ∷ []) ∙ sym (roots-append 0 made (type_variable name ∷ []));
}
  where
    whole : n ≡ (0 + sizes (row made)) + 0
    whole = omega (arith, e, ap length h.laid, length-row_nodes 0 (row made))

-- the last types of a made become arguments
joined : (nodes more_nodes : List TyNode) (places more_places ids kept : List ℕ) (f g : List TypeTree) (name : Chars) (n : ℕ) → IsRow nodes places (f ++ g) → n ≡ length nodes
    → kept ≡ take (length f) places → ids ≡ drop (length f) places
    → more_places ≡ kept ++ n ∷ [] → more_nodes ≡ nodes ++ Con name ids ∷ [] → IsRow more_nodes more_places (f ++ type_constructor name (row g) ∷ [])
joined nodes more_nodes places more_places ids kept f g name n h e k d p q = record {
  laid = q ∙ (λ i. (h.laid ∙ all-append 0 f g) i ++ Con name (tail i) ∷ []) ∙ append_assoc (row_nodes 0 (row f)) (row_nodes (0 + sizes (row f)) (row g)) (Con name (roots (0 + sizes (row f)) (row g)) ∷ []) ∙ ap (λ ns. row_nodes 0 (row f) ++ ns) (sym (append-nil (type_nodes (0 + sizes (row f)) (type_constructor name (row g))))) ∙ sym (all-append 0 f (type_constructor name (row g) ∷ []));
  at = p ∙ (λ i. front i ++ whole i ∷ []) ∙ sym (roots-append 0 f (type_constructor name (row g) ∷ []));
}
  where
    split : places ≡ roots 0 (row f) ++ roots (0 + sizes (row f)) (row g)
    split = h.at ∙ roots-append 0 f g

    count : length f ≡ length (roots 0 (row f))
    count = sym (length-roots 0 (row f) ∙ ap length (listed-row f))

    tail : ids ≡ roots (0 + sizes (row f)) (row g)
    tail = d ∙ (λ i. drop (count i) (split i)) ∙ drop-append_seam (roots 0 (row f)) (roots (0 + sizes (row f)) (row g))

    front : kept ≡ roots 0 (row f)
    front = k ∙ (λ i. take (count i) (split i)) ∙ take-append_seam (roots 0 (row f)) (roots (0 + sizes (row f)) (row g))

    whole : n ≡ (0 + sizes (row f)) + sizes (row g)
    whole = omega (arith, e, ap length h.laid, length-row_nodes 0 (row (f ++ g)), sizes-append f g)

pub row-con : (nodes more_nodes : List TyNode) (places more_places ids kept : List ℕ) (made : List TypeTree) (name : Chars) (n k : ℕ) → IsRow nodes places made → k ≤ length made → n ≡ length nodes
    → kept ≡ take (length places - k) places → ids ≡ drop (length places - k) places
    → more_places ≡ kept ++ n ∷ [] → more_nodes ≡ nodes ++ Con name ids ∷ [] → IsRow more_nodes more_places (take (length made - k) made ++ type_constructor name (row (drop (length made - k) made)) ∷ [])
row-con nodes more_nodes places more_places ids kept made name n k h fits e ke d p q =
    joined nodes more_nodes places more_places ids kept (take (length made - k) made) (drop (length made - k) made) name n
    (subst (λ (r : List TypeTree). IsRow nodes places r) (sym (take-append-drop (length made - k) made)) h) e
    (ke ∙ ap (λ m. take m places) at) (d ∙ ap (λ m. drop m places) at) p q
  where
    at : length places - k ≡ length (take (length made - k) made)
    at = ap (λ m. m - k) (length-row nodes places made h) ∙ sym (length-take-le (length made - k) made (omega arith))

-- ---- where the last root is left out

pub roots-next : (nodes more_nodes : List TyNode) (n : TyNode) (places : List ℕ) → more_nodes ≡ nodes ++ n ∷ [] → all_roots (length more_nodes) places ≡ places ++ length nodes ∷ []
roots-next nodes more_nodes n places e =
    let one : length more_nodes ≡ suc (length nodes) = omega (arith, ap length e, length-append nodes (n ∷ [])) in
    ap (λ k. all_roots k places) one

pub roots-length : (n : ℕ) (places : List ℕ) → 0 < n → length (all_roots n places) ≡ length places + 1
roots-length zero places h = absurd (omega (arith, h))
roots-length (suc n) places h = length-append places (n ∷ [])

pub built-var : (nodes more_nodes : List TyNode) (places all : List ℕ) (made : List TypeTree) (name : Chars) → IsRow nodes (all_roots (length nodes) places) made → all ≡ all_roots (length nodes) places
    → more_nodes ≡ nodes ++ Var name ∷ [] → IsRow more_nodes (all_roots (length more_nodes) all) (made ++ type_variable name ∷ [])
built-var nodes more_nodes places all made name h e q =
    row-var nodes more_nodes all (all_roots (length more_nodes) all) made name (length nodes) (subst (λ (ps : List ℕ). IsRow nodes ps made) (sym e) h) refl (roots-next nodes more_nodes (Var name) all q) q

pub built-con : (nodes more_nodes : List TyNode) (places all kept ids : List ℕ) (made : List TypeTree) (name : Chars) (k : ℕ) → IsRow nodes (all_roots (length nodes) places) made → k ≤ length made → all ≡ all_roots (length nodes) places
    → kept ≡ take (length all - k) all → ids ≡ drop (length all - k) all → more_nodes ≡ nodes ++ Con name ids ∷ []
    → IsRow more_nodes (all_roots (length more_nodes) kept) (take (length made - k) made ++ type_constructor name (row (drop (length made - k) made)) ∷ [])
built-con nodes more_nodes places all kept ids made name k h fits e ke d q =
    row-con nodes more_nodes all (all_roots (length more_nodes) kept) ids kept made name (length nodes) k (subst (λ (ps : List ℕ). IsRow nodes ps made) (sym e) h) fits refl ke d (roots-next nodes more_nodes (Con name ids) kept q) q
