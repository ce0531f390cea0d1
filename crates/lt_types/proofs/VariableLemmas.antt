-- The variables of types, over their nodes.
use Rattle.std.proofs.Common.{◌≡◌, ℕ, suc, ◌+◌, ◌<◌, List, [], ◌∷◌, ◌++◌, length, drop, get_or, max, Bool, true, false, ◌&&◌, refl, sym, ◌∙◌, ap, arith, add-one}
use Rattle.std.specs.List.{list_all}
use Rattle.std.proofs.Math.Seq.{drop-cons}
use Rattle.std.proofs.lemmas.List.Folds.{list_all-append}
use Rattle.lt_definitions.specs.Types.{Chars, TypeTree, TypeTrees, type_variable, type_constructor, no_types, type_and, row}
use Rattle.lt_types.specs.declared.ty.TyNode.{TyNode}
use Rattle.lt_types.specs.declared.ty.TyNode.TheVariants.{Var, Con}
use Rattle.lt_types.specs.Layout.{below, type_nodes, row_nodes, roots}
use Rattle.lt_types.specs.TypeVariables.{is_clear, are_clear, longest_name, longest_variable, longest_in, is_node_clear, variable_length}

-- the greatest length of these nodes' variables
abbrev pub greatest : List TyNode → ℕ
greatest [] = 0
greatest (n ∷ ns) = max (variable_length n) (greatest ns)

and-true : (b : Bool) → (b && true) ≡ b
and-true true = refl
and-true false = refl

module _ (ns : List Chars) where
  mutual
    pub clear-nodes : (from : ℕ) (t : TypeTree) → list_all (is_node_clear ns) (type_nodes from t) ≡ is_clear ns t
    clear-nodes from (type_variable a) = and-true (is_node_clear ns (Var a))
    clear-nodes from (type_constructor c ts) =
        list_all-append (is_node_clear ns) (row_nodes from ts) (Con c (roots from ts) ∷ []) ∙ and-true (list_all (is_node_clear ns) (row_nodes from ts)) ∙ clear-rows from ts

    clear-rows : (from : ℕ) (ts : TypeTrees) → list_all (is_node_clear ns) (row_nodes from ts) ≡ are_clear ns ts
    clear-rows from no_types = refl
    clear-rows from (type_and t ts) =
        list_all-append (is_node_clear ns) (type_nodes from t) (row_nodes (from + (below t + 1)) ts)
        ∙ (λ i. clear-nodes from t i && clear-rows (from + (below t + 1)) ts i)

max-zero : (a : ℕ) → max a 0 ≡ a
max-zero a = omega arith

max-assoc : (a b c : ℕ) → max (max a b) c ≡ max a (max b c)
max-assoc a b c = omega arith

greatest-append : (xs ys : List TyNode) → greatest (xs ++ ys) ≡ max (greatest xs) (greatest ys)
greatest-append [] ys = omega arith
greatest-append (n ∷ xs) ys = ap (max (variable_length n)) (greatest-append xs ys) ∙ sym (max-assoc (variable_length n) (greatest xs) (greatest ys))

mutual
  longest-nodes : (from : ℕ) (t : TypeTree) → greatest (type_nodes from t) ≡ longest_variable t
  longest-nodes from (type_variable a) = max-zero (length a)
  longest-nodes from (type_constructor c ts) =
      greatest-append (row_nodes from ts) (Con c (roots from ts) ∷ []) ∙ max-zero (greatest (row_nodes from ts)) ∙ longest-rows from ts

  longest-rows : (from : ℕ) (ts : TypeTrees) → greatest (row_nodes from ts) ≡ longest_in ts
  longest-rows from no_types = refl
  longest-rows from (type_and t ts) =
      greatest-append (type_nodes from t) (row_nodes (from + (below t + 1)) ts)
      ∙ (λ i. max (longest-nodes from t i) (longest-rows (from + (below t + 1)) ts i))

pub longest-first : (t : TypeTree) (ns : List TyNode) → ns ≡ type_nodes 0 t → longest_variable t ≡ max 0 (greatest (drop 0 ns))
longest-first t ns e = let zero : max 0 (greatest ns) ≡ greatest ns = omega arith in sym (zero ∙ ap greatest e ∙ longest-nodes 0 t)

pub longest-next : (so_far : ℕ) (ns : List TyNode) (i : ℕ) (n : TyNode) → i < length ns → n ≡ get_or ns i n → max so_far (greatest (drop i ns)) ≡ max (max so_far (variable_length n)) (greatest (drop (i + 1) ns))
longest-next so_far ns i n h e =
    ap (λ ms. max so_far (greatest ms)) (drop-cons ns i n h ∙ ap (λ q. q ∷ drop (suc i) ns) (sym e) ∙ ap (λ k. n ∷ drop k ns) (sym (add-one i)))
    ∙ sym (max-assoc so_far (variable_length n) (greatest (drop (i + 1) ns)))

-- names and types, one more
pub name-next : (so_far : ℕ) (ns : List Chars) (i : ℕ) (n : Chars) → i < length ns → n ≡ get_or ns i n → max so_far (longest_name (drop i ns)) ≡ max (max so_far (length n)) (longest_name (drop (i + 1) ns))
name-next so_far ns i n h e =
    ap (λ ms. max so_far (longest_name ms)) (drop-cons ns i n h ∙ ap (λ q. q ∷ drop (suc i) ns) (sym e) ∙ ap (λ k. n ∷ drop k ns) (sym (add-one i)))
    ∙ sym (max-assoc so_far (length n) (longest_name (drop (i + 1) ns)))

pub type-next : (so_far : ℕ) (ts : List TypeTree) (i : ℕ) (t : TypeTree) → i < length ts → t ≡ get_or ts i t → max so_far (longest_in (row (drop i ts))) ≡ max (max so_far (longest_variable t)) (longest_in (row (drop (i + 1) ts)))
type-next so_far ts i t h e =
    ap (λ us. max so_far (longest_in (row us))) (drop-cons ts i t h ∙ ap (λ q. q ∷ drop (suc i) ts) (sym e) ∙ ap (λ k. t ∷ drop k ts) (sym (add-one i)))
    ∙ sym (max-assoc so_far (longest_variable t) (longest_in (row (drop (i + 1) ts))))
