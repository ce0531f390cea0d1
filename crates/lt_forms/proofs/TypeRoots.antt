-- The root of a type among its nodes.
use Rattle.std.proofs.Common.{◌≡◌, ℕ, ◌+◌, ◌-◌, List, [], ◌∷◌, ◌++◌, length, slice_get, Option, Some, refl, sym, ◌∙◌, ap, arith}
use Rattle.lt_definitions.specs.Types.{TypeTree, type_variable, type_constructor}
use Rattle.lt_types.specs.declared.ty.TyNode.{TyNode}
use Rattle.lt_types.specs.declared.ty.TyNode.TheVariants.{Var, Con}
use Rattle.lt_types.specs.Layout.{sizes, type_size, type_nodes, row_nodes, roots}
use Rattle.lt_types.proofs.LayoutLemmas.{length-row_nodes}
use Rattle.lt_forms.specs.Constructors.{constructor_of, constructor_at, variable_of, variable_at}

got-last : (xs : List TyNode) (n : TyNode) (i : ℕ) → i ≡ length xs → slice_get (xs ++ n ∷ []) i ≡ Some n
got-last [] n i e = ap (slice_get (n ∷ [])) e
got-last (x ∷ xs) n i e = ap (slice_get (x ∷ (xs ++ n ∷ []))) e ∙ got-last xs n (length xs) refl

last-is : (xs : List TyNode) (last n : TyNode) (i : ℕ) → i ≡ length xs → slice_get (xs ++ last ∷ []) i ≡ Some n → n ≡ last
last-is xs last n i e h = let g : Some last ≡ Some n = sym (got-last xs last i e) ∙ h in cc

pub root-constructor : (t : TypeTree) (size i : ℕ) (n : TyNode) → size ≡ type_size t → i ≡ size - 1 → slice_get (type_nodes 0 t) i ≡ Some n → constructor_at n ≡ constructor_of t
root-constructor (type_variable x) size i n s e h = ap constructor_at (last-is [] (Var x) n i (omega (arith, s, e)) h)
root-constructor (type_constructor c ts) size i n s e h =
    ap constructor_at (last-is (row_nodes 0 ts) (Con c (roots 0 ts)) n i (omega (arith, s, e, length-row_nodes 0 ts)) h)

pub root-variable : (t : TypeTree) (size i : ℕ) (n : TyNode) → size ≡ type_size t → i ≡ size - 1 → slice_get (type_nodes 0 t) i ≡ Some n → variable_at n ≡ variable_of t
root-variable (type_variable x) size i n s e h = ap variable_at (last-is [] (Var x) n i (omega (arith, s, e)) h)
root-variable (type_constructor c ts) size i n s e h =
    ap variable_at (last-is (row_nodes 0 ts) (Con c (roots 0 ts)) n i (omega (arith, s, e, length-row_nodes 0 ts)) h)
