-- Expressions by cases.
use Rattle.std.proofs.Common.{◌≡◌, ℕ, suc, ◌<◌, List, [], ◌∷◌, ◌++◌, length, refl, ap, sym, subst, ◌∙◌, map, Vec, Global, get_or}
use Rattle.std.specs.Prelude.{slice_get, Some, option_map, IsTrue, ◌↔◌, Bool, true, false, Result, Ok, Err, IfOk}
use Rattle.std.specs.Cmp.Lexicographic.{pointwise}
use Rattle.lt_definitions.proofs.SameNames.{both-true, true-both, type-true, true-type}
use Rattle.std.proofs.lemmas.Option.{slice_get-map, slice_get_read}
use Rattle.lt_definitions.specs.Types.{Chars, TypeTree, same_type}
use Rattle.lt_unify.specs.Tree.{Tree, Var, Leaf, applied_to, arguments, head_of, IsHeaded}
use Rattle.lt_transport_definitions.specs.Relations.{Relation, relation_variable, equality, constructed, relation_row}
use Rattle.lt_search_laws.specs.RelationTrees.{equality_code, constructor_code, relation_tree, relation_trees}
use Rattle.lt_search_laws.proofs.Codes.{Head, equality_head, constructor_head, head_from, equality-back, constructor-back, applied-arguments, applied-head, applied-headed}
use Rattle.lt_search.specs.ExpressionView.{relation_of, relation_layer, expression_tree}
use Rattle.lt_search.specs.declared.expression.Expression.{Expression}
use Rattle.lt_search.specs.declared.expression.Expression.TheVariants.{Variable, Equality, Constructed, rolls-Variable, rolls-Equality, rolls-Constructed}
use Rattle.lt_search.specs.declared.expression.Expression.TheOpen.{Expression-F}
use Rattle.lt_search.specs.declared.expression.Expression.TheFolds.{fold-roll-Expression}

pub of-Constructed : (c : Chars) (ts : List TypeTree) (v : Vec Expression Global) → relation_of (Constructed c ts v) ≡ constructed c ts (relation_row (map relation_of v.items))
of-Constructed c ts v = ap relation_of (sym (rolls-Constructed c ts v)) ∙ fold-roll-Expression Relation relation_layer (Expression-F.Constructed c ts v)

pub of-Variable : (n : ℕ) (t : TypeTree) → relation_of (Variable n t) ≡ relation_variable n t
of-Variable n t = ap relation_of (sym (rolls-Variable n t)) ∙ fold-roll-Expression Relation relation_layer (Expression-F.Variable n t)

pub of-Equality : (t : TypeTree) → relation_of (Equality t) ≡ equality t
of-Equality t = ap relation_of (sym (rolls-Equality t)) ∙ fold-roll-Expression Relation relation_layer (Expression-F.Equality t)

trees-row : (rs : List Expression) → relation_trees (relation_row (map relation_of rs)) ≡ map expression_tree rs
trees-row [] = refl
trees-row (r ∷ rs) = ap (λ ts. expression_tree r ∷ ts) (trees-row rs)

pub tree-Constructed : (r : Expression) (c : Chars) (ts : List TypeTree) (v : Vec Expression Global) → r ≡ Constructed c ts v → expression_tree r ≡ applied_to (Leaf (constructor_code c ts)) (map expression_tree v.items)
tree-Constructed r c ts v is = ap expression_tree is ∙ ap relation_tree (of-Constructed c ts v) ∙ ap (applied_to (Leaf (constructor_code c ts))) (trees-row v.items)

pub tree-Equality : (r : Expression) (t : TypeTree) → r ≡ Equality t → expression_tree r ≡ Leaf (equality_code t)
tree-Equality r t is = ap expression_tree is ∙ ap relation_tree (of-Equality t)

pub equality-head : (r : Expression) (t : TypeTree) → r ≡ Equality t → head_of (expression_tree r) ≡ Leaf (equality_code t)
equality-head r t is = ap head_of (tree-Equality r t is)

module _ (r : Expression) (c : Chars) (ts : List TypeTree) (v : Vec Expression Global) (is : r ≡ Constructed c ts v) where
  pub con-arguments : arguments (expression_tree r) ≡ map expression_tree v.items
  con-arguments = ap arguments (tree-Constructed r c ts v is) ∙ applied-arguments (Leaf (constructor_code c ts)) (map expression_tree v.items)

  pub con-head : head_of (expression_tree r) ≡ Leaf (constructor_code c ts)
  con-head = ap head_of (tree-Constructed r c ts v is) ∙ applied-head (Leaf (constructor_code c ts)) (map expression_tree v.items)

  pub con-headed : IsHeaded (expression_tree r)
  con-headed = subst IsHeaded (sym (tree-Constructed r c ts v is)) (applied-headed (Leaf (constructor_code c ts)) (map expression_tree v.items) tt)

  pub con-arity : length (arguments (expression_tree r)) ≡ length v.items
  con-arity = ap length con-arguments ∙ length-map v.items
    where
      length-map : (xs : List Expression) → length (map expression_tree xs) ≡ length xs
      length-map [] = refl
      length-map (x ∷ xs) = ap suc (length-map xs)

  pub con-child : (i : ℕ) (x : Expression) → i < length v.items → x ≡ get_or v.items i x → slice_get (arguments (expression_tree r)) i ≡ Some (expression_tree x)
  con-child i x l e = ap (λ xs. slice_get xs i) con-arguments ∙ slice_get-map expression_tree v.items i ∙ ap (option_map expression_tree) (slice_get_read v.items (length v.items) i x refl l e)

pub rebuilt : (r s : Expression) (c : Chars) (ts : List TypeTree) (v children : Vec Expression Global) → r ≡ Constructed c ts v → relation_of s ≡ constructed c ts (relation_row (map relation_of children.items))
    → expression_tree s ≡ applied_to (head_of (expression_tree r)) (map expression_tree children.items)
rebuilt r s c ts v children is e =
    ap relation_tree e ∙ ap (applied_to (Leaf (constructor_code c ts))) (trees-row children.items) ∙ ap (λ h. applied_to h (map expression_tree children.items)) (sym (con-head r c ts v is))

pub same-equalities : (r s : Expression) (t u : TypeTree) (b : Bool) → r ≡ Equality t → s ≡ Equality u → IsTrue b ↔ (t ≡ u) → IsTrue b ↔ (head_of (expression_tree r) ≡ head_of (expression_tree s))
same-equalities r s t u b p q h = (
  (λ e. equality-head r t p ∙ ap (λ x. Leaf (equality_code x)) (h.0 e) ∙ sym (equality-head s u q)),
  (λ e. let heads : Leaf (equality_code t) ≡ Leaf (equality_code u) = sym (equality-head r t p) ∙ e ∙ equality-head s u q in
      let codes : equality_code t ≡ equality_code u = cc (heads) in
      let k : equality_head t ≡ equality_head u = sym (equality-back t) ∙ ap head_from codes ∙ equality-back u in
      let o : t ≡ u = cc (k) in h.1 o),
)

pub same-constructors : (r s : Expression) (c d : Chars) (ts us : List TypeTree) (v w : Vec Expression Global) (b : Bool) → r ≡ Constructed c ts v → s ≡ Constructed d us w
    → IsTrue b ↔ ((c ≡ d) × (ts ≡ us)) → IsTrue b ↔ (head_of (expression_tree r) ≡ head_of (expression_tree s))
same-constructors r s c d ts us v w b p q h = (
  (λ e. let k = h.0 e in let x = k.0 in let y = k.1 in con-head r c ts v p ∙ (λ i. Leaf (constructor_code (x i) (y i))) ∙ sym (con-head s d us w q)),
  (λ e. let heads : Leaf (constructor_code c ts) ≡ Leaf (constructor_code d us) = sym (con-head r c ts v p) ∙ e ∙ con-head s d us w q in
      let codes : constructor_code c ts ≡ constructor_code d us = cc (heads) in
      let k : constructor_head c ts ≡ constructor_head d us = sym (constructor-back c ts) ∙ ap head_from codes ∙ constructor-back d us in
      let x : c ≡ d = cc (k) in
      let y : ts ≡ us = cc (k) in h.1 (x, y)),
)

pub heads-differ : (t : TypeTree) (c : Chars) (ts : List TypeTree) → Leaf (equality_code t) ≡ Leaf (constructor_code c ts) → ⊥
heads-differ t c ts e =
    let codes : equality_code t ≡ constructor_code c ts = cc (e) in
    let k : equality_head t ≡ constructor_head c ts = sym (equality-back t) ∙ ap head_from codes ∙ constructor-back c ts in absurd (cc (k))

pub other-heads : (r s : Expression) (t : TypeTree) (c : Chars) (ts : List TypeTree) (v : Vec Expression Global) → r ≡ Equality t → s ≡ Constructed c ts v → IsTrue false ↔ (head_of (expression_tree r) ≡ head_of (expression_tree s))
other-heads r s t c ts v p q = ((λ e. absurd (cc (e))), (λ e. absurd (heads-differ t c ts (sym (equality-head r t p) ∙ e ∙ con-head s c ts v q))))

pub heads-other : (r s : Expression) (t : TypeTree) (c : Chars) (ts : List TypeTree) (v : Vec Expression Global) → r ≡ Constructed c ts v → s ≡ Equality t → IsTrue false ↔ (head_of (expression_tree r) ≡ head_of (expression_tree s))
heads-other r s t c ts v p q = ((λ e. absurd (cc (e))), (λ e. absurd (heads-differ t c ts (sym (equality-head s t q) ∙ sym e ∙ con-head r c ts v p))))

pub if_ok-map : {A E : Type 0} (r : Result A E) (P Q : A → Type 0) → IfOk r P → ((x : A) → P x → Q x) → IfOk r Q
if_ok-map (Ok x) P Q h f = f x h
if_ok-map (Err e) P Q h f = h

pub types-true : (ts us : List TypeTree) → pointwise same_type ts us ≡ true → ts ≡ us
types-true [] [] h = refl
types-true [] (u ∷ us) h = absurd (cc (h))
types-true (t ∷ ts) [] h = absurd (cc (h))
types-true (t ∷ ts) (u ∷ us) h =
    let k = both-true (same_type t u) (pointwise same_type ts us) h in
    let p = type-true t u k.0 in
    let q = types-true ts us k.1 in (λ i. p i ∷ q i)

pub true-types : (ts us : List TypeTree) → ts ≡ us → pointwise same_type ts us ≡ true
true-types ts us e = subst (λ z. pointwise same_type ts z ≡ true) e (same ts)
  where
    same : (ts : List TypeTree) → pointwise same_type ts ts ≡ true
    same [] = refl
    same (t ∷ ts) = true-both (same_type t t) (pointwise same_type ts ts) (true-type t t refl) (same ts)
