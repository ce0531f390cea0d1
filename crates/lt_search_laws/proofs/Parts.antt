-- The right type of a tree that is an expression's, as a test that unification keeps.
use Rattle.std.specs.Prelude.{◌&&◌, if◌then◌else◌}
use Rattle.std.specs.List.{zip}
use Rattle.std.proofs.Common.{◌≡◌, ℕ, ◌+◌, List, [], ◌∷◌, ◌++◌, length, Option, Some, None, refl, subst, sym, ap, ◌∙◌, inl, inr, Bool, true, false, nat_eq, cond, append_assoc}
use Rattle.std.proofs.lemmas.Bool.{eqb-true, eq-eqb, cases_Bool}
use Rattle.lt_definitions.proofs.SameNames.{both-true, true-both, type-true, true-type}
use Rattle.lt_definitions.specs.Types.{Chars, TypeTree, type_variable, type_constructor, bool, listed, row, same_type}
use Rattle.lt_definitions.specs.Typing.{earlier}
use Rattle.lt_transport_definitions.specs.Relations.{Relation, relation_variable, equality, constructed, Relations, no_relations, relation_and, Parametrised, Registry, relator_for, form_for, Kind, no_constructor, a_relator, a_correspondence, a_form, kind_of}
use Rattle.lt_transport_definitions.specs.Expressions.{variables_of, right_of, right, rights, equality_by, normal_equality, normal_equalities, MayHave, IsExpression, AreExpressions}
use Rattle.lt_unify.specs.Tree.{Tree, Var, Leaf, App, apply, head_of, arguments, IsHeaded, applied_to}
use Rattle.lt_unify.specs.Solutions.{single, solution, AllRelated, Respects, IsSimplifiable}
use Rattle.lt_search_laws.specs.Equations.{under, all_under}
use Rattle.lt_search_laws.specs.RelationTrees.{equality_code, constructor_code, relation_tree, relation_trees}
use Rattle.lt_search_laws.proofs.Codes.{listed-row, row-listed, Head, equality_head, constructor_head, head_from, equality-back, constructor-back, applied-arguments, applied-headed, head-con}

abbrev pub is_empty : {A : Type 0} → List A → Bool
is_empty [] = true
is_empty (x ∷ xs) = false

empty-is : {A : Type 0} (xs : List A) → is_empty xs ≡ true → xs ≡ []
empty-is [] h = refl
empty-is (x ∷ xs) h = absurd (cc (h))

is-empty : {A : Type 0} (xs : List A) → xs ≡ [] → is_empty xs ≡ true
is-empty xs h = ap is_empty h

abbrev pub is_bare : {A : Type 0} → Option A → Bool
is_bare None = true
is_bare (Some x) = false

bare-is : {A : Type 0} (o : Option A) → is_bare o ≡ true → o ≡ None
bare-is None h = refl
bare-is (Some x) h = absurd (cc (h))

-- what a constructor may have, as a test, with the right types of its arguments
abbrev pub may_have : Kind → Option Parametrised → List TypeTree → List TypeTree → Bool
may_have no_constructor f ts us = false
may_have (a_relator K) f ts us = is_empty ts
may_have (a_correspondence d) f ts us = nat_eq (length ts) (length (variables_of d)) && (is_empty us && is_bare f)
may_have (a_form d) f ts us = is_empty ts

abbrev pub without_relator : Registry → TypeTree → Bool
without_relator G (type_variable a) = true
without_relator G (type_constructor K ts) = is_bare (relator_for G K)

without-is : (G : Registry) (t : TypeTree) → without_relator G t ≡ true → normal_equality G t ≡ equality t
without-is G (type_variable a) h = refl
without-is G (type_constructor K ts) h = ap (λ o. equality_by o (type_constructor K ts) (normal_equalities G ts)) (bare-is (relator_for G K) h)

bare-by : (o : Option Chars) (t : TypeTree) (rs : Relations) → equality_by o t rs ≡ equality t → is_bare o ≡ true
bare-by None t rs h = refl
bare-by (Some c) t rs h = absurd (cc (h))

is-without : (G : Registry) (t : TypeTree) → normal_equality G t ≡ equality t → without_relator G t ≡ true
is-without G (type_variable a) h = refl
is-without G (type_constructor K ts) h = bare-by (relator_for G K) (type_constructor K ts) (normal_equalities G ts) h

abbrev pub is_formed : Registry → Head → List TypeTree → Bool
is_formed G (equality_head t) us = without_relator G t && is_empty us
is_formed G (constructor_head c ts) us = may_have (kind_of G c) (form_for G c) ts us

abbrev pub right_by : Registry → Head → List TypeTree → TypeTree
right_by G (equality_head t) us = t
right_by G (constructor_head c ts) us = right_of (kind_of G c) ts (row us)

-- What a tree is: no expression, a variable of a type, or a head over arguments of these right types.
pub data Part : Type 0 where
  no_part : Part
  a_variable : TypeTree → Part
  a_head : Head → List TypeTree → Part

abbrev pub finished : Registry → Part → Option TypeTree
finished G no_part = None
finished G (a_variable t) = Some t
finished G (a_head h us) = if is_formed G h us then Some (right_by G h us) else None

abbrev pub with_part : Part → Option TypeTree → Part
with_part (a_head h us) (Some t) = a_head h (us ++ t ∷ [])
with_part (a_head h us) None = no_part
with_part no_part o = no_part
with_part (a_variable t) o = no_part

abbrev pub part : Registry → (ℕ → TypeTree) → Tree → Part
part G τ (Var n) = a_variable (τ n)
part G τ (Leaf c) = a_head (head_from c) []
part G τ (App f a) = with_part (part G τ f) (finished G (part G τ a))

-- the right type of a tree
abbrev pub tree_type : Registry → (ℕ → TypeTree) → Tree → Option TypeTree
tree_type G τ t = finished G (part G τ t)

abbrev pub AllTyped : Registry → (ℕ → TypeTree) → List Tree → List TypeTree → Type 0
AllTyped G τ [] [] = Unit {0}
AllTyped G τ (x ∷ xs) (u ∷ us) = (tree_type G τ x ≡ Some u) × AllTyped G τ xs us
AllTyped G τ _ _ = ⊥

typed-snoc : (G : Registry) (τ : ℕ → TypeTree) (xs : List Tree) (us : List TypeTree) (x : Tree) (u : TypeTree) → AllTyped G τ xs us → tree_type G τ x ≡ Some u → AllTyped G τ (xs ++ x ∷ []) (us ++ u ∷ [])
typed-snoc G τ [] [] x u h k = (k, tt)
typed-snoc G τ [] (v ∷ us) x u h k = absurd h
typed-snoc G τ (y ∷ xs) [] x u h k = absurd h
typed-snoc G τ (y ∷ xs) (v ∷ us) x u h k = (h.0, typed-snoc G τ xs us x u h.1 k)

-- how a head came by its last argument
pub record Grown (P : Part) (o : Option TypeTree) (h : Head) (us : List TypeTree) : Type 0 where
  pub before : List TypeTree
  pub last : TypeTree
  pub head_is : P ≡ a_head h before
  pub last_is : o ≡ Some last
  pub all_is : us ≡ before ++ last ∷ []

grown : (P : Part) (o : Option TypeTree) (h : Head) (us : List TypeTree) → with_part P o ≡ a_head h us → Grown P o h us
grown no_part o h us e = absurd (cc (e))
grown (a_variable t) o h us e = absurd (cc (e))
grown (a_head g vs) None h us e = absurd (cc (e))
grown (a_head g vs) (Some t) h us e =
    let p : g ≡ h = cc (e) in
    let q : us ≡ vs ++ t ∷ [] = cc (e) in
    record { before = vs; last = t; head_is = ap (λ x. a_head x vs) p; last_is = refl; all_is = q }

abbrev head_tree : Tree → Head
head_tree (Var n) = equality_head bool
head_tree (Leaf c) = head_from c
head_tree (App f a) = head_tree f

-- a head's arguments have the right types that were collected
pub part-of : (G : Registry) (τ : ℕ → TypeTree) (a : Tree) (h : Head) (us : List TypeTree) → part G τ a ≡ a_head h us → (head_tree a ≡ h) × AllTyped G τ (arguments a) us
part-of G τ (Var n) h us e = absurd (cc (e))
part-of G τ (Leaf c) h us e =
    let p : head_from c ≡ h = cc (e) in
    let q : [] ≡ us = cc (e) in (p, subst (AllTyped G τ []) q tt)
part-of G τ (App f a) h us e =
    let g = grown (part G τ f) (tree_type G τ a) h us e in
    let k = part-of G τ f h g.before g.head_is in
    (k.0, subst (AllTyped G τ (arguments f ++ a ∷ [])) (sym g.all_is) (typed-snoc G τ (arguments f) g.before a g.last k.1 g.last_is))

pub record Finished (G : Registry) (P : Part) (t : TypeTree) : Type 0 where
  pub head : Head
  pub collected : List TypeTree
  pub part_is : P ≡ a_head head collected
  pub formed : is_formed G head collected ≡ true
  pub right_is : right_by G head collected ≡ t

abbrev pub IsNoVariable : Part → Type 0
IsNoVariable no_part = Unit {0}
IsNoVariable (a_variable t) = ⊥
IsNoVariable (a_head h us) = Unit {0}

pub finish : (G : Registry) (P : Part) (t : TypeTree) → IsNoVariable P → finished G P ≡ Some t → Finished G P t
finish G no_part t v e = absurd (cc (e))
finish G (a_variable u) t v e = absurd v
finish G (a_head h us) t v e = elim (cases_Bool (is_formed G h us)) [
  | inl k ↦ (let p : Some (right_by G h us) ≡ Some t = subst (λ b. (if b then Some (right_by G h us) else None) ≡ Some t) k e in
      record { head = h; collected = us; part_is = refl; formed = k; right_is = cc (p) })
  | inr k ↦ (let p : None ≡ Some t = subst (λ b. (if b then Some (right_by G h us) else None) ≡ Some t) k e in absurd (cc (p)))
]

pub finish-by : (G : Registry) (P : Part) (h : Head) (us : List TypeTree) → P ≡ a_head h us → is_formed G h us ≡ true → finished G P ≡ Some (right_by G h us)
finish-by G P h us e k = ap (finished G) e ∙ ap (λ b. if b then Some (right_by G h us) else None) k

no_variable-with : (P : Part) (o : Option TypeTree) → IsNoVariable (with_part P o)
no_variable-with no_part o = tt
no_variable-with (a_variable t) o = tt
no_variable-with (a_head h us) None = tt
no_variable-with (a_head h us) (Some t) = tt

pub headed-part : (G : Registry) (τ : ℕ → TypeTree) (a : Tree) → IsHeaded a → IsNoVariable (part G τ a)
headed-part G τ (Var n) h = h
headed-part G τ (Leaf c) h = tt
headed-part G τ (App f a) h = no_variable-with (part G τ f) (tree_type G τ a)

-- substitution keeps right types
pub record Kept (G : Registry) (τ : ℕ → TypeTree) (t u : Tree) : Type 0 where
  pub heads : (h : Head) (us : List TypeTree) → part G τ t ≡ a_head h us → part G τ u ≡ a_head h us
  pub types : (v : TypeTree) → tree_type G τ t ≡ Some v → tree_type G τ u ≡ Some v

pub apply-typed : (G : Registry) (τ : ℕ → TypeTree) (s : ℕ → Tree) → ((n : ℕ) → tree_type G τ (s n) ≡ Some (τ n)) → (t : Tree) → Kept G τ t (apply s t)
apply-typed G τ s ok (Var n) = record {
  heads = λ h us e. absurd (cc (e));
  types = λ v e. ok n ∙ e;
}
apply-typed G τ s ok (Leaf c) = record { heads = λ h us e. e; types = λ v e. e }
apply-typed G τ s ok (App f a) =
    let x = apply-typed G τ s ok f in
    let y = apply-typed G τ s ok a in
    let heads : (h : Head) (us : List TypeTree) → with_part (part G τ f) (tree_type G τ a) ≡ a_head h us → with_part (part G τ (apply s f)) (tree_type G τ (apply s a)) ≡ a_head h us =
    (λ h us e. let g = grown (part G τ f) (tree_type G τ a) h us e in
    let p = x.heads h g.before g.head_is in
    let q = y.types g.last g.last_is in
    (λ i. with_part (p i) (q i)) ∙ ap (a_head h) (sym g.all_is)) in
    record {
      heads = heads;
      types = λ v e. let g = finish G (with_part (part G τ f) (tree_type G τ a)) v (no_variable-with (part G τ f) (tree_type G τ a)) e in
          finish-by G (with_part (part G τ (apply s f)) (tree_type G τ (apply s a))) g.head g.collected (heads g.head g.collected g.part_is) g.formed ∙ ap Some g.right_is;
    }

-- the test: both are expressions' trees, of one right type
abbrev pub same_found : Option TypeTree → Option TypeTree → Bool
same_found (Some t) (Some u) = same_type t u
same_found None o = false
same_found (Some t) None = false

abbrev pub same_right : Registry → (ℕ → TypeTree) → Tree → Tree → Bool
same_right G τ a b = same_found (tree_type G τ a) (tree_type G τ b)

pub record IsSame (x y : Option TypeTree) : Type 0 where
  pub there : TypeTree
  pub first : x ≡ Some there
  pub second : y ≡ Some there

pub same-is : (x y : Option TypeTree) → same_found x y ≡ true → IsSame x y
same-is None y h = absurd (cc (h))
same-is (Some t) None h = absurd (cc (h))
same-is (Some t) (Some u) h = record { there = t; first = refl; second = ap Some (sym (type-true t u h)) }

pub is-same : (x y : Option TypeTree) (t : TypeTree) → x ≡ Some t → y ≡ Some t → same_found x y ≡ true
is-same x y t p q = (λ i. same_found (p i) (q i)) ∙ true-type t t refl

-- the right type tells the arguments' right types
heads_rights : (G : Registry) (k : Kind) (f : Option Parametrised) (ts us vs : List TypeTree) → may_have k f ts us ≡ true → may_have k f ts vs ≡ true → right_of k ts (row us) ≡ right_of k ts (row vs) → us ≡ vs
heads_rights G no_constructor f ts us vs x y e = absurd (cc (x))
heads_rights G (a_relator K) f ts us vs x y e = let p : row us ≡ row vs = cc (e) in sym (listed-row us) ∙ ap listed p ∙ listed-row vs
heads_rights G (a_correspondence d) f ts us vs x y e =
    let n = nat_eq (length ts) (length (variables_of d)) in
    let p = both-true (is_empty us) (is_bare f) (both-true n (is_empty us && is_bare f) x).1 in
    let q = both-true (is_empty vs) (is_bare f) (both-true n (is_empty vs && is_bare f) y).1 in
    empty-is us p.0 ∙ sym (empty-is vs q.0)
heads_rights G (a_form d) f ts us vs x y e = let p : row us ≡ row vs = cc (e) in sym (listed-row us) ∙ ap listed p ∙ listed-row vs

pub rights-one : (G : Registry) (h : Head) (us vs : List TypeTree) → is_formed G h us ≡ true → is_formed G h vs ≡ true → right_by G h us ≡ right_by G h vs → us ≡ vs
rights-one G (equality_head t) us vs x y e = empty-is us (both-true (without_relator G t) (is_empty us) x).1 ∙ sym (empty-is vs (both-true (without_relator G t) (is_empty vs) y).1)
rights-one G (constructor_head c ts) us vs x y e = heads_rights G (kind_of G c) (form_for G c) ts us vs x y e

all-related : (G : Registry) (τ : ℕ → TypeTree) (xs ys : List Tree) (us : List TypeTree) → AllTyped G τ xs us → AllTyped G τ ys us → AllRelated (same_right G τ) (zip xs ys)
all-related G τ [] [] us h k = tt
all-related G τ [] (y ∷ ys) us h k = tt
all-related G τ (x ∷ xs) [] us h k = tt
all-related G τ (x ∷ xs) (y ∷ ys) [] h k = absurd h
all-related G τ (x ∷ xs) (y ∷ ys) (u ∷ us) h k = (is-same (tree_type G τ x) (tree_type G τ y) u h.0 k.0, all-related G τ xs ys us h.1 k.1)

heads-one : (a b : Tree) → head_of a ≡ head_of b → head_tree a ≡ head_tree b
heads-one a b e = sym (tree-head a) ∙ ap head_tree e ∙ tree-head b
  where
    tree-head : (t : Tree) → head_tree (head_of t) ≡ head_tree t
    tree-head (Var n) = refl
    tree-head (Leaf c) = refl
    tree-head (App f x) = tree-head f

pub simplifiable : (G : Registry) (τ : ℕ → TypeTree) → IsSimplifiable (same_right G τ)
simplifiable G τ = record {
  turned = λ a b h. let k = same-is (tree_type G τ a) (tree_type G τ b) h in is-same (tree_type G τ b) (tree_type G τ a) k.there k.second k.first;
  joined = λ a b c h k.
      let x = same-is (tree_type G τ a) (tree_type G τ b) h in
      let y = same-is (tree_type G τ b) (tree_type G τ c) k in
      let p : Some y.there ≡ Some x.there = sym y.first ∙ x.second in
      is-same (tree_type G τ a) (tree_type G τ c) x.there x.first (y.second ∙ p);
  children = λ a b ha hb e h.
      let x = same-is (tree_type G τ a) (tree_type G τ b) h in
      let f = finish G (part G τ a) x.there (headed-part G τ a ha) x.first in
      let g = finish G (part G τ b) x.there (headed-part G τ b hb) x.second in
      let p = part-of G τ a f.head f.collected f.part_is in
      let q = part-of G τ b g.head g.collected g.part_is in
      let o : g.head ≡ f.head = sym q.0 ∙ sym (heads-one a b e) ∙ p.0 in
      let formed : is_formed G f.head g.collected ≡ true = subst (λ z. is_formed G z g.collected ≡ true) o g.formed in
      let right_is : right_by G f.head g.collected ≡ x.there = subst (λ z. right_by G z g.collected ≡ x.there) o g.right_is in
      let r : g.collected ≡ f.collected = sym (rights-one G f.head f.collected g.collected f.formed formed (f.right_is ∙ sym right_is)) in
      all-related G τ (arguments a) (arguments b) f.collected p.1 (subst (AllTyped G τ (arguments b)) r q.1);
}

-- the most general solution of bindings that the test holds of keeps right types
pub solution-typed : (G : Registry) (τ : ℕ → TypeTree) (bs : List (ℕ × Tree)) → Respects (same_right G τ) bs → (n : ℕ) → tree_type G τ (solution bs n) ≡ Some (τ n)
solution-typed G τ [] h n = refl
solution-typed G τ (b ∷ older) h n =
    let earlier = solution-typed G τ older h.1 in
    let k = same-is (tree_type G τ (Var b.0)) (tree_type G τ b.1) h.0 in
    let w = apply (solution older) b.1 in
    let v : tree_type G τ w ≡ Some (τ b.0) = (apply-typed G τ (solution older) earlier b.1).types (τ b.0) (k.second ∙ sym k.first) in
    let one : (m : ℕ) → tree_type G τ (single b.0 w m) ≡ Some (τ m) = (λ m. elim (cases_Bool (nat_eq b.0 m)) [
      | inl e ↦ ap (λ z. tree_type G τ (cond z w (Var m))) e ∙ v ∙ ap (λ z. Some (τ z)) (eqb-true b.0 m e)
      | inr e ↦ ap (λ z. tree_type G τ (cond z w (Var m))) e
    ]) in
    (apply-typed G τ (single b.0 w) one (solution older n)).types (τ n) (earlier n)

-- The test and expressions.

formed-may : (k : Kind) (f : Option Parametrised) (ts us : List TypeTree) (rs : Relations) → (rs ≡ no_relations → us ≡ []) → MayHave k f ts rs → may_have k f ts us ≡ true
formed-may no_constructor f ts us rs n h = absurd h
formed-may (a_relator K) f ts us rs n h = is-empty ts h
formed-may (a_correspondence d) f ts us rs n h =
    true-both (nat_eq (length ts) (length (variables_of d))) (is_empty us && is_bare f) (eq-eqb (length ts) (length (variables_of d)) h.0)
    (true-both (is_empty us) (is_bare f) (is-empty us (n h.1)) (ap is_bare h.2))
formed-may (a_form d) f ts us rs n h = is-empty ts h

may-formed : (k : Kind) (f : Option Parametrised) (ts us : List TypeTree) (rs : Relations) → (us ≡ [] → rs ≡ no_relations) → may_have k f ts us ≡ true → MayHave k f ts rs
may-formed no_constructor f ts us rs n h = absurd (cc (h))
may-formed (a_relator K) f ts us rs n h = empty-is ts h
may-formed (a_correspondence d) f ts us rs n h =
    let p = both-true (nat_eq (length ts) (length (variables_of d))) (is_empty us && is_bare f) h in
    let q = both-true (is_empty us) (is_bare f) p.1 in
    (eqb-true (length ts) (length (variables_of d)) p.0, n (empty-is us q.0), bare-is f q.1)
may-formed (a_form d) f ts us rs n h = empty-is ts h

part-applied : (G : Registry) (τ : ℕ → TypeTree) (f : Tree) (h : Head) (vs : List TypeTree) (xs : List Tree) (us : List TypeTree) → part G τ f ≡ a_head h vs → AllTyped G τ xs us → part G τ (applied_to f xs) ≡ a_head h (vs ++ us)
part-applied G τ f h vs [] [] e k = e ∙ ap (a_head h) (sym (nil-append vs))
  where
    nil-append : (ws : List TypeTree) → ws ++ [] ≡ ws
    nil-append [] = refl
    nil-append (w ∷ ws) = ap (λ r. w ∷ r) (nil-append ws)
part-applied G τ f h vs [] (u ∷ us) e k = absurd k
part-applied G τ f h vs (x ∷ xs) [] e k = absurd k
part-applied G τ f h vs (x ∷ xs) (u ∷ us) e k =
    let q = k.0 in
    part-applied G τ (App f x) h (vs ++ u ∷ []) xs us (λ i. with_part (e i) (q i)) k.1 ∙ ap (a_head h) (append_assoc vs (u ∷ []) us)

-- a replacement that gives each variable an expression of its type
pub record IsFitting (G : Registry) (τ : ℕ → TypeTree) (e : ℕ → Relation) : Type 0 where
  pub expressions : (n : ℕ) → IsExpression G (e n)
  pub types : (n : ℕ) → right G (e n) ≡ τ n

rights-none : (G : Registry) (rs : Relations) → rs ≡ no_relations → listed (rights G rs) ≡ []
rights-none G rs e = ap (λ z. listed (rights G z)) e

none-rights : (G : Registry) (rs : Relations) → listed (rights G rs) ≡ [] → rs ≡ no_relations
none-rights G no_relations e = refl
none-rights G (relation_and r rs) e = absurd (cc (e))

-- where an expression comes of a replacement, its tree has its right type
mutual
  pub expression-typed : (G : Registry) (τ : ℕ → TypeTree) (e : ℕ → Relation) → IsFitting G τ e → (r : Relation) → IsExpression G (under e r) → tree_type G τ (relation_tree r) ≡ Some (right G (under e r))
  expression-typed G τ e ok (relation_variable n t) h = ap Some (sym (ok.types n))
  expression-typed G τ e ok (equality t) h =
      finish-by G (part G τ (Leaf (equality_code t))) (equality_head t) [] (ap (λ z. a_head z []) (equality-back t)) (true-both (without_relator G t) true (is-without G t h) refl)
  expression-typed G τ e ok (constructed c ts rs) h =
      let us = listed (rights G (all_under e rs)) in
      let k = expressions-typed G τ e ok rs h.1 in
      let p = part-applied G τ (Leaf (constructor_code c ts)) (constructor_head c ts) [] (relation_trees rs) us (ap (λ z. a_head z []) (constructor-back c ts)) k in
      finish-by G (part G τ (relation_tree (constructed c ts rs))) (constructor_head c ts) us p
      (formed-may (kind_of G c) (form_for G c) ts us (all_under e rs) (rights-none G (all_under e rs)) h.0)
      ∙ ap (λ z. Some (right_of (kind_of G c) ts z)) (row-listed (rights G (all_under e rs)))

  pub expressions-typed : (G : Registry) (τ : ℕ → TypeTree) (e : ℕ → Relation) → IsFitting G τ e → (rs : Relations) → AreExpressions G (all_under e rs) → AllTyped G τ (relation_trees rs) (listed (rights G (all_under e rs)))
  expressions-typed G τ e ok no_relations h = tt
  expressions-typed G τ e ok (relation_and r rs) h = (expression-typed G τ e ok r h.0, expressions-typed G τ e ok rs h.1)

pub record Comes (G : Registry) (r : Relation) (t : TypeTree) : Type 0 where
  pub expression : IsExpression G r
  pub right_is : right G r ≡ t

-- and where its tree has a right type, an expression of it comes of a replacement
mutual
  pub typed-expression : (G : Registry) (τ : ℕ → TypeTree) (e : ℕ → Relation) → IsFitting G τ e → (r : Relation) (t : TypeTree) → tree_type G τ (relation_tree r) ≡ Some t → Comes G (under e r) t
  typed-expression G τ e ok (relation_variable n u) t h = let p : τ n ≡ t = cc (h) in record { expression = ok.expressions n; right_is = ok.types n ∙ p }
  typed-expression G τ e ok (equality u) t h =
      let f = finish G (part G τ (Leaf (equality_code u))) t tt h in
      let o : a_head (equality_head u) [] ≡ a_head f.head f.collected = ap (λ z. a_head z []) (sym (equality-back u)) ∙ f.part_is in
      let p : f.head ≡ equality_head u = cc (o) in
      let q : f.collected ≡ [] = cc (o) in
      let k : is_formed G (equality_head u) [] ≡ true = (λ i. is_formed G (sym p i) (sym q i)) ∙ f.formed in
      let y : right_by G (equality_head u) [] ≡ t = (λ i. right_by G (sym p i) (sym q i)) ∙ f.right_is in
      record { expression = without-is G u (both-true (without_relator G u) true k).0; right_is = y }
  typed-expression G τ e ok (constructed c ts rs) t h =
      let a = relation_tree (constructed c ts rs) in
      let f = finish G (part G τ a) t (headed-part G τ a (applied-headed (Leaf (constructor_code c ts)) (relation_trees rs) tt)) h in
      let k = part-of G τ a f.head f.collected f.part_is in
      let p : f.head ≡ constructor_head c ts = sym k.0 ∙ heads-one a (Leaf (constructor_code c ts)) (head-con c ts rs) ∙ constructor-back c ts in
      let w = typed-expressions G τ e ok rs f.collected (subst (λ z. AllTyped G τ z f.collected) (applied-arguments (Leaf (constructor_code c ts)) (relation_trees rs)) k.1) in
      let m : may_have (kind_of G c) (form_for G c) ts f.collected ≡ true = subst (λ z. is_formed G z f.collected ≡ true) p f.formed in
      let y : right_of (kind_of G c) ts (row f.collected) ≡ t = subst (λ z. right_by G z f.collected ≡ t) p f.right_is in
      record {
        expression = (may-formed (kind_of G c) (form_for G c) ts f.collected (all_under e rs) (λ n. none-rights G (all_under e rs) (w.1 ∙ n)) m, w.0);
        right_is = ap (right_of (kind_of G c) ts) (sym (row-listed (rights G (all_under e rs))) ∙ ap row w.1) ∙ y;
      }

  pub typed-expressions : (G : Registry) (τ : ℕ → TypeTree) (e : ℕ → Relation) → IsFitting G τ e → (rs : Relations) (us : List TypeTree) → AllTyped G τ (relation_trees rs) us → AreExpressions G (all_under e rs) × (listed (rights G (all_under e rs)) ≡ us)
  typed-expressions G τ e ok no_relations [] h = (tt, refl)
  typed-expressions G τ e ok no_relations (u ∷ us) h = absurd h
  typed-expressions G τ e ok (relation_and r rs) [] h = absurd h
  typed-expressions G τ e ok (relation_and r rs) (u ∷ us) h =
      let x = typed-expression G τ e ok r u h.0 in
      let y = typed-expressions G τ e ok rs us h.1 in
      let p = x.right_is in
      let q = y.1 in ((x.expression, y.0), (λ i. p i ∷ q i))
