-- What a root makes of the nodes below it.
use Rattle.std.proofs.Common.{◌≡◌, ℕ, ◌+◌, ◌-◌, ◌^◌, ◌<◌, ◌≤◌, List, [], ◌∷◌, ◌++◌, length, take, drop, get_or, refl, sym, ◌∙◌, ap, subst, arith, append_assoc, append-nil, length-append}
use Rattle.std.proofs.Math.Seq.{take-append_seam, drop-append_seam}
use Rattle.lt_definitions.specs.Types.{Chars, TypeTree}
use Rattle.lt_definitions.specs.Terms.{TermTree, free_variable, bound_name, constant, application, abstraction}
use Rattle.lt_terms.specs.declared.term.TermNode.{TermNode}
use Rattle.lt_terms.specs.declared.term.TermNode.TheVariants.{Free, Bound, Const, App, Lam}
use Rattle.lt_terms.specs.Layout.{under, term_size, term_nodes, term_of_nodes}
use Rattle.lt_terms.proofs.LayoutLemmas.{length-term_nodes, term_of_nodes-term_nodes}
use Rattle.lt_forms.specs.Shapes.{IsPart}

-- lists with one more thing at the end are one where both parts are
pub same-ends : {A : Type 0} (xs ys : List A) (x y : A) → xs ++ x ∷ [] ≡ ys ++ y ∷ [] → (xs ≡ ys) × (x ≡ y)
same-ends [] [] x y h = (refl, cc)
same-ends [] (b ∷ ys) x y h = absurd (omega (arith, ap length h, length-append ys (y ∷ [])))
same-ends (a ∷ xs) [] x y h = absurd (omega (arith, ap length h, length-append xs (x ∷ [])))
same-ends (a ∷ xs) (b ∷ ys) x y h =
    let first : a ≡ b = cc in
    let later : xs ++ x ∷ [] ≡ ys ++ y ∷ [] = cc in
    let both = same-ends xs ys x y later in
    (λ i. first i ∷ both.0 i, both.1)

-- the term of an application's root
pub record IsApplied (from : ℕ) (below : List TermNode) (i : ℕ) (t : TermTree) : Type 0 where
  pub function : TermTree
  pub argument : TermTree
  pub is : t ≡ application function argument
  pub at : i ≡ from + under function
  pub laid : below ≡ term_nodes from function ++ term_nodes (from + (under function + 1)) argument

pub applied-parts : (from : ℕ) (below : List TermNode) (i j : ℕ) (t : TermTree) → below ++ App i j ∷ [] ≡ term_nodes from t → IsApplied from below i t
applied-parts from below i j (free_variable x ty) h = let e : App i j ≡ Free x ty = (same-ends below [] (App i j) (Free x ty) h).1 in absurd (cc)
applied-parts from below i j (bound_name x) h = let e : App i j ≡ Bound x = (same-ends below [] (App i j) (Bound x) h).1 in absurd (cc)
applied-parts from below i j (constant c ts) h = let e : App i j ≡ Const c ts = (same-ends below [] (App i j) (Const c ts) h).1 in absurd (cc)
applied-parts from below i j (application f a) h =
    let last : TermNode = App (from + under f) (from + (under f + 1) + under a) in
    let both = same-ends below (term_nodes from f ++ term_nodes (from + (under f + 1)) a) (App i j) last (h ∙ sym (append_assoc (term_nodes from f) (term_nodes (from + (under f + 1)) a) (last ∷ []))) in
    let e : App i j ≡ last = both.1 in
    record { function = f; argument = a; is = refl; at = cc; laid = both.0 }
applied-parts from below i j (abstraction x ty b) h =
    let e : App i j ≡ Lam x ty (from + under b) = (same-ends below (term_nodes from b) (App i j) (Lam x ty (from + under b)) h).1 in absurd (cc)

-- the term of an abstraction's root
pub record IsAbstracted (from : ℕ) (below : List TermNode) (x : Chars) (ty : TypeTree) (t : TermTree) : Type 0 where
  pub body : TermTree
  pub is : t ≡ abstraction x ty body
  pub laid : below ≡ term_nodes from body

pub abstracted-parts : (from : ℕ) (below : List TermNode) (x : Chars) (ty : TypeTree) (j : ℕ) (t : TermTree) → below ++ Lam x ty j ∷ [] ≡ term_nodes from t → IsAbstracted from below x ty t
abstracted-parts from below x ty j (free_variable y u) h = let e : Lam x ty j ≡ Free y u = (same-ends below [] (Lam x ty j) (Free y u) h).1 in absurd (cc)
abstracted-parts from below x ty j (bound_name y) h = let e : Lam x ty j ≡ Bound y = (same-ends below [] (Lam x ty j) (Bound y) h).1 in absurd (cc)
abstracted-parts from below x ty j (constant c ts) h = let e : Lam x ty j ≡ Const c ts = (same-ends below [] (Lam x ty j) (Const c ts) h).1 in absurd (cc)
abstracted-parts from below x ty j (application f a) h =
    let last : TermNode = App (from + under f) (from + (under f + 1) + under a) in
    let e : Lam x ty j ≡ last = (same-ends below (term_nodes from f ++ term_nodes (from + (under f + 1)) a) (Lam x ty j) last (h ∙ sym (append_assoc (term_nodes from f) (term_nodes (from + (under f + 1)) a) (last ∷ [])))).1 in absurd (cc)
abstracted-parts from below x ty j (abstraction y u b) h =
    let both = same-ends below (term_nodes from b) (Lam x ty j) (Lam y u (from + under b)) h in
    let e : Lam x ty j ≡ Lam y u (from + under b) = both.1 in
    let name : x ≡ y = cc in
    let type : ty ≡ u = cc in
    record { body = b; is = λ i. abstraction (sym name i) (sym type i) b; laid = both.0 }

-- a leaf's root
pub free-leaf : (from : ℕ) (below : List TermNode) (x : Chars) (ty : TypeTree) (t : TermTree) → below ++ Free x ty ∷ [] ≡ term_nodes from t → free_variable x ty ≡ t
free-leaf from below x ty (free_variable y u) h =
    let e : Free x ty ≡ Free y u = (same-ends below [] (Free x ty) (Free y u) h).1 in
    let name : x ≡ y = cc in
    let type : ty ≡ u = cc in
    λ i. free_variable (name i) (type i)
free-leaf from below x ty (bound_name y) h = let e : Free x ty ≡ Bound y = (same-ends below [] (Free x ty) (Bound y) h).1 in absurd (cc)
free-leaf from below x ty (constant c ts) h = let e : Free x ty ≡ Const c ts = (same-ends below [] (Free x ty) (Const c ts) h).1 in absurd (cc)
free-leaf from below x ty (application f a) h =
    let last : TermNode = App (from + under f) (from + (under f + 1) + under a) in
    let e : Free x ty ≡ last = (same-ends below (term_nodes from f ++ term_nodes (from + (under f + 1)) a) (Free x ty) last (h ∙ sym (append_assoc (term_nodes from f) (term_nodes (from + (under f + 1)) a) (last ∷ [])))).1 in absurd (cc)
free-leaf from below x ty (abstraction y u b) h =
    let e : Free x ty ≡ Lam y u (from + under b) = (same-ends below (term_nodes from b) (Free x ty) (Lam y u (from + under b)) h).1 in absurd (cc)

pub bound-leaf : (from : ℕ) (below : List TermNode) (x : Chars) (t : TermTree) → below ++ Bound x ∷ [] ≡ term_nodes from t → bound_name x ≡ t
bound-leaf from below x (free_variable y u) h = let e : Bound x ≡ Free y u = (same-ends below [] (Bound x) (Free y u) h).1 in absurd (cc)
bound-leaf from below x (bound_name y) h =
    let e : Bound x ≡ Bound y = (same-ends below [] (Bound x) (Bound y) h).1 in
    let name : x ≡ y = cc in ap bound_name name
bound-leaf from below x (constant c ts) h = let e : Bound x ≡ Const c ts = (same-ends below [] (Bound x) (Const c ts) h).1 in absurd (cc)
bound-leaf from below x (application f a) h =
    let last : TermNode = App (from + under f) (from + (under f + 1) + under a) in
    let e : Bound x ≡ last = (same-ends below (term_nodes from f ++ term_nodes (from + (under f + 1)) a) (Bound x) last (h ∙ sym (append_assoc (term_nodes from f) (term_nodes (from + (under f + 1)) a) (last ∷ [])))).1 in absurd (cc)
bound-leaf from below x (abstraction y u b) h =
    let e : Bound x ≡ Lam y u (from + under b) = (same-ends below (term_nodes from b) (Bound x) (Lam y u (from + under b)) h).1 in absurd (cc)

pub constant-leaf : (from : ℕ) (below : List TermNode) (c : Chars) (ts : List TypeTree) (t : TermTree) → below ++ Const c ts ∷ [] ≡ term_nodes from t → constant c ts ≡ t
constant-leaf from below c ts (free_variable y u) h = let e : Const c ts ≡ Free y u = (same-ends below [] (Const c ts) (Free y u) h).1 in absurd (cc)
constant-leaf from below c ts (bound_name y) h = let e : Const c ts ≡ Bound y = (same-ends below [] (Const c ts) (Bound y) h).1 in absurd (cc)
constant-leaf from below c ts (constant d us) h =
    let e : Const c ts ≡ Const d us = (same-ends below [] (Const c ts) (Const d us) h).1 in
    let name : c ≡ d = cc in
    let types : ts ≡ us = cc in
    λ i. constant (name i) (types i)
constant-leaf from below c ts (application f a) h =
    let last : TermNode = App (from + under f) (from + (under f + 1) + under a) in
    let e : Const c ts ≡ last = (same-ends below (term_nodes from f ++ term_nodes (from + (under f + 1)) a) (Const c ts) last (h ∙ sym (append_assoc (term_nodes from f) (term_nodes (from + (under f + 1)) a) (last ∷ [])))).1 in absurd (cc)
constant-leaf from below c ts (abstraction y u b) h =
    let e : Const c ts ≡ Lam y u (from + under b) = (same-ends below (term_nodes from b) (Const c ts) (Lam y u (from + under b)) h).1 in absurd (cc)

-- a part that is laid out as a term is that term
pub part-is : (from : ℕ) (nodes : List TermNode) (t : TermTree) → nodes ≡ term_nodes from t → term_of_nodes nodes ≡ t
part-is from nodes t h = ap term_of_nodes h ∙ term_of_nodes-term_nodes from t

pub as-part : (from : ℕ) (nodes : List TermNode) (t : TermTree) → nodes ≡ term_nodes from t → from + length nodes < 2 ^ 63 → IsPart from nodes
as-part from nodes t h b = record { laid = h ∙ ap (term_nodes from) (sym (part-is from nodes t h)); bounded = b }

-- the nodes before and behind the end of an application's function
pub function-nodes : (from : ℕ) (below front : List TermNode) (n : ℕ) (f a : TermTree) → below ≡ term_nodes from f ++ term_nodes (from + (under f + 1)) a → n ≡ under f + 1 → front ≡ take n below → front ≡ term_nodes from f
function-nodes from below front n f a h e p =
    p ∙ (λ i. take ((e ∙ sym (length-term_nodes from f)) i) (h i)) ∙ take-append_seam (term_nodes from f) (term_nodes (from + (under f + 1)) a)

pub argument-nodes : (from : ℕ) (at : ℕ) (below back : List TermNode) (n : ℕ) (f a : TermTree) → below ≡ term_nodes from f ++ term_nodes (from + (under f + 1)) a → n ≡ under f + 1 → at ≡ from + (under f + 1) → back ≡ drop n below → back ≡ term_nodes at a
argument-nodes from at below back n f a h e place p =
    p ∙ (λ i. drop ((e ∙ sym (length-term_nodes from f)) i) (h i)) ∙ drop-append_seam (term_nodes from f) (term_nodes (from + (under f + 1)) a)
    ∙ ap (λ k. term_nodes k a) (sym place)

-- the same by what is known of a part whose root is given

abbrev tree : List TermNode → TermNode → TermTree
tree below root = term_of_nodes (below ++ root ∷ [])

at-root : (from : ℕ) (below : List TermNode) (root n : TermNode) → root ≡ n → IsPart from (below ++ root ∷ []) → below ++ n ∷ [] ≡ term_nodes from (tree below root)
at-root from below root n e p = ap (λ r. below ++ r ∷ []) (sym e) ∙ p.laid

pub applied-root : (from : ℕ) (below : List TermNode) (root : TermNode) (i j : ℕ) → root ≡ App i j → IsPart from (below ++ root ∷ []) → IsApplied from below i (tree below root)
applied-root from below root i j e p = applied-parts from below i j (tree below root) (at-root from below root (App i j) e p)

pub abstracted-root : (from : ℕ) (below : List TermNode) (root : TermNode) (x : Chars) (ty : TypeTree) (j : ℕ) → root ≡ Lam x ty j → IsPart from (below ++ root ∷ []) → IsAbstracted from below x ty (tree below root)
abstracted-root from below root x ty j e p = abstracted-parts from below x ty j (tree below root) (at-root from below root (Lam x ty j) e p)

pub free-root : (from : ℕ) (below : List TermNode) (root : TermNode) (x : Chars) (ty : TypeTree) → root ≡ Free x ty → IsPart from (below ++ root ∷ []) → free_variable x ty ≡ tree below root
free-root from below root x ty e p = free-leaf from below x ty (tree below root) (at-root from below root (Free x ty) e p)

pub bound-root : (from : ℕ) (below : List TermNode) (root : TermNode) (x : Chars) → root ≡ Bound x → IsPart from (below ++ root ∷ []) → bound_name x ≡ tree below root
bound-root from below root x e p = bound-leaf from below x (tree below root) (at-root from below root (Bound x) e p)

pub constant-root : (from : ℕ) (below : List TermNode) (root : TermNode) (c : Chars) (ts : List TypeTree) → root ≡ Const c ts → IsPart from (below ++ root ∷ []) → constant c ts ≡ tree below root
constant-root from below root c ts e p = constant-leaf from below c ts (tree below root) (at-root from below root (Const c ts) e p)

-- how many nodes there are below
pub applied-size : (from : ℕ) (below : List TermNode) (i : ℕ) (t : TermTree) (p : IsApplied from below i t) → length below ≡ term_size p.function + term_size p.argument
applied-size from below i t p =
    omega (arith, ap length p.laid, length-append (term_nodes from p.function) (term_nodes (from + (under p.function + 1)) p.argument), length-term_nodes from p.function, length-term_nodes (from + (under p.function + 1)) p.argument)
