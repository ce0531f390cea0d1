-- The function of an application lies at the front of its nodes.
use Rattle.std.proofs.Common.{◌≡◌, ℕ, zero, suc, ◌+◌, ◌≤◌, ◌<◌, List, [], ◌∷◌, ◌++◌, length, take, slice_get, Some, None, Option, Result, Ok, Err, IfOk, refl, sym, ◌∙◌, ap, subst, arith, length-append, append_assoc}
use Rattle.std.proofs.Math.Seq.{take-append_seam}
use Rattle.lt_definitions.specs.Types.{Chars, TypeTree}
use Rattle.lt_definitions.specs.Terms.{TermTree, free_variable, bound_name, constant, application, abstraction}
use Rattle.lt_definitions.specs.Theory.{is_applied}
use Rattle.lt_definitions.specs.Alpha.{is_alpha}
use Rattle.lt_terms.specs.declared.term.TermNode.{TermNode}
use Rattle.lt_terms.specs.declared.term.TermNode.TheVariants.{Free, Bound, Const, App, Lam}
use Rattle.lt_terms.specs.Layout.{under, term_size, term_nodes}
use Rattle.lt_terms.proofs.LayoutLemmas.{length-term_nodes}
use Rattle.lt_conditions.specs.Applied.{function_of, IsFrontPlace}

-- the node behind all others
last-node : {A : Type 0} (xs : List A) (x y : A) (k : ℕ) → slice_get (xs ++ x ∷ []) k ≡ Some y → k ≡ length xs → x ≡ y
last-node [] x y zero h e = cc h
last-node [] x y (suc k) h e = absurd (omega (arith, e))
last-node (z ∷ xs) x y zero h e = absurd (omega (arith, e))
last-node (z ∷ xs) x y (suc k) h e = last-node xs x y k h (omega (arith, e))

-- where the root is an application, its function ends there
pub front-place : (t : TermTree) (k f a : ℕ) → slice_get (term_nodes 0 t) k ≡ Some (App f a) → k ≡ under t → IsFrontPlace t f
front-place (free_variable x ty) k f a h e = let no : Free x ty ≡ App f a = last-node [] (Free x ty) (App f a) k h e in absurd (cc no)
front-place (bound_name x) k f a h e = let no : Bound x ≡ App f a = last-node [] (Bound x) (App f a) k h e in absurd (cc no)
front-place (constant c ts) k f a h e = let no : Const c ts ≡ App f a = last-node [] (Const c ts) (App f a) k h e in absurd (cc no)
front-place (abstraction x ty b) k f a h e =
    let no : Lam x ty (0 + under b) ≡ App f a = last-node (term_nodes 0 b) (Lam x ty (0 + under b)) (App f a) k h (omega (arith, e, length-term_nodes 0 b)) in absurd (cc no)
front-place (application g b) k f a h e =
    let front : List TermNode = term_nodes 0 g ++ term_nodes (0 + (under g + 1)) b in
    let root : TermNode = App (0 + under g) (0 + (under g + 1) + under b) in
    let whole : slice_get (front ++ root ∷ []) k ≡ Some (App f a) = ap (λ (ns : List TermNode). slice_get ns k) (append_assoc (term_nodes 0 g) (term_nodes (0 + (under g + 1)) b) (root ∷ [])) ∙ h in
    let size : length front ≡ term_size g + term_size b = length-append (term_nodes 0 g) (term_nodes (0 + (under g + 1)) b) ∙ (λ i. length-term_nodes 0 g i + length-term_nodes (0 + (under g + 1)) b i) in
    let same : root ≡ App f a = last-node front root (App f a) k whole (omega (arith, e, size)) in
    let first : 0 + under g ≡ f = cc same in omega (arith, first)

-- another root has no function
pub no-front : (t : TermTree) (k : ℕ) (n : TermNode) → slice_get (term_nodes 0 t) k ≡ Some n → k ≡ under t → ((f a : ℕ) → n ≡ App f a → ⊥) → function_of t ≡ None
no-front (free_variable x ty) k n h e d = refl
no-front (bound_name x) k n h e d = refl
no-front (constant c ts) k n h e d = refl
no-front (abstraction x ty b) k n h e d = refl
no-front (application g b) k n h e d =
    let front : List TermNode = term_nodes 0 g ++ term_nodes (0 + (under g + 1)) b in
    let root : TermNode = App (0 + under g) (0 + (under g + 1) + under b) in
    let whole : slice_get (front ++ root ∷ []) k ≡ Some n = ap (λ (ns : List TermNode). slice_get ns k) (append_assoc (term_nodes 0 g) (term_nodes (0 + (under g + 1)) b) (root ∷ [])) ∙ h in
    let size : length front ≡ term_size g + term_size b = length-append (term_nodes 0 g) (term_nodes (0 + (under g + 1)) b) ∙ (λ i. length-term_nodes 0 g i + length-term_nodes (0 + (under g + 1)) b i) in
    absurd (d (0 + under g) (0 + (under g + 1) + under b) (sym (last-node front root n k whole (omega (arith, e, size)))))

-- The nodes up to there make the function.
pub record IsFront (t : TermTree) (nodes : List TermNode) (place : ℕ) : Type 0 where
  pub function : TermTree
  pub is : function_of t ≡ Some function
  pub nodes_are : take (place + 1) nodes ≡ term_nodes 0 function
  pub within : place + 1 ≤ length nodes

pub front : (t : TermTree) (nodes : List TermNode) (place : ℕ) → nodes ≡ term_nodes 0 t → IsFrontPlace t place → IsFront t nodes place
front (free_variable x ty) nodes place e h = absurd h
front (bound_name x) nodes place e h = absurd h
front (constant c ts) nodes place e h = absurd h
front (abstraction x ty b) nodes place e h = absurd h
front (application g b) nodes place e h =
    let rest : List TermNode = term_nodes (0 + (under g + 1)) b ++ App (0 + under g) (0 + (under g + 1) + under b) ∷ [] in
    let count : place + 1 ≡ length (term_nodes 0 g) = omega (arith, h, length-term_nodes 0 g) in
    record {
      function = g;
      is = refl;
      nodes_are = (λ i. take (count i) (e i)) ∙ take-append_seam (term_nodes 0 g) rest;
      within = let size : length nodes ≡ length (term_nodes 0 g) + length rest = ap length e ∙ length-append (term_nodes 0 g) rest in omega (arith, count, size);
    }

-- whether a statement applies the predicate, by its function
pub applied-to : (p t g : TermTree) → function_of t ≡ Some g → is_applied p (Some t) ≡ is_alpha p g
applied-to p (application f a) g e = let same : f ≡ g = cc e in ap (is_alpha p) same
applied-to p (free_variable x ty) g e = absurd (cc e)
applied-to p (bound_name x) g e = absurd (cc e)
applied-to p (constant c ts) g e = absurd (cc e)
applied-to p (abstraction x ty b) g e = absurd (cc e)

-- what is made of the nodes up to there is the function
pub made-front : {E : Type 0} (t : TermTree) (nodes : List TermNode) (place : ℕ) (r : Result TermTree E) → IsFront t nodes place → IfOk r (λ u. (f : TermTree) → take (place + 1) nodes ≡ term_nodes 0 f → u ≡ f)
    → IfOk r (λ u. function_of t ≡ Some u)
made-front t nodes place (Ok u) f h = f.is ∙ ap Some (sym (h f.function f.nodes_are))
made-front t nodes place (Err e) f h = tt
