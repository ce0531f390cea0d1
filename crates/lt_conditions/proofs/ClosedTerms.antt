-- A term is closed where none of its nodes is a free variable.
use Rattle.std.proofs.Common.{◌≡◌, ℕ, suc, ◌+◌, ◌<◌, ◌≤◌, List, [], ◌∷◌, ◌++◌, length, drop, get_or, Bool, true, false, ◌&&◌, not, refl, sym, ◌∙◌, ap, arith}
use Rattle.std.specs.List.{list_all}
use Rattle.std.proofs.Math.Seq.{drop-cons}
use Rattle.std.proofs.lemmas.List.{drop_all}
use Rattle.std.proofs.lemmas.List.Folds.{list_all-append}
use Rattle.lt_definitions.specs.Terms.{TermTree, free_variable, bound_name, constant, application, abstraction, is_closed}
use Rattle.lt_terms.specs.declared.term.TermNode.{TermNode}
use Rattle.lt_terms.specs.declared.term.TermNode.TheVariants.{App, Lam}
use Rattle.lt_terms.specs.Layout.{under, term_nodes}
use Rattle.lt_conditions.specs.FreeNodes.{is_free}

-- whether no node is a free variable
abbrev pub none_free : List TermNode → Bool
none_free nodes = list_all (λ n. not (is_free n)) nodes

and-true : (b : Bool) → (b && true) ≡ b
and-true true = refl
and-true false = refl

none-append : (xs ys : List TermNode) → none_free (xs ++ ys) ≡ (none_free xs && none_free ys)
none-append xs ys = list_all-append (λ n. not (is_free n)) xs ys

closed-nodes : (from : ℕ) (t : TermTree) → none_free (term_nodes from t) ≡ is_closed t
closed-nodes from (free_variable x t) = refl
closed-nodes from (bound_name x) = refl
closed-nodes from (constant c ts) = refl
closed-nodes from (application f a) =
    let root : List TermNode = App (from + under f) (from + (under f + 1) + under a) ∷ [] in
    none-append (term_nodes from f) (term_nodes (from + (under f + 1)) a ++ root)
    ∙ (λ i. closed-nodes from f i && (none-append (term_nodes (from + (under f + 1)) a) root ∙ and-true (none_free (term_nodes (from + (under f + 1)) a)) ∙ closed-nodes (from + (under f + 1)) a) i)
closed-nodes from (abstraction x t b) = none-append (term_nodes from b) (Lam x t (from + under b) ∷ []) ∙ and-true (none_free (term_nodes from b)) ∙ closed-nodes from b

-- whether it is closed hangs on the nodes from a place on
pub closed-first : (t : TermTree) (nodes : List TermNode) → nodes ≡ term_nodes 0 t → is_closed t ≡ none_free (drop 0 nodes)
closed-first t nodes e = sym (closed-nodes 0 t) ∙ ap none_free (sym e)

at-place : (nodes : List TermNode) (i : ℕ) (n : TermNode) → i < length nodes → n ≡ get_or nodes i n → drop i nodes ≡ n ∷ drop (i + 1) nodes
at-place nodes i n h e =
    let next : suc i ≡ i + 1 = omega arith in
    drop-cons nodes i n h ∙ (λ j. sym e j ∷ drop (next j) nodes)

pub closed-next : (c : Bool) (nodes : List TermNode) (i : ℕ) (n : TermNode) → i < length nodes → n ≡ get_or nodes i n → c ≡ none_free (drop i nodes) → is_free n ≡ false
    → c ≡ none_free (drop (i + 1) nodes)
closed-next c nodes i n h e k f = k ∙ ap none_free (at-place nodes i n h e) ∙ ap (λ (b : Bool). not b && none_free (drop (i + 1) nodes)) f

pub closed-free : (c : Bool) (nodes : List TermNode) (i : ℕ) (n : TermNode) → i < length nodes → n ≡ get_or nodes i n → c ≡ none_free (drop i nodes) → is_free n ≡ true → false ≡ c
closed-free c nodes i n h e k f = sym (k ∙ ap none_free (at-place nodes i n h e) ∙ ap (λ (b : Bool). not b && none_free (drop (i + 1) nodes)) f)

pub closed-last : (c : Bool) (nodes : List TermNode) (i : ℕ) → length nodes ≤ i → c ≡ none_free (drop i nodes) → true ≡ c
closed-last c nodes i h k = sym (k ∙ ap none_free (drop_all i nodes h))
