-- The greatest length of a bound name, over the nodes of a term.
use Rattle.std.proofs.Common.{◌≡◌, ℕ, suc, ◌+◌, ◌<◌, List, [], ◌∷◌, ◌++◌, length, drop, get_or, max, sym, ◌∙◌, ap, arith, add-one}
use Rattle.std.proofs.Math.Nat.{max_comm}
use Rattle.std.proofs.Math.Seq.{drop-cons}
use Rattle.lt_definitions.specs.Terms.{TermTree, free_variable, bound_name, constant, application, abstraction}
use Rattle.lt_definitions.specs.Binding.{longest}
use Rattle.lt_terms.specs.declared.term.TermNode.{TermNode}
use Rattle.lt_terms.specs.declared.term.TermNode.TheVariants.{App, Lam}
use Rattle.lt_terms.specs.Layout.{under, term_nodes}
use Rattle.lt_terms.specs.NodeNames.{name_length}

abbrev pub greatest : List TermNode → ℕ
greatest [] = 0
greatest (n ∷ ns) = max (name_length n) (greatest ns)

max-zero : (a : ℕ) → max a 0 ≡ a
max-zero a = omega arith

max-assoc : (a b c : ℕ) → max (max a b) c ≡ max a (max b c)
max-assoc a b c = omega arith

greatest-append : (xs ys : List TermNode) → greatest (xs ++ ys) ≡ max (greatest xs) (greatest ys)
greatest-append [] ys = omega arith
greatest-append (n ∷ xs) ys = ap (max (name_length n)) (greatest-append xs ys) ∙ sym (max-assoc (name_length n) (greatest xs) (greatest ys))

pub greatest-longest : (from : ℕ) (t : TermTree) → greatest (term_nodes from t) ≡ longest t
greatest-longest from (free_variable x t) = omega arith
greatest-longest from (bound_name x) = max-zero (length x)
greatest-longest from (constant c ts) = omega arith
greatest-longest from (application f a) =
    let last : List TermNode = App (from + under f) (from + (under f + 1) + under a) ∷ [] in
    greatest-append (term_nodes from f) (term_nodes (from + (under f + 1)) a ++ last)
    ∙ (λ i. max (greatest-longest from f i) ((greatest-append (term_nodes (from + (under f + 1)) a) last ∙ (λ j. max (greatest-longest (from + (under f + 1)) a j) 0) ∙ max-zero (longest a)) i))
greatest-longest from (abstraction x t b) =
    greatest-append (term_nodes from b) (Lam x t (from + under b) ∷ [])
    ∙ (λ i. max (greatest-longest from b i) (max-zero (length x) i)) ∙ max_comm (longest b) (length x)

-- one more node
pub greatest-next : (so_far : ℕ) (ns : List TermNode) (i : ℕ) (n : TermNode) → i < length ns → n ≡ get_or ns i n → max so_far (greatest (drop i ns)) ≡ max (max so_far (name_length n)) (greatest (drop (i + 1) ns))
greatest-next so_far ns i n h e =
    ap (λ ms. max so_far (greatest ms)) (drop-cons ns i n h ∙ ap (λ q. q ∷ drop (suc i) ns) (sym e) ∙ ap (λ k. n ∷ drop k ns) (sym (add-one i)))
    ∙ sym (max-assoc so_far (name_length n) (greatest (drop (i + 1) ns)))

-- at the beginning
pub greatest-first : (t : TermTree) (ns : List TermNode) → ns ≡ term_nodes 0 t → longest t ≡ max 0 (greatest (drop 0 ns))
greatest-first t ns e = sym (max_comm 0 (greatest ns) ∙ max-zero (greatest ns) ∙ ap greatest e ∙ greatest-longest 0 t)
