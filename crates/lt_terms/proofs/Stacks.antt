-- Terms that lie one after another.
use Rattle.std.proofs.Common.{◌≡◌, ℕ, zero, suc, ◌+◌, ◌-◌, ◌≤◌, ◌<◌, List, [], ◌∷◌, ◌++◌, length, take, get_or, refl, sym, ◌∙◌, ap, subst, arith, append_assoc, append-nil, length-append}
use Rattle.std.proofs.Math.Seq.{take-append_seam, get_or-append_seam}
use Rattle.lt_terms.specs.declared.term.TermNode.{TermNode}
use Rattle.lt_terms.specs.declared.term.TermNode.TheVariants.{Free, Bound, Const, App, Lam}
use Rattle.lt_definitions.specs.Types.{Chars, TypeTree}
use Rattle.lt_definitions.specs.Terms.{TermTree, free_variable, bound_name, constant}
use Rattle.lt_terms.specs.Layout.{under, term_nodes, grow, applied, abstracted, IsLeaf, forest, sizes, stacked, roots, IsStack}
use Rattle.lt_terms.proofs.LayoutLemmas.{length-term_nodes, forest-term_nodes, forest-append}

pub length-stacked : (ts : List TermTree) → length (stacked ts) ≡ sizes ts
length-stacked [] = refl
length-stacked (t ∷ before) = simp length-append (omega (arith, length-stacked before, length-term_nodes (sizes before) t))

pub length-roots : (ts : List TermTree) → length (roots ts) ≡ length ts
length-roots [] = refl
length-roots (t ∷ before) = simp length-append (omega (arith, length-roots before))

pub forest-stacked : (ts : List TermTree) → forest [] (stacked ts) ≡ ts
forest-stacked [] = refl
forest-stacked (t ∷ before) =
    forest-append [] (stacked before) (term_nodes (sizes before) t)
    ∙ ap (λ (b : List TermTree). forest b (term_nodes (sizes before) t)) (forest-stacked before)
    ∙ ap (forest before) (sym (append-nil (term_nodes (sizes before) t)))
    ∙ forest-term_nodes (sizes before) t before []

-- how many terms there are, by how many nodes and roots are kept
pub stack-length : (nodes : List TermNode) (places : List ℕ) (ts : List TermTree) → IsStack nodes places ts → 0 < length nodes → length places + 1 ≡ length ts
stack-length nodes places [] h e = absurd (omega (arith, e, ap length h.laid))
stack-length nodes places (t ∷ ts) h e = omega (arith, ap length h.at, length-roots ts)

pub stack-some : (nodes : List TermNode) (places : List ℕ) (ts : List TermTree) → IsStack nodes places ts → 1 ≤ length ts → 0 < length nodes
stack-some nodes places [] h e = absurd (omega (arith, e))
stack-some nodes places (t ∷ ts) h e = omega (arith, ap length h.laid, length-stacked (t ∷ ts))

pub stack-two : (nodes : List TermNode) (places : List ℕ) (ts : List TermTree) → IsStack nodes places ts → 2 ≤ length ts → 1 ≤ length places
stack-two nodes places [] h e = absurd (omega (arith, e))
stack-two nodes places (t ∷ ts) h e = omega (arith, e, ap length h.at, length-roots ts)

pub stack-reads : (nodes : List TermNode) (places : List ℕ) (ts : List TermTree) → IsStack nodes places ts → forest [] nodes ≡ ts
stack-reads nodes places ts h = ap (forest []) h.laid ∙ forest-stacked ts

pub stack-again : (nodes : List TermNode) (places : List ℕ) (ts : List TermTree) → IsStack nodes places ts → IsStack nodes places (forest [] nodes)
stack-again nodes places ts h = subst (λ (r : List TermTree). IsStack nodes places r) (sym (stack-reads nodes places ts h)) h

pub stack-one : (nodes : List TermNode) (places : List ℕ) (t : TermTree) → nodes ≡ term_nodes 0 t → places ≡ [] → IsStack nodes places (t ∷ [])
stack-one nodes places t h e = record { laid = h; at = e }

-- ---- one more term of one node

-- the roots where another term comes, by how many nodes there were
abbrev pub roots_later : ℕ → List ℕ → List ℕ
roots_later zero places = places
roots_later (suc n) places = places ++ n ∷ []

later : (nodes : List TermNode) (places : List ℕ) (ts : List TermTree) (n : ℕ) → IsStack nodes places ts → n ≡ length nodes → roots_later n places ≡ roots ts
later nodes places [] zero h e = h.at
later nodes places [] (suc n) h e = absurd (omega (arith, e, ap length h.laid))
later nodes places (t ∷ ts) zero h e = absurd (omega (arith, e, ap length h.laid, length-stacked (t ∷ ts)))
later nodes places (t ∷ ts) (suc n) h e =
    let root : n ≡ sizes ts + under t = omega (arith, e, ap length h.laid, length-stacked (t ∷ ts)) in
    λ i. h.at i ++ root i ∷ []

leaf-one : (nodes more_nodes : List TermNode) (places more_places : List ℕ) (ts : List TermTree) (t : TermTree) (node : TermNode) (n : ℕ) → IsStack nodes places ts → n ≡ length nodes
    → more_places ≡ roots_later n places → more_nodes ≡ nodes ++ node ∷ [] → term_nodes (sizes ts) t ≡ node ∷ [] → IsStack more_nodes more_places (t ∷ ts)
leaf-one nodes more_nodes places more_places ts t node n h e p q shape = record {
  laid = q ∙ (λ i. h.laid i ++ sym shape i);
  at = p ∙ later nodes places ts n h e;
}

pub stack-leaf : (nodes more_nodes : List TermNode) (places more_places : List ℕ) (ts : List TermTree) (node : TermNode) (n : ℕ) → IsLeaf node → IsStack nodes places ts → n ≡ length nodes
    → more_places ≡ roots_later n places → more_nodes ≡ nodes ++ node ∷ [] → IsStack more_nodes more_places (grow ts node)
stack-leaf nodes more_nodes places more_places ts (Free x t) n l h e p q = leaf-one nodes more_nodes places more_places ts (free_variable x t) (Free x t) n h e p q refl
stack-leaf nodes more_nodes places more_places ts (Bound x) n l h e p q = leaf-one nodes more_nodes places more_places ts (bound_name x) (Bound x) n h e p q refl
stack-leaf nodes more_nodes places more_places ts (Const c us) n l h e p q = leaf-one nodes more_nodes places more_places ts (constant c us) (Const c us) n h e p q refl
stack-leaf nodes more_nodes places more_places ts (App i j) n l h e p q = absurd l
stack-leaf nodes more_nodes places more_places ts (Lam x t i) n l h e p q = absurd l

-- the first of some terms, and a further one
pub first-leaf : (nodes more_nodes : List TermNode) (places more_places : List ℕ) (ts : List TermTree) (node : TermNode) → IsLeaf node → IsStack nodes places ts → length nodes ≡ 0
    → more_places ≡ places → more_nodes ≡ nodes ++ node ∷ [] → IsStack more_nodes more_places (grow ts node)
first-leaf nodes more_nodes places more_places ts node l h e p q = stack-leaf nodes more_nodes places more_places ts node 0 l h (sym e) p q

pub next-leaf : (nodes more_nodes : List TermNode) (places more_places : List ℕ) (ts : List TermTree) (node : TermNode) (n : ℕ) → IsLeaf node → IsStack nodes places ts → n + 1 ≡ length nodes
    → more_places ≡ places ++ n ∷ [] → more_nodes ≡ nodes ++ node ∷ [] → IsStack more_nodes more_places (grow ts node)
next-leaf nodes more_nodes places more_places ts node n l h e p q = stack-leaf nodes more_nodes places more_places ts node (suc n) l h (omega (arith, e)) p q

-- ---- the last terms become parts of another

-- the last place
pub last-root : (places kept : List ℕ) (r f k : ℕ) → places ≡ kept ++ r ∷ [] → k ≡ length places → f ≡ get_or places (k - 1) f → f ≡ r
last-root places kept r f k h c e =
    let at : k - 1 ≡ length kept = omega (arith, c, ap length h, length-append kept (r ∷ [])) in
    e ∙ (λ i. get_or (h i) (at i) f) ∙ get_or-append_seam kept r [] f

pub stack-app : (nodes more_nodes : List TermNode) (places more_places : List ℕ) (ts : List TermTree) (f n : ℕ) → IsStack nodes places ts → 2 ≤ length ts → n + 1 ≡ length nodes
    → places ≡ more_places ++ f ∷ [] → more_nodes ≡ nodes ++ App f n ∷ [] → IsStack more_nodes more_places (applied ts)
stack-app nodes more_nodes places more_places [] f n h two e p q = absurd (omega arith)
stack-app nodes more_nodes places more_places (t ∷ []) f n h two e p q = absurd (omega arith)
stack-app nodes more_nodes places more_places (u ∷ t ∷ ts) f n h two e p q = record {
  laid = q ∙ (λ i. h.laid i ++ App (function i) (argument i) ∷ []) ∙ regroup (stacked ts) (term_nodes (sizes ts) t) (term_nodes (sizes ts + (under t + 1)) u) (App (sizes ts + under t) (sizes ts + (under t + 1) + under u) ∷ []);
  at = front;
}
  where
    split : more_places ++ f ∷ [] ≡ roots ts ++ (sizes ts + under t) ∷ []
    split = sym p ∙ h.at

    count : length more_places ≡ length (roots ts)
    count = omega (arith, ap length split, length-append more_places (f ∷ []), length-append (roots ts) ((sizes ts + under t) ∷ []))

    function : f ≡ sizes ts + under t
    function = sym (get_or-append_seam more_places f [] 0) ∙ (λ i. get_or (split i) (count i) 0) ∙ get_or-append_seam (roots ts) (sizes ts + under t) [] 0

    front : more_places ≡ roots ts
    front = sym (take-append_seam more_places (f ∷ [])) ∙ (λ i. take (count i) (split i)) ∙ take-append_seam (roots ts) ((sizes ts + under t) ∷ [])

    argument : n ≡ sizes ts + (under t + 1) + under u
    argument = omega (arith, e, ap length h.laid, length-stacked (u ∷ t ∷ ts))

    regroup : (xs ys zs ns : List TermNode) → ((xs ++ ys) ++ zs) ++ ns ≡ xs ++ (ys ++ (zs ++ ns))
    regroup xs ys zs ns = simp append_assoc

pub stack-lam : (nodes more_nodes : List TermNode) (places : List ℕ) (ts : List TermTree) (x : Chars) (ty : TypeTree) (n : ℕ) → IsStack nodes places ts → 1 ≤ length ts → n + 1 ≡ length nodes
    → more_nodes ≡ nodes ++ Lam x ty n ∷ [] → IsStack more_nodes places (abstracted x ty ts)
stack-lam nodes more_nodes places [] x ty n h one e q = absurd (omega arith)
stack-lam nodes more_nodes places (t ∷ ts) x ty n h one e q = record {
  laid = q ∙ (λ i. h.laid i ++ Lam x ty (body i) ∷ []) ∙ append_assoc (stacked ts) (term_nodes (sizes ts) t) (Lam x ty (sizes ts + under t) ∷ []);
  at = h.at;
}
  where
    body : n ≡ sizes ts + under t
    body = omega (arith, e, ap length h.laid, length-stacked (t ∷ ts))
