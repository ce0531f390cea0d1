-- Terms that stand at places of shared nodes, while nodes are added.
use Rattle.std.proofs.Common.{◌≡◌, ℕ, ◌+◌, ◌≤◌, ◌<◌, List, [], ◌∷◌, ◌++◌, length, map, reverse, get_or, true, nat_lt, refl, sym, ◌∙◌, ap, subst, arith, length-append, append_assoc}
use Rattle.std.proofs.Math.ListN.{get_or-append}
use Rattle.std.proofs.Math.Seq.{get_or-append_seam}
use Rattle.std.proofs.lemmas.List.{map-append, length-map, reverse-append, length-reverse}
use Rattle.std.proofs.lemmas.Bool.{lt-ltb, and_from}
use Rattle.lt_definitions.specs.Types.{Chars, TypeTree}
use Rattle.lt_definitions.specs.Terms.{TermTree, free_variable, bound_name, constant, application, abstraction}
use Rattle.lt_terms.specs.declared.term.TermNode.{TermNode}
use Rattle.lt_terms.specs.declared.term.TermNode.TheVariants.{Free, Bound, Const, App, Lam}
use Rattle.lt_terms.specs.Layout.{grow, HasRoom}
use Rattle.lt_hol.specs.Lines.{has_children_below, tree_of, trees_behind, trees}
use Rattle.lt_kernel.specs.Lines.{AreBelow}
use Rattle.lt_extend.specs.Placing.{HasPlaces, TakesPlaces}

-- the term at a place
abbrev pub placed_at : List TermNode → ℕ → TermTree
placed_at nodes p = get_or (trees nodes) p (bound_name [])

behind-append : (ts : List TermTree) (xs ys : List TermNode) → trees_behind ts (xs ++ ys) ≡ trees_behind (trees_behind ts xs) ys
behind-append ts [] ys = refl
behind-append ts (n ∷ xs) ys = behind-append (ts ++ tree_of ts n ∷ []) xs ys

length-behind : (ts : List TermTree) (ns : List TermNode) → length (trees_behind ts ns) ≡ length ts + length ns
length-behind ts [] = omega arith
length-behind ts (n ∷ ns) = length-behind (ts ++ tree_of ts n ∷ []) ns ∙ omega (arith, length-append ts (tree_of ts n ∷ []))

as-many : (ns : List TermNode) → length (trees ns) ≡ length ns
as-many ns = length-behind [] ns ∙ omega arith

-- one more node

placed-stays : (ns : List TermNode) (n : TermNode) (p : ℕ) → p < length ns → placed_at (ns ++ n ∷ []) p ≡ placed_at ns p
placed-stays ns n p h =
    ap (λ (ts : List TermTree). get_or ts p (bound_name [])) (behind-append [] ns (n ∷ []))
    ∙ get_or-append (trees ns) (tree_of (trees ns) n ∷ []) (bound_name []) p (omega (arith, h, as-many ns))

placed-new : (ns : List TermNode) (n : TermNode) → placed_at (ns ++ n ∷ []) (length ns) ≡ tree_of (trees ns) n
placed-new ns n =
    (λ i. get_or (behind-append [] ns (n ∷ []) i) (sym (as-many ns) i) (bound_name [])) ∙ get_or-append_seam (trees ns) (tree_of (trees ns) n) [] (bound_name [])

all-stay : (ns : List TermNode) (n : TermNode) (ps : List ℕ) → AreBelow (length ns) ps → map (placed_at (ns ++ n ∷ [])) ps ≡ map (placed_at ns) ps
all-stay ns n [] h = refl
all-stay ns n (p ∷ ps) h = λ i. placed-stays ns n p h.0 i ∷ all-stay ns n ps h.1 i

below-wider : (m n : ℕ) (ps : List ℕ) → m ≤ n → AreBelow m ps → AreBelow n ps
below-wider m n [] e h = tt
below-wider m n (p ∷ ps) e h = (omega (arith, e, h.0), below-wider m n ps e h.1)

below-append : (n : ℕ) (ps qs : List ℕ) → AreBelow n ps → AreBelow n qs → AreBelow n (ps ++ qs)
below-append n [] qs h k = k
below-append n (p ∷ ps) qs h k = (h.0, below-append n ps qs h.1 k)

below-front : (n : ℕ) (ps qs : List ℕ) → AreBelow n (ps ++ qs) → AreBelow n ps × AreBelow n qs
below-front n [] qs h = (tt, h)
below-front n (p ∷ ps) qs h = let rest = below-front n ps qs h.1 in ((h.0, rest.0), rest.1)

-- The terms so far, the last one first, stand at these places, the last one last.
pub record IsLaid (nodes : List TermNode) (places : List ℕ) (terms : List TermTree) : Type 0 where
  pub below : AreBelow (length nodes) places
  pub are : terms ≡ reverse (map (placed_at nodes) places)

as-many-places : (nodes : List TermNode) (places : List ℕ) (terms : List TermTree) → IsLaid nodes places terms → length terms ≡ length places
as-many-places nodes places terms h = ap length h.are ∙ length-reverse (map (placed_at nodes) places) ∙ length-map places (placed_at nodes)

pub laid-room : (nodes : List TermNode) (places : List ℕ) (terms : List TermTree) (n : TermNode) → IsLaid nodes places terms → HasRoom terms n → HasPlaces places n
laid-room nodes places terms (Free x ty) h r = tt
laid-room nodes places terms (Bound x) h r = tt
laid-room nodes places terms (Const c ts) h r = tt
laid-room nodes places terms (App i j) h r = omega (arith, r, as-many-places nodes places terms h)
laid-room nodes places terms (Lam x ty i) h r = omega (arith, r, as-many-places nodes places terms h)

-- a node that is made of what stands at the places of its children
pub record IsLaidNext (nodes : List TermNode) (m : TermNode) (rest : List ℕ) (terms : List TermTree) : Type 0 where
  pub children : has_children_below (length nodes) m ≡ true
  pub laid : IsLaid (nodes ++ m ∷ []) (rest ++ length nodes ∷ []) terms

made : (nodes : List TermNode) (m : TermNode) (rest : List ℕ) (t : TermTree) (terms : List TermTree) → AreBelow (length nodes) rest → has_children_below (length nodes) m ≡ true → t ≡ tree_of (trees nodes) m
    → terms ≡ reverse (map (placed_at nodes) rest) → IsLaidNext nodes m rest (t ∷ terms)
made nodes m rest t terms b c e h =
    let longer : length (nodes ++ m ∷ []) ≡ length nodes + 1 = length-append nodes (m ∷ []) in record {
      children = c;
      laid = record {
        below = below-append (length (nodes ++ m ∷ [])) rest (length nodes ∷ []) (below-wider (length nodes) (length (nodes ++ m ∷ [])) rest (omega (arith, longer)) b) (omega (arith, longer), tt);
        are = (λ i. (e ∙ sym (placed-new nodes m)) i ∷ (h ∙ ap reverse (sym (all-stay nodes m rest b))) i)
            ∙ sym (ap reverse (map-append (placed_at (nodes ++ m ∷ [])) rest (length nodes ∷ [])) ∙ reverse-append (map (placed_at (nodes ++ m ∷ [])) rest) (placed_at (nodes ++ m ∷ []) (length nodes) ∷ []));
      };
    }

leaf : (nodes : List TermNode) (places rest : List ℕ) (n m : TermNode) (t : TermTree) (terms : List TermTree) → IsLaid nodes places terms → rest ≡ places → m ≡ n → has_children_below (length nodes) n ≡ true
    → t ≡ tree_of (trees nodes) n → IsLaidNext nodes m rest (t ∷ terms)
leaf nodes places rest n m t terms h e is c k = made nodes m rest t terms
    (subst (AreBelow (length nodes)) (sym e) h.below)
    (ap (has_children_below (length nodes)) is ∙ c)
    (k ∙ ap (tree_of (trees nodes)) (sym is))
    (h.are ∙ ap (λ (ps : List ℕ). reverse (map (placed_at nodes) ps)) (sym e))

pub laid-next : (nodes : List TermNode) (places rest : List ℕ) (n m : TermNode) (terms : List TermTree) → IsLaid nodes places terms → TakesPlaces places rest n m → IsLaidNext nodes m rest (grow terms n)
laid-next nodes places rest (Free x ty) m terms h k = leaf nodes places rest (Free x ty) m (free_variable x ty) terms h k.0 k.1 refl refl
laid-next nodes places rest (Bound x) m terms h k = leaf nodes places rest (Bound x) m (bound_name x) terms h k.0 k.1 refl refl
laid-next nodes places rest (Const c ts) m terms h k = leaf nodes places rest (Const c ts) m (constant c ts) terms h k.0 k.1 refl refl
laid-next nodes places rest (App i j) m terms h (f, a, e, is) =
    let g : ℕ → TermTree = placed_at nodes in
    let b = below-front (length nodes) rest (f ∷ a ∷ []) (subst (AreBelow (length nodes)) e h.below) in
    let are : terms ≡ g a ∷ g f ∷ reverse (map g rest) =
    h.are ∙ ap (λ (ps : List ℕ). reverse (map g ps)) e ∙ ap reverse (map-append g rest (f ∷ a ∷ [])) ∙ reverse-append (map g rest) (g f ∷ g a ∷ []) in
    subst (λ (ts : List TermTree). IsLaidNext nodes m rest (grow ts (App i j))) (sym are)
    (made nodes m rest (application (g f) (g a)) (reverse (map g rest)) b.0
    (ap (has_children_below (length nodes)) is ∙ and_from (nat_lt f (length nodes)) (nat_lt a (length nodes)) (lt-ltb f (length nodes) b.1.0) (lt-ltb a (length nodes) b.1.1.0))
    (ap (tree_of (trees nodes)) (sym is)) refl)
laid-next nodes places rest (Lam x ty i) m terms h (b, e, is) =
    let g : ℕ → TermTree = placed_at nodes in
    let w = below-front (length nodes) rest (b ∷ []) (subst (AreBelow (length nodes)) e h.below) in
    let are : terms ≡ g b ∷ reverse (map g rest) =
    h.are ∙ ap (λ (ps : List ℕ). reverse (map g ps)) e ∙ ap reverse (map-append g rest (b ∷ [])) ∙ reverse-append (map g rest) (g b ∷ []) in
    subst (λ (ts : List TermTree). IsLaidNext nodes m rest (grow ts (Lam x ty i))) (sym are)
    (made nodes m rest (abstraction x ty (g b)) (reverse (map g rest)) w.0 (ap (has_children_below (length nodes)) is ∙ lt-ltb b (length nodes) w.1.0) (ap (tree_of (trees nodes)) (sym is)) refl)

-- the place where one more was pushed
pub laid-pushed : (nodes new : List TermNode) (m : TermNode) (rest pushed : List ℕ) (place : ℕ) (terms : List TermTree) → IsLaidNext nodes m rest terms → new ≡ nodes ++ m ∷ [] → place ≡ length nodes
    → pushed ≡ rest ++ place ∷ [] → IsLaid new pushed terms
laid-pushed nodes new m rest pushed place terms h e p q =
    subst (λ (x : List TermNode × List ℕ). IsLaid x.0 x.1 terms) (λ i. (sym e i, sym (q ∙ ap (λ k. rest ++ k ∷ []) p) i)) h.laid

-- one term stands at one place
pub laid-one : (nodes : List TermNode) (places : List ℕ) (t : TermTree) (terms : List TermTree) → IsLaid nodes places terms → terms ≡ t ∷ [] → length places ≡ 1
laid-one nodes places t terms h e = sym (as-many-places nodes places terms h) ∙ ap length e

pub laid-at : (nodes : List TermNode) (places : List ℕ) (p : ℕ) (t : TermTree) (terms : List TermTree) → IsLaid nodes places terms → terms ≡ t ∷ [] → places ≡ p ∷ [] → (p < length nodes) × (placed_at nodes p ≡ t)
laid-at nodes places p t terms h e is =
    let b : AreBelow (length nodes) (p ∷ []) = subst (AreBelow (length nodes)) is h.below in
    let at : t ∷ [] ≡ placed_at nodes p ∷ [] = sym e ∙ h.are ∙ ap (λ (ps : List ℕ). reverse (map (placed_at nodes) ps)) is in
    (b.0, sym (cc at))

pub laid-first : (nodes : List TermNode) (places : List ℕ) → places ≡ [] → IsLaid nodes places []
laid-first nodes places e = subst (λ (ps : List ℕ). IsLaid nodes ps []) (sym e) (record { below = tt; are = refl })

-- ---- places that are taken away

pub two-places : (places : List ℕ) (n : TermNode) (f a : ℕ) → n ≡ App f a → HasPlaces places n → 1 ≤ length places
two-places places n f a e h = let two : 2 ≤ length places = subst (HasPlaces places) e h in omega (arith, two)

pub more-places : (places rest : List ℕ) (last : ℕ) (n : TermNode) (f a : ℕ) → n ≡ App f a → HasPlaces places n → places ≡ rest ++ last ∷ [] → 1 ≤ length rest
more-places places rest last n f a e h p =
    let two : 2 ≤ length places = subst (HasPlaces places) e h in
    let size : length places ≡ length rest + 1 = ap length p ∙ length-append rest (last ∷ []) in
    omega (arith, two, size)

pub one-place : (places : List ℕ) (n : TermNode) (x : Chars) (ty : TypeTree) (b : ℕ) → n ≡ Lam x ty b → HasPlaces places n → 1 ≤ length places
one-place places n x ty b e h = subst (HasPlaces places) e h

pub takes-two : (places mid rest : List ℕ) (n m : TermNode) (f a i j : ℕ) → n ≡ App i j → places ≡ mid ++ a ∷ [] → mid ≡ rest ++ f ∷ [] → m ≡ App f a → TakesPlaces places rest n m
takes-two places mid rest n m f a i j e p q is =
    subst (λ (k : TermNode). TakesPlaces places rest k m) (sym e) (f, a, p ∙ ap (λ (ps : List ℕ). ps ++ a ∷ []) q ∙ append_assoc rest (f ∷ []) (a ∷ []), is)

pub takes-one : (places rest : List ℕ) (n m : TermNode) (b i : ℕ) (x y : Chars) (ty u : TypeTree) → n ≡ Lam x ty i → places ≡ rest ++ b ∷ [] → m ≡ Lam y u b → y ≡ x → u ≡ ty → TakesPlaces places rest n m
takes-one places rest n m b i x y ty u e p is f g =
    subst (λ (k : TermNode). TakesPlaces places rest k m) (sym e) (b, p, is ∙ (λ j. Lam (f j) (g j) b))
