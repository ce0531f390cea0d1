-- Numbering type variables in order of first appearance.
use Rattle.std.proofs.Common.{◌≡◌, inl, inr, ℕ, suc, ◌+◌, ◌<◌, ◌≤◌, List, [], ◌∷◌, ◌++◌, Bool, true, false, ◌||◌, length, reverse, drop, get_or, slice_get, is_some, Some, codes, refl, sym, ◌∙◌, ap, subst, arith, add-one, append_assoc, append-nil}
use Rattle.std.specs.Fmt.{decimal}
use Rattle.std.proofs.Math.Seq.{drop-cons}
use Rattle.std.proofs.Math.ListN.{drop_of_length-le}
use Rattle.std.proofs.lemmas.List.{reverse-append}
use Rattle.lt_definitions.specs.Types.{Chars, same_name, has_name, names_joined, found, TypeTree, TypeTrees, TypeMap, type_variable, type_constructor, no_types, type_and, row, type_names, types_names}
use Rattle.lt_definitions.specs.Terms.{TermTree, term_names, term_variables}
use Rattle.lt_definitions.specs.Alpha.{numbered}
use Rattle.lt_definitions.proofs.SameNames.{true-false, bool_cases}
use Rattle.lt_nameless.proofs.BindingLemmas.{if-true, if-false}
use Rattle.lt_types.specs.Maps.{with_pair}
use Rattle.lt_types.specs.Layout as types
use Rattle.lt_types.specs.declared.ty.TyNode.{TyNode}
use Rattle.lt_types.specs.declared.ty.TyNode.TheVariants.{Con}
use Rattle.lt_terms.specs.declared.term.TermNode.{TermNode}
use Rattle.lt_terms.specs.declared.term.TermNode.TheVariants.{Free, Bound, Const, App, Lam}
use Rattle.lt_terms.specs.Layout.{under, term_size, term_nodes}
use Rattle.lt_terms.specs.Numberings.{variable_names, node_names, parts, IsUnderway}
use Rattle.lt_terms.proofs.TermPlaces.{term_at, tree_of, IsWithin, IsPlace, place, term_at-last}

-- One name.

abbrev variable : ℕ → TypeTree
variable k = type_variable (codes "t" ++ decimal k)

found-numbered : (k : ℕ) (x : Chars) (ns : List Chars) → is_some (found x (numbered k ns)) ≡ has_name x ns
found-numbered k x [] = refl
found-numbered k x (n ∷ ns) = elim (bool_cases (same_name x n)) [
  | inl h ↦ ap is_some (if-true (same_name x n) (Some (variable k)) (found x (numbered (k + 1) ns)) h) ∙ sym (ap (λ (b : Bool). b || has_name x ns) h)
  | inr h ↦ ap is_some (if-false (same_name x n) (Some (variable k)) (found x (numbered (k + 1) ns)) h) ∙ found-numbered (k + 1) x ns ∙ sym (ap (λ (b : Bool). b || has_name x ns) h)
]

length-numbered : (k : ℕ) (ns : List Chars) → length (numbered k ns) ≡ length ns
length-numbered k [] = refl
length-numbered k (n ∷ ns) = ap suc (length-numbered (k + 1) ns)

numbered-last : (k : ℕ) (ns : List Chars) (x : Chars) → numbered k (ns ++ x ∷ []) ≡ numbered k ns ++ (x, variable (k + length ns)) ∷ []
numbered-last k [] x = let z : k ≡ k + 0 = omega arith in ap (λ (j : ℕ). (x, variable j) ∷ []) z
numbered-last k (n ∷ ns) x =
    let z : (k + 1) + length ns ≡ k + suc (length ns) = omega arith in
    ap (λ (ps : TypeMap). (n, variable k) ∷ ps) (numbered-last (k + 1) ns x ∙ ap (λ (j : ℕ). numbered (k + 1) ns ++ (x, variable j) ∷ []) z)

paired-last : (x : Chars) (t : TypeTree) (ps : TypeMap) → is_some (found x ps) ≡ false → with_pair x t ps ≡ ps ++ (x, t) ∷ []
paired-last x t [] e = refl
paired-last x t (p ∷ ps) e = elim (bool_cases (same_name x p.0)) [
  | inl h ↦ absurd (true-false (sym (ap is_some (if-true (same_name x p.0) (Some p.1) (found x ps) h)) ∙ e))
  | inr h ↦ if-false (same_name x p.0) ((p.0, t) ∷ ps) (p ∷ with_pair x t ps) h
      ∙ ap (λ (qs : TypeMap). p ∷ qs) (paired-last x t ps (sym (ap is_some (if-false (same_name x p.0) (Some p.1) (found x ps) h)) ∙ e))
]

pub underway-first : (map : TypeMap) (later : List Chars) → map ≡ [] → IsUnderway map later (names_joined [] later)
underway-first map later e = record { names = []; is = e; joined = refl }

pub underway-last : (map : TypeMap) (all : List Chars) → IsUnderway map [] all → map ≡ numbered 1 all
underway-last map all h = h.is ∙ ap (numbered 1) h.joined

pub underway-old : (map : TypeMap) (x : Chars) (later all : List Chars) → is_some (found x map) ≡ true → IsUnderway map (x ∷ later) all → IsUnderway map later all
underway-old map x later all e h =
    let old : has_name x h.names ≡ true = sym (ap (λ (m : TypeMap). is_some (found x m)) h.is ∙ found-numbered 1 x h.names) ∙ e in
    record { names = h.names; is = h.is; joined = ap (λ ns. names_joined ns later) (sym (if-true (has_name x h.names) h.names (h.names ++ x ∷ []) old)) ∙ h.joined }

pub underway-new : (map more : TypeMap) (x copy : Chars) (image : TypeTree) (count : ℕ) (later all : List Chars) → is_some (found x map) ≡ false → more ≡ with_pair copy image map → copy ≡ x
    → image ≡ type_variable (codes "t" ++ decimal (count + 1)) → count ≡ length map → IsUnderway map (x ∷ later) all → IsUnderway more later all
underway-new map more x copy image count later all e put same made many h =
    let new : has_name x h.names ≡ false = sym (ap (λ (m : TypeMap). is_some (found x m)) h.is ∙ found-numbered 1 x h.names) ∙ e in
    let size : count + 1 ≡ 1 + length h.names = omega (arith, many, ap length h.is, length-numbered 1 h.names) in
    record {
      names = h.names ++ x ∷ [];
      is = put ∙ (λ i. with_pair (same i) (made i) map) ∙ paired-last x (variable (count + 1)) map e
          ∙ (λ i. h.is i ++ (x, variable (size i)) ∷ []) ∙ sym (numbered-last 1 h.names x);
      joined = ap (λ ns. names_joined ns later) (sym (if-false (has_name x h.names) h.names (h.names ++ x ∷ []) new)) ∙ h.joined;
    }

pub moved : (map : TypeMap) (some same all : List Chars) → some ≡ same → IsUnderway map some all → IsUnderway map same all
moved map some same all e h = subst (λ (ns : List Chars). IsUnderway map ns all) e h

-- The names of a type, over its nodes.

abbrev pub all_names : List TyNode → List Chars
all_names [] = []
all_names (n ∷ ns) = variable_names n ++ all_names ns

all_names-append : (xs ys : List TyNode) → all_names (xs ++ ys) ≡ all_names xs ++ all_names ys
all_names-append [] ys = refl
all_names-append (n ∷ xs) ys = ap (λ ns. variable_names n ++ ns) (all_names-append xs ys) ∙ sym (append_assoc (variable_names n) (all_names xs) (all_names ys))

mutual
  names-nodes : (from : ℕ) (t : TypeTree) → all_names (types.type_nodes from t) ≡ type_names t
  names-nodes from (type_variable x) = refl
  names-nodes from (type_constructor c ts) =
      all_names-append (types.row_nodes from ts) (Con c (types.roots from ts) ∷ []) ∙ append-nil (all_names (types.row_nodes from ts)) ∙ names-row from ts

  names-row : (from : ℕ) (ts : TypeTrees) → all_names (types.row_nodes from ts) ≡ types_names ts
  names-row from no_types = refl
  names-row from (type_and t ts) =
      let next : ℕ = from + (types.below t + 1) in
      all_names-append (types.type_nodes from t) (types.row_nodes next ts) ∙ (λ i. names-nodes from t i ++ names-row next ts i)

next : {A : Type 0} (xs : List A) (i : ℕ) (x : A) → i < length xs → x ≡ get_or xs i x → drop i xs ≡ x ∷ drop (i + 1) xs
next xs i x h e = drop-cons xs i x h ∙ ap (λ y. y ∷ drop (suc i) xs) (sym e) ∙ ap (λ k. x ∷ drop k xs) (sym (add-one i))

pub type-first : (nodes : List TyNode) (t : TypeTree) (later : List Chars) → nodes ≡ types.type_nodes 0 t → type_names t ++ later ≡ all_names (drop 0 nodes) ++ later
type-first nodes t later e = ap (λ ns. ns ++ later) (sym (ap all_names e ∙ names-nodes 0 t))

pub type-next : (nodes : List TyNode) (i : ℕ) (n : TyNode) (later : List Chars) → i < length nodes → n ≡ get_or nodes i n
    → all_names (drop i nodes) ++ later ≡ variable_names n ++ (all_names (drop (i + 1) nodes) ++ later)
type-next nodes i n later h e = ap (λ ns. all_names ns ++ later) (next nodes i n h e) ∙ append_assoc (variable_names n) (all_names (drop (i + 1) nodes)) later

pub type-last : (nodes : List TyNode) (i : ℕ) (later : List Chars) → length nodes ≤ i → all_names (drop i nodes) ++ later ≡ later
type-last nodes i later h = ap (λ ns. all_names ns ++ later) (drop_of_length-le nodes h)

pub types-first : (items ts : List TypeTree) (later : List Chars) → items ≡ ts → types_names (row ts) ++ later ≡ types_names (row (drop 0 items)) ++ later
types-first items ts later e = ap (λ us. types_names (row us) ++ later) (sym e)

pub types-next : (ts : List TypeTree) (i : ℕ) (t : TypeTree) (later : List Chars) → i < length ts → t ≡ get_or ts i t
    → types_names (row (drop i ts)) ++ later ≡ type_names t ++ (types_names (row (drop (i + 1) ts)) ++ later)
types-next ts i t later h e = ap (λ us. types_names (row us) ++ later) (next ts i t h e) ∙ append_assoc (type_names t) (types_names (row (drop (i + 1) ts))) later

pub types-last : (ts : List TypeTree) (i : ℕ) (later : List Chars) → length ts ≤ i → types_names (row (drop i ts)) ++ later ≡ later
types-last ts i later h = ap (λ us. types_names (row us) ++ later) (drop_of_length-le ts h)

-- The names of a term, from the root on.

abbrev names_left : List TermNode → List ℕ → List Chars
names_left nodes [] = []
names_left nodes (p ∷ ps) = term_names (term_at nodes p) ++ names_left nodes ps

left-append : (nodes : List TermNode) (ps qs : List ℕ) → names_left nodes (ps ++ qs) ≡ names_left nodes ps ++ names_left nodes qs
left-append nodes [] qs = refl
left-append nodes (p ∷ ps) qs = ap (λ ns. term_names (term_at nodes p) ++ ns) (left-append nodes ps qs) ∙ sym (append_assoc (term_names (term_at nodes p)) (names_left nodes ps) (names_left nodes qs))

begun : (nodes : List TermNode) (n : TermNode) → term_names (tree_of nodes n) ≡ node_names n ++ names_left nodes (reverse (parts n))
begun nodes (Free x ty) = sym (append-nil (type_names ty))
begun nodes (Bound x) = refl
begun nodes (Const c ts) = sym (append-nil (types_names (row ts)))
begun nodes (App f a) = ap (λ ns. term_names (term_at nodes f) ++ ns) (sym (append-nil (term_names (term_at nodes a))))
begun nodes (Lam x ty b) = ap (λ ns. type_names ty ++ ns) (sym (append-nil (term_names (term_at nodes b))))

abbrev AreBelow : ℕ → List ℕ → Type 0
AreBelow count [] = Unit {0}
AreBelow count (p ∷ ps) = (p < count) × AreBelow count ps

below-append : (count : ℕ) (ps qs : List ℕ) → AreBelow count ps → AreBelow count qs → AreBelow count (ps ++ qs)
below-append count [] qs h k = k
below-append count (p ∷ ps) qs h k = (h.0, below-append count ps qs h.1 k)

below-front : (count : ℕ) (ps qs : List ℕ) → AreBelow count (ps ++ qs) → AreBelow count ps
below-front count [] qs h = tt
below-front count (p ∷ ps) qs h = (h.0, below-front count ps qs h.1)

below-back : (count : ℕ) (ps qs : List ℕ) → AreBelow count (ps ++ qs) → AreBelow count qs
below-back count [] qs h = h
below-back count (p ∷ ps) qs h = below-back count ps qs h.1

below-parts : (count : ℕ) (n : TermNode) → IsWithin count n → AreBelow count (parts n)
below-parts count (Free x ty) h = tt
below-parts count (Bound x) h = tt
below-parts count (Const c ts) h = tt
below-parts count (App f a) h = (h.1, (h.0, tt))
below-parts count (Lam x ty b) h = (h, tt)

-- the names of the terms at these places, the next place last, are still to come
pub record IsWalk (t : TermTree) (map : TypeMap) (places : List ℕ) : Type 0 where
  pub within : AreBelow (length (term_nodes 0 t)) places
  pub left : IsUnderway map (names_left (term_nodes 0 t) (reverse places)) (term_variables t)

pub walk-first : (t : TermTree) (map : TypeMap) (empty places : List ℕ) (size root : ℕ) → map ≡ [] → empty ≡ [] → root + 1 ≡ size → size ≡ term_size t → length (term_nodes 0 t) ≡ term_size t → places ≡ empty ++ root ∷ [] → IsWalk t map places
walk-first t map empty places size root new none last is long e =
    let only : places ≡ root ∷ [] = e ∙ ap (λ (ps : List ℕ). ps ++ root ∷ []) none in
    let at : root ≡ under t = omega (arith, last, is) in
    subst (IsWalk t map) (sym only) (record {
      within = (omega (arith, at, long), tt);
      left = moved map (term_names t) (names_left (term_nodes 0 t) (root ∷ [])) (term_variables t)
          (ap term_names (sym (ap (term_at (term_nodes 0 t)) at ∙ term_at-last t)) ∙ sym (append-nil (term_names (term_at (term_nodes 0 t) root))))
          (underway-first map (term_names t) new);
    })

pub walk-below : (t : TermTree) (map : TypeMap) (places left : List ℕ) (at : ℕ) → places ≡ left ++ at ∷ [] → IsWalk t map places → at < length (term_nodes 0 t)
walk-below t map places left at e h = (below-back (length (term_nodes 0 t)) left (at ∷ []) (subst (AreBelow (length (term_nodes 0 t))) e h.within)).0

pub walk-step : (t : TermTree) (map more : TypeMap) (places left after : List ℕ) (at : ℕ) (n : TermNode) → places ≡ left ++ at ∷ [] → slice_get (term_nodes 0 t) at ≡ Some n
    → ((later all : List Chars) → IsUnderway map (node_names n ++ later) all → IsUnderway more later all) → after ≡ left ++ parts n → IsWalk t map places → IsWalk t more after
walk-step t map more places left after at n e is numbers put h =
    let nodes : List TermNode = term_nodes 0 t in
    let here : IsPlace nodes at n = place t at n is in record {
      within = subst (AreBelow (length nodes)) (sym put) (below-append (length nodes) left (parts n) (below-front (length nodes) left (at ∷ []) (subst (AreBelow (length nodes)) e h.within)) (below-parts (length nodes) n here.within));
      left = moved more (names_left nodes (reverse (parts n)) ++ names_left nodes (reverse left)) (names_left nodes (reverse after)) (term_variables t)
          (sym (ap (λ ps. names_left nodes (reverse ps)) put ∙ ap (names_left nodes) (reverse-append left (parts n)) ∙ left-append nodes (reverse (parts n)) (reverse left)))
          (numbers (names_left nodes (reverse (parts n)) ++ names_left nodes (reverse left)) (term_variables t)
          (moved map (names_left nodes (reverse places)) (node_names n ++ (names_left nodes (reverse (parts n)) ++ names_left nodes (reverse left))) (term_variables t)
          (ap (names_left nodes) (ap reverse e ∙ reverse-append left (at ∷ []))
          ∙ ap (λ ns. ns ++ names_left nodes (reverse left)) (ap term_names here.tree ∙ begun nodes n)
          ∙ append_assoc (node_names n) (names_left nodes (reverse (parts n))) (names_left nodes (reverse left)))
          h.left));
    }

pub walk-last : (t : TermTree) (map : TypeMap) (places : List ℕ) → places ≡ [] → IsWalk t map places → map ≡ numbered 1 (term_variables t)
walk-last t map places e h = underway-last map (term_variables t) (subst (λ (ps : List ℕ). IsUnderway map (names_left (term_nodes 0 t) (reverse ps)) (term_variables t)) e h.left)

-- how many nodes are left

abbrev pub weights : List TermNode → List ℕ → ℕ
weights nodes [] = 0
weights nodes (p ∷ ps) = term_size (term_at nodes p) + weights nodes ps

weights-append : (nodes : List TermNode) (ps qs : List ℕ) → weights nodes (ps ++ qs) ≡ weights nodes ps + weights nodes qs
weights-append nodes [] qs = omega arith
weights-append nodes (p ∷ ps) qs = omega (arith, weights-append nodes ps qs)

parts-less : (nodes : List TermNode) (n : TermNode) → weights nodes (parts n) < term_size (tree_of nodes n)
parts-less nodes (Free x ty) = omega arith
parts-less nodes (Bound x) = omega arith
parts-less nodes (Const c ts) = omega arith
parts-less nodes (App f a) = omega arith
parts-less nodes (Lam x ty b) = omega arith

pub walk-smaller : (t : TermTree) (places left after : List ℕ) (at : ℕ) (n : TermNode) → places ≡ left ++ at ∷ [] → slice_get (term_nodes 0 t) at ≡ Some n → after ≡ left ++ parts n
    → weights (term_nodes 0 t) after < weights (term_nodes 0 t) places
walk-smaller t places left after at n e is put =
    let nodes : List TermNode = term_nodes 0 t in
    let before : weights nodes places ≡ weights nodes left + (term_size (term_at nodes at) + 0) = ap (weights nodes) e ∙ weights-append nodes left (at ∷ []) in
    let later : weights nodes after ≡ weights nodes left + weights nodes (parts n) = ap (weights nodes) put ∙ weights-append nodes left (parts n) in
    let size : term_size (term_at nodes at) ≡ term_size (tree_of nodes n) = ap term_size (place t at n is).tree in
    omega (arith, before, later, size, parts-less nodes n)
