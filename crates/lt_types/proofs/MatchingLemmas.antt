-- Reading off the only map that can match.
use Rattle.std.proofs.Common.{◌≡◌, ◌⊎◌, inl, inr, ℕ, zero, suc, ◌+◌, ◌-◌, ◌<◌, ◌≤◌, List, [], ◌∷◌, ◌++◌, length, take, drop, map, get_or, refl, sym, ◌∙◌, ap, subst, arith, Some, None, Option, true, false, Bool, is_some, ◌||◌, if◌then◌else◌, unwrap_or, Bor, add-one, append_assoc, append-nil, length-append}
use Rattle.std.specs.Option.{option_copied}
use Rattle.std.proofs.Math.Seq.{drop-cons}
use Rattle.std.proofs.lemmas.Bool.{cases_lt}
use Rattle.std.proofs.lemmas.List.{take-append-drop, length-map, map-append, length-take-le, get_or_default}
use Rattle.lt_types.specs.declared.ty.TyNode.{TyNode}
use Rattle.lt_types.specs.declared.ty.TyNode.TheVariants.{Var, Con}
use Rattle.lt_definitions.specs.Types.{Chars, same_name, has_name, names_joined, TypeTree, TypeTrees, TypeMap, type_variable, type_constructor, no_types, type_and, row, listed, found, type_names, types_names, type_variables, type_instance, types_instance}
use Rattle.lt_definitions.proofs.SameNames.{true-false, name-true, true-name, listed-row}
use Rattle.lt_types.specs.Layout.{arguments, grow, HasRoom, forest, type_nodes}
use Rattle.lt_types.specs.Maps.{with_pair}
use Rattle.lt_types.specs.Matching.{firsts_behind, AreOccurrences, BeginsAt}
use Rattle.lt_types.proofs.MapLemmas.{row-map, inserted}
use Rattle.lt_types.proofs.NameTables.{inserted-new}
use Rattle.lt_types.proofs.LayoutLemmas.{step, IsStep}

-- a pair for a new name is set at the end
pub with_pair-new : (x : Chars) (t : TypeTree) (es : TypeMap) → is_some (found x es) ≡ false → with_pair x t es ≡ es ++ (x, t) ∷ []
with_pair-new x t es e = sym (inserted x t es) ∙ inserted-new x t es e

-- a name has a pair where it is among the names
found-has : (x : Chars) (es : TypeMap) → is_some (found x es) ≡ has_name x (map (λ p. p.0) es)
found-has x [] = refl
found-has x (p ∷ ps) = by (found-has x ps) (same_name x p.0) refl
  where
    by : is_some (found x ps) ≡ has_name x (map (λ q. q.0) ps) → (b : Bool) → same_name x p.0 ≡ b → is_some (found x (p ∷ ps)) ≡ has_name x (map (λ q. q.0) (p ∷ ps))
    by later true h = ap (λ (c : Bool). is_some (if c then Some p.1 else found x ps)) h ∙ sym (ap (λ (c : Bool). c || has_name x (map (λ q. q.0) ps)) h)
    by later false h = ap (λ (c : Bool). is_some (if c then Some p.1 else found x ps)) h ∙ later ∙ sym (ap (λ (c : Bool). c || has_name x (map (λ q. q.0) ps)) h)

-- the names of the first pairs are the names in order of first appearance
firsts-names : (done ps : TypeMap) → map (λ p. p.0) (firsts_behind done ps) ≡ names_joined (map (λ p. p.0) done) (map (λ p. p.0) ps)
firsts-names done [] = refl
firsts-names done (p ∷ ps) = firsts-names (if is_some (found p.0 done) then done else done ++ p ∷ []) ps ∙ ap (λ ns. names_joined ns (map (λ q. q.0) ps)) (by (is_some (found p.0 done)) refl)
  where
    by : (b : Bool) → is_some (found p.0 done) ≡ b → map (λ q. q.0) (if is_some (found p.0 done) then done else done ++ p ∷ []) ≡ (if has_name p.0 (map (λ q. q.0) done) then map (λ q. q.0) done else map (λ q. q.0) done ++ p.0 ∷ [])
    by true h = ap (λ (c : Bool). map (λ q. q.0) (if c then done else done ++ p ∷ [])) h ∙ sym (ap (λ (c : Bool). if c then map (λ q. q.0) done else map (λ q. q.0) done ++ p.0 ∷ []) (sym (found-has p.0 done) ∙ h))
    by false h = ap (λ (c : Bool). map (λ q. q.0) (if c then done else done ++ p ∷ [])) h ∙ map-append (λ q. q.0) done (p ∷ []) ∙ sym (ap (λ (c : Bool). if c then map (λ q. q.0) done else map (λ q. q.0) done ++ p.0 ∷ []) (sym (found-has p.0 done) ∙ h))

-- Pairs that a map has.
abbrev Agree : (Chars → TypeTree) → TypeMap → Type 0
Agree f es = map (λ p. p.1) es ≡ map (λ p. f p.0) es

agree-head : (f : Chars → TypeTree) (p : Chars × TypeTree) (ps : TypeMap) → Agree f (p ∷ ps) → p.1 ≡ f p.0
agree-head f p ps h = ap (λ ts. get_or ts 0 p.1) h

agree-tail : (f : Chars → TypeTree) (p : Chars × TypeTree) (ps : TypeMap) → Agree f (p ∷ ps) → Agree f ps
agree-tail f p ps h = ap (drop 1) h

agree-append : (f : Chars → TypeTree) (xs ys : TypeMap) → Agree f xs → Agree f ys → Agree f (xs ++ ys)
agree-append f xs ys h k = map-append (λ p. p.1) xs ys ∙ (λ i. h i ++ k i) ∙ sym (map-append (λ p. f p.0) xs ys)

agree-firsts : (f : Chars → TypeTree) (done ps : TypeMap) → Agree f done → Agree f ps → Agree f (firsts_behind done ps)
agree-firsts f done [] h k = h
agree-firsts f done (p ∷ ps) h k = agree-firsts f (if is_some (found p.0 done) then done else done ++ p ∷ []) ps (by (is_some (found p.0 done)) refl) (agree-tail f p ps k)
  where
    by : (b : Bool) → is_some (found p.0 done) ≡ b → Agree f (if is_some (found p.0 done) then done else done ++ p ∷ [])
    by true e = subst (λ (c : Bool). Agree f (if c then done else done ++ p ∷ [])) (sym e) h
    by false e = subst (λ (c : Bool). Agree f (if c then done else done ++ p ∷ [])) (sym e) (agree-append f done (p ∷ []) h (ap (λ t. t ∷ []) (agree-head f p ps k)))

agree-found : (f : Chars → TypeTree) (x : Chars) (es : TypeMap) → Agree f es → is_some (found x es) ≡ true → found x es ≡ Some (f x)
agree-found f x [] h e = absurd (true-false (sym e))
agree-found f x (p ∷ ps) h e = by (agree-found f x ps (agree-tail f p ps h)) (same_name x p.0) refl
  where
    by : (is_some (found x ps) ≡ true → found x ps ≡ Some (f x)) → (b : Bool) → same_name x p.0 ≡ b → found x (p ∷ ps) ≡ Some (f x)
    by later true k = ap (λ (c : Bool). if c then Some p.1 else found x ps) k ∙ ap Some (agree-head f p ps h ∙ ap f (sym (name-true x p.0 k)))
    by later false k = ap (λ (c : Bool). if c then Some p.1 else found x ps) k ∙ later (sym (ap (λ (c : Bool). is_some (if c then Some p.1 else found x ps)) k) ∙ e)

or-cases : (a b : Bool) → (a || b) ≡ true → (a ≡ true) ⊎ (b ≡ true)
or-cases true b e = inl refl
or-cases false b e = inr e

or-first : (a b : Bool) → a ≡ true → (a || b) ≡ true
or-first a b e = ap (λ (c : Bool). c || b) e

or-second : (a b : Bool) → b ≡ true → (a || b) ≡ true
or-second true b e = refl
or-second false b e = e

has-left : (x : Chars) (xs ys : List Chars) → has_name x xs ≡ true → has_name x (xs ++ ys) ≡ true
has-left x [] ys e = absurd (true-false (sym e))
has-left x (y ∷ xs) ys e = elim (or-cases (same_name x y) (has_name x xs) e) [
  | inl h ↦ or-first (same_name x y) (has_name x (xs ++ ys)) h
  | inr h ↦ or-second (same_name x y) (has_name x (xs ++ ys)) (has-left x xs ys h)
]

has-right : (x : Chars) (xs ys : List Chars) → has_name x ys ≡ true → has_name x (xs ++ ys) ≡ true
has-right x [] ys e = e
has-right x (y ∷ xs) ys e = or-second (same_name x y) (has_name x (xs ++ ys)) (has-right x xs ys e)

-- joining keeps the names that are there, and adds the others
joined-keeps : (x : Chars) (xs ys : List Chars) → has_name x xs ≡ true → has_name x (names_joined xs ys) ≡ true
joined-keeps x xs [] e = e
joined-keeps x xs (y ∷ ys) e = joined-keeps x (if has_name y xs then xs else xs ++ y ∷ []) ys (by (has_name y xs) refl)
  where
    by : (b : Bool) → has_name y xs ≡ b → has_name x (if has_name y xs then xs else xs ++ y ∷ []) ≡ true
    by true h = ap (λ (c : Bool). has_name x (if c then xs else xs ++ y ∷ [])) h ∙ e
    by false h = ap (λ (c : Bool). has_name x (if c then xs else xs ++ y ∷ [])) h ∙ has-left x xs (y ∷ []) e

joined-adds : (x : Chars) (xs ys : List Chars) → has_name x ys ≡ true → has_name x (names_joined xs ys) ≡ true
joined-adds x xs [] e = absurd (true-false (sym e))
joined-adds x xs (y ∷ ys) e = elim (or-cases (same_name x y) (has_name x ys) e) [
  | inl h ↦ joined-keeps x (if has_name y xs then xs else xs ++ y ∷ []) ys (by h (has_name y xs) refl)
  | inr h ↦ joined-adds x (if has_name y xs then xs else xs ++ y ∷ []) ys h
]
  where
    by : same_name x y ≡ true → (b : Bool) → has_name y xs ≡ b → has_name x (if has_name y xs then xs else xs ++ y ∷ []) ≡ true
    by s true h = ap (λ (c : Bool). has_name x (if c then xs else xs ++ y ∷ [])) h ∙ ap (λ z. has_name z xs) (name-true x y s) ∙ h
    by s false h = ap (λ (c : Bool). has_name x (if c then xs else xs ++ y ∷ [])) h ∙ has-right x xs (y ∷ []) (or-first (same_name x y) false s)

-- maps that put the same for each variable of a type give the same instance
mutual
  same-instance : (m n : TypeMap) (t : TypeTree) → ((a : Chars) → has_name a (type_names t) ≡ true → type_instance m (type_variable a) ≡ type_instance n (type_variable a)) → type_instance m t ≡ type_instance n t
  same-instance m n (type_variable a) h = h a (or-first (same_name a a) false (true-name a a refl))
  same-instance m n (type_constructor c ts) h = ap (type_constructor c) (same-instances m n ts h)

  same-instances : (m n : TypeMap) (ts : TypeTrees) → ((a : Chars) → has_name a (types_names ts) ≡ true → type_instance m (type_variable a) ≡ type_instance n (type_variable a)) → types_instance m ts ≡ types_instance n ts
  same-instances m n no_types h = refl
  same-instances m n (type_and t ts) h =
      let one : type_instance m t ≡ type_instance n t = same-instance m n t (λ a e. h a (has-left a (type_names t) (types_names ts) e)) in
      let others : types_instance m ts ≡ types_instance n ts = same-instances m n ts (λ a e. h a (has-right a (type_names t) (types_names ts) e)) in
      λ i. type_and (one i) (others i)

-- the map that is read off is on the pattern's variables
pub firsts-domain : (pattern ty : TypeTree) (pairs : TypeMap) → AreOccurrences pattern ty pairs → map (λ p. p.0) (firsts_behind [] pairs) ≡ type_variables pattern
firsts-domain pattern ty pairs h = firsts-names [] pairs ∙ ap (names_joined []) h.names

-- and it matches where some map does
pub firsts-match : (pattern ty : TypeTree) (pairs : TypeMap) (m : TypeMap) → AreOccurrences pattern ty pairs → type_instance m pattern ≡ ty → type_instance (firsts_behind [] pairs) pattern ≡ ty
firsts-match pattern ty pairs m h e = same-instance (firsts_behind [] pairs) m pattern (λ a k.
    ap (λ (o : Option TypeTree). unwrap_or o (type_variable a)) (agree-found (λ x. type_instance m (type_variable x)) a (firsts_behind [] pairs) (agree-firsts (λ x. type_instance m (type_variable x)) [] pairs refl (h.types m e))
    (found-has a (firsts_behind [] pairs) ∙ ap (has_name a) (firsts-names [] pairs ∙ ap (names_joined []) h.names) ∙ joined-adds a [] (type_names pattern) k))) ∙ e

-- ---- the first pair of each name, one after another

one_more : (ps : TypeMap) (i : ℕ) (p : Chars × TypeTree) → i < length ps → p ≡ get_or ps i p → drop i ps ≡ p ∷ drop (i + 1) ps
one_more ps i p h e = drop-cons ps i p h ∙ ap (λ q. q ∷ drop (suc i) ps) (sym e) ∙ ap (λ k. p ∷ drop k ps) (sym (add-one i))

pub firsts-new : (done ps next : TypeMap) (i : ℕ) (p : Chars × TypeTree) → i < length ps → p ≡ get_or ps i p → is_some (found p.0 done) ≡ false → next ≡ with_pair p.0 p.1 done
    → firsts_behind done (drop i ps) ≡ firsts_behind next (drop (i + 1) ps)
firsts-new done ps next i p h e a n =
    ap (firsts_behind done) (one_more ps i p h e)
    ∙ ap (λ (c : Bool). firsts_behind (if c then done else done ++ p ∷ []) (drop (i + 1) ps)) a
    ∙ ap (λ (d : TypeMap). firsts_behind d (drop (i + 1) ps)) (sym (with_pair-new p.0 p.1 done a) ∙ sym n)

pub firsts-old : (done ps : TypeMap) (i : ℕ) (p : Chars × TypeTree) → i < length ps → p ≡ get_or ps i p → is_some (found p.0 done) ≡ true
    → firsts_behind done (drop i ps) ≡ firsts_behind done (drop (i + 1) ps)
firsts-old done ps i p h e a =
    ap (firsts_behind done) (one_more ps i p h e) ∙ ap (λ (c : Bool). firsts_behind (if c then done else done ++ p ∷ []) (drop (i + 1) ps)) a

pub copied-some : {A : Type 0} (o : Option (Bor A)) → is_some (option_copied o) ≡ is_some o
copied-some None = refl
copied-some (Some b) = refl

-- ---- from the last node to the first

names-append : (xs ys : List TypeTree) → types_names (row (xs ++ ys)) ≡ types_names (row xs) ++ types_names (row ys)
names-append [] ys = refl
names-append (x ∷ xs) ys = ap (λ ns. type_names x ++ ns) (names-append xs ys) ∙ sym (append_assoc (type_names x) (types_names (row xs)) (types_names (row ys)))

-- the types that are left of pattern and type, and the pairs so far
pub record IsLeft (pattern ty : TypeTree) (ps ts : List TypeTree) (pairs : TypeMap) : Type 0 where
  pub names : types_names (row ps) ++ map (λ p. p.0) pairs ≡ type_names pattern
  pub types : (m : TypeMap) → type_instance m pattern ≡ ty → (map (type_instance m) ps ≡ ts) × Agree (λ a. type_instance m (type_variable a)) pairs

pub left-init : (pattern ty : TypeTree) → IsLeft pattern ty (pattern ∷ []) (ty ∷ []) []
left-init pattern ty = record {
  names = append-nil (type_names pattern ++ []) ∙ append-nil (type_names pattern);
  types = λ m e. (ap (λ t. t ∷ []) e, refl);
}

pub left-done : (pattern ty : TypeTree) (ts : List TypeTree) (pairs : TypeMap) → IsLeft pattern ty [] ts pairs → AreOccurrences pattern ty pairs
left-done pattern ty ts pairs h = record { names = h.names; types = λ m e. (h.types m e).1 }

snoc-length : {A : Type 0} (xs : List A) (x : A) → length (xs ++ x ∷ []) ≡ suc (length xs)
snoc-length xs x = length-append xs (x ∷ []) ∙ omega arith

snoc-inj : {A : Type 0} (xs ys : List A) (x y : A) → xs ++ x ∷ [] ≡ ys ++ y ∷ [] → (xs ≡ ys) × (x ≡ y)
snoc-inj [] [] x y e = (refl, ap (λ l. get_or l 0 x) e)
snoc-inj [] (z ∷ ys) x y e = absurd (omega (arith, ap length e, snoc-length ys y))
snoc-inj (z ∷ xs) [] x y e = absurd (omega (arith, ap length e, snoc-length xs x))
snoc-inj (z ∷ xs) (w ∷ ys) x y e =
    let k = snoc-inj xs ys x y (ap (drop 1) e) in
    let front : z ≡ w = ap (λ l. get_or l 0 z) e in
    ((λ i. front i ∷ k.0 i), k.1)

pub left-var : (pattern ty : TypeTree) (before ts : List TypeTree) (x : Chars) (last : TypeTree) (pairs : TypeMap) → IsLeft pattern ty (grow before (Var x)) (ts ++ last ∷ []) pairs → IsLeft pattern ty before ts ((x, last) ∷ pairs)
left-var pattern ty before ts x last pairs h = record {
  names = sym (ap (λ ns. ns ++ map (λ p. p.0) pairs) (names-append before (type_variable x ∷ [])) ∙ append_assoc (types_names (row before)) (x ∷ []) (map (λ p. p.0) pairs)) ∙ h.names;
  types = λ m e.
      let k = snoc-inj (map (type_instance m) before) ts (type_instance m (type_variable x)) last (sym (map-append (type_instance m) before (type_variable x ∷ [])) ∙ (h.types m e).0) in
      (k.0, λ i. sym k.1 i ∷ (h.types m e).1 i);
}

abbrev arguments_of : TypeTree → TypeTrees
arguments_of (type_variable x) = no_types
arguments_of (type_constructor c ts) = ts

pub left-con : (pattern ty : TypeTree) (before tbefore : List TypeTree) (c : Chars) (ids : List ℕ) (k : TyNode) (pairs : TypeMap) → HasRoom before (Con c ids)
    → IsLeft pattern ty (grow before (Con c ids)) (grow tbefore k) pairs → IsLeft pattern ty before tbefore pairs
left-con pattern ty before tbefore c ids k pairs r h = record {
  names = ap (λ ns. ns ++ map (λ p. p.0) pairs) (sym (names-append kept (type_constructor c (row args) ∷ []) ∙ ap (λ ns. types_names (row kept) ++ ns) (append-nil (types_names (row args))) ∙ sym (names-append kept args) ∙ ap (λ ts. types_names (row ts)) (take-append-drop (length before - length ids) before))) ∙ h.names;
  types = λ m e. (by m k (sym (map-append (type_instance m) kept (type_constructor c (row args) ∷ [])) ∙ (h.types m e).0), (h.types m e).1);
}
  where
    kept : List TypeTree
    kept = take (length before - length ids) before

    args : List TypeTree
    args = drop (length before - length ids) before

    by : (m : TypeMap) (k : TyNode) → map (type_instance m) kept ++ type_constructor c (types_instance m (row args)) ∷ [] ≡ grow tbefore k → map (type_instance m) before ≡ tbefore
    by m (Var y) q = absurd (cc-of (snoc-inj (map (type_instance m) kept) tbefore (type_constructor c (types_instance m (row args))) (type_variable y) q).1)
      where
        cc-of : type_constructor c (types_instance m (row args)) ≡ type_variable y → ⊥
        cc-of p = cc
    by m (Con d js) q =
        let s = snoc-inj (map (type_instance m) kept) (take (length tbefore - length js) tbefore) (type_constructor c (types_instance m (row args))) (type_constructor d (row (drop (length tbefore - length js) tbefore))) q in
        let inner : map (type_instance m) args ≡ drop (length tbefore - length js) tbefore =
        sym (listed-row (map (type_instance m) args)) ∙ ap listed (row-map m args ∙ ap arguments_of s.1) ∙ listed-row (drop (length tbefore - length js) tbefore) in
        sym (ap (map (type_instance m)) (take-append-drop (length before - length ids) before)) ∙ map-append (type_instance m) kept args ∙ (λ i. s.0 i ++ inner i) ∙ take-append-drop (length tbefore - length js) tbefore

length-grow : (before : List TypeTree) (n : TyNode) → HasRoom before n → length (grow before n) + arguments n ≡ suc (length before)
length-grow before (Var x) r = ap (λ k. k + 0) (snoc-length before (type_variable x)) ∙ omega arith
length-grow before (Con c ids) r =
    let made : TypeTree = type_constructor c (row (drop (length before - length ids) before)) in
    ap (λ k. k + length ids) (snoc-length (take (length before - length ids) before) made ∙ ap suc (length-take-le (length before - length ids) before (omega arith))) ∙ omega (arith, r)

grow-some : (before : List TypeTree) (n : TyNode) → 1 ≤ length (grow before n)
grow-some before (Var x) = omega (arith, snoc-length before (type_variable x))
grow-some before (Con c ids) = omega (arith, snoc-length (take (length before - length ids) before) (type_constructor c (row (drop (length before - length ids) before))))

pub left-none : (pattern ty : TypeTree) (before ts : List TypeTree) (n : TyNode) (pairs : TypeMap) → ts ≡ [] → IsLeft pattern ty (grow before n) ts pairs → (m : TypeMap) → type_instance m pattern ≡ ty → ⊥
left-none pattern ty before ts n pairs e h m q =
    let none : length (map (type_instance m) (grow before n)) ≡ 0 = ap length ((h.types m q).0 ∙ e) in
    absurd (omega (arith, none, length-map (grow before n) (type_instance m), grow-some before n))

-- ---- the last type before a place

forest-room : (ty : TypeTree) (i : ℕ) (n : TyNode) → i < length (type_nodes 0 ty) → n ≡ get_or (type_nodes 0 ty) i n → IsStep (type_nodes 0 ty) i n
forest-room ty i n lt e = step (type_nodes 0 ty) ty i n refl lt e

-- the node before a place of the pattern
opened : (pattern ty : TypeTree) (at j : ℕ) (n : TyNode) (ts : List TypeTree) (pairs : TypeMap) → at ≡ j + 1 → j < length (type_nodes 0 pattern) → n ≡ get_or (type_nodes 0 pattern) j n
    → IsLeft pattern ty (forest [] (take at (type_nodes 0 pattern))) ts pairs → IsLeft pattern ty (grow (forest [] (take j (type_nodes 0 pattern))) n) ts pairs
opened pattern ty at j n ts pairs e lt is h =
    subst (λ (ps : List TypeTree). IsLeft pattern ty ps ts pairs) (ap (λ i. forest [] (take i (type_nodes 0 pattern))) e ∙ (forest-room pattern j n lt is).next) h

pub past-none : (pattern ty : TypeTree) (at j end : ℕ) (n : TyNode) (pairs : TypeMap) → at ≡ j + 1 → j < length (type_nodes 0 pattern) → n ≡ get_or (type_nodes 0 pattern) j n → end ≡ 0
    → IsLeft pattern ty (forest [] (take at (type_nodes 0 pattern))) (forest [] (take end (type_nodes 0 ty))) pairs → (m : TypeMap) → type_instance m pattern ≡ ty → ⊥
past-none pattern ty at j end n pairs e lt is z h =
    left-none pattern ty (forest [] (take j (type_nodes 0 pattern))) (forest [] (take end (type_nodes 0 ty))) n pairs (ap (λ i. forest [] (take i (type_nodes 0 ty))) z) (opened pattern ty at j n (forest [] (take end (type_nodes 0 ty))) pairs e lt is h)

pub past-var : (pattern ty : TypeTree) (at j end start : ℕ) (x : Chars) (last : TypeTree) (n : TyNode) (pairs : TypeMap) → at ≡ j + 1 → j < length (type_nodes 0 pattern) → n ≡ get_or (type_nodes 0 pattern) j n → n ≡ Var x
    → forest [] (take end (type_nodes 0 ty)) ≡ forest [] (take start (type_nodes 0 ty)) ++ last ∷ []
    → IsLeft pattern ty (forest [] (take at (type_nodes 0 pattern))) (forest [] (take end (type_nodes 0 ty))) pairs
    → IsLeft pattern ty (forest [] (take j (type_nodes 0 pattern))) (forest [] (take start (type_nodes 0 ty))) ((x, last) ∷ pairs)
past-var pattern ty at j end start x last n pairs e lt is v split h =
    let o : IsLeft pattern ty (grow (forest [] (take j (type_nodes 0 pattern))) n) (forest [] (take end (type_nodes 0 ty))) pairs = opened pattern ty at j n (forest [] (take end (type_nodes 0 ty))) pairs e lt is h in
    let p : IsLeft pattern ty (grow (forest [] (take j (type_nodes 0 pattern))) (Var x)) (forest [] (take end (type_nodes 0 ty))) pairs = subst (λ (k : TyNode). IsLeft pattern ty (grow (forest [] (take j (type_nodes 0 pattern))) k) (forest [] (take end (type_nodes 0 ty))) pairs) v o in
    left-var pattern ty (forest [] (take j (type_nodes 0 pattern))) (forest [] (take start (type_nodes 0 ty))) x last pairs
    (subst (λ (ts : List TypeTree). IsLeft pattern ty (grow (forest [] (take j (type_nodes 0 pattern))) (Var x)) ts pairs) split p)

pub past-con : (pattern ty : TypeTree) (at j end k : ℕ) (c : Chars) (ids : List ℕ) (n : TyNode) (pairs : TypeMap) → at ≡ j + 1 → j < length (type_nodes 0 pattern) → n ≡ get_or (type_nodes 0 pattern) j n → n ≡ Con c ids
    → end ≡ k + 1 → k < length (type_nodes 0 ty)
    → IsLeft pattern ty (forest [] (take at (type_nodes 0 pattern))) (forest [] (take end (type_nodes 0 ty))) pairs
    → IsLeft pattern ty (forest [] (take j (type_nodes 0 pattern))) (forest [] (take k (type_nodes 0 ty))) pairs
past-con pattern ty at j end k c ids n pairs e lt is v f ft h =
    let before : List TypeTree = forest [] (take j (type_nodes 0 pattern)) in
    let o : IsLeft pattern ty (grow before n) (forest [] (take end (type_nodes 0 ty))) pairs = opened pattern ty at j n (forest [] (take end (type_nodes 0 ty))) pairs e lt is h in
    let p : IsLeft pattern ty (grow before (Con c ids)) (forest [] (take end (type_nodes 0 ty))) pairs = subst (λ (k : TyNode). IsLeft pattern ty (grow before k) (forest [] (take end (type_nodes 0 ty))) pairs) v o in
    let d : TyNode = get_or (type_nodes 0 ty) k (Var []) in
    let s : IsStep (type_nodes 0 ty) k d = forest-room ty k d ft (get_or_default (type_nodes 0 ty) k (Var []) d ft) in
    left-con pattern ty before (forest [] (take k (type_nodes 0 ty))) c ids d pairs (subst (HasRoom before) v (forest-room pattern j n lt is).room)
    (subst (λ (ts : List TypeTree). IsLeft pattern ty (grow before (Con c ids)) ts pairs) (ap (λ i. forest [] (take i (type_nodes 0 ty))) f ∙ s.next) p)

-- the types that nodes make are no more than the nodes
pub forest-few : (ty : TypeTree) (i : ℕ) → i ≤ length (type_nodes 0 ty) → length (forest [] (take i (type_nodes 0 ty))) ≤ i
forest-few ty zero h = omega arith
forest-few ty (suc i) h =
    let n : TyNode = get_or (type_nodes 0 ty) i (Var []) in
    let s : IsStep (type_nodes 0 ty) i n = forest-room ty i n (omega arith) (get_or_default (type_nodes 0 ty) i (Var []) n (omega arith)) in
    let k : length (forest [] (take (i + 1) (type_nodes 0 ty))) + arguments n ≡ suc (length (forest [] (take i (type_nodes 0 ty)))) = ap (λ ts. length ts + arguments n) s.next ∙ length-grow (forest [] (take i (type_nodes 0 ty))) n s.room in
    let e : suc i ≡ i + 1 = omega arith in
    omega (arith, k, forest-few ty i (omega arith), ap (λ j. length (forest [] (take j (type_nodes 0 ty)))) e)

-- What is known while the beginning of the last type is sought: so many types are still missing.
pub record IsSought (nodes : List TyNode) (end at missing : ℕ) : Type 0 where
  pub some : 1 ≤ missing
  pub count : length (forest [] (take at nodes)) + 1 ≡ length (forest [] (take end nodes)) + missing
  pub inside : (k : ℕ) → at ≤ k → k ≤ end → length (forest [] (take end nodes)) ≤ length (forest [] (take k nodes))

pub sought-init : (nodes : List TyNode) (end : ℕ) → IsSought nodes end end 1
sought-init nodes end = record {
  some = omega arith;
  count = refl;
  inside = λ k up down. let e : end ≡ k = omega arith in omega (arith, ap (λ j. length (forest [] (take j nodes))) e);
}

-- one node further to the left
sought-count : (ty : TypeTree) (end at j missing : ℕ) (n : TyNode) → at ≡ j + 1 → j < length (type_nodes 0 ty) → n ≡ get_or (type_nodes 0 ty) j n → IsSought (type_nodes 0 ty) end at missing
    → length (forest [] (take j (type_nodes 0 ty))) + 1 ≡ length (forest [] (take end (type_nodes 0 ty))) + ((missing - 1) + arguments n)
sought-count ty end at j missing n e lt is h =
    let s : IsStep (type_nodes 0 ty) j n = forest-room ty j n lt is in
    let k : length (forest [] (take (j + 1) (type_nodes 0 ty))) + arguments n ≡ suc (length (forest [] (take j (type_nodes 0 ty)))) = ap (λ ts. length ts + arguments n) s.next ∙ length-grow (forest [] (take j (type_nodes 0 ty))) n s.room in
    omega (arith, k, h.count, h.some, ap (λ i. length (forest [] (take i (type_nodes 0 ty)))) e)

pub sought-next : (ty : TypeTree) (end at j missing : ℕ) (n : TyNode) → at ≡ j + 1 → j < length (type_nodes 0 ty) → n ≡ get_or (type_nodes 0 ty) j n → 1 ≤ (missing - 1) + arguments n
    → IsSought (type_nodes 0 ty) end at missing → IsSought (type_nodes 0 ty) end j ((missing - 1) + arguments n)
sought-next ty end at j missing n e lt is more h = record {
  some = more;
  count = sought-count ty end at j missing n e lt is h;
  inside = λ k up down. elim (at-or-above k up) [
    | inl same ↦ omega (arith, sought-count ty end at j missing n e lt is h, more, ap (λ i. length (forest [] (take i (type_nodes 0 ty)))) same)
    | inr above ↦ h.inside k (omega (arith, above, e)) down
  ];
}
  where
    at-or-above : (k : ℕ) → j ≤ k → (j ≡ k) ⊎ (j < k)
    at-or-above k up = elim (cases_lt j k) [ inl h ↦ inr h | inr h ↦ inl (omega arith) ]

pub sought-found : (ty : TypeTree) (end at j missing : ℕ) (n : TyNode) → at ≡ j + 1 → at ≤ end → j < length (type_nodes 0 ty) → n ≡ get_or (type_nodes 0 ty) j n → (missing - 1) + arguments n ≡ 0
    → IsSought (type_nodes 0 ty) end at missing → BeginsAt (type_nodes 0 ty) end j
sought-found ty end at j missing n e up lt is none h = record {
  before = omega (arith, e);
  one = omega (arith, sought-count ty end at j missing n e lt is h, none);
  inside = λ k low high. let b : length (forest [] (take end (type_nodes 0 ty))) ≤ length (forest [] (take k (type_nodes 0 ty))) = h.inside k (omega (arith, e)) high in omega (arith, sought-count ty end at j missing n e lt is h, none, b);
}

pub forest-some : (ty : TypeTree) (end : ℕ) → 0 < end → end ≤ length (type_nodes 0 ty) → 1 ≤ length (forest [] (take end (type_nodes 0 ty)))
forest-some ty zero some h = absurd (omega arith)
forest-some ty (suc i) some h =
    let n : TyNode = get_or (type_nodes 0 ty) i (Var []) in
    let s : IsStep (type_nodes 0 ty) i n = forest-room ty i n (omega arith) (get_or_default (type_nodes 0 ty) i (Var []) n (omega arith)) in
    let e : suc i ≡ i + 1 = omega arith in
    omega (arith, grow-some (forest [] (take i (type_nodes 0 ty))) n, ap length s.next, ap (λ j. length (forest [] (take j (type_nodes 0 ty)))) e)

pub sought-ends : (ty : TypeTree) (end at missing : ℕ) → at ≤ 0 → 0 < end → end ≤ length (type_nodes 0 ty) → IsSought (type_nodes 0 ty) end at missing → ⊥
sought-ends ty end at missing low some h k =
    let e : at ≡ 0 = omega arith in
    absurd (omega (arith, forest-some ty end some h, k.some, k.count, ap (λ j. length (forest [] (take j (type_nodes 0 ty)))) e))

-- a number of missing types is no more than the nodes
pub sought-few : (ty : TypeTree) (end at j missing : ℕ) (n : TyNode) → at ≡ j + 1 → j < length (type_nodes 0 ty) → n ≡ get_or (type_nodes 0 ty) j n → IsSought (type_nodes 0 ty) end at missing → (missing - 1) + arguments n ≤ j + 1
sought-few ty end at j missing n e lt is h = omega (arith, sought-count ty end at j missing n e lt is h, forest-few ty j (omega arith))

-- a node that makes its types from the last ones alone
pub room-part : (under before : List TypeTree) (n : TyNode) → HasRoom (under ++ before) n → length under < length (grow (under ++ before) n) → HasRoom before n
room-part under before (Var x) r h = tt
room-part under before (Con c ids) r h = omega (arith, length-grow (under ++ before) (Con c ids) r, length-append under before, h)
