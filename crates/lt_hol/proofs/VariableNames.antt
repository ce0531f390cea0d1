-- The variables of a type, read off its nodes, and the numbers that are put for them.
use Rattle.std.proofs.Common.{◌≡◌, ℕ, suc, ◌+◌, ◌<◌, List, [], ◌∷◌, ◌++◌, length, map, drop, slice_get, Option, Some, None, Bool, true, false, nat_lt, refl, ap, sym, ◌∙◌, subst, arith, append_assoc, append-nil, if◌then◌else◌, position, unwrap_or, cond}
use Rattle.std.specs.Option.{option_map, option_and_then, ForSome}
use Rattle.std.specs.List.{zip, position_from}
use Rattle.std.proofs.lemmas.Iterator.Adapters.{position_from-zero}
use Rattle.std.proofs.lemmas.Bool.{ltb-true}
use Rattle.std.proofs.lemmas.List.{map-append}
use Rattle.lt_types.specs.declared.ty.TyNode.{TyNode}
use Rattle.lt_types.specs.declared.ty.TyNode.TheVariants.{Var, Con}
use Rattle.lt_types.specs.Layout.{type_nodes, row_nodes, roots, below, grow}
use Rattle.lt_types.proofs.MapLemmas.{grow-type_instance}
use Rattle.lt_definitions.specs.Types.{Chars, same_name, names_joined, found, TypeTree, TypeTrees, type_variable, type_constructor, no_types, type_and, type_names, types_names, type_variables, type_instance}
use Rattle.lt_definitions.proofs.SameNames.{both-true}
use Rattle.lt_hol.specs.TypeTables.{type_at, types_at, all_below, Extends}
use Rattle.lt_hol.proofs.DistinctTypes.{types_at-more}
use Rattle.lt_hol.specs.Instances.{argument_of, grown_by}

-- the variables among nodes
abbrev pub names_in : List TyNode → List Chars
names_in [] = []
names_in (Var x ∷ ns) = x ∷ names_in ns
names_in (Con c ids ∷ ns) = names_in ns

mutual
  names_in-type : (from : ℕ) (t : TypeTree) (ns : List TyNode) → names_in (type_nodes from t ++ ns) ≡ type_names t ++ names_in ns
  names_in-type from (type_variable x) ns = refl
  names_in-type from (type_constructor c ts) ns =
      ap names_in (append_assoc (row_nodes from ts) (Con c (roots from ts) ∷ []) ns) ∙ names_in-row from ts (Con c (roots from ts) ∷ ns)

  names_in-row : (from : ℕ) (ts : TypeTrees) (ns : List TyNode) → names_in (row_nodes from ts ++ ns) ≡ types_names ts ++ names_in ns
  names_in-row from no_types ns = refl
  names_in-row from (type_and t ts) ns =
      ap names_in (append_assoc (type_nodes from t) (row_nodes (from + (below t + 1)) ts) ns)
      ∙ names_in-type from t (row_nodes (from + (below t + 1)) ts ++ ns)
      ∙ ap (λ xs. type_names t ++ xs) (names_in-row (from + (below t + 1)) ts ns)
      ∙ sym (append_assoc (type_names t) (types_names ts) (names_in ns))

-- the names so far, and those that are left, are all
pub names-at-first : (t : TypeTree) (nodes : List TyNode) (keys : List Chars) → nodes ≡ type_nodes 0 t → keys ≡ [] → type_variables t ≡ names_joined keys (names_in (drop 0 nodes))
names-at-first t nodes keys h e =
    (λ i. names_joined (sym e i) (sym (append-nil (type_names t)) i)) ∙ ap (names_joined keys) (sym (names_in-type 0 t [])) ∙ ap (λ ns. names_joined keys (names_in ns)) (append-nil (type_nodes 0 t) ∙ sym h)

-- ---- numbers that are put for variables

picked : (b : Bool) (full : List ℕ) (a k : ℕ) (f : Option ℕ) (p : Option ℕ) → Some a ≡ slice_get full k → f ≡ option_and_then (slice_get full) p
    → (if b then Some a else f) ≡ option_and_then (slice_get full) (cond b (Some k) p)
picked true full a k f p h e = h
picked false full a k f p h e = e

found-from : (x : Chars) (names : List Chars) (args full : List ℕ) (k : ℕ) → length names ≡ length args → ((i : ℕ) → slice_get args i ≡ slice_get full (k + i))
    → found x (zip names args) ≡ option_and_then (slice_get full) (position_from (same_name x) k names)
found-from x [] args full k n h = refl
found-from x (y ∷ names) [] full k n h = absurd (omega (arith, n))
found-from x (y ∷ names) (a ∷ args) full k n h =
    let here : k + 0 ≡ k = omega arith in
    picked (same_name x y) full a k (found x (zip names args)) (position_from (same_name x) (k + 1) names) (h 0 ∙ ap (slice_get full) here)
    (found-from x names args full (k + 1) (omega (arith, n)) (λ i. let e : k + suc i ≡ (k + 1) + i = omega arith in h (suc i) ∙ ap (slice_get full) e))

pub found-position : (x : Chars) (names : List Chars) (args : List ℕ) → length names ≡ length args → found x (zip names args) ≡ option_and_then (slice_get args) (position (same_name x) names)
found-position x names args n =
    found-from x names args args 0 n (λ i. let e : i ≡ 0 + i = omega arith in ap (slice_get args) e) ∙ ap (option_and_then (slice_get args)) (sym (position_from-zero (same_name x) names))

mapped : {A : Type 0} (b : Bool) (f : A → TypeTree) (a : A) (o : Option A) (p : Option TypeTree) → p ≡ option_map f o → (if b then Some (f a) else p) ≡ option_map f (if b then Some a else o)
mapped true f a o p e = refl
mapped false f a o p e = e

found-types : (x : Chars) (names : List Chars) (args : List ℕ) (f : ℕ → TypeTree) → found x (zip names (map f args)) ≡ option_map f (found x (zip names args))
found-types x [] args f = refl
found-types x (y ∷ names) [] f = refl
found-types x (y ∷ names) (a ∷ args) f = mapped (same_name x y) f a (found x (zip names args)) (found x (zip names (map f args))) (found-types x names args f)

-- a node with numbers put for variables makes what it makes in the instance
pub part-instance : (ts : List TypeTree) (names : List Chars) (args : List ℕ) (before : List TypeTree) (n : TyNode)
    → grown_by ts (map (type_instance (zip names (types_at ts args))) before) n (argument_of names args n) ≡ map (type_instance (zip names (types_at ts args))) (grow before n)
part-instance ts names args before (Con c ids) = grow-type_instance (zip names (types_at ts args)) before c ids
part-instance ts names args before (Var x) =
    by (found x (zip names args))
    ∙ ap (λ (o : Option TypeTree). map (type_instance (zip names (types_at ts args))) before ++ unwrap_or o (type_variable x) ∷ []) (sym (found-types x names args (type_at ts)))
    ∙ sym (map-append (type_instance (zip names (types_at ts args))) before (type_variable x ∷ []))
  where
    by : (o : Option ℕ) → grown_by ts (map (type_instance (zip names (types_at ts args))) before) (Var x) o
        ≡ map (type_instance (zip names (types_at ts args))) before ++ unwrap_or (option_map (type_at ts) o) (type_variable x) ∷ []
    by None = refl
    by (Some id) = refl

-- the numbers that are put are below a bound
abbrev IsUnder : ℕ → Option ℕ → Type 0
IsUnder n None = Unit {0}
IsUnder n (Some i) = i < n

chosen-under : (b : Bool) (n a : ℕ) (o : Option ℕ) → a < n → IsUnder n o → IsUnder n (if b then Some a else o)
chosen-under true n a o h k = h
chosen-under false n a o h k = k

found-under : (n : ℕ) (x : Chars) (names : List Chars) (args : List ℕ) → all_below n args ≡ true → IsUnder n (found x (zip names args))
found-under n x [] args h = tt
found-under n x (y ∷ names) [] h = tt
found-under n x (y ∷ names) (a ∷ args) h =
    let both = both-true (nat_lt a n) (all_below n args) h in
    chosen-under (same_name x y) n a (found x (zip names args)) (ltb-true a n both.0) (found-under n x names args both.1)

under-argument : (n : ℕ) (names : List Chars) (args : List ℕ) (m : TyNode) → all_below n args ≡ true → IsUnder n (argument_of names args m)
under-argument n names args (Var x) h = found-under n x names args h
under-argument n names args (Con c ids) h = tt

pub argument-below : (n : ℕ) (names : List Chars) (args : List ℕ) (m : TyNode) (o : Option ℕ) → all_below n args ≡ true → o ≡ argument_of names args m → ForSome o (λ id. id < n)
argument-below n names args m o h e i is = subst (IsUnder n) (sym e ∙ is) (under-argument n names args m h)

-- the same in a table that has grown
pub part-later : (old ts : List TypeTree) (names : List Chars) (args : List ℕ) (before : List TypeTree) (n : TyNode) (o : Option ℕ) → Extends old ts → all_below (length old) args ≡ true → o ≡ argument_of names args n
    → grown_by ts (map (type_instance (zip names (types_at old args))) before) n o ≡ map (type_instance (zip names (types_at old args))) (grow before n)
part-later old ts names args before n o e h is =
    let same : types_at ts args ≡ types_at old args = ap (λ us. types_at us args) e.is ∙ types_at-more old e.more args h in
    ap (grown_by ts (map (type_instance (zip names (types_at old args))) before) n) is
    ∙ subst (λ (us : List TypeTree). grown_by ts (map (type_instance (zip names us)) before) n (argument_of names args n) ≡ map (type_instance (zip names us)) (grow before n)) same
    (part-instance ts names args before n)
