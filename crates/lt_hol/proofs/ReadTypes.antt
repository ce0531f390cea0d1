-- A type is read back from its number.
use Rattle.std.proofs.Common.{◌≡◌, ℕ, ◌+◌, ◌-◌, ◌*◌, ◌<◌, ◌≤◌, List, [], ◌∷◌, ◌++◌, length, take, drop, reverse, true, nat_lt, refl, ap, sym, ◌∙◌, subst, arith, append_assoc, append-nil, length-append}
use Rattle.std.proofs.lemmas.Bool.{ltb-true}
use Rattle.std.proofs.lemmas.List.{length-map, reverse-append}
use Rattle.std.proofs.Math.Seq.{take-append_seam}
use Rattle.lt_types.specs.declared.ty.TyNode.{TyNode}
use Rattle.lt_types.specs.declared.ty.TyNode.TheVariants.{Var, Con}
use Rattle.lt_types.specs.Layout.{grow, HasRoom, sizes, type_size}
use Rattle.lt_definitions.specs.Types.{TypeTree, type_variable, type_constructor, row, listed}
use Rattle.lt_definitions.proofs.SameNames.{listed-row, both-true}
use Rattle.lt_hol.specs.declared.read_type.Making.{Making}
use Rattle.lt_hol.specs.declared.read_type.Making.TheVariants.{Whole, Root}
use Rattle.lt_hol.specs.Makings.{numbers_of, wholes}
use Rattle.lt_hol.specs.TypeTables.{type_at, types_at, made_of, all_below, is_below}
use Rattle.lt_hol.proofs.DistinctTypes.{all-more}

-- how many arguments a type has
abbrev pub arity_of : TypeTree → ℕ
arity_of (type_variable x) = 0
arity_of (type_constructor c ts) = length (listed ts)

-- a type's root after the last types
abbrev pub rooted : TypeTree → List TypeTree → List TypeTree
rooted (type_variable x) before = before ++ type_variable x ∷ []
rooted (type_constructor c ts) before = take (length before - length (listed ts)) before ++ type_constructor c (row (drop (length before - length (listed ts)) before)) ∷ []

-- What is known between two tasks: they make the goal of the types that were made.
abbrev pub IsMaking : List TypeTree → List TypeTree → List TypeTree → List Making → Type 0
IsMaking table goal before [] = before ≡ goal
IsMaking table goal before (Whole i ∷ tasks) = (i < length table) × IsMaking table goal (before ++ type_at table i ∷ []) tasks
IsMaking table goal before (Root i ∷ tasks) = (i < length table) × (arity_of (type_at table i) ≤ length before) × IsMaking table goal (rooted (type_at table i) before) tasks

count : (table : List TypeTree) (ids : List ℕ) → length (listed (row (types_at table ids))) ≡ length ids
count table ids = ap length (listed-row (types_at table ids)) ∙ length-map ids (type_at table)

pub rooted-node : (table before : List TypeTree) (n : TyNode) → rooted (made_of table n) before ≡ grow before n
rooted-node table before (Var x) = refl
rooted-node table before (Con c ids) = ap (λ k. take (length before - k) before ++ type_constructor c (row (drop (length before - k) before)) ∷ []) (count table ids)

pub room-node : (table before : List TypeTree) (n : TyNode) → arity_of (made_of table n) ≤ length before → HasRoom before n
room-node table before (Var x) h = tt
room-node table before (Con c ids) h = omega (arith, h, count table ids)

wholes-make : (table goal before : List TypeTree) (ids : List ℕ) (tasks : List Making) → all_below (length table) ids ≡ true → IsMaking table goal (before ++ types_at table ids) tasks → IsMaking table goal before (wholes ids ++ tasks)
wholes-make table goal before [] tasks b h = subst (λ ts. IsMaking table goal ts tasks) (append-nil before) h
wholes-make table goal before (i ∷ ids) tasks b h =
    let both = both-true (nat_lt i (length table)) (all_below (length table) ids) b in (
      ltb-true i (length table) both.0,
      wholes-make table goal (before ++ type_at table i ∷ []) ids tasks both.1 (subst (λ ts. IsMaking table goal ts tasks) (sym (append_assoc before (type_at table i ∷ []) (types_at table ids))) h),
    )

drop-seam : (xs ys : List TypeTree) → drop (length xs) (xs ++ ys) ≡ ys
drop-seam [] ys = refl
drop-seam (x ∷ xs) ys = drop-seam xs ys

-- the root after the arguments
rooted-arguments : (table before : List TypeTree) (n : TyNode) → rooted (made_of table n) (before ++ types_at table (numbers_of n)) ≡ before ++ made_of table n ∷ []
rooted-arguments table before (Var x) = ap (λ ts. ts ++ type_variable x ∷ []) (append-nil before)
rooted-arguments table before (Con c ids) =
    let args : List TypeTree = types_at table ids in
    let e : length (before ++ args) - length (listed (row args)) ≡ length before = omega (arith, length-append before args, count table ids, length-map ids (type_at table)) in
    ap (λ k. take k (before ++ args) ++ type_constructor c (row (drop k (before ++ args))) ∷ []) e
    ∙ (λ i. take-append_seam before args i ++ type_constructor c (row (drop-seam before args i)) ∷ [])

arguments-fit : (table before : List TypeTree) (n : TyNode) → arity_of (made_of table n) ≤ length (before ++ types_at table (numbers_of n))
arguments-fit table before (Var x) = omega arith
arguments-fit table before (Con c ids) = omega (arith, count table ids, length-append before (types_at table ids), length-map ids (type_at table))

numbers-below : (k j : ℕ) (n : TyNode) → k ≤ j → is_below k n ≡ true → all_below j (numbers_of n) ≡ true
numbers-below k j (Var x) le h = refl
numbers-below k j (Con c ids) le h = all-more k j ids le h

-- a type is made by its arguments and its root
pub expand : (table goal before : List TypeTree) (i : ℕ) (n : TyNode) (tasks : List Making) → type_at table i ≡ made_of table n → is_below i n ≡ true
    → IsMaking table goal before (Whole i ∷ tasks) → IsMaking table goal before (wholes (numbers_of n) ++ Root i ∷ tasks)
expand table goal before i n tasks is b h =
    wholes-make table goal before (numbers_of n) (Root i ∷ tasks) (numbers-below i (length table) n (omega (arith, h.0)) b) (
      h.0,
      subst (λ t. arity_of t ≤ length (before ++ types_at table (numbers_of n))) (sym is) (arguments-fit table before n),
      subst (λ t. IsMaking table goal (rooted t (before ++ types_at table (numbers_of n))) tasks) (sym is)
          (subst (λ ts. IsMaking table goal ts tasks) (sym (rooted-arguments table before n)) (subst (λ t. IsMaking table goal (before ++ t ∷ []) tasks) is h.1)),
    )

-- ---- how much there is to do

abbrev pub work : List TypeTree → List Making → ℕ
work table [] = 0
work table (Whole i ∷ tasks) = 2 * type_size (type_at table i) + work table tasks
work table (Root i ∷ tasks) = 1 + work table tasks

work-wholes : (table : List TypeTree) (ids : List ℕ) (tasks : List Making) → work table (wholes ids ++ tasks) ≡ 2 * sizes (row (types_at table ids)) + work table tasks
work-wholes table [] tasks = omega arith
work-wholes table (i ∷ ids) tasks = omega (arith, work-wholes table ids tasks)

pub expand-less : (table : List TypeTree) (i : ℕ) (n : TyNode) (tasks : List Making) → type_at table i ≡ made_of table n → work table (wholes (numbers_of n) ++ Root i ∷ tasks) < work table (Whole i ∷ tasks)
expand-less table i n tasks is = subst (λ t. work table (wholes (numbers_of n) ++ Root i ∷ tasks) < 2 * type_size t + work table tasks) (sym is) (by n)
  where
    by : (m : TyNode) → work table (wholes (numbers_of m) ++ Root i ∷ tasks) < 2 * type_size (made_of table m) + work table tasks
    by (Var x) = omega arith
    by (Con c ids) = omega (arith, work-wholes table ids (Root i ∷ tasks))

-- ---- a task is taken

pub taken : (tasks left : List Making) (task : Making) → tasks ≡ left ++ task ∷ [] → reverse tasks ≡ task ∷ reverse left
taken tasks left task e = ap reverse e ∙ reverse-append left (task ∷ [])
