-- Types by number, in a table in which no node stands twice.
use Rattle.std.proofs.Common.{◌≡◌, ℕ, zero, suc, ◌+◌, ◌<◌, ◌≤◌, List, [], ◌∷◌, ◌++◌, length, get_or, slice_get, Some, Bool, true, false, nat_lt, refl, ap, sym, ◌∙◌, subst, arith, length-append, append_assoc, append-nil, if◌then◌else◌, ◌⊎◌, inl, inr}
use Rattle.std.specs.List.{list_any}
use Rattle.std.proofs.lemmas.Bool.{cases_lt, true≢false, ltb-true, lt-ltb}
use Rattle.std.proofs.lemmas.List.{get_or_append_left}
use Rattle.std.proofs.lemmas.List.Folds.{list_any_at}
use Rattle.std.proofs.Math.Seq.{get_or-append_seam}
use Rattle.std.proofs.lemmas.Option.{same_Some, none-some, slice_get-get_or, slice_get_within}
use Rattle.lt_types.specs.declared.ty.TyNode.{TyNode}
use Rattle.lt_types.specs.declared.ty.TyNode.TheVariants.{Var, Con}
use Rattle.lt_definitions.specs.Types.{TypeTree, type_variable, type_constructor, row, listed}
use Rattle.lt_definitions.proofs.SameNames.{listed-row, both-true, true-both}
use Rattle.lt_hol.specs.TypeTables.{type_at, types_at, made_of, types_after, all_below, is_below, IsGrounded, IsApart, Extends, ExtendsBy}
use Rattle.lt_hol.proofs.AddedTypes.{by-none, one-part}

pub types_after-append : (ts : List TypeTree) (ms ns : List TyNode) → types_after ts (ms ++ ns) ≡ types_after (types_after ts ms) ns
types_after-append ts [] ns = refl
types_after-append ts (m ∷ ms) ns = types_after-append (ts ++ made_of ts m ∷ []) ms ns

pub length-types_after : (ts : List TypeTree) (ns : List TyNode) → length (types_after ts ns) ≡ length ts + length ns
length-types_after ts [] = omega arith
length-types_after ts (n ∷ ns) = omega (arith, length-types_after (ts ++ made_of ts n ∷ []) ns, length-append ts (made_of ts n ∷ []))

-- ---- types that are there stay

pub type_at-more : (ts us : List TypeTree) (i : ℕ) → i < length ts → type_at (ts ++ us) i ≡ type_at ts i
type_at-more ts us i h = get_or_append_left ts us (type_variable []) i h

pub types_at-more : (ts us : List TypeTree) (ids : List ℕ) → all_below (length ts) ids ≡ true → types_at (ts ++ us) ids ≡ types_at ts ids
types_at-more ts us [] h = refl
types_at-more ts us (i ∷ ids) h =
    let both = both-true (nat_lt i (length ts)) (all_below (length ts) ids) h in
    λ k. type_at-more ts us i (ltb-true i (length ts) both.0) k ∷ types_at-more ts us ids both.1 k

pub made_of-more : (ts us : List TypeTree) (n : TyNode) → is_below (length ts) n ≡ true → made_of (ts ++ us) n ≡ made_of ts n
made_of-more ts us (Var x) h = refl
made_of-more ts us (Con c ids) h = ap (λ args. type_constructor c (row args)) (types_at-more ts us ids h)

pub extends-refl : (ts : List TypeTree) → Extends ts ts
extends-refl ts = record { more = []; is = sym (append-nil ts) }

pub extends-then : (ts us vs : List TypeTree) → Extends ts us → Extends us vs → Extends ts vs
extends-then ts us vs e f = record { more = e.more ++ f.more; is = f.is ∙ ap (λ l. l ++ f.more) e.is ∙ append_assoc ts e.more f.more }

added : (ts : List TypeTree) (ns : List TyNode) → Extends ts (types_after ts ns)
added ts [] = extends-refl ts
added ts (n ∷ ns) = extends-then ts (ts ++ made_of ts n ∷ []) (types_after (ts ++ made_of ts n ∷ []) ns) (record { more = made_of ts n ∷ []; is = refl }) (added (ts ++ made_of ts n ∷ []) ns)

-- ---- the type of a node's number

below-at : (k : ℕ) (ns : List TyNode) (i : ℕ) (n : TyNode) → IsGrounded k ns → slice_get ns i ≡ Some n → is_below (k + i) n ≡ true
below-at k [] i n g is = absurd (none-some n is)
below-at k (m ∷ ns) zero n g is =
    let e : k ≡ k + 0 = omega arith in subst (λ j. is_below j n ≡ true) e (subst (λ x. is_below k x ≡ true) (same_Some m n is) g.0)
below-at k (m ∷ ns) (suc i) n g is =
    let e : suc k + i ≡ k + suc i = omega arith in subst (λ j. is_below j n ≡ true) e (below-at (suc k) ns i n g.1 is)

made-at : (ts : List TypeTree) (ns : List TyNode) (k i : ℕ) (n : TyNode) → k ≡ length ts → IsGrounded k ns → slice_get ns i ≡ Some n → type_at (types_after ts ns) (k + i) ≡ made_of (types_after ts ns) n
made-at ts [] k i n e g is = absurd (none-some n is)
made-at ts (m ∷ ns) k zero n e g is =
    let us : List TypeTree = ts ++ made_of ts m ∷ [] in
    let from = added us ns in
    let here : k + 0 ≡ length ts = omega (arith, e) in
    let whole : types_after us ns ≡ ts ++ (made_of ts m ∷ from.more) = from.is ∙ append_assoc ts (made_of ts m ∷ []) from.more in
    (λ j. type_at (whole j) (here j)) ∙ get_or-append_seam ts (made_of ts m) from.more (type_variable [])
    ∙ sym (made_of-more ts (made_of ts m ∷ from.more) m (subst (λ j. is_below j m ≡ true) e g.0))
    ∙ (λ j. made_of (sym whole j) (same_Some m n is j))
made-at ts (m ∷ ns) k (suc i) n e g is =
    let us : List TypeTree = ts ++ made_of ts m ∷ [] in
    let next : suc k ≡ length us = omega (arith, e, length-append ts (made_of ts m ∷ [])) in
    let place : k + suc i ≡ suc k + i = omega arith in
    ap (type_at (types_after us ns)) place ∙ made-at us ns (suc k) i n next g.1 is

-- the type of a number is what its node makes
pub type_at-node : (ns : List TyNode) (i : ℕ) (n : TyNode) → IsGrounded 0 ns → slice_get ns i ≡ Some n → type_at (types_after [] ns) i ≡ made_of (types_after [] ns) n
type_at-node ns i n g is = let e : i ≡ 0 + i = omega arith in ap (type_at (types_after [] ns)) e ∙ made-at [] ns 0 i n refl g is

pub node-below : (ns : List TyNode) (i : ℕ) (n : TyNode) → IsGrounded 0 ns → slice_get ns i ≡ Some n → is_below i n ≡ true
node-below ns i n g is = let e : 0 + i ≡ i = omega arith in subst (λ j. is_below j n ≡ true) e (below-at 0 ns i n g is)

pub all-more : (k j : ℕ) (ids : List ℕ) → k ≤ j → all_below k ids ≡ true → all_below j ids ≡ true
all-more k j [] le h = refl
all-more k j (i ∷ ids) le h =
    let both = both-true (nat_lt i k) (all_below k ids) h in
    let lt : i < k = ltb-true i k both.0 in
    true-both (nat_lt i j) (all_below j ids) (lt-ltb i j (omega (arith, lt, le))) (all-more k j ids le both.1)

-- a node within a table
pub below-whole : (ns : List TyNode) (i : ℕ) (n : TyNode) → IsGrounded 0 ns → slice_get ns i ≡ Some n → is_below (length (types_after [] ns)) n ≡ true
below-whole ns i n g is = by n (node-below ns i n g is)
  where
    far : i ≤ length (types_after [] ns)
    far = let within : i < length ns = slice_get_within ns i n is in omega (arith, within, length-types_after [] ns)

    by : (m : TyNode) → is_below i m ≡ true → is_below (length (types_after [] ns)) m ≡ true
    by (Var x) h = refl
    by (Con c ids) h = all-more i (length (types_after [] ns)) ids far h

-- ---- no type has two numbers

ids-same : (ts : List TypeTree) → IsApart ts → (is js : List ℕ) → all_below (length ts) is ≡ true → all_below (length ts) js ≡ true → types_at ts is ≡ types_at ts js → is ≡ js
ids-same ts apart [] [] h k e = refl
ids-same ts apart [] (j ∷ js) h k e = absurd (cc)
ids-same ts apart (i ∷ is) [] h k e = absurd (cc)
ids-same ts apart (i ∷ is) (j ∷ js) h k e =
    let left = both-true (nat_lt i (length ts)) (all_below (length ts) is) h in
    let right = both-true (nat_lt j (length ts)) (all_below (length ts) js) k in
    let first : type_at ts i ≡ type_at ts j = cc in
    let later : types_at ts is ≡ types_at ts js = cc in
    λ l. apart i j (ltb-true i (length ts) left.0) (ltb-true j (length ts) right.0) first l ∷ ids-same ts apart is js left.1 right.1 later l

same-made : (ts : List TypeTree) → IsApart ts → (m n : TyNode) → is_below (length ts) m ≡ true → is_below (length ts) n ≡ true → made_of ts m ≡ made_of ts n → m ≡ n
same-made ts apart (Var x) (Var y) h k e = cc
same-made ts apart (Var x) (Con d js) h k e = absurd (cc)
same-made ts apart (Con c is) (Var y) h k e = absurd (cc)
same-made ts apart (Con c is) (Con d js) h k e =
    let name : c ≡ d = cc in
    let rows : row (types_at ts is) ≡ row (types_at ts js) = cc in
    let args : types_at ts is ≡ types_at ts js = sym (listed-row (types_at ts is)) ∙ ap listed rows ∙ listed-row (types_at ts js) in
    λ l. Con (name l) (ids-same ts apart is js h k args l)

grounded-push : (k : ℕ) (ns : List TyNode) (n : TyNode) → IsGrounded k ns → is_below (k + length ns) n ≡ true → IsGrounded k (ns ++ n ∷ [])
grounded-push k [] n g h = let e : k + 0 ≡ k = omega arith in (subst (λ j. is_below j n ≡ true) e h, tt)
grounded-push k (m ∷ ns) n g h =
    let e : k + suc (length ns) ≡ suc k + length ns = omega arith in (g.0, grounded-push (suc k) ns n g.1 (subst (λ j. is_below j n ≡ true) e h))

-- a type that is not in a list is apart from those in it
apart-push : (ts : List TypeTree) (t : TypeTree) → IsApart ts → ((i : ℕ) → i < length ts → type_at ts i ≡ t → ⊥) → IsApart (ts ++ t ∷ [])
apart-push ts t apart new i j hi hj e = by (cases_lt i (length ts)) (cases_lt j (length ts))
  where
    count : length (ts ++ t ∷ []) ≡ length ts + 1
    count = length-append ts (t ∷ [])

    last : (k : ℕ) → k ≡ length ts → type_at (ts ++ t ∷ []) k ≡ t
    last k p = ap (type_at (ts ++ t ∷ [])) p ∙ get_or-append_seam ts t [] (type_variable [])

    by : (i < length ts) ⊎ (length ts ≤ i) → (j < length ts) ⊎ (length ts ≤ j) → i ≡ j
    by (inl li) (inl lj) = apart i j li lj (sym (type_at-more ts (t ∷ []) i li) ∙ e ∙ type_at-more ts (t ∷ []) j lj)
    by (inl li) (inr lj) = absurd (new i li (sym (type_at-more ts (t ∷ []) i li) ∙ e ∙ last j (omega (arith, hj, count))))
    by (inr li) (inl lj) = absurd (new j lj (sym (type_at-more ts (t ∷ []) j lj) ∙ sym e ∙ last i (omega (arith, hi, count))))
    by (inr li) (inr lj) = omega (arith, hi, hj, count)

-- ---- one more node

pub record IsAdded (ns more : List TyNode) (n : TyNode) (id : ℕ) : Type 0 where
  pub grounded : IsGrounded 0 more
  pub apart : IsApart (types_after [] more)
  pub grows : Extends (types_after [] ns) (types_after [] more)
  pub added : ExtendsBy (made_of (types_after [] ns) n ∷ []) (types_after [] ns) (types_after [] more)
  pub made : slice_get (types_after [] more) id ≡ Some (made_of (types_after [] ns) n)

stands : (ns : List TyNode) (id : ℕ) (n : TyNode) → IsGrounded 0 ns → slice_get ns id ≡ Some n → slice_get (types_after [] ns) id ≡ Some (made_of (types_after [] ns) n)
stands ns id n g is =
    let within : id < length ns = slice_get_within ns id n is in
    slice_get-get_or (types_after [] ns) id (type_variable []) (omega (arith, within, length-types_after [] ns)) ∙ ap Some (type_at-node ns id n g is)

module _ (eq : TyNode → TyNode → Bool) (own : (n : TyNode) → eq n n ≡ true) where
  there : (ns : List TyNode) (n : TyNode) (id : ℕ) → IsGrounded 0 ns → IsApart (types_after [] ns) → slice_get ns id ≡ Some n → IsAdded ns ns n id
  there ns n id g apart at = record { grounded = g; apart = apart; grows = extends-refl (types_after [] ns); added = by-none (made_of (types_after [] ns) n ∷ []) (types_after [] ns); made = stands ns id n g at }

  new-type : (ns : List TyNode) (n : TyNode) → IsGrounded 0 ns → IsApart (types_after [] ns) → is_below (length (types_after [] ns)) n ≡ true → list_any (eq n) ns ≡ false
      → (i : ℕ) → i < length (types_after [] ns) → type_at (types_after [] ns) i ≡ made_of (types_after [] ns) n → ⊥
  new-type ns n g apart below none i lt e =
      let within : i < length ns = omega (arith, lt, length-types_after [] ns) in
      let m : TyNode = get_or ns i n in
      let is : slice_get ns i ≡ Some m = slice_get-get_or ns i n within in
      let same : m ≡ n = same-made (types_after [] ns) apart m n (below-whole ns i m g is) below (sym (type_at-node ns i m g is) ∙ e) in
      true≢false (sym (list_any_at (eq n) ns i n within (ap (eq n) same ∙ own n)) ∙ none)

  fresh : (ns : List TyNode) (n : TyNode) (id : ℕ) → IsGrounded 0 ns → IsApart (types_after [] ns) → is_below (length (types_after [] ns)) n ≡ true → list_any (eq n) ns ≡ false
      → slice_get (ns ++ n ∷ []) id ≡ Some n → IsAdded ns (ns ++ n ∷ []) n id
  fresh ns n id g apart below none at = record {
    grounded = grounded;
    apart = subst IsApart (sym more) (apart-push (types_after [] ns) (made_of (types_after [] ns) n) apart (new-type ns n g apart below none));
    grows = record { more = made_of (types_after [] ns) n ∷ []; is = more };
    added = record { more = made_of (types_after [] ns) n ∷ []; is = more; parts = one-part (made_of (types_after [] ns) n) };
    made = stands (ns ++ n ∷ []) id n grounded at ∙ ap Some (ap (λ ts. made_of ts n) more ∙ made_of-more (types_after [] ns) (made_of (types_after [] ns) n ∷ []) n below);
  }
    where
      more : types_after [] (ns ++ n ∷ []) ≡ types_after [] ns ++ made_of (types_after [] ns) n ∷ []
      more = types_after-append [] ns (n ∷ [])

      grounded : IsGrounded 0 (ns ++ n ∷ [])
      grounded = let e : length (types_after [] ns) ≡ 0 + length ns = omega (arith, length-types_after [] ns) in
          grounded-push 0 ns n g (subst (λ j. is_below j n ≡ true) e below)

  pub inserted : (b : Bool) (ns more : List TyNode) (n : TyNode) (id : ℕ) → list_any (eq n) ns ≡ b → more ≡ (if b then ns else ns ++ n ∷ []) → IsGrounded 0 ns → IsApart (types_after [] ns)
      → is_below (length (types_after [] ns)) n ≡ true → slice_get more id ≡ Some n → IsAdded ns more n id
  inserted true ns more n id any is g apart below at = subst (λ ms. IsAdded ns ms n id) (sym is) (there ns n id g apart (subst (λ ms. slice_get ms id ≡ Some n) is at))
  inserted false ns more n id any is g apart below at = subst (λ ms. IsAdded ns ms n id) (sym is) (fresh ns n id g apart below any (subst (λ ms. slice_get ms id ≡ Some n) is at))
