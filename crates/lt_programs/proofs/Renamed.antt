-- Types put for variables that were renamed to new ones before.
use Rattle.std.proofs.Common.{◌≡◌, ℕ, zero, suc, ◌<◌, ◌≤◌, inl, inr, List, [], ◌∷◌, length, map, replicate, Bool, true, false, ◌||◌, not, unwrap_or, Some, refl, sym, ◌∙◌, ap, arith}
use Rattle.std.proofs.lemmas.Bool.{cases_Bool, true≢false, and_from, cond-true, cond-false}
use Rattle.lt_definitions.specs.Types.{Chars, same_name, has_name, TypeTree, TypeTrees, type_variable, type_constructor, no_types, type_and, row, type_instance}
use Rattle.lt_nameless.specs.Nameless.{Nameless}
use Rattle.lt_nameless.specs.NamelessRules.{nameless_instance}
use Rattle.lt_definitions.proofs.SameNames.{true-name, false-name}
use Rattle.lt_programs.specs.Programs.{theorem, put_each, paired}
use Rattle.lt_types.specs.TypeVariables.{is_clear, are_clear, long_names, longest_name, longest_variable, longest_in}
use Rattle.lt_programs.specs.TypeLengths.{longest_type_variable}
use Rattle.lt_programs.proofs.Sequential.{put, IsShort, IsApart, short-in, through-in, puts-apart, absent}

length-replicate : (n c : ℕ) → length (replicate n c) ≡ n
length-replicate zero c = refl
length-replicate (suc n) c = ap suc (length-replicate n c)

-- the variables of these names
abbrev pub variables : List Chars → List TypeTree
variables ns = map type_variable ns

other-length : (a b : Chars) → length a < length b → same_name a b ≡ false
other-length a b h = false-name a b (λ e. let l : length a ≡ length b = ap length e in absurd (omega (arith, l)))

other-length-2 : (a b : Chars) → length b < length a → same_name a b ≡ false
other-length-2 a b h = false-name a b (λ e. let l : length a ≡ length b = ap length e in absurd (omega (arith, l)))

neither : (a b : Bool) → a ≡ false → b ≡ false → (a || b) ≡ false
neither a b e f = ap (λ c. c || b) e ∙ f

negated : (b : Bool) → b ≡ false → not b ≡ true
negated b e = ap not e

-- a name that is longer than each of these isn't among them
absent-long : (f : Chars) (ns : List Chars) → longest_name ns < length f → has_name f ns ≡ false
absent-long f [] h = refl
absent-long f (n ∷ ns) h = neither (same_name f n) (has_name f ns) (other-length-2 f n (omega arith)) (absent-long f ns (omega arith))

-- a name that isn't longer than k isn't among the long ones
absent-short : (k n : ℕ) (a : Chars) → length a ≤ k → has_name a (long_names k n) ≡ false
absent-short k zero a h = refl
absent-short k (suc n) a h =
    let l = length-replicate (suc k) 116 in
    neither (same_name a (replicate (suc k) 116)) (has_name a (long_names (suc k) n)) (other-length a (replicate (suc k) 116) (omega (arith, l, h))) (absent-short (suc k) n a (omega (arith, h)))

module _ (k n : ℕ) where
  mutual
    clear-long : (t : TypeTree) → longest_variable t ≤ k → is_clear (long_names k n) t ≡ true
    clear-long (type_variable a) h = negated (has_name a (long_names k n)) (absent-short k n a h)
    clear-long (type_constructor c ts) h = clear-longs ts h

    clear-longs : (ts : TypeTrees) → longest_in ts ≤ k → are_clear (long_names k n) ts ≡ true
    clear-longs no_types h = refl
    clear-longs (type_and t ts) h = and_from (is_clear (long_names k n) t) (are_clear (long_names k n) ts) (clear-long t (omega arith)) (clear-longs ts (omega arith))

long-apart : (k n : ℕ) (ts : List TypeTree) → longest_in (row ts) ≤ k → IsApart (long_names k n) ts
long-apart k zero ts h = tt
long-apart k (suc n) [] h = tt
long-apart k (suc n) (t ∷ ts) h = (clear-long (suc k) n t (omega arith), long-apart (suc k) n ts (omega arith))

names-apart : (k n : ℕ) (ns : List Chars) → longest_name ns ≤ k → IsApart ns (variables (long_names k n))
names-apart k n [] h = tt
names-apart k zero (x ∷ ns) h = tt
names-apart k (suc n) (x ∷ ns) h =
    let l = length-replicate (suc k) 116 in
    (negated (has_name (replicate (suc k) 116) ns) (absent-long (replicate (suc k) 116) ns (omega (arith, l))), names-apart (suc k) n ns (omega arith))

-- a name becomes a long one, for which its type is put
pub record Renames (k : ℕ) (ns : List Chars) (ts : List TypeTree) (v : Chars) : Type 0 where
  pub new : Chars
  pub renamed : put (paired ns (variables (long_names k (length ns)))) v ≡ type_variable new
  pub long : k < length new
  pub back : put (paired (long_names k (length ns)) ts) new ≡ put (paired ns ts) v

renames : (k : ℕ) (ns : List Chars) (ts : List TypeTree) (v : Chars) → length ns ≡ length ts → has_name v ns ≡ true → Renames k ns ts v
renames k [] ts v l h = absurd (true≢false (sym h))
renames k (n ∷ ns) [] v l h = absurd (omega arith)
renames k (n ∷ ns) (t ∷ ts) v l h = elim (cases_Bool (same_name v n)) [
  | inl e ↦
      let f : Chars = replicate (suc k) 116 in
      let long : length f ≡ suc k = length-replicate (suc k) 116 in
      record {
        new = f;
        renamed = ap (λ o. unwrap_or o (type_variable v)) (cond-true (same_name v n) (Some (type_variable f)) _ e);
        long = omega (arith, long);
        back = ap (λ o. unwrap_or o (type_variable f)) (cond-true (same_name f f) (Some t) _ (true-name f f refl))
            ∙ sym (ap (λ o. unwrap_or o (type_variable v)) (cond-true (same_name v n) (Some t) _ e));
      }
  | inr e ↦
      let f : Chars = replicate (suc k) 116 in
      let long : length f ≡ suc k = length-replicate (suc k) 116 in
      let later = renames (suc k) ns ts v (omega arith) (sym (ap (λ b. b || has_name v ns) e) ∙ h) in
      record {
        new = later.new;
        renamed = ap (λ o. unwrap_or o (type_variable v)) (cond-false (same_name v n) (Some (type_variable f)) _ e) ∙ later.renamed;
        long = omega (arith, later.long);
        back = ap (λ o. unwrap_or o (type_variable later.new)) (cond-false (same_name later.new f) (Some t) _ (other-length-2 later.new f (omega (arith, long, later.long))))
            ∙ later.back ∙ sym (ap (λ o. unwrap_or o (type_variable v)) (cond-false (same_name v n) (Some t) _ e));
      }
]

-- a name that isn't longer than k is put back, whether it was renamed or not
put-back : (k : ℕ) (ns : List Chars) (ts : List TypeTree) (v : Chars) → length ns ≡ length ts → length v ≤ k
    → type_instance (paired (long_names k (length ns)) ts) (put (paired ns (variables (long_names k (length ns)))) v) ≡ put (paired ns ts) v
put-back k ns ts v l s = elim (cases_Bool (has_name v ns)) [
  | inl h ↦ let r = renames k ns ts v l h in ap (type_instance (paired (long_names k (length ns)) ts)) r.renamed ∙ r.back
  | inr h ↦ ap (type_instance (paired (long_names k (length ns)) ts)) (absent v ns (variables (long_names k (length ns))) h)
      ∙ absent v (long_names k (length ns)) ts (absent-short k (length ns) v s) ∙ sym (absent v ns ts h)
]

-- through new names
pub puts-renamed : (k : ℕ) (ns : List Chars) (ts : List TypeTree) (p : Nameless) → length ns ≡ length ts
    → longest_name ns ≤ k → longest_in (row ts) ≤ k → longest_type_variable p ≤ k
    → put_each (paired (long_names k (length ns)) ts) (put_each (paired ns (variables (long_names k (length ns)))) (theorem p))
    ≡ theorem (nameless_instance (paired ns ts) p)
puts-renamed k ns ts p l short low over =
    ap (put_each (paired (long_names k (length ns)) ts)) (puts-apart ns (variables (long_names k (length ns))) p (names-apart k (length ns) ns short))
    ∙ puts-apart (long_names k (length ns)) ts (nameless_instance (paired ns (variables (long_names k (length ns)))) p) (long-apart k (length ns) ts low)
    ∙ ap theorem (through-in (paired ns (variables (long_names k (length ns)))) (paired (long_names k (length ns)) ts) (paired ns ts) (IsShort k)
    (λ v h. put-back k ns ts v l h) p (short-in k p over))
