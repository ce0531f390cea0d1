-- Types put in lines.
use Rattle.std.proofs.Common.{◌≡◌, ℕ, zero, suc, ◌+◌, ◌<◌, ◌≤◌, List, [], ◌∷◌, length, map, get_or, take, drop, drop-cons, add-one, ◌++◌, slice_get, max, Bool, true, false, ◌||◌, not, is_some, is_ok, Option, Some, None, refl, sym, ◌∙◌, ap, subst, arith}
use Rattle.std.specs.Option.{option_map}
use Rattle.std.specs.List.{list_all}
use Rattle.std.proofs.lemmas.Bool.{true≢false, and_parts, and_from}
use Rattle.std.proofs.lemmas.List.{length-map}
use Rattle.std.proofs.lemmas.Option.{same_Some, slice_get_within}
use Rattle.lt_definitions.specs.Types.{Chars, has_name, same_name, TypeTree, TypeTrees, type_variable, type_constructor, no_types, type_and, TypeMap, row}
use Rattle.lt_definitions.specs.Typing.{Signature, type_fault, types_fault}
use Rattle.lt_definitions.specs.Rules.{line_at}
use Rattle.lt_definitions.proofs.TypingLemmas.{both-none}
use Rattle.lt_nameless.specs.Nameless.{Nameless, NamelessSequent}
use Rattle.lt_nameless.specs.NamelessRules.{nameless_instance, nameless_tinst_gives, put_one}
use Rattle.lt_nameless.proofs.NamelessRuleLemmas.{tinst-gives}
use Rattle.lt_types.specs.TypeVariables.{is_clear, are_clear, long_names, longest_name, longest_in}
use Rattle.lt_kernel.specs.State.{State, sequents}
use Rattle.lt_kernel.specs.Reaching.{IsGiven}
use Rattle.lt_kernel.proofs.ReachingLemmas.{reached-line}
use Rattle.lt_programs.specs.Programs.{theorem, put_each, paired}
use Rattle.lt_programs.specs.TypeLengths.{longest_type_variable}
use Rattle.lt_programs.proofs.Sequential.{IsApart, puts-apart}
use Rattle.lt_programs.proofs.Renamed.{puts-renamed}
use Rattle.lt_derived.proofs.Repeated.{some-of}

-- a line with a type put in it is given
pub puts-sure : (s : State) (a : Chars) (ty : TypeTree) (i : ℕ) → is_some (line_at (sequents s) i) ≡ true → is_ok (nameless_tinst_gives (sequents s) a ty i) ≡ true
puts-sure s a ty i h = let there = some-of (line_at (sequents s) i) h in ap is_ok (tinst-gives (sequents s) i there.0 there.1 a ty)

pub puts-one : (old new : State) (a : Chars) (ty : TypeTree) (i n : ℕ) → is_some (line_at (sequents old) i) ≡ true
    → IsGiven new n (nameless_tinst_gives (sequents old) a ty i) → line_at (sequents new) n ≡ option_map (put_one a ty) (line_at (sequents old) i)
puts-one old new a ty i n h given =
    let there = some-of (line_at (sequents old) i) h in
    reached-line new n (nameless_tinst_gives (sequents old) a ty i) (put_one a ty there.0) given (tinst-gives (sequents old) i there.0 there.1 a ty)
    ∙ sym (ap (option_map (put_one a ty)) there.1)

some-mapped : {A B : Type 0} (f : A → B) (o : Option A) → is_some o ≡ true → is_some (option_map f o) ≡ true
some-mapped f (Some x) e = refl
some-mapped f None e = absurd (cc e)

pub still-some : {A B : Type 0} (f : A → B) (o : Option A) (p : Option B) → p ≡ option_map f o → is_some o ≡ true → is_some p ≡ true
still-some f o p e h = ap is_some e ∙ some-mapped f o h

twice : {A B C : Type 0} (f : A → B) (g : B → C) (o : Option A) → option_map g (option_map f o) ≡ option_map (λ x. g (f x)) o
twice f g None = refl
twice f g (Some x) = refl

paired-left : (ns : List Chars) (ts : List TypeTree) (k : ℕ) (n : Chars) (t : TypeTree) → k < length ns → k < length ts → n ≡ get_or ns k n → t ≡ get_or ts k t
    → paired (drop k ns) (drop k ts) ≡ (n, t) ∷ paired (drop (k + 1) ns) (drop (k + 1) ts)
paired-left ns ts k n t l m e d =
    (λ i. paired (left ns n l e i) (left ts t m d i))
  where
    left : {A : Type 0} (xs : List A) (x : A) → k < length xs → x ≡ get_or xs k x → drop k xs ≡ x ∷ drop (k + 1) xs
    left xs x h q = drop-cons xs k x h ∙ (λ i. sym q i ∷ drop (sym (add-one k) i) xs)

-- one more pair
pub puts-next : (ns : List Chars) (ts : List TypeTree) (k : ℕ) (n : Chars) (t : TypeTree) (o p whole : Option NamelessSequent)
    → k < length ns → k < length ts → n ≡ get_or ns k n → t ≡ get_or ts k t
    → whole ≡ option_map (put_each (paired (drop k ns) (drop k ts))) o → p ≡ option_map (put_one n t) o
    → whole ≡ option_map (put_each (paired (drop (k + 1) ns) (drop (k + 1) ts))) p
puts-next ns ts k n t o p whole l m e d h q =
    h ∙ ap (λ pairs. option_map (put_each pairs) o) (paired-left ns ts k n t l m e d)
    ∙ sym (twice (put_one n t) (put_each (paired (drop (k + 1) ns) (drop (k + 1) ts))) o)
    ∙ ap (option_map (put_each (paired (drop (k + 1) ns) (drop (k + 1) ts)))) (sym q)

-- types of a row without fault
pub fault-at : (sig : Signature) (ts : List TypeTree) (k : ℕ) (t : TypeTree) → types_fault sig (row ts) ≡ None → k < length ts → t ≡ get_or ts k t → type_fault sig t ≡ None
fault-at sig [] k t h l e = absurd (omega arith)
fault-at sig (u ∷ ts) zero t h l e = ap (type_fault sig) e ∙ (both-none (type_fault sig u) (types_fault sig (row ts)) h).0
fault-at sig (u ∷ ts) (suc k) t h l e = fault-at sig ts k t (both-none (type_fault sig u) (types_fault sig (row ts)) h).1 (omega arith) e

pub variables-sound : (sig : Signature) (ns : List Chars) → types_fault sig (row (map type_variable ns)) ≡ None
variables-sound sig [] = refl
variables-sound sig (n ∷ ns) = variables-sound sig ns

length-long : (l k : ℕ) → length (long_names l k) ≡ k
length-long l zero = refl
length-long l (suc k) = ap suc (length-long (suc l) k)

pub as-many-variables : (k : ℕ) (ns new : List Chars) (vars : List TypeTree) → new ≡ long_names k (length ns) → vars ≡ map type_variable new → length ns ≡ length vars
as-many-variables k ns new vars e d = sym (ap length d ∙ mapped new ∙ ap length e ∙ length-long k (length ns))
  where
    mapped : (xs : List Chars) → length (map type_variable xs) ≡ length xs
    mapped [] = refl
    mapped (x ∷ xs) = ap suc (mapped xs)

pub as-many-new : (k : ℕ) (ns new : List Chars) (ts : List TypeTree) → new ≡ long_names k (length ns) → length ns ≡ length ts → length new ≡ length ts
as-many-new k ns new ts e l = ap length e ∙ length-long k (length ns) ∙ l

-- fewer names
neither : (a b : Bool) → (a || b) ≡ false → b ≡ false
neither false b e = e
neither true b e = absurd (true≢false e)

not-false : (b : Bool) → not b ≡ true → b ≡ false
not-false false e = refl
not-false true e = absurd (true≢false (sym e))

mutual
  fewer : (n : Chars) (ns : List Chars) (t : TypeTree) → is_clear (n ∷ ns) t ≡ true → is_clear ns t ≡ true
  fewer n ns (type_variable a) e = ap not (neither (same_name a n) (has_name a ns) (not-false (same_name a n || has_name a ns) e))
  fewer n ns (type_constructor c ts) e = fewer-of n ns ts e

  fewer-of : (n : Chars) (ns : List Chars) (ts : TypeTrees) → are_clear (n ∷ ns) ts ≡ true → are_clear ns ts ≡ true
  fewer-of n ns no_types e = refl
  fewer-of n ns (type_and t ts) e =
      let h = and_parts (is_clear (n ∷ ns) t) (are_clear (n ∷ ns) ts) e in
      and_from (is_clear ns t) (are_clear ns ts) (fewer n ns t h.0) (fewer-of n ns ts h.1)

clear-list : (ns : List Chars) (ts : List TypeTree) → list_all (is_clear ns) ts ≡ true → are_clear ns (row ts) ≡ true
clear-list ns [] e = refl
clear-list ns (t ∷ ts) e = let h = and_parts (is_clear ns t) (list_all (is_clear ns) ts) e in and_from (is_clear ns t) (are_clear ns (row ts)) h.0 (clear-list ns ts h.1)

clear-apart : (ns : List Chars) (ts : List TypeTree) → are_clear ns (row ts) ≡ true → IsApart ns ts
clear-apart [] ts e = tt
clear-apart (n ∷ ns) [] e = tt
clear-apart (n ∷ ns) (t ∷ ts) e =
    let h = and_parts (is_clear (n ∷ ns) t) (are_clear (n ∷ ns) (row ts)) e in
    (fewer n ns t h.0, clear-apart ns ts (fewer-of n ns (row ts) h.1))

-- the types put one after another where they may be
pub put-clear : (ns : List Chars) (ts : List TypeTree) (p : Nameless) (o q : Option NamelessSequent) → list_all (is_clear ns) ts ≡ true → o ≡ Some (theorem p)
    → q ≡ option_map (put_each (paired ns ts)) o → q ≡ Some (theorem (nameless_instance (paired ns ts) p))
put-clear ns ts p o q clear e d =
    d ∙ ap (option_map (put_each (paired ns ts))) e ∙ ap (λ (s : NamelessSequent). Some s) (puts-apart ns ts p (clear-apart ns ts (clear-list ns ts clear)))

-- .. and through new names
pub put-renamed : (k least : ℕ) (ns new : List Chars) (ts vars : List TypeTree) (p : Nameless) (o r q : Option NamelessSequent) → length ns ≡ length ts
    → k ≡ max (max (longest_name ns) (longest_in (row ts))) least → new ≡ long_names k (length ns) → vars ≡ map type_variable new → longest_type_variable p ≤ least
    → o ≡ Some (theorem p) → r ≡ option_map (put_each (paired ns vars)) o → q ≡ option_map (put_each (paired new ts)) r
    → q ≡ Some (theorem (nameless_instance (paired ns ts) p))
put-renamed k least ns new ts vars p o r q l m is vs short e d c =
    c ∙ ap (option_map (put_each (paired new ts))) (d ∙ ap (option_map (put_each (paired ns vars))) e)
    ∙ (λ i. Some (put_each (paired (is i) ts) (put_each (paired ns ((vs ∙ ap (map type_variable) is) i)) (theorem p))))
    ∙ ap (λ (s : NamelessSequent). Some s) (puts-renamed k ns ts p l (omega (arith, m)) (omega (arith, m)) (omega (arith, m, short)))

-- one more thing of a list that is mapped
pub mapped-more : {A B : Type 0} (f : A → B) (xs : List A) (k : ℕ) (x : A) → slice_get xs k ≡ Some x → map f (take (k + 1) xs) ≡ map f (take k xs) ++ f x ∷ []
mapped-more f xs k x e = ap (λ m. map f (take m xs)) (add-one k) ∙ more f xs k x e
  where
    more : {A B : Type 0} (f : A → B) (xs : List A) (k : ℕ) (x : A) → slice_get xs k ≡ Some x → map f (take (suc k) xs) ≡ map f (take k xs) ++ f x ∷ []
    more f [] k x e = let l = slice_get_within [] k x e in absurd (omega (arith, l))
    more f (y ∷ xs) zero x e = ap (λ z. f z ∷ []) (same_Some y x e)
    more f (y ∷ xs) (suc k) x e = ap (λ r. f y ∷ r) (more f xs k x e)

-- a map by its names and types
pub paired-parts : (m : TypeMap) → paired (map (λ p. p.0) m) (map (λ p. p.1) m) ≡ m
paired-parts [] = refl
paired-parts (p ∷ m) = ap (λ ps. p ∷ ps) (paired-parts m)

-- what is given of a map's names and types is given of the map
pub of-map : (Q : TypeMap → Type 0) (m : TypeMap) (ns : List Chars) (ts : List TypeTree) → ns ≡ map (λ p. p.0) m → ts ≡ map (λ p. p.1) m → Q (paired ns ts) → Q m
of-map Q m ns ts e d h = subst Q ((λ i. paired (e i) (d i)) ∙ paired-parts m) h

pub as-many : (m : TypeMap) (ns : List Chars) (ts : List TypeTree) → ns ≡ map (λ p. p.0) m → ts ≡ map (λ p. p.1) m → length ns ≡ length ts
as-many m ns ts e d = ap length e ∙ length-map m _ ∙ sym (length-map m _) ∙ sym (ap length d)

-- a statement that is a line's
pub line-statement : (o : Option NamelessSequent) (p t : Nameless) → o ≡ Some (theorem p) → option_map (λ s. s.concl) o ≡ Some t → t ≡ p
line-statement o p t e d = same (sym d ∙ ap (option_map (λ s. s.concl)) e)
  where
    same : Some t ≡ Some p → t ≡ p
    same q = cc q
