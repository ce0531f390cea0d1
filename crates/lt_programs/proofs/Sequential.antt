-- Types put one after another are put at once, where none has a variable that is still to be replaced.
use Rattle.std.proofs.Common.{◌≡◌, ℕ, ◌≤◌, inl, inr, List, [], ◌∷◌, length, map, Bool, true, false, ◌||◌, not, unwrap_or, Some, None, refl, sym, ◌∙◌, ap, arith}
use Rattle.std.proofs.lemmas.Bool.{cases_Bool, true≢false, and_parts, cond-true, cond-false}
use Rattle.lt_definitions.specs.Types.{Chars, same_name, has_name, found, TypeTree, TypeTrees, type_variable, type_constructor, no_types, type_and, TypeMap, row, type_instance, types_instance}
use Rattle.lt_nameless.specs.Nameless.{Nameless, nameless_free, nameless_bound, nameless_loose, nameless_constant, nameless_application, nameless_abstraction}
use Rattle.lt_nameless.specs.NamelessRules.{nameless_instance}
use Rattle.lt_programs.specs.Programs.{theorem, put_each, paired}
use Rattle.lt_types.specs.TypeVariables.{is_clear, are_clear, longest_variable, longest_in}
use Rattle.lt_programs.specs.TypeLengths.{longest_type_variable}

-- what a map puts for a variable
abbrev pub put : TypeMap → Chars → TypeTree
put m a = unwrap_or (found a m) (type_variable a)

-- this holds of each variable
abbrev mutual
  pub Each : (Chars → Type 0) → TypeTree → Type 0
  Each P (type_variable a) = P a
  Each P (type_constructor c ts) = EachOf P ts

  pub EachOf : (Chars → Type 0) → TypeTrees → Type 0
  EachOf P no_types = Unit {0}
  EachOf P (type_and t ts) = Each P t × EachOf P ts

abbrev pub EachIn : (Chars → Type 0) → Nameless → Type 0
EachIn P (nameless_free x ty) = Each P ty
EachIn P (nameless_bound i) = Unit {0}
EachIn P (nameless_loose x) = Unit {0}
EachIn P (nameless_constant c ts) = EachOf P (row ts)
EachIn P (nameless_application f a) = EachIn P f × EachIn P a
EachIn P (nameless_abstraction ty b) = Each P ty × EachIn P b

module _ (P : Chars → Type 0) (all : (a : Chars) → P a) where
  mutual
    each : (t : TypeTree) → Each P t
    each (type_variable a) = all a
    each (type_constructor c ts) = each-of ts

    each-of : (ts : TypeTrees) → EachOf P ts
    each-of no_types = tt
    each-of (type_and t ts) = (each t, each-of ts)

  each-in : (p : Nameless) → EachIn P p
  each-in (nameless_free x ty) = each ty
  each-in (nameless_bound i) = tt
  each-in (nameless_loose x) = tt
  each-in (nameless_constant c ts) = each-of (row ts)
  each-in (nameless_application f a) = (each-in f, each-in a)
  each-in (nameless_abstraction ty b) = (each ty, each-in b)

-- no longer than so many characters
abbrev pub IsShort : ℕ → Chars → Type 0
IsShort k a = length a ≤ k

module _ (k : ℕ) where
  mutual
    short : (t : TypeTree) → longest_variable t ≤ k → Each (IsShort k) t
    short (type_variable a) h = h
    short (type_constructor c ts) h = short-of ts h

    short-of : (ts : TypeTrees) → longest_in ts ≤ k → EachOf (IsShort k) ts
    short-of no_types h = tt
    short-of (type_and t ts) h = (short t (omega (arith, h)), short-of ts (omega (arith, h)))

  pub short-in : (p : Nameless) → longest_type_variable p ≤ k → EachIn (IsShort k) p
  short-in (nameless_free x ty) h = short ty h
  short-in (nameless_bound i) h = tt
  short-in (nameless_loose x) h = tt
  short-in (nameless_constant c ts) h = short-of (row ts) h
  short-in (nameless_application f a) h = (short-in f (omega (arith, h)), short-in a (omega (arith, h)))
  short-in (nameless_abstraction ty b) h = (short ty (omega (arith, h)), short-in b (omega (arith, h)))

-- two maps one after another are a third one, where they are at each variable
module _ (s r m : TypeMap) (P : Chars → Type 0) (on : (a : Chars) → P a → type_instance r (put s a) ≡ put m a) where
  mutual
    through : (t : TypeTree) → Each P t → type_instance r (type_instance s t) ≡ type_instance m t
    through (type_variable a) h = on a h
    through (type_constructor c ts) h = ap (type_constructor c) (through-of ts h)

    through-of : (ts : TypeTrees) → EachOf P ts → types_instance r (types_instance s ts) ≡ types_instance m ts
    through-of no_types h = refl
    through-of (type_and t ts) h = λ i. type_and (through t h.0 i) (through-of ts h.1 i)

  through-list : (ts : List TypeTree) → EachOf P (row ts) → map (type_instance r) (map (type_instance s) ts) ≡ map (type_instance m) ts
  through-list [] h = refl
  through-list (t ∷ ts) h = λ i. through t h.0 i ∷ through-list ts h.1 i

  pub through-in : (p : Nameless) → EachIn P p → nameless_instance r (nameless_instance s p) ≡ nameless_instance m p
  through-in (nameless_free x ty) h = ap (nameless_free x) (through ty h)
  through-in (nameless_bound i) h = refl
  through-in (nameless_loose x) h = refl
  through-in (nameless_constant c ts) h = ap (nameless_constant c) (through-list ts h)
  through-in (nameless_application f a) h = λ i. nameless_application (through-in f h.0 i) (through-in a h.1 i)
  through-in (nameless_abstraction ty b) h = λ i. nameless_abstraction (through ty h.0 i) (through-in b h.1 i)

-- a variable that isn't a name of the map stays
pub absent : (a : Chars) (ns : List Chars) (ts : List TypeTree) → has_name a ns ≡ false → put (paired ns ts) a ≡ type_variable a
absent a [] ts e = refl
absent a (n ∷ ns) [] e = refl
absent a (n ∷ ns) (t ∷ ts) e = elim (cases_Bool (same_name a n)) [
  | inl h ↦ absurd (true≢false (sym (ap (λ b. b || has_name a ns) h) ∙ e))
  | inr h ↦ ap (λ o. unwrap_or o (type_variable a)) (cond-false (same_name a n) (Some t) (found a (paired ns ts)) h)
      ∙ absent a ns ts (sym (ap (λ b. b || has_name a ns) h) ∙ e)
]

pub not-true : (b : Bool) → not b ≡ true → b ≡ false
not-true false e = refl
not-true true e = absurd (true≢false (sym e))

module _ (ns : List Chars) (us : List TypeTree) where
  mutual
    clear : (t : TypeTree) → is_clear ns t ≡ true → type_instance (paired ns us) t ≡ t
    clear (type_variable a) e = absent a ns us (not-true (has_name a ns) e)
    clear (type_constructor c ts) e = ap (type_constructor c) (clear-of ts e)

    clear-of : (ts : TypeTrees) → are_clear ns ts ≡ true → types_instance (paired ns us) ts ≡ ts
    clear-of no_types e = refl
    clear-of (type_and t ts) e = let h = and_parts (is_clear ns t) (are_clear ns ts) e in λ i. type_and (clear t h.0 i) (clear-of ts h.1 i)

-- no type has a variable that is still to be replaced behind it
abbrev pub IsApart : List Chars → List TypeTree → Type 0
IsApart [] ts = Unit {0}
IsApart (n ∷ ns) [] = Unit {0}
IsApart (n ∷ ns) (t ∷ ts) = (is_clear ns t ≡ true) × IsApart ns ts

first-put : (n : Chars) (t : TypeTree) (ns : List Chars) (ts : List TypeTree) (a : Chars) → is_clear ns t ≡ true
    → type_instance (paired ns ts) (put ((n, t) ∷ []) a) ≡ put ((n, t) ∷ paired ns ts) a
first-put n t ns ts a e = elim (cases_Bool (same_name a n)) [
  | inl h ↦ ap (λ o. type_instance (paired ns ts) (unwrap_or o (type_variable a))) (cond-true (same_name a n) (Some t) None h)
      ∙ clear ns ts t e ∙ sym (ap (λ o. unwrap_or o (type_variable a)) (cond-true (same_name a n) (Some t) (found a (paired ns ts)) h))
  | inr h ↦ ap (λ o. type_instance (paired ns ts) (unwrap_or o (type_variable a))) (cond-false (same_name a n) (Some t) None h)
      ∙ sym (ap (λ o. unwrap_or o (type_variable a)) (cond-false (same_name a n) (Some t) (found a (paired ns ts)) h))
]

mutual
  pub none-type : (t : TypeTree) → type_instance [] t ≡ t
  none-type (type_variable a) = refl
  none-type (type_constructor c ts) = ap (type_constructor c) (none-types ts)

  none-types : (ts : TypeTrees) → types_instance [] ts ≡ ts
  none-types no_types = refl
  none-types (type_and t ts) = λ i. type_and (none-type t i) (none-types ts i)

none-list : (ts : List TypeTree) → map (type_instance []) ts ≡ ts
none-list [] = refl
none-list (t ∷ ts) = λ i. none-type t i ∷ none-list ts i

-- a term with nothing put
pub nothing-put : (p : Nameless) → nameless_instance [] p ≡ p
nothing-put (nameless_free x ty) = ap (nameless_free x) (none-type ty)
nothing-put (nameless_bound i) = refl
nothing-put (nameless_loose x) = refl
nothing-put (nameless_constant c ts) = ap (nameless_constant c) (none-list ts)
nothing-put (nameless_application f a) = λ i. nameless_application (nothing-put f i) (nothing-put a i)
nothing-put (nameless_abstraction ty b) = λ i. nameless_abstraction (none-type ty i) (nothing-put b i)

-- one after another is at once
pub puts-apart : (ns : List Chars) (ts : List TypeTree) (p : Nameless) → IsApart ns ts
    → put_each (paired ns ts) (theorem p) ≡ theorem (nameless_instance (paired ns ts) p)
puts-apart [] ts p h = ap theorem (sym (nothing-put p))
puts-apart (n ∷ ns) [] p h = ap theorem (sym (nothing-put p))
puts-apart (n ∷ ns) (t ∷ ts) p h =
    puts-apart ns ts (nameless_instance ((n, t) ∷ []) p) h.1
    ∙ ap theorem (through-in ((n, t) ∷ []) (paired ns ts) ((n, t) ∷ paired ns ts) (λ a. Unit {0}) (λ a k. first-put n t ns ts a h.0) p (each-in (λ a. Unit {0}) (λ a. tt) p))
