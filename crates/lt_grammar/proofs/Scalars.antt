-- What is printed are characters that bytes encode.
use Rattle.std.proofs.Common.{◌≡◌, ℕ, ◌+◌, ◌<◌, ◌∙◌, ap, refl, true, false, List, [], ◌∷◌, ◌++◌, length, codes, arith}
use Rattle.std.specs.Prelude.{◌^◌}
use Rattle.std.specs.Fmt.{decimal}
use Rattle.std.specs.Str.{all_scalars}
use Rattle.std.specs.Str.Parse.{AllDigits}
use Rattle.std.proofs.lemmas.Fmt.{decimal_is_IsNumeral}
use lib.Utf8.{low_scalar}
use Rattle.std.proofs.lemmas.Str.Parse.{digit_from_value}
use Rattle.std.proofs.lemmas.Bool.{and_parts, and_from}
use Rattle.lt_definitions.specs.Types.{Chars, TypeTree, TypeTrees, type_variable, type_constructor, no_types, type_and, row}
use Rattle.lt_definitions.specs.Terms.{TermTree, free_variable, bound_name, constant, application, abstraction, has_loose}
use Rattle.lt_definitions.specs.Printing.{printed_type, printed_types, printed_constant, printed_later_arguments, printed_bound, printed_part, printed_term}
use Rattle.lt_texts.specs.Named.{IsTypeNamed, AreTypesNamed, IsNamed, IsReadable, binder_count}
use Rattle.lt_grammar.proofs.Shown.{IsBoundIn, printed_at, or_left, or_right, own_name, bound_body, none_loose}

abbrev pub AreScalars : List ℕ → Type 0
AreScalars cs = all_scalars cs ≡ true

pub scalars_append : (xs ys : List ℕ) → AreScalars xs → AreScalars ys → AreScalars (xs ++ ys)
scalars_append [] ys p q = q
scalars_append (x ∷ xs) ys p q = let both = and_parts _ (all_scalars xs) p in and_from _ (all_scalars (xs ++ ys)) both.0 (scalars_append xs ys both.1 q)

-- the digits of a number
digits-scalars : (ds : List ℕ) → AllDigits 10 ds → AreScalars ds
digits-scalars [] a = refl
digits-scalars (c ∷ cs) a =
    let range = digit_from_value c a.0 in
    and_from _ (all_scalars cs) (low_scalar c (omega (arith, range.1))) (digits-scalars cs a.1)

pub decimal_scalars : (n : ℕ) → n < 2 ^ 64 → AreScalars (decimal n)
decimal_scalars n h = digits-scalars (decimal n) (decimal_is_IsNumeral n h).0.1

-- ---- types

mutual
  pub type_scalars : (t : TypeTree) → IsTypeNamed t → AreScalars (printed_type t)
  type_scalars (type_variable a) n = n.1
  type_scalars (type_constructor c no_types) n = n.0.1
  type_scalars (type_constructor c (type_and t ts)) n =
      scalars_append c (codes " " ++ (printed_type t ++ (printed_types ts ++ codes ")"))) n.0.1
      (scalars_append (printed_type t) (printed_types ts ++ codes ")") (type_scalars t n.1.0)
      (scalars_append (printed_types ts) (codes ")") (types_scalars ts n.1.1) refl))

  types_scalars : (ts : TypeTrees) → AreTypesNamed ts → AreScalars (printed_types ts)
  types_scalars no_types n = refl
  types_scalars (type_and t ts) n = scalars_append (printed_type t) (printed_types ts) (type_scalars t n.0) (types_scalars ts n.1)

later-scalars : (ts : List TypeTree) → AreTypesNamed (row ts) → AreScalars (printed_later_arguments ts)
later-scalars [] n = refl
later-scalars (t ∷ ts) n = scalars_append (printed_type t) (printed_later_arguments ts) (type_scalars t n.0) (later-scalars ts n.1)

constant-scalars : (c : Chars) (ts : List TypeTree) → AreScalars c → AreTypesNamed (row ts) → AreScalars (printed_constant c ts)
constant-scalars c [] h n = h
constant-scalars c (t ∷ ts) h n =
    scalars_append c (codes "[" ++ (printed_type t ++ printed_later_arguments ts)) h
    (scalars_append (printed_type t) (printed_later_arguments ts) (type_scalars t n.0) (later-scalars ts n.1))

-- ---- terms

bound-scalars : (x : Chars) (bs : List Chars) → length bs < 2 ^ 64 → IsBoundIn (bound_name x) bs → AreScalars (printed_bound x bs)
bound-scalars x bs m i =
    let p = printed_at bs x (i x (own_name x)) in
    ap all_scalars p.2 ∙ decimal_scalars p.0 (omega (arith, m, p.1))

abbrev Printable : TermTree → List Chars → Type 0
Printable t bs = IsNamed t × IsBoundIn t bs × (length bs + binder_count t < 2 ^ 64)

mutual
  -- without its brackets
  head-scalars : (t : TermTree) (bs : List Chars) → Printable t bs → AreScalars (printed_part true bs t)
  head-scalars (free_variable x ty) bs g =
      scalars_append x (codes " " ++ (printed_type ty ++ codes ")")) g.0.0.1 (scalars_append (printed_type ty) (codes ")") (type_scalars ty g.0.1) refl)
  head-scalars (bound_name x) bs g = bound-scalars x bs (let m = g.2 in omega (arith, m)) g.1
  head-scalars (constant c ts) bs g = constant-scalars c ts g.0.0.1 g.0.1
  head-scalars (application f a) bs g =
      let m = g.2 in
      scalars_append (printed_part true bs f) (codes " " ++ printed_part false bs a)
      (head-scalars f bs (g.0.0, λ x u. g.1 x (or_left (has_loose x f) (has_loose x a) u), omega (arith, m)))
      (term-scalars a bs (g.0.1, λ x u. g.1 x (or_right (has_loose x f) (has_loose x a) u), omega (arith, m)))
  head-scalars (abstraction x ty b) bs g =
      let m = g.2 in
      scalars_append (decimal (length bs)) (codes " " ++ (printed_type ty ++ (codes " " ++ (printed_part false (x ∷ bs) b ++ codes ")")))) (decimal_scalars (length bs) (omega (arith, m)))
      (scalars_append (printed_type ty) (codes " " ++ (printed_part false (x ∷ bs) b ++ codes ")")) (type_scalars ty g.0.0)
      (scalars_append (printed_part false (x ∷ bs) b) (codes ")") (term-scalars b (x ∷ bs) (g.0.1, bound_body x ty b bs g.1, omega (arith, m))) refl))

  term-scalars : (t : TermTree) (bs : List Chars) → Printable t bs → AreScalars (printed_part false bs t)
  term-scalars (free_variable x ty) bs g =
      scalars_append x (codes " " ++ (printed_type ty ++ codes ")")) g.0.0.1 (scalars_append (printed_type ty) (codes ")") (type_scalars ty g.0.1) refl)
  term-scalars (bound_name x) bs g = bound-scalars x bs (let m = g.2 in omega (arith, m)) g.1
  term-scalars (constant c ts) bs g = constant-scalars c ts g.0.0.1 g.0.1
  term-scalars (application f a) bs g =
      let m = g.2 in
      scalars_append (printed_part true bs f ++ (codes " " ++ printed_part false bs a)) (codes ")")
      (scalars_append (printed_part true bs f) (codes " " ++ printed_part false bs a)
      (head-scalars f bs (g.0.0, λ x u. g.1 x (or_left (has_loose x f) (has_loose x a) u), omega (arith, m)))
      (term-scalars a bs (g.0.1, λ x u. g.1 x (or_right (has_loose x f) (has_loose x a) u), omega (arith, m)))) refl
  term-scalars (abstraction x ty b) bs g =
      let m = g.2 in
      scalars_append (decimal (length bs)) (codes " " ++ (printed_type ty ++ (codes " " ++ (printed_part false (x ∷ bs) b ++ codes ")")))) (decimal_scalars (length bs) (omega (arith, m)))
      (scalars_append (printed_type ty) (codes " " ++ (printed_part false (x ∷ bs) b ++ codes ")")) (type_scalars ty g.0.0)
      (scalars_append (printed_part false (x ∷ bs) b) (codes ")") (term-scalars b (x ∷ bs) (g.0.1, bound_body x ty b bs g.1, omega (arith, m))) refl))

pub term_scalars : (t : TermTree) → IsReadable t → AreScalars (printed_term [] t)
term_scalars t (l, n, m) = term-scalars t [] (n, none_loose t l, omega (arith, m))
