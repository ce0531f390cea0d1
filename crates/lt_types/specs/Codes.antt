-- How trees of types are stored as values that contracts see.
use Rattle.std.specs.Prelude.{◌≡◌, refl}
use Rattle.std.proofs.Common.{ap, subst, sym}
use Rattle.std.specs.Coded.{Coded, coded_list, coded_ℕ}
use base.Stored.{Gv, gnil, gnum, gcons}
use Rattle.lt_definitions.specs.Types.{Chars, TypeTree, TypeTrees, type_variable, type_constructor, no_types, type_and}

abbrev pub coded_name : Coded Chars
coded_name = coded_list coded_ℕ

-- a variable is told from a constructor by its first part, the end of a row from a row by being no pair
abbrev mutual
  pub type_code : TypeTree → Gv
  type_code (type_variable x) = gcons gnil (coded_name.code x)
  type_code (type_constructor c ts) = gcons (gnum 0) (gcons (coded_name.code c) (row_code ts))

  pub row_code : TypeTrees → Gv
  row_code no_types = gnil
  row_code (type_and t ts) = gcons (type_code t) (row_code ts)

abbrev pub left : Gv → Gv
left gnil = gnil
left (gnum n) = gnil
left (gcons a b) = a

abbrev pub right : Gv → Gv
right gnil = gnil
right (gnum n) = gnil
right (gcons a b) = b

abbrev IsNumber : Gv → Type 0
IsNumber gnil = ⊥
IsNumber (gnum n) = Unit {0}
IsNumber (gcons a b) = ⊥

abbrev IsPair : Gv → Type 0
IsPair gnil = ⊥
IsPair (gnum n) = ⊥
IsPair (gcons a b) = Unit {0}

mutual
  pub type_code-inj : (s t : TypeTree) → type_code s ≡ type_code t → s ≡ t
  type_code-inj (type_variable x) (type_variable y) p = ap type_variable (coded_name.inj x y (ap right p))
  type_code-inj (type_constructor c ts) (type_constructor d us) p =
      λ i. type_constructor (coded_name.inj c d (ap (λ g. left (right g)) p) i) (row_code-inj ts us (ap (λ g. right (right g)) p) i)
  type_code-inj (type_variable x) (type_constructor d us) p = absurd (subst (λ g. IsNumber (left g)) (sym p) tt)
  type_code-inj (type_constructor c ts) (type_variable y) p = absurd (subst (λ g. IsNumber (left g)) p tt)

  pub row_code-inj : (ts us : TypeTrees) → row_code ts ≡ row_code us → ts ≡ us
  row_code-inj no_types no_types p = refl
  row_code-inj (type_and t ts) (type_and u us) p = λ i. type_and (type_code-inj t u (ap left p) i) (row_code-inj ts us (ap right p) i)
  row_code-inj no_types (type_and u us) p = absurd (subst IsPair (sym p) tt)
  row_code-inj (type_and t ts) no_types p = absurd (subst IsPair p tt)

abbrev pub coded_type : Coded TypeTree
coded_type = record { code = type_code; inj = type_code-inj }
