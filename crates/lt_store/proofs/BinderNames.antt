-- The names of binders.
use Rattle.std.proofs.Common.{◌≡◌, ℕ, zero, suc, ◌+◌, ◌-◌, ◌^◌, ◌<◌, ◌%◌, List, [], ◌∷◌, ◌++◌, true, false, inl, inr, refl, sym, ◌∙◌, ap, arith}
use Rattle.std.specs.Str.{chars}
use Rattle.std.specs.Str.Parse.{digits_value}
use Rattle.std.specs.Fmt.{decimal}
use Rattle.std.proofs.lemmas.Fmt.{decimal_is_IsNumeral}
use Rattle.std.proofs.lemmas.Bool.{cases_lt}
use Rattle.lt_definitions.specs.Characters.{is_name}
use Rattle.lt_types.proofs.Ascii.{number-chars, number-is-name}
use Rattle.lt_nameless.specs.Nameless.{nameless_bound, deeper, nameless_name}
use Rattle.lt_definitions.proofs.SameNames.{true-name, false-name}
use Rattle.lt_nameless.proofs.Alphas.{name-hit, name-miss}
use Rattle.lt_store.specs.NameTasks.{binder_name, binder_names}

pub binder-chars : (n : ℕ) → n < 2 ^ 64 → chars (binder_name n) ≡ binder_name n
binder-chars n h = number-chars 120 n (binder_name n) refl h refl

pub binder-word : (n : ℕ) → n < 2 ^ 64 → is_name (chars (binder_name n)) ≡ true
binder-word n h = number-is-name 120 n (binder_name n) refl h refl

-- binders at two depths have two names
binder_name-inj : (m n : ℕ) → m < 2 ^ 64 → n < 2 ^ 64 → binder_name m ≡ binder_name n → m ≡ n
binder_name-inj m n p q e =
    let d : decimal m ≡ decimal n = cc e in
    sym (decimal_is_IsNumeral m p).1 ∙ ap (digits_value 10) d ∙ (decimal_is_IsNumeral n q).1

-- a binder's name under binders stands for that binder
pub binder-found : (d j : ℕ) → j < d → d < 2 ^ 64 → nameless_name (binder_names d) (binder_name j) ≡ nameless_bound (d - 1 - j)
binder-found zero j h l = absurd (omega arith)
binder-found (suc d) j h l = elim (cases_lt j d) [
  | inl s ↦ let later : nameless_name (binder_names d) (binder_name j) ≡ nameless_bound (d - 1 - j) = binder-found d j s (omega arith) in
      let e : suc (d - 1 - j) ≡ suc d - 1 - j = omega arith in
      name-miss (binder_name d) (binder_names d) (binder_name j) (false-name (binder_name j) (binder_name d) (λ same. let k : j ≡ d = binder_name-inj j d (omega arith) (omega arith) same in absurd (omega arith)))
      ∙ ap deeper later ∙ ap nameless_bound e
  | inr g ↦ let k : j ≡ d = omega arith in
      let z : 0 ≡ suc d - 1 - j = omega arith in
      name-hit (binder_name d) (binder_names d) (binder_name j) (true-name (binder_name j) (binder_name d) (ap binder_name k)) ∙ ap nameless_bound z
]
