-- Runs of characters, and characters that begin no name.
use Rattle.std.proofs.Common.{◌≡◌, ℕ, ◌<◌, ◌≤◌, ◌∙◌, ap, refl, Bool, true, false, ◌||◌, List, [], ◌∷◌, ◌++◌, length, arith}
use Rattle.std.specs.Prelude.{if◌then◌else◌, ◌==◌}
use Rattle.std.proofs.lemmas.Bool.{and_parts, and_from, or_from, leb-true, lt-leb, ne_eqb, and_left}
use Rattle.std.specs.Char.{is_ascii_alphabetic, is_ascii_digit}
use Rattle.std.specs.List.{list_all}
use Rattle.unicode_ident.proofs.IdentLemmas.{is_xid_start-ascii}
use Rattle.lt_definitions.specs.Characters.{starts_name, run_of, behind_run}

-- a run and what is behind it are the whole
pub run_whole : (p : ℕ → Bool) (cs : List ℕ) → cs ≡ run_of p cs ++ behind_run p cs
run_whole p [] = refl
run_whole p (c ∷ cs) = by (p c) (run_whole p cs)
  where
    by : (y : Bool) → cs ≡ run_of p cs ++ behind_run p cs → (c ∷ cs) ≡ (if y then c ∷ run_of p cs else []) ++ (if y then behind_run p cs else (c ∷ cs))
    by true h = ap (λ (l : List ℕ). c ∷ l) h
    by false h = refl

pub run_passes : (p : ℕ → Bool) (cs : List ℕ) → list_all p (run_of p cs) ≡ true
run_passes p [] = refl
run_passes p (c ∷ cs) = by (p c) refl (run_passes p cs)
  where
    by : (y : Bool) → p c ≡ y → list_all p (run_of p cs) ≡ true → list_all p (if y then c ∷ run_of p cs else []) ≡ true
    by true e h = and_from _ _ e h
    by false e h = refl

-- no front that passes is longer
pub run_longest : (p : ℕ → Bool) (cs rest : List ℕ) → list_all p cs ≡ true → length cs ≤ length (run_of p (cs ++ rest))
run_longest p [] rest h = omega arith
run_longest p (c ∷ cs) rest h = by (p c) (and_parts _ _ h).0 (run_longest p cs rest (and_parts _ _ h).1)
  where
    by : (y : Bool) → y ≡ true → length cs ≤ length (run_of p (cs ++ rest)) → length (c ∷ cs) ≤ length (if y then c ∷ run_of p (cs ++ rest) else [])
    by true e k = omega arith
    by false e k = absurd (cc e)

-- what passes and is followed by something that doesn't is the run
pub run_stopped : (p : ℕ → Bool) (cs : List ℕ) → (c : ℕ) (rest : List ℕ) → list_all p cs ≡ true → p c ≡ false
    → (run_of p (cs ++ c ∷ rest) ≡ cs) × (behind_run p (cs ++ c ∷ rest) ≡ c ∷ rest)
run_stopped p [] c rest h e = (ap (λ (y : Bool). if y then c ∷ run_of p rest else []) e, ap (λ (y : Bool). if y then behind_run p rest else (c ∷ rest)) e)
run_stopped p (d ∷ cs) c rest h e =
    let both = and_parts _ _ h in
    let later = run_stopped p cs c rest both.1 e in (
      ap (λ (y : Bool). if y then d ∷ run_of p (cs ++ c ∷ rest) else []) both.0 ∙ ap (λ (l : List ℕ). d ∷ l) later.0,
      ap (λ (y : Bool). if y then behind_run p (cs ++ c ∷ rest) else (d ∷ (cs ++ c ∷ rest))) both.0 ∙ later.1,
    )

pub run_ended : (p : ℕ → Bool) (cs : List ℕ) → list_all p cs ≡ true → (run_of p (cs ++ []) ≡ cs) × (behind_run p (cs ++ []) ≡ [])
run_ended p [] h = (refl, refl)
run_ended p (d ∷ cs) h =
    let both = and_parts _ _ h in
    let later = run_ended p cs both.1 in (
      ap (λ (y : Bool). if y then d ∷ run_of p (cs ++ []) else []) both.0 ∙ ap (λ (l : List ℕ). d ∷ l) later.0,
      ap (λ (y : Bool). if y then behind_run p (cs ++ []) else (d ∷ (cs ++ []))) both.0 ∙ later.1,
    )

-- which ASCII characters begin a name
pub starts_name-ascii : (c : ℕ) → c < 128 → starts_name c ≡ (is_ascii_alphabetic c || (c == 95))
starts_name-ascii c h = ap (λ (y : Bool). y || (c == 95)) (is_xid_start-ascii c h)

digit_bounds : (c : ℕ) → is_ascii_digit c ≡ true → (48 ≤ c) × (c ≤ 57)
digit_bounds c h = let both = and_parts _ _ h in (leb-true _ _ both.0, leb-true _ _ both.1)

-- a digit begins no name
pub digit_starts_none : (c : ℕ) → is_ascii_digit c ≡ true → starts_name c ≡ false
digit_starts_none c h =
    let b = digit_bounds c h in
    starts_name-ascii c (omega (arith, b.0, b.1))
    ∙ or_from _ _ (or_from _ _ (and_left _ _ (lt-leb 65 c (omega (arith, b.1)))) (and_left _ _ (lt-leb 97 c (omega (arith, b.1)))))
    (ne_eqb c 95 (λ e. omega (arith, b.1, e)))
