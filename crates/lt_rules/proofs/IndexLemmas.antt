-- Lists of rules under constants that change.
use Rattle.std.proofs.Common.{◌≡◌, ◌∙◌, inl, inr, suc, ◌-◌, List, [], ◌∷◌, ◌++◌, length, take, Bool, true, false, Some, None, Result, Ok, Err, OnErr, unwrap_or, if◌then◌else◌, refl, sym, ap, subst, arith, nat_eq, append-nil}
use Rattle.std.specs.Cmp.Lexicographic.{pointwise}
use Rattle.std.specs.HashMap.{HashMap}
use Rattle.std.specs.Map.{set_value}
use Rattle.std.proofs.lemmas.Bool.{cond-true, cond-false}
use Rattle.std.proofs.lemmas.Option.{none-some}
use Rattle.std.proofs.lemmas.List.Elements.{filter-append}
use Rattle.std.proofs.Math.Seq.{take-append_seam}
use Rattle.lt_definitions.specs.Types.{Chars, same_name, found}
use Rattle.lt_definitions.proofs.SameNames.{name-true, true-name, name-false, false-name, bool_cases}
use Rattle.lt_transport_definitions.specs.RuleForm.{TransferRule}
use Rattle.lt_rules.specs.RuleIndexes.{rules_of, listed_under, without_last, Changes, Agree, IsIndex}

-- ---- what is found

found-first : {A : Type 0} (x : Chars) (e : Chars × A) (es : List (Chars × A)) → same_name x e.0 ≡ true → found x (e ∷ es) ≡ Some e.1
found-first x e es h = cond-true (same_name x e.0) (Some e.1) (found x es) h

found-later : {A : Type 0} (x : Chars) (e : Chars × A) (es : List (Chars × A)) → same_name x e.0 ≡ false → found x (e ∷ es) ≡ found x es
found-later x e es h = cond-false (same_name x e.0) (Some e.1) (found x es) h

-- a name that is another one's isn't a third one's
differs : (x y z : Chars) → same_name x z ≡ true → same_name x y ≡ false → same_name y z ≡ false
differs x y z h n = false-name y z (λ e. name-false x y n (name-true x z h ∙ sym e))

-- what is found behind a write
set-same : {A : Type 0} (x : Chars) (es : List (Chars × A)) (v w : A) → found x es ≡ Some v → found x (set_value (pointwise nat_eq x) es w) ≡ Some w
set-same x [] v w h = absurd (none-some v h)
set-same {A} x (e ∷ es) v w h = elim (bool_cases (same_name x e.0)) [
  | inl t ↦ ap (found x) (cond-true (same_name x e.0) ((e.0, w) ∷ es) (e ∷ set_value (pointwise nat_eq x) es w) t) ∙ found-first x (e.0, w) es t
  | inr f ↦ ap (found x) (cond-false (same_name x e.0) ((e.0, w) ∷ es) (e ∷ set_value (pointwise nat_eq x) es w) f)
      ∙ found-later x e (set_value (pointwise nat_eq x) es w) f ∙ set-same x es v w (sym (found-later x e es f) ∙ h)
]

set-other : {A : Type 0} (x y : Chars) (es : List (Chars × A)) (w : A) → same_name x y ≡ false → found y (set_value (pointwise nat_eq x) es w) ≡ found y es
set-other x y [] w n = refl
set-other {A} x y (e ∷ es) w n = elim (bool_cases (same_name x e.0)) [
  | inl t ↦ ap (found y) (cond-true (same_name x e.0) ((e.0, w) ∷ es) (e ∷ set_value (pointwise nat_eq x) es w) t)
      ∙ found-later y (e.0, w) es (differs x y e.0 t n) ∙ sym (found-later y e es (differs x y e.0 t n))
  | inr f ↦ ap (found y) (cond-false (same_name x e.0) ((e.0, w) ∷ es) (e ∷ set_value (pointwise nat_eq x) es w) f)
      ∙ ap (λ o. if same_name y e.0 then Some e.1 else o) (set-other x y es w n)
]

-- what is found behind one thing more
last-same : {A : Type 0} (x : Chars) (es : List (Chars × A)) (w : A) → found x es ≡ None → found x (es ++ (x, w) ∷ []) ≡ Some w
last-same x [] w h = found-first x (x, w) [] (true-name x x refl)
last-same {A} x (e ∷ es) w h = elim (bool_cases (same_name x e.0)) [
  | inl t ↦ absurd (none-some e.1 (sym h ∙ found-first x e es t))
  | inr f ↦ found-later x e (es ++ (x, w) ∷ []) f ∙ last-same x es w (sym (found-later x e es f) ∙ h)
]

last-other : {A : Type 0} (x y : Chars) (es : List (Chars × A)) (w : A) → same_name x y ≡ false → found y (es ++ (x, w) ∷ []) ≡ found y es
last-other x y [] w n = found-later y (x, w) [] (false-name y x (λ e. name-false x y n (sym e)))
last-other x y (e ∷ es) w n = ap (λ o. if same_name y e.0 then Some e.1 else o) (last-other x y es w n)

-- ---- lists that change

-- the list under a name that is there is another one
changes : {A : Type 0} (x : Chars) (change : List A → List A) (old new : List (Chars × List A)) (kept written : List A)
    → listed_under x old ≡ kept → listed_under x new ≡ written → written ≡ change kept
    → ((y : Chars) → same_name x y ≡ false → found y new ≡ found y old) → Changes x change old new
changes {A} x change old new kept written k w e others y = elim (bool_cases (same_name x y)) [
  | inl t ↦ subst (λ (z : Chars). listed_under z new ≡ change (listed_under z old)) (name-true x y t) (w ∙ e ∙ ap change (sym k))
      ∙ sym (cond-true (same_name x y) (change (listed_under y old)) (listed_under y old) t)
  | inr f ↦ ap (λ o. unwrap_or o []) (others y f) ∙ sym (cond-false (same_name x y) (change (listed_under y old)) (listed_under y old) f)
]

pub changes-there : {A : Type 0} (x : Chars) (change : List A → List A) (old new : List (Chars × List A)) (kept written : List A)
    → found x old ≡ Some kept → new ≡ set_value (pointwise nat_eq x) old written → written ≡ change kept → Changes x change old new
changes-there x change old new kept written k e w =
    changes x change old new kept written (ap (λ o. unwrap_or o []) k) (ap (λ es. unwrap_or (found x es) []) e ∙ ap (λ o. unwrap_or o []) (set-same x old kept written k)) w
    (λ y n. ap (found y) e ∙ set-other x y old written n)

pub changes-new : {A : Type 0} (x : Chars) (change : List A → List A) (old new : List (Chars × List A)) (written : List A)
    → found x old ≡ None → new ≡ old ++ (x, written) ∷ [] → written ≡ change [] → Changes x change old new
changes-new x change old new written k e w =
    changes x change old new [] written (ap (λ o. unwrap_or o []) k) (ap (λ es. unwrap_or (found x es) []) e ∙ ap (λ o. unwrap_or o []) (last-same x old written k)) w
    (λ y n. ap (found y) e ∙ last-other x y old written n)

pub changes-none : {A : Type 0} (x : Chars) (change : List A → List A) (old new : List (Chars × List A))
    → found x old ≡ None → new ≡ old → [] ≡ change [] → Changes x change old new
changes-none x change old new k e w =
    changes x change old new [] [] (ap (λ o. unwrap_or o []) k) (ap (λ es. unwrap_or (found x es) []) e ∙ ap (λ o. unwrap_or o []) k) w (λ y n. ap (found y) e)

-- what is written is what was there
pub agree-there : {A : Type 0} (x : Chars) (old new : List (Chars × List A)) (kept written : List A)
    → found x old ≡ Some kept → new ≡ set_value (pointwise nat_eq x) old written → written ≡ kept → Agree old new
agree-there x old new kept written k e w y =
    changes-there x (λ xs. xs) old new kept written k e w y ∙ by (same_name x y)
  where
    by : (b : Bool) → (if b then listed_under y old else listed_under y old) ≡ listed_under y old
    by true = refl
    by false = refl

-- ---- the same beside the value that contracts see

pub same-entries : {K V S : Type 0} (m n : HashMap K V S) → m ≡ n → m.entries ≡ n.entries
same-entries {K} {V} {S} m n e = ap (λ (h : HashMap K V S). h.entries) e

pub on_error : {A E P : Type 0} (r : Result A E) → P → OnErr r P
on_error (Ok x) p = tt
on_error (Err e) p = p

pub written : {A : Type 0} (x : Chars) (change : List A → List A) (es old new : List (Chars × List A)) (kept later : List A)
    → es ≡ old → found x es ≡ Some kept → new ≡ set_value (pointwise nat_eq x) es later → later ≡ change kept → Changes x change old new
written {A} x change es old new kept later v k e w = subst (λ (ls : List (Chars × List A)). Changes x change ls new) v (changes-there x change es new kept later k e w)

pub unwritten : {A : Type 0} (x : Chars) (es old new : List (Chars × List A)) (kept later : List A)
    → es ≡ old → found x es ≡ Some kept → new ≡ set_value (pointwise nat_eq x) es later → later ≡ kept → Agree old new
unwritten {A} x es old new kept later v k e w = subst (λ (ls : List (Chars × List A)). Agree ls new) v (agree-there x es new kept later k e w)

pub none-written : {A : Type 0} (x : Chars) (change : List A → List A) (es old new : List (Chars × List A))
    → es ≡ old → found x es ≡ None → new ≡ es → [] ≡ change [] → Changes x change old new
none-written {A} x change es old new v k e w = subst (λ (ls : List (Chars × List A)). Changes x change ls new) v (changes-none x change es new k e w)

-- ---- the rules of each constant

one-longer : {A : Type 0} (xs : List A) (x : A) → length (xs ++ x ∷ []) ≡ suc (length xs)
one-longer [] x = refl
one-longer (y ∷ xs) x = ap suc (one-longer xs x)

pub last-dropped : {A : Type 0} (xs : List A) (x : A) → without_last (xs ++ x ∷ []) ≡ xs
last-dropped xs x =
    let n : length (xs ++ x ∷ []) - 1 ≡ length xs = omega (arith, one-longer xs x) in
    ap (λ k. take k (xs ++ x ∷ [])) n ∙ take-append_seam xs (x ∷ [])

-- the rules of a constant with one rule more
more-of : (rules : List TransferRule) (rule : TransferRule) (c : Chars) → same_name rule.constant c ≡ true → rules_of (rules ++ rule ∷ []) c ≡ rules_of rules c ++ rule ∷ []
more-of rules rule c t =
    filter-append (λ (r : TransferRule). same_name r.constant c) rules (rule ∷ []) ∙ ap (λ rs. rules_of rules c ++ rs) (cond-true (same_name rule.constant c) (rule ∷ []) [] t)

same-of : (rules : List TransferRule) (rule : TransferRule) (c : Chars) → same_name rule.constant c ≡ false → rules_of (rules ++ rule ∷ []) c ≡ rules_of rules c
same-of rules rule c f =
    filter-append (λ (r : TransferRule). same_name r.constant c) rules (rule ∷ []) ∙ ap (λ rs. rules_of rules c ++ rs) (cond-false (same_name rule.constant c) (rule ∷ []) [] f)
    ∙ append-nil (rules_of rules c)

pub index-more : (old new : List (Chars × List TransferRule)) (rules : List TransferRule) (rule : TransferRule)
    → IsIndex old rules → Changes rule.constant (λ rs. rs ++ rule ∷ []) old new → IsIndex new (rules ++ rule ∷ [])
index-more old new rules rule h change c = elim (bool_cases (same_name rule.constant c)) [
  | inl t ↦ change c ∙ cond-true (same_name rule.constant c) (listed_under c old ++ rule ∷ []) (listed_under c old) t ∙ ap (λ rs. rs ++ rule ∷ []) (h c) ∙ sym (more-of rules rule c t)
  | inr f ↦ change c ∙ cond-false (same_name rule.constant c) (listed_under c old ++ rule ∷ []) (listed_under c old) f ∙ h c ∙ sym (same-of rules rule c f)
]

pub index-fewer : (old new : List (Chars × List TransferRule)) (rules : List TransferRule) (rule : TransferRule)
    → IsIndex old (rules ++ rule ∷ []) → Changes rule.constant without_last old new → IsIndex new rules
index-fewer old new rules rule h change c = elim (bool_cases (same_name rule.constant c)) [
  | inl t ↦ change c ∙ cond-true (same_name rule.constant c) (without_last (listed_under c old)) (listed_under c old) t
      ∙ ap without_last (h c ∙ more-of rules rule c t) ∙ last-dropped (rules_of rules c) rule
  | inr f ↦ change c ∙ cond-false (same_name rule.constant c) (without_last (listed_under c old)) (listed_under c old) f ∙ h c ∙ same-of rules rule c f
]

pub index-same : (old new : List (Chars × List TransferRule)) (rules : List TransferRule) → IsIndex old rules → Agree old new → IsIndex new rules
index-same old new rules h a c = a c ∙ h c
