-- Laws that are registered, and those that are missing.
use Rattle.std.proofs.Common.{◌≡◌, ℕ, zero, suc, ◌+◌, List, [], ◌∷◌, ◌++◌, drop, add-one, slice_get, find, Bool, true, false, ◌||◌, is_some, if◌then◌else◌, Option, Some, None, refl, sym, ◌∙◌, ap, nat_eq}
use Rattle.std.specs.Option.{is_none}
use Rattle.std.specs.List.{list_any}
use Rattle.std.specs.Cmp.Lexicographic.{pointwise}
use Rattle.std.proofs.lemmas.Option.{same_Some, none-some}
use Rattle.std.proofs.lemmas.Bool.{cond-true, cond-false}
use Rattle.indexmap.specs.IndexMap.{insert_entry}
use Rattle.lt_definitions.specs.Types.{Chars, same_name, found}
use Rattle.lt_types.proofs.NameTables.{inserted-new}
use Rattle.lt_laws.specs.Registering.{Registered, with_law, first_missing}

-- the things from a place on
pub from-place : {A : Type 0} (xs : List A) (i : ℕ) (x : A) → slice_get xs i ≡ Some x → drop i xs ≡ x ∷ drop (i + 1) xs
from-place xs i x e = next xs i x e ∙ ap (λ n. x ∷ drop n xs) (sym (add-one i))
  where
    next : {A : Type 0} (xs : List A) (i : ℕ) (x : A) → slice_get xs i ≡ Some x → drop i xs ≡ x ∷ drop (suc i) xs
    next [] zero x e = absurd (none-some x e)
    next [] (suc i) x e = absurd (none-some x e)
    next (y ∷ ys) zero x e = ap (λ z. z ∷ ys) (same_Some y x e)
    next (y ∷ ys) (suc i) x e = next ys i x e

abbrev isn't : Registered → Chars → Bool
isn't laws w = is_none (found w laws)

missing-or-there : {A : Type 0} (o : Option A) (b : Bool) → is_some o ≡ b → is_none o ≡ (if b then false else true)
missing-or-there None b e = ap (λ c. if c then false else true) e
missing-or-there (Some x) b e = ap (λ c. if c then false else true) e

pub missing-here : (wanted : List Chars) (laws : Registered) (i : ℕ) (w : Chars) → slice_get wanted i ≡ Some w → is_some (found w laws) ≡ false
    → first_missing (drop i wanted) laws ≡ Some w
missing-here wanted laws i w e h =
    ap (λ ws. first_missing ws laws) (from-place wanted i w e)
    ∙ cond-true (isn't laws w) (Some w) (find (isn't laws) (drop (i + 1) wanted)) (missing-or-there (found w laws) false h)

pub missing-later : (wanted : List Chars) (laws : Registered) (i : ℕ) (w : Chars) → slice_get wanted i ≡ Some w → is_some (found w laws) ≡ true
    → first_missing (drop i wanted) laws ≡ first_missing (drop (i + 1) wanted) laws
missing-later wanted laws i w e h =
    ap (λ ws. first_missing ws laws) (from-place wanted i w e)
    ∙ cond-false (isn't laws w) (Some w) (find (isn't laws) (drop (i + 1) wanted)) (missing-or-there (found w laws) true h)

-- whether a law is there
there-found : (w : Chars) (laws : Registered) → list_any (λ (p : Chars × Chars). same_name w p.0) laws ≡ is_some (found w laws)
there-found w [] = refl
there-found w (p ∷ ps) = by (there-found w ps) (same_name w p.0) refl
  where
    by : list_any (λ (q : Chars × Chars). same_name w q.0) ps ≡ is_some (found w ps) → (b : Bool) → same_name w p.0 ≡ b
        → (same_name w p.0 || list_any (λ (q : Chars × Chars). same_name w q.0) ps) ≡ is_some (if same_name w p.0 then Some p.1 else found w ps)
    by rest true e = ap (λ c. c || list_any (λ (q : Chars × Chars). same_name w q.0) ps) e ∙ sym (ap (λ c. is_some (if c then Some p.1 else found w ps)) e)
    by rest false e = ap (λ c. c || list_any (λ (q : Chars × Chars). same_name w q.0) ps) e ∙ rest ∙ sym (ap (λ c. is_some (if c then Some p.1 else found w ps)) e)

-- a law that is there stays
pub law-there : (w l : Chars) (laws : Registered) → is_some (found w laws) ≡ true → laws ≡ with_law w l laws
law-there w l laws h = sym (cond-true (list_any (λ (p : Chars × Chars). same_name w p.0) laws) laws (laws ++ (w, l) ∷ []) (there-found w laws ∙ h))

-- one more law
pub law-added : (w l copy : Chars) (entries laws : Registered) → copy ≡ w → entries ≡ laws → is_some (found w laws) ≡ false
    → insert_entry (pointwise nat_eq) entries copy l ≡ with_law w l laws
law-added w l copy entries laws same e h =
    (λ i. insert_entry (pointwise nat_eq) (e i) (same i) l)
    ∙ inserted-new w l laws h
    ∙ sym (cond-false (list_any (λ (p : Chars × Chars). same_name w p.0) laws) laws (laws ++ (w, l) ∷ []) (there-found w laws ∙ h))
