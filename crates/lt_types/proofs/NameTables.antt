-- Tables of names: what a look-up tells, and a new name is put last.
use Rattle.std.proofs.Common.{◌≡◌, List, [], ◌∷◌, ◌++◌, Bool, true, false, is_some, Option, Some, None, if◌then◌else◌, refl, sym, ◌∙◌, ap, nat_eq, Bor}
use Rattle.std.specs.Option.{option_copied}
use Rattle.std.specs.Cmp.Lexicographic.{pointwise}
use Rattle.indexmap.specs.IndexMap.{insert_entry}
use Rattle.lt_definitions.specs.Types.{Chars, same_name, found}
use Rattle.lt_definitions.proofs.SameNames.{true-false}

-- a new name is declared last
pub inserted-new : {A : Type 0} (x : Chars) (v : A) (es : List (Chars × A)) → is_some (found x es) ≡ false → insert_entry (pointwise nat_eq) es x v ≡ es ++ (x, v) ∷ []
inserted-new x v [] e = refl
inserted-new {A} x v (p ∷ ps) e = by (inserted-new x v ps) (same_name x p.0) refl
  where
    by : (is_some (found x ps) ≡ false → insert_entry (pointwise nat_eq) ps x v ≡ ps ++ (x, v) ∷ []) → (b : Bool) → same_name x p.0 ≡ b → insert_entry (pointwise nat_eq) (p ∷ ps) x v ≡ (p ∷ ps) ++ (x, v) ∷ []
    by later true h = absurd (true-false (sym (ap (λ (c : Bool). is_some (if c then Some p.1 else found x ps)) h) ∙ e))
    by later false h = ap (λ (c : Bool). if c then (p.0, v) ∷ ps else p ∷ insert_entry (pointwise nat_eq) ps x v) h
        ∙ ap (λ qs. p ∷ qs) (later (sym (ap (λ (c : Bool). is_some (if c then Some p.1 else found x ps)) h) ∙ e))

pub none-found : {A : Type 0} (o : Option A) → is_some o ≡ false → o ≡ None
none-found None e = refl
none-found (Some x) e = absurd (true-false e)

pub copied-some : {A : Type 0} (o : Option (Bor A)) → is_some (option_copied o) ≡ is_some o
copied-some None = refl
copied-some (Some b) = refl
