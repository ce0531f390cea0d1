-- An instance of an instance at as many types as names.
use Rattle.std.proofs.Common.{◌≡◌, List, [], ◌∷◌, length, Bool, ◌||◌, ◌⊎◌, Some, true, false, unwrap_or, map, refl, sym, ap, ◌∙◌, inl, inr, arith}
use Rattle.std.specs.List.{zip}
use Rattle.lt_definitions.specs.Types.{Chars, same_name, has_name, found, TypeTree, type_variable, type_constructor, TypeTrees, no_types, type_and, TypeMap, type_instance, types_instance, type_names, types_names}
use Rattle.lt_definitions.proofs.SameNames.{bool_cases, true-false, true-name}
use Rattle.lt_nameless.proofs.BindingLemmas.{if-true, if-false}
use Rattle.lt_nameless.proofs.Substitutions.{append-left, append-right}

either : (a b : Bool) → (a || b) ≡ true → (a ≡ true) ⊎ (b ≡ true)
either true b e = inl refl
either false b e = inr e

or-left : (a b : Bool) → a ≡ true → (a || b) ≡ true
or-left a b e = ap (λ c. c || b) e

abbrev pub Covers : List Chars → List Chars → Type 0
Covers vs names = (a : Chars) → has_name a names ≡ true → has_name a vs ≡ true

-- an instance of an instance at as many types as names

pub twice-variable : (m : TypeMap) (vs : List Chars) (ts : List TypeTree) (a : Chars) → length ts ≡ length vs → has_name a vs ≡ true
    → unwrap_or (found a (zip vs (map (type_instance m) ts))) (type_variable a) ≡ type_instance m (unwrap_or (found a (zip vs ts)) (type_variable a))
twice-variable m [] ts a l e = absurd (true-false (sym e))
twice-variable m (v ∷ vs) [] a l e = absurd (omega arith)
twice-variable m (v ∷ vs) (t ∷ ts) a l e = elim (bool_cases (same_name a v)) [
  | inl h ↦ ap (λ o. unwrap_or o (type_variable a)) (if-true (same_name a v) (Some (type_instance m t)) (found a (zip vs (map (type_instance m) ts))) h)
      ∙ sym (ap (λ o. type_instance m (unwrap_or o (type_variable a))) (if-true (same_name a v) (Some t) (found a (zip vs ts)) h))
  | inr h ↦ ap (λ o. unwrap_or o (type_variable a)) (if-false (same_name a v) (Some (type_instance m t)) (found a (zip vs (map (type_instance m) ts))) h)
      ∙ twice-variable m vs ts a (omega arith) (elim (either (same_name a v) (has_name a vs) e) [ inl k ↦ absurd (true-false (sym k ∙ h)) | inr k ↦ k ])
      ∙ sym (ap (λ o. type_instance m (unwrap_or o (type_variable a))) (if-false (same_name a v) (Some t) (found a (zip vs ts)) h))
]

mutual
  pub twice : (m : TypeMap) (vs : List Chars) (ts : List TypeTree) (t : TypeTree) → length ts ≡ length vs → Covers vs (type_names t)
      → type_instance (zip vs (map (type_instance m) ts)) t ≡ type_instance m (type_instance (zip vs ts) t)
  twice m vs ts (type_variable a) l c = twice-variable m vs ts a l (c a (or-left (same_name a a) false (true-name a a refl)))
  twice m vs ts (type_constructor d us) l c = ap (type_constructor d) (all-twice m vs ts us l c)

  pub all-twice : (m : TypeMap) (vs : List Chars) (ts : List TypeTree) (us : TypeTrees) → length ts ≡ length vs → Covers vs (types_names us)
      → types_instance (zip vs (map (type_instance m) ts)) us ≡ types_instance m (types_instance (zip vs ts) us)
  all-twice m vs ts no_types l c = refl
  all-twice m vs ts (type_and u us) l c = λ i. type_and
      (twice m vs ts u l (λ a e. c a (append-left a (type_names u) (types_names us) e)) i)
      (all-twice m vs ts us l (λ a e. c a (append-right a (type_names u) (types_names us) e)) i)
