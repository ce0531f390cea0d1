-- The map that is read off a pattern, and the one by which a rule fits.
use Rattle.std.proofs.Common.{◌≡◌, ◌∙◌, inl, inr, List, [], ◌∷◌, ◌++◌, map, true, false, Option, Some, None, MatchOption, is_some, if◌then◌else◌, unwrap_or, refl, sym, ap, subst, append-nil, append_assoc}
use Rattle.std.proofs.lemmas.Bool.{cond-true, cond-false}
use Rattle.std.proofs.lemmas.List.{map-append}
use Rattle.lt_definitions.specs.Types.{Chars, same_name, found, TypeTree, TypeTrees, type_variable, type_constructor, no_types, type_and, listed, row, same_types, TypeMap, type_instance, types_instance, type_names, types_names, Matches}
use Rattle.lt_definitions.proofs.SameNames.{name-true, true-name, true-false, bool_cases, both-true, true-both, listed-row, row-true, true-row}
use Rattle.lt_nameless.proofs.Matching.{match_is_one, instance_matches}
use Rattle.lt_types.specs.Matching.{firsts_behind, AreOccurrences}
use Rattle.lt_types.proofs.MapLemmas.{row-map}
use Rattle.lt_types.proofs.MatchingLemmas.{firsts-domain, firsts-match}
use Rattle.lt_transport_definitions.specs.Patterns.{type_match, types_match}
use Rattle.lt_transport_definitions.specs.RuleForm.{TransferRule}
use Rattle.lt_transport_definitions.specs.Candidates.{match_of, fits}
use Rattle.lt_rules.specs.Fitting.{IsFit}

-- ---- what is read off an instance

mutual
  names-read : (m : TypeMap) (p : TypeTree) → map (λ q. q.0) (type_match p (type_instance m p)) ≡ type_names p
  names-read m (type_variable a) = refl
  names-read m (type_constructor c ps) = all-names-read m ps

  all-names-read : (m : TypeMap) (ps : TypeTrees) → map (λ q. q.0) (types_match ps (types_instance m ps)) ≡ types_names ps
  all-names-read m no_types = refl
  all-names-read m (type_and p ps) =
      map-append (λ q. q.0) (type_match p (type_instance m p)) (types_match ps (types_instance m ps)) ∙ (λ i. names-read m p i ++ all-names-read m ps i)

mutual
  types-read : (m : TypeMap) (p : TypeTree) → map (λ q. q.1) (type_match p (type_instance m p)) ≡ map (λ q. type_instance m (type_variable q.0)) (type_match p (type_instance m p))
  types-read m (type_variable a) = refl
  types-read m (type_constructor c ps) = all-types-read m ps

  all-types-read : (m : TypeMap) (ps : TypeTrees) → map (λ q. q.1) (types_match ps (types_instance m ps)) ≡ map (λ q. type_instance m (type_variable q.0)) (types_match ps (types_instance m ps))
  all-types-read m no_types = refl
  all-types-read m (type_and p ps) =
      map-append (λ q. q.1) (type_match p (type_instance m p)) (types_match ps (types_instance m ps)) ∙ (λ i. types-read m p i ++ all-types-read m ps i)
      ∙ sym (map-append (λ q. type_instance m (type_variable q.0)) (type_match p (type_instance m p)) (types_match ps (types_instance m ps)))

occurs : (p t : TypeTree) (m : TypeMap) → type_instance m p ≡ t → AreOccurrences p t (type_match p t)
occurs p t m e = record {
  names = subst (λ (u : TypeTree). map (λ q. q.0) (type_match p u) ≡ type_names p) e (names-read m p);
  types = λ n h. subst (λ (u : TypeTree). map (λ q. q.1) (type_match p u) ≡ map (λ q. type_instance n (type_variable q.0)) (type_match p u)) h (types-read n p);
}

-- ---- the first pair of each name

found-there : (a : Chars) (es ps : TypeMap) → is_some (found a es) ≡ true → found a (es ++ ps) ≡ found a es
found-there a [] ps h = absurd (true-false (sym h))
found-there a (e ∷ es) ps h = elim (bool_cases (same_name a e.0)) [
  | inl t ↦ cond-true (same_name a e.0) (Some e.1) (found a (es ++ ps)) t ∙ sym (cond-true (same_name a e.0) (Some e.1) (found a es) t)
  | inr f ↦ cond-false (same_name a e.0) (Some e.1) (found a (es ++ ps)) f
      ∙ found-there a es ps (sym (ap is_some (cond-false (same_name a e.0) (Some e.1) (found a es) f)) ∙ h) ∙ sym (cond-false (same_name a e.0) (Some e.1) (found a es) f)
]

found-past : (a : Chars) (es : TypeMap) (p : Chars × TypeTree) (ps : TypeMap) → same_name a p.0 ≡ false → found a (es ++ p ∷ ps) ≡ found a (es ++ ps)
found-past a [] p ps n = cond-false (same_name a p.0) (Some p.1) (found a ps) n
found-past a (e ∷ es) p ps n = ap (λ o. if same_name a e.0 then Some e.1 else o) (found-past a es p ps n)

-- a pair whose name has one already changes nothing
found-again : (a : Chars) (es : TypeMap) (p : Chars × TypeTree) (ps : TypeMap) → is_some (found p.0 es) ≡ true → found a (es ++ ps) ≡ found a (es ++ p ∷ ps)
found-again a es p ps h = elim (bool_cases (same_name a p.0)) [
  | inl t ↦ let here : is_some (found a es) ≡ true = ap (λ (x : Chars). is_some (found x es)) (name-true a p.0 t) ∙ h in found-there a es ps here ∙ sym (found-there a es (p ∷ ps) here)
  | inr f ↦ sym (found-past a es p ps f)
]

found-firsts : (a : Chars) (done ps : TypeMap) → found a (firsts_behind done ps) ≡ found a (done ++ ps)
found-firsts a done [] = ap (found a) (sym (append-nil done))
found-firsts a done (p ∷ ps) = elim (bool_cases (is_some (found p.0 done))) [
  | inl t ↦ ap (λ (ds : TypeMap). found a (firsts_behind ds ps)) (cond-true (is_some (found p.0 done)) done (done ++ p ∷ []) t) ∙ found-firsts a done ps ∙ found-again a done p ps t
  | inr f ↦ ap (λ (ds : TypeMap). found a (firsts_behind ds ps)) (cond-false (is_some (found p.0 done)) done (done ++ p ∷ []) f) ∙ found-firsts a (done ++ p ∷ []) ps
      ∙ ap (found a) (append_assoc done (p ∷ []) ps)
]

-- maps that tell the same of each name give the same instances
mutual
  same-instance : (m n : TypeMap) → ((a : Chars) → found a m ≡ found a n) → (t : TypeTree) → type_instance m t ≡ type_instance n t
  same-instance m n h (type_variable a) = ap (λ o. unwrap_or o (type_variable a)) (h a)
  same-instance m n h (type_constructor c ts) = ap (type_constructor c) (same-instances m n h ts)

  same-instances : (m n : TypeMap) → ((a : Chars) → found a m ≡ found a n) → (ts : TypeTrees) → types_instance m ts ≡ types_instance n ts
  same-instances m n h no_types = refl
  same-instances m n h (type_and t ts) = λ i. type_and (same-instance m n h t i) (same-instances m n h ts i)

all-same : (m n : TypeMap) → ((a : Chars) → found a m ≡ found a n) → (ts : List TypeTree) → map (type_instance m) ts ≡ map (type_instance n) ts
all-same m n h [] = refl
all-same m n h (t ∷ ts) = λ i. same-instance m n h t i ∷ all-same m n h ts i

-- ---- a rule that fits

abbrev arguments : TypeTree → List TypeTree
arguments (type_variable a) = []
arguments (type_constructor c ts) = listed ts

-- the type arguments under a type constructor
listed-instance : (m : TypeMap) (c : Chars) (ps ts : List TypeTree) → type_instance m (type_constructor c (row ps)) ≡ type_constructor c (row ts) → map (type_instance m) ps ≡ ts
listed-instance m c ps ts e = sym (listed-row (map (type_instance m) ps)) ∙ ap listed (row-map m ps) ∙ ap arguments e ∙ listed-row ts

row-instance : (m : TypeMap) (c : Chars) (ps ts : List TypeTree) → map (type_instance m) ps ≡ ts → type_instance m (type_constructor c (row ps)) ≡ type_constructor c (row ts)
row-instance m c ps ts e = ap (type_constructor c) (sym (row-map m ps) ∙ ap row e)

pub fit-found : (rule : TransferRule) (ts : List TypeTree) (m : TypeMap)
    → Matches (type_constructor rule.constant (row rule.pattern)) m (type_constructor rule.constant (row ts)) → IsFit rule ts m
fit-found rule ts m h =
    let p : TypeTree = type_constructor rule.constant (row rule.pattern) in
    let t : TypeTree = type_constructor rule.constant (row ts) in
    let read = occurs p t m h.instance in
    let first : Matches p (firsts_behind [] (match_of rule ts)) t =
    record { instance = firsts-match p t (match_of rule ts) m read h.instance; domain = firsts-domain p t (match_of rule ts) read } in
    let told : (a : Chars) → found a m ≡ found a (match_of rule ts) =
    λ a. ap (found a) (match_is_one p m (firsts_behind [] (match_of rule ts)) t h first) ∙ found-firsts a [] (match_of rule ts) in
    let made : map (type_instance m) rule.pattern ≡ ts = listed-instance m rule.constant rule.pattern ts h.instance in
    record {
      fitting = true-both (same_name rule.constant rule.constant) (same_types (row (map (type_instance (match_of rule ts)) rule.pattern)) (row ts))
          (true-name rule.constant rule.constant refl)
          (true-row (map (type_instance (match_of rule ts)) rule.pattern) ts (sym (all-same m (match_of rule ts) told rule.pattern) ∙ made));
      instance = made;
      domain = h.domain;
      values = told;
    }

pub no-fit : (rule : TransferRule) (ts : List TypeTree)
    → ((m : TypeMap) → Matches (type_constructor rule.constant (row rule.pattern)) m (type_constructor rule.constant (row ts)) → ⊥) → fits rule.constant ts rule ≡ false
no-fit rule ts h = elim (bool_cases (fits rule.constant ts rule)) [
  | inl t ↦
      let same = both-true (same_name rule.constant rule.constant) (same_types (row (map (type_instance (match_of rule ts)) rule.pattern)) (row ts)) t in
      let whole = row-instance (match_of rule ts) rule.constant rule.pattern ts (row-true (map (type_instance (match_of rule ts)) rule.pattern) ts same.1) in
      let some = instance_matches (type_constructor rule.constant (row rule.pattern)) (match_of rule ts) in
      absurd (h some.0 (subst (λ (u : TypeTree). Matches (type_constructor rule.constant (row rule.pattern)) some.0 u) whole some.1))
  | inr f ↦ f
]

-- what matching tells
pub fit-told : (rule : TransferRule) (ts : List TypeTree) (p t : TypeTree) (o : Option TypeMap)
    → p ≡ type_constructor rule.constant (row rule.pattern) → t ≡ type_constructor rule.constant (row ts)
    → MatchOption o ((m : TypeMap) → Matches p m t → ⊥) (λ m. Matches p m t) → MatchOption o (fits rule.constant ts rule ≡ false) (IsFit rule ts)
fit-told rule ts p t None e f h =
    no-fit rule ts (λ m k. h m (subst (λ (u : TypeTree). Matches u m t) (sym e) (subst (λ (u : TypeTree). Matches (type_constructor rule.constant (row rule.pattern)) m u) (sym f) k)))
fit-told rule ts p t (Some m) e f h =
    fit-found rule ts m (subst (λ (u : TypeTree). Matches (type_constructor rule.constant (row rule.pattern)) m u) f (subst (λ (u : TypeTree). Matches u m t) e h))
