-- A type is an instance of a pattern by one map at most, and by one where it is an instance at all.
use Rattle.std.proofs.Common.{◌≡◌, ◌⊎◌, inl, inr, List, [], ◌∷◌, ◌++◌, true, false, not, if◌then◌else◌, map, unwrap_or, Some, refl, sym, ◌∙◌, ap}
use Rattle.std.proofs.lemmas.Bool.{or_left, or_right, not_from_false, or_cases, not-true}
use Rattle.lt_definitions.specs.Types.{Chars, same_name, has_name, names_joined, are_distinct, found, TypeTree, TypeTrees, type_variable, type_constructor, no_types, type_and, TypeMap, type_instance, types_instance, type_names, types_names, type_variables, Matches}
use Rattle.lt_definitions.proofs.SameNames.{true-false, bool_cases, both-true, true-both, name-true, true-name, name-false, false-name}
use Rattle.lt_nameless.proofs.BindingLemmas.{if-true, if-false}
use Rattle.lt_nameless.proofs.Substitutions.{append-left, append-right, joined-has}

append-either : (a : Chars) (xs ys : List Chars) → has_name a (xs ++ ys) ≡ true → (has_name a xs ≡ true) ⊎ (has_name a ys ≡ true)
append-either a [] ys e = inr e
append-either a (x ∷ xs) ys e = elim (or_cases (same_name a x) (has_name a (xs ++ ys)) e) [
  | inl h ↦ inl (or_left (same_name a x) (has_name a xs) h)
  | inr h ↦ elim (append-either a xs ys h) [ inl k ↦ inl (or_right (same_name a x) (has_name a xs) k) | inr k ↦ inr k ]
]

joined-either : (a : Chars) (xs ys : List Chars) → has_name a (names_joined xs ys) ≡ true → (has_name a xs ≡ true) ⊎ (has_name a ys ≡ true)
joined-either a xs [] e = inl e
joined-either a xs (y ∷ ys) e = elim (joined-either a (if has_name y xs then xs else xs ++ y ∷ []) ys e) [
  | inl h ↦ elim (bool_cases (has_name y xs)) [
    | inl k ↦ inl (sym (ap (has_name a) (if-true (has_name y xs) xs (xs ++ y ∷ []) k)) ∙ h)
    | inr k ↦ elim (append-either a xs (y ∷ []) (sym (ap (has_name a) (if-false (has_name y xs) xs (xs ++ y ∷ []) k)) ∙ h)) [
      | inl l ↦ inl l
      | inr l ↦ inr (elim (or_cases (same_name a y) false l) [
        | inl m ↦ or_left (same_name a y) (has_name a ys) m
        | inr m ↦ absurd (true-false (sym m))
      ])
    ]
  ]
  | inr h ↦ inr (or_right (same_name a y) (has_name a ys) h)
]

snoc-absent : (a y : Chars) (xs : List Chars) → has_name a xs ≡ false → same_name a y ≡ false → has_name a (xs ++ y ∷ []) ≡ false
snoc-absent a y xs e f = elim (bool_cases (has_name a (xs ++ y ∷ []))) [
  | inl h ↦ elim (append-either a xs (y ∷ []) h) [
    | inl k ↦ absurd (true-false (sym k ∙ e))
    | inr k ↦ elim (or_cases (same_name a y) false k) [ inl m ↦ absurd (true-false (sym m ∙ f)) | inr m ↦ absurd (true-false (sym m)) ]
  ]
  | inr h ↦ h
]

snoc-distinct : (xs : List Chars) (y : Chars) → are_distinct xs ≡ true → has_name y xs ≡ false → are_distinct (xs ++ y ∷ []) ≡ true
snoc-distinct [] y d e = refl
snoc-distinct (x ∷ xs) y d e =
    let h = both-true (not (has_name x xs)) (are_distinct xs) d in
    let apart : same_name y x ≡ false = elim (bool_cases (same_name y x)) [ inl k ↦ absurd (true-false (sym (or_left (same_name y x) (has_name y xs) k) ∙ e)) | inr k ↦ k ] in
    let later : has_name y xs ≡ false = elim (bool_cases (has_name y xs)) [ inl k ↦ absurd (true-false (sym (or_right (same_name y x) (has_name y xs) k) ∙ e)) | inr k ↦ k ] in
    true-both (not (has_name x (xs ++ y ∷ []))) (are_distinct (xs ++ y ∷ []))
    (not_from_false (has_name x (xs ++ y ∷ [])) (snoc-absent x y xs (not-true (has_name x xs) h.0) (false-name x y (λ q. name-false y x apart (sym q)))))
    (snoc-distinct xs y h.1 later)

joined-distinct : (xs ys : List Chars) → are_distinct xs ≡ true → are_distinct (names_joined xs ys) ≡ true
joined-distinct xs [] d = d
joined-distinct xs (y ∷ ys) d = joined-distinct (if has_name y xs then xs else xs ++ y ∷ []) ys (elim (bool_cases (has_name y xs)) [
  | inl k ↦ ap are_distinct (if-true (has_name y xs) xs (xs ++ y ∷ []) k) ∙ d
  | inr k ↦ ap are_distinct (if-false (has_name y xs) xs (xs ++ y ∷ []) k) ∙ snoc-distinct xs y d k
])

-- what a map puts for a variable
abbrev put : TypeMap → Chars → TypeTree
put m a = unwrap_or (found a m) (type_variable a)

mutual
  agree : (m k : TypeMap) (t : TypeTree) → type_instance m t ≡ type_instance k t → (a : Chars) → has_name a (type_names t) ≡ true → put m a ≡ put k a
  agree m k (type_variable b) e a h = elim (or_cases (same_name a b) false h) [
    | inl s ↦ let same : a ≡ b = name-true a b s in ap (put m) same ∙ e ∙ ap (put k) (sym same)
    | inr s ↦ absurd (true-false (sym s))
  ]
  agree m k (type_constructor c ts) e a h = let f : types_instance m ts ≡ types_instance k ts = cc e in agrees m k ts f a h

  agrees : (m k : TypeMap) (ts : TypeTrees) → types_instance m ts ≡ types_instance k ts → (a : Chars) → has_name a (types_names ts) ≡ true → put m a ≡ put k a
  agrees m k no_types e a h = absurd (true-false (sym h))
  agrees m k (type_and t ts) e a h =
      let f : type_instance m t ≡ type_instance k t = cc e in
      let g : types_instance m ts ≡ types_instance k ts = cc e in
      elim (append-either a (type_names t) (types_names ts) h) [ inl s ↦ agree m k t f a s | inr s ↦ agrees m k ts g a s ]

abbrev keys : TypeMap → List Chars
keys m = map (λ p. p.0) m

put-hit : (p : Chars × TypeTree) (m : TypeMap) (a : Chars) → same_name a p.0 ≡ true → put (p ∷ m) a ≡ p.1
put-hit p m a e = ap (λ o. unwrap_or o (type_variable a)) (if-true (same_name a p.0) (Some p.1) (found a m) e)

put-miss : (p : Chars × TypeTree) (m : TypeMap) (a : Chars) → same_name a p.0 ≡ false → put (p ∷ m) a ≡ put m a
put-miss p m a e = ap (λ o. unwrap_or o (type_variable a)) (if-false (same_name a p.0) (Some p.1) (found a m) e)

same_map : (m k : TypeMap) → keys m ≡ keys k → are_distinct (keys m) ≡ true → ((a : Chars) → has_name a (keys m) ≡ true → put m a ≡ put k a) → m ≡ k
same_map [] [] e d h = refl
same_map [] (q ∷ k) e d h = absurd (cc e)
same_map (p ∷ m) [] e d h = absurd (cc e)
same_map (p ∷ m) (q ∷ k) e d h =
    let first : p.0 ≡ q.0 = cc e in
    let later : keys m ≡ keys k = cc e in
    let c = both-true (not (has_name p.0 (keys m))) (are_distinct (keys m)) d in
    let mine : same_name p.0 p.0 ≡ true = true-name p.0 p.0 refl in
    let value : p.1 ≡ q.1 = sym (put-hit p m p.0 mine) ∙ h p.0 (or_left (same_name p.0 p.0) (has_name p.0 (keys m)) mine) ∙ put-hit q k p.0 (true-name p.0 q.0 first) in
    let rest : m ≡ k = same_map m k later c.1 (λ a s.
    let apart : same_name a p.0 ≡ false = elim (bool_cases (same_name a p.0)) [
      | inl t ↦ absurd (true-false (sym (ap (λ (b : Chars). has_name b (keys m)) (sym (name-true a p.0 t)) ∙ s) ∙ not-true (has_name p.0 (keys m)) c.0))
      | inr t ↦ t
    ] in
    sym (put-miss p m a apart) ∙ h a (or_right (same_name a p.0) (has_name a (keys m)) s)
    ∙ put-miss q k a (false-name a q.0 (λ r. name-false a p.0 apart (r ∙ sym first)))) in
    λ i. (first i, value i) ∷ rest i

pub match_is_one : (pattern : TypeTree) (m k : TypeMap) (ty : TypeTree) → Matches pattern m ty → Matches pattern k ty → m ≡ k
match_is_one pattern m k ty h g =
    same_map m k (h.domain ∙ sym g.domain) (ap are_distinct h.domain ∙ joined-distinct [] (type_names pattern) refl)
    (λ a s. agree m k pattern (h.instance ∙ sym g.instance) a
    (elim (joined-either a [] (type_names pattern) (ap (has_name a) (sym h.domain) ∙ s)) [ inl t ↦ absurd (true-false (sym t)) | inr t ↦ t ]))

-- the map of an instance, on the pattern's variables alone

abbrev kept : TypeMap → List Chars → TypeMap
kept m names = map (λ a. (a, put m a)) names

kept-keys : (m : TypeMap) (names : List Chars) → keys (kept m names) ≡ names
kept-keys m [] = refl
kept-keys m (a ∷ names) = ap (λ (ns : List Chars). a ∷ ns) (kept-keys m names)

kept-put : (m : TypeMap) (names : List Chars) (a : Chars) → has_name a names ≡ true → put (kept m names) a ≡ put m a
kept-put m [] a e = absurd (true-false (sym e))
kept-put m (b ∷ names) a e = elim (bool_cases (same_name a b)) [
  | inl h ↦ put-hit (b, put m b) (kept m names) a h ∙ ap (put m) (sym (name-true a b h))
  | inr h ↦ put-miss (b, put m b) (kept m names) a h
      ∙ kept-put m names a (elim (or_cases (same_name a b) (has_name a names) e) [ inl k ↦ absurd (true-false (sym k ∙ h)) | inr k ↦ k ])
]

abbrev Agree : TypeMap → TypeMap → List Chars → Type 0
Agree m k names = (a : Chars) → has_name a names ≡ true → put m a ≡ put k a

mutual
  alike : (m k : TypeMap) (t : TypeTree) → Agree m k (type_names t) → type_instance m t ≡ type_instance k t
  alike m k (type_variable a) h = h a (or_left (same_name a a) false (true-name a a refl))
  alike m k (type_constructor c ts) h = ap (type_constructor c) (all-alike m k ts h)

  all-alike : (m k : TypeMap) (ts : TypeTrees) → Agree m k (types_names ts) → types_instance m ts ≡ types_instance k ts
  all-alike m k no_types h = refl
  all-alike m k (type_and t ts) h = λ i. type_and
      (alike m k t (λ a e. h a (append-left a (type_names t) (types_names ts) e)) i)
      (all-alike m k ts (λ a e. h a (append-right a (type_names t) (types_names ts) e)) i)

pub instance_matches : (pattern : TypeTree) (m : TypeMap) → (k : TypeMap) × Matches pattern k (type_instance m pattern)
instance_matches pattern m = (
  kept m (type_variables pattern),
  record {
    instance = alike (kept m (type_variables pattern)) m pattern (λ a e. kept-put m (type_variables pattern) a (joined-has a [] (type_names pattern) e));
    domain = kept-keys m (type_variables pattern);
  },
)
