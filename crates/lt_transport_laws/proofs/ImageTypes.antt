-- The image of a boolean statement is boolean.
use Rattle.std.specs.Prelude.{◌≡◌, ℕ, zero, suc, ◌+◌, ◌<◌, List, [], ◌∷◌, ◌++◌, Bool, true, false, ◌||◌, not, Option, Some, None, codes, map, length, filter, slice_get, unwrap_or}
use Rattle.std.specs.List.{zip}
use Rattle.std.proofs.Common.{refl, sym, ap, ◌∙◌, subst, inl, inr, arith}
use Rattle.std.proofs.lemmas.Bool.{and_parts}
use Rattle.std.proofs.lemmas.List.{length-append}
use Rattle.std.proofs.lemmas.Option.{slice_get_past}
use Rattle.lt_definitions.specs.Types.{Chars, same_name, has_name, are_distinct, found, TypeTree, type_variable, type_constructor, TypeTrees, no_types, type_and, bool, fun, listed, row, TypeMap, type_instance, types_instance, type_names, types_names}
use Rattle.lt_definitions.specs.Terms.{TermTree}
use Rattle.lt_definitions.specs.Typing.{Signature, type_fault, types_fault, at_types, HasType}
use Rattle.lt_definitions.proofs.SameNames.{true-false, bool_cases, name-true, true-name}
use Rattle.lt_definitions.proofs.TypingLemmas.{both-none}
use Rattle.lt_nameless.proofs.BindingLemmas.{if-true, if-false}
use Rattle.lt_nameless.proofs.StatementTypes.{more-binders}
use Rattle.lt_nameless.proofs.Substitutions.{append-left, append-right, joined-has}
use Rattle.lt_transport_definitions.specs.Notation.{◌⇒◌, ◌~◌}
use Rattle.lt_transport_definitions.specs.Patterns.{type_match, types_match}
use Rattle.lt_transport_definitions.specs.Constants.{is_counted}
use Rattle.lt_transport_definitions.specs.Relations.{Relation, relation_variable, equality, constructed, Relations, no_relations, relation_and, relation_list, Parametrised, RelationVariable, Registry, relator_for, form_for, Kind, no_constructor, a_relator, a_correspondence, a_form, kind_of}
use Rattle.lt_transport_definitions.specs.Expressions.{abstract_type, variables_of, left_of, left, lefts, right, equality_by, normal_equality, normal_equalities, MayHave, IsExpression, function_relator, implication}
use Rattle.lt_transport_definitions.specs.RelationTerms.{meaning_of, domain_of, relation_term}
use Rattle.lt_transport_definitions.specs.RuleForm.{TransferRule}
use Rattle.lt_transport_definitions.specs.Candidates.{occurrences, type_at, match_of, fits}
use Rattle.lt_transport_definitions.specs.Correspondence.{ChosenStatement, chosen_name, chosen_rule, chosen_equality, not_chosen, chosen_application, chosen_abstraction, Assignment, statement_of, numbers_of, AreCandidates, relation_instance, relation_instances, AreValues, IsAssignment, Corresponds, raw_side, image_of}
use Rattle.lt_transport_definitions.specs.Search.{Top, equal, implied, Question, AreFilled, TopHolds, top_candidates, image_by}
use Rattle.lt_transport_laws.specs.Statements.{IsRegistry, VariableIs, IsOver, AreOver}
use Rattle.lt_transport_laws.specs.ImageStatements.{left_variable, left_over, lefts_over, variable_types, AreApart, IsApart, EachApart, IsFull, IsSoundRule, AreSoundRules, IsSoundRegistry, ImagesAreTyped}
use Rattle.lt_transport_laws.proofs.Choices.{numbers-length}
use Rattle.lt_transport_laws.proofs.RawSideTypes.{IsSoundMap, AreMeaningsOf, with-typed}
use Rattle.lt_transport_laws.proofs.RelationTypes.{left-sound, relation-typed}
use Rattle.lt_transport_laws.proofs.Twice.{twice}

-- the left type of equality in normal form

left-at : (G : Registry) → IsRegistry G → (K : Chars) (ts : TypeTrees) (rs : Relations) → lefts G rs ≡ ts → (o : Option Chars) → relator_for G K ≡ o
    → left G (equality_by o (type_constructor K ts) rs) ≡ type_constructor K ts
left-at G ok K ts rs h None e = refl
left-at G ok K ts rs h (Some c) e = ap (λ k. left_of k [] (lefts G rs)) (ok.names K c e) ∙ ap (type_constructor K) h

mutual
  left-equality : (G : Registry) → IsRegistry G → (t : TypeTree) → left G (normal_equality G t) ≡ t
  left-equality G ok (type_variable a) = refl
  left-equality G ok (type_constructor K ts) = left-at G ok K ts (normal_equalities G ts) (lefts-equalities G ok ts) (relator_for G K) refl

  lefts-equalities : (G : Registry) → IsRegistry G → (ts : TypeTrees) → lefts G (normal_equalities G ts) ≡ ts
  lefts-equalities G ok no_types = refl
  lefts-equalities G ok (type_and t ts) = let p = left-equality G ok t in let q = lefts-equalities G ok ts in (λ i. type_and (p i) (q i))

-- types put for left type variables before those of a match

abbrev pub lefts_of : List RelationVariable → List Chars
lefts_of xs = map (λ x. x.left_name) xs

or-first : (a b : Bool) → a ≡ true → (a || b) ≡ true
or-first true b e = refl
or-first false b e = absurd (true-false (sym e))

or-second : (a b : Bool) → b ≡ true → (a || b) ≡ true
or-second true b e = refl
or-second false b e = e

has-one : (a : Chars) → has_name a (a ∷ []) ≡ true
has-one a = or-first (same_name a a) false (true-name a a refl)

behind-lefts : (ns : List Chars) (us : List TypeTree) (m : TypeMap) (a : Chars) → (has_name a ns ≡ true → ⊥) → found a (zip ns us ++ m) ≡ found a m
behind-lefts [] us m a n = refl
behind-lefts (b ∷ ns) [] m a n = refl
behind-lefts (b ∷ ns) (u ∷ us) m a n = elim (bool_cases (same_name a b)) [
  | inl s ↦ absurd (n (or-first (same_name a b) (has_name a ns) s))
  | inr s ↦ if-false (same_name a b) (Some u) (found a (zip ns us ++ m)) s ∙ behind-lefts ns us m a (λ e. n (or-second (same_name a b) (has_name a ns) e))
]

mutual
  apart-instance : (ns : List Chars) (us : List TypeTree) (m : TypeMap) (t : TypeTree) → AreApart ns (type_names t)
      → type_instance m t ≡ type_instance (zip ns us ++ m) t
  apart-instance ns us m (type_variable a) h =
      ap (λ o. unwrap_or o (type_variable a)) (sym (behind-lefts ns us m a (λ e. h a e (has-one a))))
  apart-instance ns us m (type_constructor c ts) h = ap (type_constructor c) (apart-instances ns us m ts h)

  apart-instances : (ns : List Chars) (us : List TypeTree) (m : TypeMap) (ts : TypeTrees) → AreApart ns (types_names ts)
      → types_instance m ts ≡ types_instance (zip ns us ++ m) ts
  apart-instances ns us m no_types h = refl
  apart-instances ns us m (type_and t ts) h =
      let p = apart-instance ns us m t (λ a e f. h a e (append-left a (type_names t) (types_names ts) f)) in
      let q = apart-instances ns us m ts (λ a e f. h a e (append-right a (type_names t) (types_names ts) f)) in
      (λ i. type_and (p i) (q i))

apart-list : (ns : List Chars) (us : List TypeTree) (m : TypeMap) (ts : List TypeTree) → AreApart ns (types_names (row ts))
    → map (type_instance m) ts ≡ map (type_instance (zip ns us ++ m)) ts
apart-list ns us m [] h = refl
apart-list ns us m (t ∷ ts) h =
    let p = apart-instance ns us m t (λ a e f. h a e (append-left a (type_names t) (types_names (row ts)) f)) in
    let q = apart-list ns us m ts (λ a e f. h a e (append-right a (type_names t) (types_names (row ts)) f)) in
    (λ i. p i ∷ q i)

-- the name of a left type variable

abbrev left_name_at : List RelationVariable → ℕ → Chars
left_name_at [] i = []
left_name_at (x ∷ xs) zero = x.left_name
left_name_at (x ∷ xs) (suc i) = left_name_at xs i

left-name-is : (xs : List RelationVariable) (i : ℕ) (t : TypeTree) → VariableIs xs i t → left_variable xs i ≡ type_variable (left_name_at xs i)
left-name-is [] i t k = absurd k
left-name-is (x ∷ xs) zero t k = refl
left-name-is (x ∷ xs) (suc i) t k = left-name-is xs i t k

left-is-in : (xs : List RelationVariable) (i : ℕ) (t : TypeTree) → VariableIs xs i t → has_name (left_name_at xs i) (lefts_of xs) ≡ true
left-is-in [] i t k = absurd k
left-is-in (x ∷ xs) zero t k = or-first (same_name x.left_name x.left_name) (has_name x.left_name (lefts_of xs)) (true-name x.left_name x.left_name refl)
left-is-in (x ∷ xs) (suc i) t k = or-second (same_name (left_name_at xs i) x.left_name) (has_name (left_name_at xs i) (lefts_of xs)) (left-is-in xs i t k)

not-in : (a : Chars) (ns : List Chars) → not (has_name a ns) ≡ true → has_name a ns ≡ true → ⊥
not-in a ns e f = true-false (sym e ∙ ap not f)

other-name : (a b : Chars) (u : TypeTree) (m : TypeMap) → (same_name a b ≡ true → ⊥) → type_instance m (type_variable a) ≡ type_instance ((b, u) ∷ m) (type_variable a)
other-name a b u m n = elim (bool_cases (same_name a b)) [
  | inl s ↦ absurd (n s)
  | inr s ↦ ap (λ o. unwrap_or o (type_variable a)) (sym (if-false (same_name a b) (Some u) (found a m) s))
]

other-type : (a b : Chars) (u : TypeTree) (m : TypeMap) → (same_name a b ≡ true → ⊥) → (t : TypeTree) → t ≡ type_variable a
    → type_instance m t ≡ type_instance ((b, u) ∷ m) t
other-type a b u m n t e = ap (type_instance m) e ∙ other-name a b u m n ∙ ap (type_instance ((b, u) ∷ m)) (sym e)

-- it stands for the left type of its relation
left-found : (G : Registry) (n m : TypeMap) (xs : List RelationVariable) (vs : List Relation) → AreValues G n xs vs → are_distinct (lefts_of xs) ≡ true
    → (i : ℕ) (d : Relation) (t : TypeTree) → VariableIs xs i t
    → left G (unwrap_or (slice_get vs i) d) ≡ type_instance (zip (lefts_of xs) (map (left G) vs) ++ m) (left_variable xs i)
left-found G n m [] vs h e i d t k = absurd k
left-found G n m (x ∷ xs) [] h e i d t k = absurd h
left-found G n m (x ∷ xs) (v ∷ vs) h e zero d t k =
    ap (λ o. unwrap_or o (type_variable x.left_name)) (sym (if-true (same_name x.left_name x.left_name) (Some (left G v))
    (found x.left_name (zip (lefts_of xs) (map (left G) vs) ++ m)) (true-name x.left_name x.left_name refl)))
left-found G n m (x ∷ xs) (v ∷ vs) h e (suc i) d t k =
    let p = and_parts (not (has_name x.left_name (lefts_of xs))) (are_distinct (lefts_of xs)) e in
    left-found G n m xs vs h.2 p.1 i d t k
    ∙ other-type (left_name_at xs i) x.left_name (left G v) (zip (lefts_of xs) (map (left G) vs) ++ m)
    (λ s. not-in x.left_name (lefts_of xs) p.0
    (subst (λ (b : Chars). has_name b (lefts_of xs) ≡ true) (name-true (left_name_at xs i) x.left_name s) (left-is-in xs i t k)))
    (left_variable xs i) (left-name-is xs i t k)

-- the left type of a rule's relation at a match and expressions

listed-instances : (m : TypeMap) (ts : TypeTrees) → listed (types_instance m ts) ≡ map (type_instance m) (listed ts)
listed-instances m no_types = refl
listed-instances m (type_and t ts) = ap (λ us. type_instance m t ∷ us) (listed-instances m ts)

lefts-length : (G : Registry) (xs : List RelationVariable) (rs : Relations) → length (listed (lefts_over G xs rs)) ≡ length (relation_list rs)
lefts-length G xs no_relations = refl
lefts-length G xs (relation_and r rs) = ap suc (lefts-length G xs rs)

left_of-put : (G : Registry) (ns : List Chars) (us : List TypeTree) (m : TypeMap) (ts : List TypeTree) (xs : List RelationVariable) (rs : Relations) (L : TypeTrees)
    → L ≡ types_instance (zip ns us ++ m) (lefts_over G xs rs) → AreApart ns (types_names (row ts)) → (k : Kind) → (f : Option Parametrised) → MayHave k f ts rs → IsFull k rs
    → left_of k (map (type_instance m) ts) L ≡ type_instance (zip ns us ++ m) (left_of k ts (lefts_over G xs rs))
left_of-put G ns us m ts xs rs L h p no_constructor f y w = absurd y
left_of-put G ns us m ts xs rs L h p (a_relator K) f y w = ap (type_constructor K) h
left_of-put G ns us m ts xs rs L h p (a_correspondence d) f y w =
    ap (λ qs. type_instance (zip (variables_of d) qs) d.raw) (apart-list ns us m ts p)
    ∙ twice (zip ns us ++ m) (variables_of d) ts d.raw y.0
    (λ a k. joined-has a [] (type_names (fun d.raw (fun (abstract_type d) bool)))
    (append-left a (type_names d.raw) (types_names (type_and (fun (abstract_type d) bool) no_types)) k))
left_of-put G ns us m ts xs rs L h p (a_form d) f y w =
    ap (λ qs. type_instance (zip d.parameters (listed qs)) d.raw) h
    ∙ ap (λ qs. type_instance (zip d.parameters qs) d.raw) (listed-instances (zip ns us ++ m) (lefts_over G xs rs))
    ∙ twice (zip ns us ++ m) d.parameters (listed (lefts_over G xs rs)) d.raw (lefts-length G xs rs ∙ w.0) w.1

mutual
  left-instance : (G : Registry) → IsRegistry G → (m : TypeMap) (xs : List RelationVariable) (vs : List Relation) → AreValues G m xs vs
      → are_distinct (lefts_of xs) ≡ true → (r : Relation) → IsOver G xs r → IsApart G (lefts_of xs) r
      → left G (relation_instance G m vs r) ≡ type_instance (zip (lefts_of xs) (map (left G) vs) ++ m) (left_over G xs r)
  left-instance G ok m xs vs h e (relation_variable i t) k w = left-found G m m xs vs h e i (relation_variable i t) t k
  left-instance G ok m xs vs h e (equality t) k w =
      left-equality G ok (type_instance m t) ∙ apart-instance (lefts_of xs) (map (left G) vs) m t w
  left-instance G ok m xs vs h e (constructed c ts rs) k w =
      left_of-put G (lefts_of xs) (map (left G) vs) m ts xs rs (lefts G (relation_instances G m vs rs)) (lefts-instances G ok m xs vs h e rs k.1 w.2) w.0
      (kind_of G c) (form_for G c) k.0 w.1

  lefts-instances : (G : Registry) → IsRegistry G → (m : TypeMap) (xs : List RelationVariable) (vs : List Relation) → AreValues G m xs vs
      → are_distinct (lefts_of xs) ≡ true → (rs : Relations) → AreOver G xs rs → EachApart G (lefts_of xs) rs
      → lefts G (relation_instances G m vs rs) ≡ types_instance (zip (lefts_of xs) (map (left G) vs) ++ m) (lefts_over G xs rs)
  lefts-instances G ok m xs vs h e no_relations k w = refl
  lefts-instances G ok m xs vs h e (relation_and r rs) k w =
      let p = left-instance G ok m xs vs h e r k.0 w.0 in
      let q = lefts-instances G ok m xs vs h e rs k.1 w.1 in (λ i. type_and (p i) (q i))

-- maps whose types have no fault

abbrev AreSoundPairs : Signature → TypeMap → Type 0
AreSoundPairs sig [] = Unit {0}
AreSoundPairs sig (p ∷ ps) = (type_fault sig p.1 ≡ None) × AreSoundPairs sig ps

pairs-on : (sig : Signature) (ps qs : TypeMap) → AreSoundPairs sig ps → AreSoundPairs sig qs → AreSoundPairs sig (ps ++ qs)
pairs-on sig [] qs h k = k
pairs-on sig (p ∷ ps) qs h k = (h.0, pairs-on sig ps qs h.1 k)

pairs-map : (sig : Signature) (ps : TypeMap) → AreSoundPairs sig ps → IsSoundMap sig ps
pairs-map sig [] h a = refl
pairs-map sig (p ∷ ps) h a = elim (bool_cases (same_name a p.0)) [
  | inl s ↦ ap (λ o. type_fault sig (unwrap_or o (type_variable a))) (if-true (same_name a p.0) (Some p.1) (found a ps) s) ∙ h.0
  | inr s ↦ ap (λ o. type_fault sig (unwrap_or o (type_variable a))) (if-false (same_name a p.0) (Some p.1) (found a ps) s) ∙ pairs-map sig ps h.1 a
]

mutual
  match-sound : (sig : Signature) (p t : TypeTree) → type_fault sig t ≡ None → AreSoundPairs sig (type_match p t)
  match-sound sig (type_variable a) t e = (e, tt)
  match-sound sig (type_constructor c ps) (type_variable a) e = tt
  match-sound sig (type_constructor c ps) (type_constructor d ts) e = matches-sound sig ps ts (both-none _ (types_fault sig ts) e).1

  matches-sound : (sig : Signature) (ps ts : TypeTrees) → types_fault sig ts ≡ None → AreSoundPairs sig (types_match ps ts)
  matches-sound sig no_types ts e = tt
  matches-sound sig (type_and p ps) no_types e = tt
  matches-sound sig (type_and p ps) (type_and t ts) e =
      let h = both-none (type_fault sig t) (types_fault sig ts) e in
      pairs-on sig (type_match p t) (types_match ps ts) (match-sound sig p t h.0) (matches-sound sig ps ts h.1)

-- the values of a rule's variables

value-typed : (G : Registry) (sig : Signature) → IsRegistry G → IsSoundRegistry G sig → (m : TypeMap) → IsSoundMap sig m → (x : RelationVariable) (v : Relation)
    → IsExpression G v → right G v ≡ type_instance m (type_variable x.right_name) → HasType sig [] (relation_term G v) (left G v ~ right G v)
value-typed G sig ok s m n x v h e = relation-typed G sig ok s v h (ap (type_fault sig) e ∙ n x.right_name)

values-sound : (G : Registry) (sig : Signature) → IsRegistry G → IsSoundRegistry G sig → (m : TypeMap) → IsSoundMap sig m → (xs : List RelationVariable) (vs : List Relation)
    → AreValues G m xs vs → AreSoundPairs sig (zip (lefts_of xs) (map (left G) vs))
values-sound G sig ok s m n [] [] h = tt
values-sound G sig ok s m n [] (v ∷ vs) h = absurd h
values-sound G sig ok s m n (x ∷ xs) [] h = absurd h
values-sound G sig ok s m n (x ∷ xs) (v ∷ vs) h =
    (left-sound G sig s (relation_term G v) (left G v) (right G v) (value-typed G sig ok s m n x v h.0 h.1), values-sound G sig ok s m n xs vs h.2)

-- what the values mean, at a map that puts their types
abbrev ArePut : Registry → TypeMap → List RelationVariable → List Relation → Type 0
ArePut G m [] [] = Unit {0}
ArePut G m (x ∷ xs) (v ∷ vs) = (type_instance m (type_variable x.left_name) ≡ left G v) × (type_instance m (type_variable x.right_name) ≡ right G v) × ArePut G m xs vs
ArePut G m _ _ = ⊥

values-mean : (G : Registry) (sig : Signature) → IsRegistry G → IsSoundRegistry G sig → (m n : TypeMap) → IsSoundMap sig m → (xs : List RelationVariable) (vs : List Relation)
    → AreValues G m xs vs → ArePut G n xs vs
    → AreMeaningsOf sig (is_counted sig (codes "Domainp")) n (variable_types xs) (zip (map (λ x. x.name) xs) (map (meaning_of G) vs))
values-mean G sig ok s m n w [] [] h k = tt
values-mean G sig ok s m n w [] (v ∷ vs) h k = absurd h
values-mean G sig ok s m n w (x ∷ xs) [] h k = absurd h
values-mean G sig ok s m n w (x ∷ xs) (v ∷ vs) h k =
    let t = value-typed G sig ok s m w x v h.0 h.1 in
    let between : type_instance n (type_variable x.left_name) ~ type_instance n (type_variable x.right_name) ≡ left G v ~ right G v =
    λ i. k.0 i ~ k.1 i in (
      refl,
      record {
        from = type_variable x.left_name;
        to = type_variable x.right_name;
        between = refl;
        relation = subst (λ (u : TypeTree). HasType sig [] (relation_term G v) u) (sym between) t;
        domain = λ c. subst (λ (u : TypeTree). HasType sig [] (domain_of G v) (u ⇒ bool)) (sym k.0)
            (s.domains c v h.0 (ap (type_fault sig) h.1 ∙ w x.right_name));
      },
      values-mean G sig ok s m n w xs vs h.2 k.2,
    )

-- the map of a raw side puts the types of its values

right-put : (ns : List Chars) (us : List TypeTree) (m : TypeMap) (b : Chars) → (has_name b ns ≡ true → ⊥)
    → type_instance m (type_variable b) ≡ type_instance (zip ns us ++ m) (type_variable b)
right-put ns us m b n = ap (λ o. unwrap_or o (type_variable b)) (sym (behind-lefts ns us m b n))

-- for the variables from one on, given what holds of all
puts-from : (G : Registry) (m : TypeMap) (ns : List Chars) (us : List TypeTree) (xs : List RelationVariable) (vs : List Relation) → AreValues G m xs vs
    → ((i : ℕ) (d : Relation) (t : TypeTree) → VariableIs xs i t → left G (unwrap_or (slice_get vs i) d) ≡ type_instance (zip ns us ++ m) (left_variable xs i))
    → AreApart ns (map (λ x. x.right_name) xs) → ArePut G (zip ns us ++ m) xs vs
puts-from G m ns us [] [] h l r = tt
puts-from G m ns us [] (v ∷ vs) h l r = absurd h
puts-from G m ns us (x ∷ xs) [] h l r = absurd h
puts-from G m ns us (x ∷ xs) (v ∷ vs) h l r = (
  sym (l 0 v (type_variable x.right_name) refl),
  sym (right-put ns us m x.right_name (λ e. r x.right_name e (or-first (same_name x.right_name x.right_name)
      (has_name x.right_name (map (λ y. y.right_name) xs)) (true-name x.right_name x.right_name refl)))) ∙ sym h.1,
  puts-from G m ns us xs vs h.2 (λ i d t k. l (suc i) d t k)
      (λ a e f. r a e (or-second (same_name a x.right_name) (has_name a (map (λ y. y.right_name) xs)) f)),
)

-- a rule's raw side has the left type of its relation
raw-typed : (G : Registry) (sig : Signature) → IsRegistry G → IsSoundRegistry G sig → (rule : TransferRule) → IsSoundRule G sig rule → (m : TypeMap) → AreSoundPairs sig m
    → (vs : List Relation) → AreValues G m rule.variables vs
    → HasType sig [] (raw_side sig G rule m vs) (left G (relation_instance G m vs rule.relation))
raw-typed G sig ok s rule o m p vs h =
    let ns : List Chars = lefts_of rule.variables in
    let us : List TypeTree = map (left G) vs in
    let n : IsSoundMap sig m = pairs-map sig m p in
    let all : IsSoundMap sig (zip ns us ++ m) = pairs-map sig (zip ns us ++ m) (pairs-on sig (zip ns us) m (values-sound G sig ok s m n rule.variables vs h) p) in
    let put = puts-from G m ns us rule.variables vs h (λ i d t k. left-found G m m rule.variables vs h o.distinct i d t k) o.rights in
    let mean = values-mean G sig ok s m (zip ns us ++ m) n rule.variables vs h put in
    let typed = with-typed sig (is_counted sig (codes "Domainp")) (zip ns us ++ m) (variable_types rule.variables)
    (zip (map (λ x. x.name) rule.variables) (map (meaning_of G) vs)) s.signature all s.counted mean [] rule.raw (left_over G rule.variables rule.relation) o.free o.raw in
    subst (λ (u : TypeTree). HasType sig [] (raw_side sig G rule m vs) u)
    (sym (left-instance G ok m rule.variables vs h o.distinct rule.relation o.typed.formed o.apart)) typed

-- a candidate is one of the rules
candidate-sound : (G : Registry) (sig : Signature) (f : TransferRule → Bool) (rules : List TransferRule) (i : ℕ) (rule : TransferRule)
    → AreSoundRules G sig rules → slice_get (filter f rules) i ≡ Some rule → IsSoundRule G sig rule
candidate-sound G sig f [] i rule h e = absurd (none-some i rule e)
  where
    none-some : (i : ℕ) (rule : TransferRule) → slice_get [] i ≡ Some rule → ⊥
    none-some i rule e = let k : ◌≡◌ {A = Option TransferRule} None (Some rule) = sym (slice_get_past [] i (omega arith)) ∙ e in cc
candidate-sound G sig f (r ∷ rules) i rule h e = elim (bool_cases (f r)) [
  | inr n ↦ candidate-sound G sig f rules i rule h.1 (sym (ap (λ xs. slice_get xs i) (if-false (f r) (r ∷ filter f rules) (filter f rules) n)) ∙ e)
  | inl y ↦ here G sig f r rules i rule h (sym (ap (λ xs. slice_get xs i) (if-true (f r) (r ∷ filter f rules) (filter f rules) y)) ∙ e)
      (λ j k. candidate-sound G sig f rules j rule h.1 k)
]
  where
    here : (G : Registry) (sig : Signature) (f : TransferRule → Bool) (r : TransferRule) (rules : List TransferRule) (i : ℕ) (rule : TransferRule)
        → AreSoundRules G sig (r ∷ rules) → slice_get (r ∷ filter f rules) i ≡ Some rule
        → ((j : ℕ) → slice_get (filter f rules) j ≡ Some rule → IsSoundRule G sig rule) → IsSoundRule G sig rule
    here G sig f r rules zero rule h e k = let x : r ≡ rule = cc in subst (IsSoundRule G sig) x h.0
    here G sig f r rules (suc i) rule h e k = k i e

-- the main part

abbrev IsChosen : ChosenStatement → Type 0
IsChosen (not_chosen c ts) = ⊥
IsChosen (chosen_application f a) = IsChosen f × IsChosen a
IsChosen (chosen_abstraction x ty b) = IsChosen b
IsChosen _ = Unit {0}

-- bound names with the left types of their relations
abbrev lefts_at : Registry → List (Chars × Relation) → List (Chars × TypeTree)
lefts_at G [] = []
lefts_at G (p ∷ ps) = (p.0, left G p.1) ∷ lefts_at G ps

found-left : (G : Registry) (names : List (Chars × Relation)) (x : Chars) (e : Relation) → found x names ≡ Some e → found x (lefts_at G names) ≡ Some (left G e)
found-left G [] x e h = absurd (cc)
found-left G (p ∷ ps) x e h = elim (bool_cases (same_name x p.0)) [
  | inl s ↦
      let k : ◌≡◌ {A = Option Relation} (Some p.1) (Some e) = sym (if-true (same_name x p.0) (Some p.1) (found x ps) s) ∙ h in
      let l : p.1 ≡ e = cc in
      if-true (same_name x p.0) (Some (left G p.1)) (found x (lefts_at G ps)) s ∙ ap (λ r. Some (left G r)) l
  | inr s ↦ if-false (same_name x p.0) (Some (left G p.1)) (found x (lefts_at G ps)) s
      ∙ found-left G ps x e (sym (if-false (same_name x p.0) (Some p.1) (found x ps) s) ∙ h)
]

image-typed : (q : Question) → IsRegistry q.registry → IsSoundRegistry q.registry q.signature → AreSoundRules q.registry q.signature q.rules
    → (names : List (Chars × Relation)) (env : List (Chars × TypeTree)) (K : ChosenStatement) (v : Assignment K) (e : Relation) (ty : TypeTree)
    → IsChosen K → AreCandidates q.rules K → IsAssignment q.registry q.signature K v → Corresponds q.registry q.signature names K v e
    → HasType q.signature env (statement_of K) ty → HasType q.signature (lefts_at q.registry names) (image_of q.signature q.registry K v) (left q.registry e)
image-typed q ok s o names env (chosen_name x) v e ty h c a r t = found-left q.registry names x e r
image-typed q ok s o names env (not_chosen d ts) v e ty h c a r t = absurd h
image-typed q ok s o names env (chosen_equality d ts) v e ty h c a r t =
    let u : left q.registry e ≡ type_at q.signature d ts = ap (left q.registry) r ∙ left-equality q.registry ok (type_at q.signature d ts) in
    let w : type_at q.signature d ts ≡ at_types t.0 ts = ap (λ z. at_types (unwrap_or z bool) ts) t.1 in
    (t.0, t.1, t.2, t.3, sym w ∙ sym u)
image-typed q ok s o names env (chosen_rule d ts i rule) v e ty h c a r t =
    let G = q.registry in
    let m = match_of rule ts in
    let sound = candidate-sound G q.signature (fits d ts) q.rules i rule o c in
    let k = raw-typed G q.signature ok s rule sound m (matches-sound q.signature (row rule.pattern) (row ts) t.3) v a.0 in
    more-binders q.signature [] (lefts_at G names) (raw_side q.signature G rule m v) (left G e)
    (subst (λ (z : Relation). HasType q.signature [] (raw_side q.signature G rule m v) (left G z)) (sym r) k)
image-typed q ok s o names env (chosen_application f b) v e ty h c a r t = (
  left q.registry r.0,
  image-typed q ok s o names env f v.0 (function_relator r.0 e) (fun t.0 ty) h.0 c.0 a.0 r.2 t.1,
  image-typed q ok s o names env b v.1 r.0 t.0 h.1 c.1 a.1 r.1 t.2,
)
image-typed q ok s o names env (chosen_abstraction x u b) v e ty h c a r t =
    let G = q.registry in
    let w = relation-typed G q.signature ok s v.0 a.0 (ap (type_fault q.signature) a.1 ∙ t.1) in (
      left G r.0,
      left-sound G q.signature s (relation_term G v.0) (left G v.0) (right G v.0) w,
      image-typed q ok s o ((x, v.0) ∷ names) ((x, u) ∷ env) b v.1 r.0 t.0 h c a.2 r.2 t.2,
      ap (left G) (sym r.1),
    )

-- a whole choice list leaves no place open

abbrev AreSome : List (Option ℕ) → Type 0
AreSome [] = Unit {0}
AreSome (Some i ∷ ns) = AreSome ns
AreSome (None ∷ ns) = ⊥

filled-at-most : (ns : List (Option ℕ)) (choices : List ℕ) → AreFilled ns choices → length choices < suc (length ns)
filled-at-most [] [] h = omega arith
filled-at-most [] (j ∷ choices) h = absurd h
filled-at-most (Some i ∷ ns) [] h = absurd h
filled-at-most (Some i ∷ ns) (j ∷ choices) h = let k = filled-at-most ns choices h.1 in omega arith
filled-at-most (None ∷ ns) [] h = omega arith
filled-at-most (None ∷ ns) (j ∷ choices) h = absurd h

filled-some : (ns : List (Option ℕ)) (choices : List ℕ) → AreFilled ns choices → length choices ≡ length ns → AreSome ns
filled-some [] choices h e = tt
filled-some (Some i ∷ ns) [] h e = absurd h
filled-some (Some i ∷ ns) (j ∷ choices) h e = filled-some ns choices h.1 (omega arith)
filled-some (None ∷ ns) [] h e = absurd (omega arith)
filled-some (None ∷ ns) (j ∷ choices) h e = absurd h

some-on : (ns ms : List (Option ℕ)) → AreSome (ns ++ ms) → AreSome ns × AreSome ms
some-on [] ms h = (tt, h)
some-on (Some i ∷ ns) ms h = some-on ns ms h
some-on (None ∷ ns) ms h = absurd h

numbers-chosen : (K : ChosenStatement) → AreSome (numbers_of K) → IsChosen K
numbers-chosen (chosen_name x) h = tt
numbers-chosen (chosen_rule c ts i rule) h = tt
numbers-chosen (chosen_equality c ts) h = tt
numbers-chosen (not_chosen c ts) h = h
numbers-chosen (chosen_application f a) h =
    let k = some-on (numbers_of a) (numbers_of f) h in (numbers-chosen f k.1, numbers-chosen a k.0)
numbers-chosen (chosen_abstraction x ty b) h = numbers-chosen b h

top-some : (o : Option ℕ) → AreSome (o ∷ []) → (i : ℕ) × (o ≡ Some i)
top-some (Some i) h = (i, refl)
top-some None h = absurd h

some-same : (b r : Relation) → ◌≡◌ {A = Option Relation} (Some b) (Some r) → b ≡ r
some-same b r e = cc

none-not : (r : Relation) → ◌≡◌ {A = Option Relation} None (Some r) → ⊥
none-not r e = cc

-- the top's expression is over bool
top-left : (G : Registry) (sig : Signature) → IsSoundRegistry G sig → (top : Top) (i : ℕ) (e : Relation) → slice_get (top_candidates top) i ≡ Some e → left G e ≡ bool
top-left G sig s equal zero e h = ap (left G) (sym (some-same (equality bool) e h))
top-left G sig s equal (suc i) e h = absurd (none-not e h)
top-left G sig s implied zero e h = ap (left G) (sym (some-same implication e h)) ∙ s.implied
top-left G sig s implied (suc zero) e h = ap (left G) (sym (some-same (equality bool) e h))
top-left G sig s implied (suc (suc i)) e h = absurd (none-not e h)

pub images-typed : ImagesAreTyped
images-typed q choices w ok s o t whole =
    let n : length (numbers_of w.chosen) ≡ length (occurrences q.statement) = numbers-length w.chosen ∙ ap (λ u. length (occurrences u)) w.of_statement in
    let l : length choices ≡ length (numbers_of w.chosen ++ w.top ∷ []) =
    whole ∙ ap (λ k. k + 1) (sym n) ∙ sym (length-append (numbers_of w.chosen) (w.top ∷ [])) in
    let k = some-on (numbers_of w.chosen) (w.top ∷ []) (filled-some (numbers_of w.chosen ++ w.top ∷ []) choices w.filled l) in
    let i = top-some w.top k.1 in
    let e : left q.registry w.expression ≡ bool = top-left q.registry q.signature s q.top i.0 w.expression
    (subst (λ (x : Option ℕ). TopHolds q.top x w.expression) i.1 w.top_holds) in
    subst (λ (u : TypeTree). HasType q.signature [] (image_by w) u) e
    (image-typed q ok s o [] [] w.chosen w.assignment w.expression bool (numbers-chosen w.chosen k.0) w.by_candidates w.assigned w.corresponds
    (subst (λ (u : TermTree). HasType q.signature [] u bool) (sym w.of_statement) t))
