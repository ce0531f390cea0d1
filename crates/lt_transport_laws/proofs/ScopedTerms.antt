-- Terms of relations, their domains and raw sides have no loose bound names.
use Rattle.std.specs.Prelude.{◌≡◌, List, [], ◌∷◌, ◌++◌, Bool, true, false, ◌||◌, ◌&&◌, not, Option, Some, None, map, codes, unwrap_or, option_map, find}
use Rattle.std.specs.List.{zip}
use Rattle.std.proofs.Common.{refl, subst, sym, ap, ◌∙◌, inl, inr}
use Rattle.lt_definitions.specs.Types.{Chars, same_name, found, TypeTree, TypeMap, type_instance}
use Rattle.lt_definitions.specs.Terms.{TermTree, free_variable, bound_name, constant, application, abstraction, has_loose, HasNoLooseNames}
use Rattle.lt_definitions.proofs.SameNames.{bool_cases}
use Rattle.lt_nameless.proofs.BindingLemmas.{if-true, if-false}
use Rattle.lt_transport_definitions.specs.Notation.{WithType, applied}
use Rattle.lt_transport_definitions.specs.Relations.{Relation, relation_variable, equality, constructed, Relations, no_relations, relation_and, DomainRule, Registry, domain_rule_for}
use Rattle.lt_transport_definitions.specs.Expressions.{left, right}
use Rattle.lt_transport_definitions.specs.RelationTerms.{forced_types, written, written_list, relation_term, Meaning, domain_at, with_relations, argument_map, plain_domain, domain_by, domain_of, argument_meanings, meaning_of}
use Rattle.lt_transport_laws.proofs.Rows.{AllOf}
use Rattle.lt_transport_laws.proofs.LooseNames.{application-none}
use Rattle.lt_transport_laws.proofs.Exchanges.{neither}

-- what stands for a relation variable has no loose names
abbrev pub IsScopedMeaning : Meaning → Type 0
IsScopedMeaning m = HasNoLooseNames m.relation × HasNoLooseNames m.domain

abbrev pub AreScopedMeanings : List (Chars × Meaning) → Type 0
AreScopedMeanings [] = Unit {0}
AreScopedMeanings (p ∷ ps) = IsScopedMeaning p.1 × AreScopedMeanings ps

found-relation : (z x : Chars) (ms : List (Chars × Meaning)) (d : TermTree) → AreScopedMeanings ms → has_loose z d ≡ false
    → has_loose z (unwrap_or (option_map (λ m. m.relation) (found x ms)) d) ≡ false
found-relation z x [] d h k = k
found-relation z x (p ∷ ps) d h k = elim (bool_cases (same_name x p.0)) [
  | inl s ↦ ap (λ o. has_loose z (unwrap_or (option_map (λ m. m.relation) o) d)) (if-true (same_name x p.0) (Some p.1) (found x ps) s) ∙ h.0.0 z
  | inr s ↦ ap (λ o. has_loose z (unwrap_or (option_map (λ m. m.relation) o) d)) (if-false (same_name x p.0) (Some p.1) (found x ps) s)
      ∙ found-relation z x ps d h.1 k
]

found-domain : (z x : Chars) (ms : List (Chars × Meaning)) (d : TermTree) → AreScopedMeanings ms → has_loose z d ≡ false
    → has_loose z (unwrap_or (option_map (λ m. m.domain) (found x ms)) d) ≡ false
found-domain z x [] d h k = k
found-domain z x (p ∷ ps) d h k = elim (bool_cases (same_name x p.0)) [
  | inl s ↦ ap (λ o. has_loose z (unwrap_or (option_map (λ m. m.domain) o) d)) (if-true (same_name x p.0) (Some p.1) (found x ps) s) ∙ h.0.1 z
  | inr s ↦ ap (λ o. has_loose z (unwrap_or (option_map (λ m. m.domain) o) d)) (if-false (same_name x p.0) (Some p.1) (found x ps) s)
      ∙ found-domain z x ps d h.1 k
]

domain_at-none : (z : Chars) (counts : Bool) (ms : List (Chars × Meaning)) (f a d : TermTree) → AreScopedMeanings ms → has_loose z d ≡ false
    → has_loose z (unwrap_or (domain_at counts ms f a) d) ≡ false
domain_at-none z counts ms (constant c ts) (free_variable x ty) d h k = elim (bool_cases (counts && same_name c (codes "Domainp"))) [
  | inl s ↦ ap (λ o. has_loose z (unwrap_or o d)) (if-true (counts && same_name c (codes "Domainp")) (option_map (λ m. m.domain) (found x ms)) None s)
      ∙ found-domain z x ms d h k
  | inr s ↦ ap (λ o. has_loose z (unwrap_or o d)) (if-false (counts && same_name c (codes "Domainp")) (option_map (λ m. m.domain) (found x ms)) None s) ∙ k
]
domain_at-none z counts ms (constant c ts) (bound_name x) d h k = k
domain_at-none z counts ms (constant c ts) (constant e us) d h k = k
domain_at-none z counts ms (constant c ts) (application g b) d h k = k
domain_at-none z counts ms (constant c ts) (abstraction x ty b) d h k = k
domain_at-none z counts ms (free_variable y u) a d h k = k
domain_at-none z counts ms (bound_name y) a d h k = k
domain_at-none z counts ms (application g b) a d h k = k
domain_at-none z counts ms (abstraction x ty b) a d h k = k

either-false : (a b : Bool) → a ≡ false → b ≡ false → (a || b) ≡ false
either-false true b h k = absurd (cc)
either-false false b h k = k

-- a name that was not loose stays so
pub with-none : (z : Chars) (counts : Bool) (m : TypeMap) (ms : List (Chars × Meaning)) (t : TermTree) → AreScopedMeanings ms → has_loose z t ≡ false
    → has_loose z (with_relations counts m ms t) ≡ false
with-none z counts m ms (free_variable x ty) h k = found-relation z x ms (free_variable x (type_instance m ty)) h refl
with-none z counts m ms (bound_name x) h k = k
with-none z counts m ms (constant c ts) h k = refl
with-none z counts m ms (application f a) h k =
    let p = neither (has_loose z f) (has_loose z a) k in
    domain_at-none z counts ms f a (application (with_relations counts m ms f) (with_relations counts m ms a)) h
    (either-false (has_loose z (with_relations counts m ms f)) (has_loose z (with_relations counts m ms a))
    (with-none z counts m ms f h p.0) (with-none z counts m ms a h p.1))
with-none z counts m ms (abstraction x ty b) h k = elim (bool_cases (same_name z x)) [
  | inl s ↦ ap (λ n. not n && has_loose z (with_relations counts m ms b)) s
  | inr s ↦ ap (λ n. not n && has_loose z (with_relations counts m ms b)) s
      ∙ with-none z counts m ms b h (sym (ap (λ n. not n && has_loose z b) s) ∙ k)
]

-- terms with types that have no loose names
abbrev IsScopedTerm : WithType → Type 0
IsScopedTerm t = HasNoLooseNames t.term

applied-none : (f : WithType) (xs : List WithType) → IsScopedTerm f → AllOf IsScopedTerm xs → IsScopedTerm (applied f xs)
applied-none f [] h k = h
applied-none f (x ∷ xs) h k = applied-none _ xs (application-none f.term x.term h k.0) k.1

constant-none : (c : Chars) (ts : List TypeTree) → HasNoLooseNames (constant c ts)
constant-none c ts z = refl

mutual
  written-none : (G : Registry) (r : Relation) → IsScopedTerm (written G [] r)
  written-none G (relation_variable n t) = constant-none (codes "eq") (t ∷ [])
  written-none G (equality t) = constant-none (codes "eq") (t ∷ [])
  written-none G (constructed c ts rs) = applied-none _ (written_list G [] rs) (constant-none c (ts ++ forced_types (written_list G [] rs))) (written_list-none G rs)

  written_list-none : (G : Registry) (rs : Relations) → AllOf IsScopedTerm (written_list G [] rs)
  written_list-none G no_relations = tt
  written_list-none G (relation_and r rs) = (written-none G r, written_list-none G rs)

pub relation_term-none : (G : Registry) (r : Relation) → HasNoLooseNames (relation_term G r)
relation_term-none G r = written-none G r

plain-none : (G : Registry) (r : Relation) → HasNoLooseNames (plain_domain G r)
plain-none G r = application-none (constant (codes "Domainp") (left G r ∷ right G r ∷ [])) (relation_term G r)
    (constant-none (codes "Domainp") (left G r ∷ right G r ∷ [])) (relation_term-none G r)

-- the registered domains have no loose names
abbrev pub IsScopedDomain : DomainRule → Type 0
IsScopedDomain d = HasNoLooseNames d.domain

abbrev IsScopedOption : Option DomainRule → Type 0
IsScopedOption None = Unit {0}
IsScopedOption (Some d) = IsScopedDomain d

found-scoped : (test : DomainRule → Bool) (ds : List DomainRule) → AllOf IsScopedDomain ds → IsScopedOption (find test ds)
found-scoped test [] h = tt
found-scoped test (d ∷ ds) h = elim (bool_cases (test d)) [
  | inl s ↦ subst IsScopedOption (sym (if-true (test d) (Some d) (find test ds) s)) h.0
  | inr s ↦ subst IsScopedOption (sym (if-false (test d) (Some d) (find test ds) s)) (found-scoped test ds h.1)
]

zip-scoped : (xs : List Chars) (ms : List Meaning) → AllOf IsScopedMeaning ms → AreScopedMeanings (zip xs ms)
zip-scoped [] ms h = tt
zip-scoped (x ∷ xs) [] h = tt
zip-scoped (x ∷ xs) (m ∷ ms) h = (h.0, zip-scoped xs ms h.1)

domain_by-none : (G : Registry) (o : Option DomainRule) (r : Relation) (ts : List TypeTree) (rs : Relations) (ms : List Meaning)
    → IsScopedOption o → AllOf IsScopedMeaning ms → HasNoLooseNames (domain_by G o r ts rs ms)
domain_by-none G None r ts rs ms h k = plain-none G r
domain_by-none G (Some d) r ts rs ms h k = λ z.
    with-none z true (argument_map G d.variables rs ++ zip d.type_arguments ts) (zip (map (λ x. x.name) d.variables) ms) d.domain
    (zip-scoped (map (λ x. x.name) d.variables) ms k) (h z)

mutual
  domain-none : (G : Registry) → AllOf IsScopedDomain G.domain_rules → (r : Relation) → HasNoLooseNames (domain_of G r)
  domain-none G h (relation_variable n t) = plain-none G (equality t)
  domain-none G h (equality t) = plain-none G (equality t)
  domain-none G h (constructed c ts rs) = domain_by-none G (domain_rule_for G c) (constructed c ts rs) ts rs (argument_meanings G rs)
      (found-scoped (λ r. same_name c r.head) G.domain_rules h) (meanings-none G h rs)

  meanings-none : (G : Registry) → AllOf IsScopedDomain G.domain_rules → (rs : Relations) → AllOf IsScopedMeaning (argument_meanings G rs)
  meanings-none G h no_relations = tt
  meanings-none G h (relation_and r rs) = ((relation_term-none G r, domain-none G h r), meanings-none G h rs)

-- what expressions mean for relation variables has no loose names
pub meanings-scoped : (G : Registry) → AllOf IsScopedDomain G.domain_rules → (xs : List Chars) (vs : List Relation)
    → AreScopedMeanings (zip xs (map (meaning_of G) vs))
meanings-scoped G h [] vs = tt
meanings-scoped G h (x ∷ xs) [] = tt
meanings-scoped G h (x ∷ xs) (v ∷ vs) = ((relation_term-none G v, domain-none G h v), meanings-scoped G h xs vs)
