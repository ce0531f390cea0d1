-- The raw sides of rules that are read from statements without loose names have none.
use Rattle.std.specs.Prelude.{◌≡◌, ℕ, ◌+◌, List, [], ◌∷◌, Bool, true, false, ◌&&◌, not, Option, Some, None, Result, codes, option_and_then}
use Rattle.std.specs.Result.{result_ok}
use Rattle.std.specs.List.{filter_map, cons_option}
use Rattle.std.proofs.Common.{refl, subst, sym, ap, ◌∙◌, inl, inr}
use Rattle.lt_definitions.specs.Types.{Chars, same_name, found, TypeTree}
use Rattle.lt_definitions.specs.Terms.{TermTree, free_variable, bound_name, constant, application, abstraction, has_loose, HasNoLooseNames}
use Rattle.lt_definitions.specs.Typing.{Signature}
use Rattle.lt_definitions.proofs.SameNames.{bool_cases}
use Rattle.lt_nameless.proofs.BindingLemmas.{if-true, if-false}
use Rattle.lt_transport_definitions.specs.Relations.{Property, Sides, RelationVariable, Registry}
use Rattle.lt_transport_definitions.specs.Answers.{needs_test, needs}
use Rattle.lt_transport_definitions.specs.Reading.{quantified, relation_name, opened_from, body_of, prefix_of, read_relation}
use Rattle.lt_transport_definitions.specs.RuleForm.{TransferRule, with_side, conditioned, as_related, are_types_right, rule_form}
use Rattle.lt_transport_definitions.specs.Sessions.{Session, rule_now, rules_now}
use Rattle.lt_transport_laws.specs.SessionStatements.{AreScopedStatements}
use Rattle.lt_transport_laws.proofs.Rows.{AllOf}
use Rattle.lt_transport_laws.proofs.LooseNames.{opened-loose, variable-none, head-none, argument-none}

-- opening the quantifiers of a statement leaves its loose names
body-loose : (z : Chars) (i : ℕ) (t : TermTree) → has_loose z (opened_from i (quantified t).0 (quantified t).1) ≡ has_loose z t
body-loose z i (application (constant c ts) (abstraction x ty b)) = elim (bool_cases (same_name c (codes "all"))) [
  | inl s ↦ (λ j. loose-of (if-true (same_name c (codes "all")) ((x, ty) ∷ (quantified b).0, (quantified b).1)
      ([], application (constant c ts) (abstraction x ty b)) s j))
      ∙ opened-loose z x (free_variable (relation_name i) ty) (opened_from (i + 1) (quantified b).0 (quantified b).1) (variable-none (relation_name i) ty)
      ∙ ap (λ l. not (same_name z x) && l) (body-loose z (i + 1) b)
  | inr s ↦ (λ j. loose-of (if-false (same_name c (codes "all")) ((x, ty) ∷ (quantified b).0, (quantified b).1)
      ([], application (constant c ts) (abstraction x ty b)) s j))
]
  where
    loose-of : List (Chars × TypeTree) × TermTree → Bool
    loose-of p = has_loose z (opened_from i p.0 p.1)
body-loose z i (application (constant c ts) (free_variable x ty)) = refl
body-loose z i (application (constant c ts) (bound_name x)) = refl
body-loose z i (application (constant c ts) (constant d us)) = refl
body-loose z i (application (constant c ts) (application f a)) = refl
body-loose z i (application (free_variable x ty) a) = refl
body-loose z i (application (bound_name x) a) = refl
body-loose z i (application (application f b) a) = refl
body-loose z i (application (abstraction x ty b) a) = refl
body-loose z i (free_variable x ty) = refl
body-loose z i (bound_name x) = refl
body-loose z i (constant c ts) = refl
body-loose z i (abstraction x ty b) = refl

pub body-none : (t : TermTree) → HasNoLooseNames t → HasNoLooseNames (body_of t)
body-none t h z = body-loose z 1 t ∙ h z

with_side-none : (o : Option (Property × ℕ)) (whole : TermTree) (behind : Sides × TermTree) → HasNoLooseNames whole → HasNoLooseNames behind.1
    → HasNoLooseNames (with_side o whole behind).1
with_side-none None whole behind h k = h
with_side-none (Some side) whole behind h k = k

-- nor has what stands behind side conditions any
rest-none : (sig : Signature) (xs : List RelationVariable) (t : TermTree) → HasNoLooseNames t → HasNoLooseNames (conditioned sig xs t).1
rest-none sig xs (application (application (constant c ts) p) q) h =
    with_side-none _ (application (application (constant c ts) p) q) (conditioned sig xs q) h
    (rest-none sig xs q (argument-none (application (constant c ts) p) q h))
rest-none sig xs (application (application (free_variable x ty) p) q) h = h
rest-none sig xs (application (application (bound_name x) p) q) h = h
rest-none sig xs (application (application (application f r) p) q) h = h
rest-none sig xs (application (application (abstraction x ty b) p) q) h = h
rest-none sig xs (application (free_variable x ty) q) h = h
rest-none sig xs (application (bound_name x) q) h = h
rest-none sig xs (application (constant c ts) q) h = h
rest-none sig xs (application (abstraction x ty b) q) h = h
rest-none sig xs (free_variable x ty) h = h
rest-none sig xs (bound_name x) h = h
rest-none sig xs (constant c ts) h = h
rest-none sig xs (abstraction x ty b) h = h

-- nor a raw side
abbrev IsScopedRelated : Option (TermTree × TermTree × Chars × List TypeTree) → Type 0
IsScopedRelated None = Unit {0}
IsScopedRelated (Some r) = HasNoLooseNames r.1

related-none : (t : TermTree) → HasNoLooseNames t → IsScopedRelated (as_related t)
related-none (application (application r raw) (constant c ts)) h =
    argument-none r raw (head-none (application r raw) (constant c ts) h)
related-none (application (application r raw) (free_variable x ty)) h = tt
related-none (application (application r raw) (bound_name x)) h = tt
related-none (application (application r raw) (application f a)) h = tt
related-none (application (application r raw) (abstraction x ty b)) h = tt
related-none (application (free_variable x ty) a) h = tt
related-none (application (bound_name x) a) h = tt
related-none (application (constant c ts) a) h = tt
related-none (application (abstraction x ty b) a) h = tt
related-none (free_variable x ty) h = tt
related-none (bound_name x) h = tt
related-none (constant c ts) h = tt
related-none (abstraction x ty b) h = tt

abbrev pub IsScopedRule : TransferRule → Type 0
IsScopedRule rule = HasNoLooseNames rule.raw

abbrev IsScopedOption : Option TransferRule → Type 0
IsScopedOption None = Unit {0}
IsScopedOption (Some rule) = IsScopedRule rule

-- what is said of a result holds where nothing is wrong before it
needs-scoped : {A : Type 0} (o : Option A) (e : Chars) (f : A → Result TransferRule Chars)
    → ((x : A) → o ≡ Some x → IsScopedOption (result_ok (f x))) → IsScopedOption (result_ok (needs o e f))
needs-scoped (Some x) e f h = h x refl
needs-scoped None e f h = tt

test-scoped : (b : Bool) (e : Chars) (r : Result TransferRule Chars) → IsScopedOption (result_ok r) → IsScopedOption (result_ok (needs_test b e r))
test-scoped true e r h = h
test-scoped false e r h = tt

form-scoped : (sig : Signature) (G : Registry) (l : Chars) (t : TermTree) → HasNoLooseNames t → IsScopedOption (result_ok (rule_form sig G l t))
form-scoped sig G l t h = needs-scoped (prefix_of t) (codes "Prefix") _ (λ xs e.
    needs-scoped (as_related (conditioned sig xs (body_of t)).1) (codes "Head") _ (λ found d.
    let raw : HasNoLooseNames found.1 =
    subst IsScopedRelated d (related-none (conditioned sig xs (body_of t)).1 (rest-none sig xs (body_of t) (body-none t h))) in
    needs-scoped (read_relation sig G xs found.0) (codes "Relation") _ (λ r c.
    test-scoped (are_types_right xs t found.3 r) (codes "Types") _ raw)))

rule_of-scoped : (sig : Signature) (G : Registry) (l : Chars) (o : Option TermTree) → ((t : TermTree) → o ≡ Some t → HasNoLooseNames t)
    → IsScopedOption (option_and_then (λ t. result_ok (rule_form sig G l t)) o)
rule_of-scoped sig G l None h = tt
rule_of-scoped sig G l (Some t) h = form-scoped sig G l t (h t refl)

found-statement : (l : Chars) (ps : List (Chars × TermTree)) → AreScopedStatements ps → (t : TermTree) → found l ps ≡ Some t → HasNoLooseNames t
found-statement l [] h t e = absurd (cc)
found-statement l (p ∷ ps) h t e = elim (bool_cases (same_name l p.0)) [
  | inl s ↦ let q : ◌≡◌ {A = Option TermTree} (Some p.1) (Some t) = sym (if-true (same_name l p.0) (Some p.1) (found l ps) s) ∙ e in
      let same : p.1 ≡ t = cc in subst HasNoLooseNames same h.0
  | inr s ↦ found-statement l ps h.1 t (sym (if-false (same_name l p.0) (Some p.1) (found l ps) s) ∙ e)
]

map-scoped : (h : Chars → Option TransferRule) → ((l : Chars) → IsScopedOption (h l)) → (ls : List Chars) → AllOf IsScopedRule (filter_map h ls)
map-scoped h k [] = tt
map-scoped h k (l ∷ ls) = first (h l) (k l) (filter_map h ls) (map-scoped h k ls)
  where
    first : (o : Option TransferRule) → IsScopedOption o → (rules : List TransferRule) → AllOf IsScopedRule rules → AllOf IsScopedRule (cons_option o rules)
    first None h rules k = k
    first (Some rule) h rules k = (h, k)

-- the rules of a session whose statements have no loose names
pub rules-scoped : (s : Session) → AreScopedStatements s.context.statements → AllOf IsScopedRule (rules_now s)
rules-scoped s h = map-scoped (rule_now s.context s.registry) (λ l.
    rule_of-scoped s.context.signature s.registry l (found l s.context.statements) (found-statement l s.context.statements h)) s.rules
