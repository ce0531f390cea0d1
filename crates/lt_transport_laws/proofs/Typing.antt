-- A rule's relation at a match and expressions has the right type of the occurrence.
use Rattle.lt_definitions.specs.Types.{Chars, same_name, row, same_types, TypeTree, type_constructor, TypeTrees, no_types, type_and, bool, fun, TypeMap, type_instance, types_instance, type_names, types_names, type_variables}
use Rattle.lt_definitions.specs.Typing.{Signature, declared_type}
use Rattle.lt_transport_definitions.specs.Relations.{Relation, relation_variable, equality, constructed, Relations, no_relations, relation_and, Parametrised, RelationVariable, Registry, form_for, Kind, no_constructor, a_relator, a_correspondence, a_form, kind_of}
use Rattle.lt_transport_definitions.specs.Expressions.{abstract_type, variables_of, right_of, right, rights, MayHave, IsExpression, AreExpressions}
use Rattle.lt_transport_definitions.specs.RuleForm.{TransferRule}
use Rattle.lt_transport_definitions.specs.Candidates.{type_at, match_of, fits, candidates}
use Rattle.lt_transport_definitions.specs.Correspondence.{relation_instance, relation_instances, AreValues}
use Rattle.std.specs.Prelude.{Bool, true, filter, Some, None}
use Rattle.std.proofs.Common.{◌≡◌, ℕ, zero, suc, arith, List, [], ◌∷◌, length, map, Option, slice_get, refl, subst, sym, ap, ◌∙◌, inl, inr}
use Rattle.std.specs.Option.{unwrap_or}
use Rattle.std.proofs.lemmas.List.{length-map}
use Rattle.std.proofs.lemmas.Option.{slice_get_past}
use Rattle.lt_definitions.proofs.SameNames.{bool_cases, both-true, name-true, row-true}
use Rattle.lt_nameless.proofs.BindingLemmas.{if-true, if-false}
use Rattle.lt_nameless.proofs.Substitutions.{append-left, append-right, joined-has}
use Rattle.lt_transport_laws.specs.Statements.{IsRegistry, VariableIs, IsOver, AreOver, IsTyped, AreTyped}
use Rattle.lt_transport_laws.proofs.Twice.{twice}
use Rattle.lt_transport_laws.proofs.Equalities.{right-equality, expression-equality}

type_at-instance : (sig : Signature) (c : Chars) (m : TypeMap) (ts : List TypeTree) → length ts ≡ length (type_variables (unwrap_or (declared_type sig c) bool))
    → type_at sig c (map (type_instance m) ts) ≡ type_instance m (type_at sig c ts)
type_at-instance sig c m ts l = let d = unwrap_or (declared_type sig c) bool in
    twice m (type_variables d) ts d l (λ a k. joined-has a [] (type_names d) k)

got-typed : (G : Registry) (m : TypeMap) (xs : List RelationVariable) (vs : List Relation) → AreValues G m xs vs → (i : ℕ) (d : Relation) (t : TypeTree) → VariableIs xs i t
    → IsExpression G (unwrap_or (slice_get vs i) d) × (right G (unwrap_or (slice_get vs i) d) ≡ type_instance m t)
got-typed G m [] vs h i d t k = absurd k
got-typed G m (x ∷ xs) [] h i d t k = absurd h
got-typed G m (x ∷ xs) (v ∷ vs) h zero d t k = (h.0, h.1 ∙ ap (type_instance m) (sym k))
got-typed G m (x ∷ xs) (v ∷ vs) h (suc i) d t k = got-typed G m xs vs h.2 i d t k

right_of-put : (G : Registry) → (m : TypeMap) (c : Chars) (ts : List TypeTree) (rs : Relations) (R S : TypeTrees) → R ≡ types_instance m S
    → (k : Kind) → kind_of G c ≡ k → (f : Option Parametrised) → MayHave k f ts rs → right_of k (map (type_instance m) ts) R ≡ type_instance m (right_of k ts S)
right_of-put G m c ts rs R S h no_constructor e f y = absurd y
right_of-put G m c ts rs R S h (a_relator K) e f y = ap (type_constructor K) h
right_of-put G m c ts rs R S h (a_correspondence d) e f y = twice m (variables_of d) ts (abstract_type d) y.0
    (λ a k. joined-has a [] (type_names (fun d.raw (fun (abstract_type d) bool)))
    (append-right a (type_names d.raw) (types_names (type_and (fun (abstract_type d) bool) no_types))
    (append-left a (type_names (fun (abstract_type d) bool)) [] (append-left a (type_names (abstract_type d)) (types_names (type_and bool no_types)) k))))
right_of-put G m c ts rs R S h (a_form d) e f y = ap (type_constructor d.con) h

mutual
  pub right-instance : (G : Registry) → IsRegistry G → (m : TypeMap) (xs : List RelationVariable) (vs : List Relation) → AreValues G m xs vs → (r : Relation) → IsOver G xs r
      → right G (relation_instance G m vs r) ≡ type_instance m (right G r)
  right-instance G ok m xs vs h (relation_variable i t) k = (got-typed G m xs vs h i (relation_variable i t) t k).1
  right-instance G ok m xs vs h (equality t) k = right-equality G ok (type_instance m t)
  right-instance G ok m xs vs h (constructed c ts rs) k =
      right_of-put G m c ts rs (rights G (relation_instances G m vs rs)) (rights G rs) (rights-instances G ok m xs vs h rs k.1) (kind_of G c) refl (form_for G c) k.0

  pub rights-instances : (G : Registry) → IsRegistry G → (m : TypeMap) (xs : List RelationVariable) (vs : List Relation) → AreValues G m xs vs → (rs : Relations) → AreOver G xs rs
      → rights G (relation_instances G m vs rs) ≡ types_instance m (rights G rs)
  rights-instances G ok m xs vs h no_relations k = refl
  rights-instances G ok m xs vs h (relation_and r rs) k =
      let p = right-instance G ok m xs vs h r k.0 in let q = rights-instances G ok m xs vs h rs k.1 in (λ i. type_and (p i) (q i))

none-instances : (G : Registry) (m : TypeMap) (vs : List Relation) (rs : Relations) → rs ≡ no_relations → relation_instances G m vs rs ≡ no_relations
none-instances G m vs no_relations e = refl
none-instances G m vs (relation_and r rs) e = absurd (cc)

may_have-put : (G : Registry) (m : TypeMap) (vs : List Relation) (k : Kind) (f : Option Parametrised) (ts : List TypeTree) (rs : Relations) → MayHave k f ts rs → MayHave k f (map (type_instance m) ts) (relation_instances G m vs rs)
may_have-put G m vs no_constructor f ts rs h = h
may_have-put G m vs (a_relator K) f ts rs h = ap (map (type_instance m)) h
may_have-put G m vs (a_correspondence d) f ts rs h = (length-map ts (type_instance m) ∙ h.0, none-instances G m vs rs h.1, h.2)
may_have-put G m vs (a_form d) f ts rs h = ap (map (type_instance m)) h

mutual
  pub instance-expression : (G : Registry) → IsRegistry G → (m : TypeMap) (xs : List RelationVariable) (vs : List Relation) → AreValues G m xs vs → (r : Relation) → IsOver G xs r → IsExpression G (relation_instance G m vs r)
  instance-expression G ok m xs vs h (relation_variable i t) k = (got-typed G m xs vs h i (relation_variable i t) t k).0
  instance-expression G ok m xs vs h (equality t) k = expression-equality G ok (type_instance m t)
  instance-expression G ok m xs vs h (constructed c ts rs) k = (may_have-put G m vs (kind_of G c) (form_for G c) ts rs k.0, instances-expressions G ok m xs vs h rs k.1)

  pub instances-expressions : (G : Registry) → IsRegistry G → (m : TypeMap) (xs : List RelationVariable) (vs : List Relation) → AreValues G m xs vs → (rs : Relations) → AreOver G xs rs → AreExpressions G (relation_instances G m vs rs)
  instances-expressions G ok m xs vs h no_relations k = tt
  instances-expressions G ok m xs vs h (relation_and r rs) k = (instance-expression G ok m xs vs h r k.0, instances-expressions G ok m xs vs h rs k.1)

-- a rule has passed a test, and is typed
abbrev pub Passed : Registry → Signature → (TransferRule → Bool) → TransferRule → Type 0
Passed G S f rule = (f rule ≡ true) × IsTyped G S rule

-- the first of a list, or one behind it
first-or-behind : (G : Registry) (S : Signature) (f : TransferRule → Bool) (r : TransferRule) (rules : List TransferRule) (i : ℕ) (rule : TransferRule)
    → Passed G S f r → ((j : ℕ) → slice_get rules j ≡ Some rule → Passed G S f rule) → slice_get (r ∷ rules) i ≡ Some rule → Passed G S f rule
first-or-behind G S f r rules zero rule p k h = let e : r ≡ rule = cc in subst (Passed G S f) e p
first-or-behind G S f r rules (suc i) rule p k h = k i h

-- what stands among those of a list that pass a test passes it, and has what each of the list has
pub among : (G : Registry) (S : Signature) (f : TransferRule → Bool) (rules : List TransferRule) (i : ℕ) (rule : TransferRule)
    → AreTyped G S rules → slice_get (filter f rules) i ≡ Some rule → Passed G S f rule
among G S f [] i rule t h = let e : ◌≡◌ {A = Option TransferRule} None (Some rule) = sym (slice_get_past [] i (omega arith)) ∙ h in absurd (cc)
among G S f (r ∷ rules) i rule t h = elim (bool_cases (f r)) [
  | inr n ↦ among G S f rules i rule t.1 (sym (ap (λ xs. slice_get xs i) (if-false (f r) (r ∷ filter f rules) (filter f rules) n)) ∙ h)
  | inl y ↦ first-or-behind G S f r (filter f rules) i rule (y, t.0) (λ j k. among G S f rules j rule t.1 k)
      (sym (ap (λ xs. slice_get xs i) (if-true (f r) (r ∷ filter f rules) (filter f rules) y)) ∙ h)
]

-- a rule that fits is one of the constant, and its pattern at the match is the constant's type arguments
fitting : (c : Chars) (ts : List TypeTree) (rule : TransferRule) → fits c ts rule ≡ true → (rule.constant ≡ c) × (map (type_instance (match_of rule ts)) rule.pattern ≡ ts)
fitting c ts rule h =
    let both = both-true (same_name rule.constant c) (same_types (row (map (type_instance (match_of rule ts)) rule.pattern)) (row ts)) h in
    (name-true rule.constant c both.0, row-true (map (type_instance (match_of rule ts)) rule.pattern) ts both.1)

-- the expression of a chosen rule is one, and has the right type of its occurrence
pub chosen-typed : (G : Registry) → IsRegistry G → (signature : Signature) (rules : List TransferRule) (c : Chars) (ts : List TypeTree) (i : ℕ) (rule : TransferRule) (vs : List Relation)
    → AreTyped G signature rules → slice_get (candidates rules c ts) i ≡ Some rule → AreValues G (match_of rule ts) rule.variables vs
    → IsExpression G (relation_instance G (match_of rule ts) vs rule.relation) × (right G (relation_instance G (match_of rule ts) vs rule.relation) ≡ type_at signature c ts)
chosen-typed G ok S rules c ts i rule vs t h v =
    let m = match_of rule ts in
    let k = among G S (fits c ts) rules i rule t h in
    let w = fitting c ts rule k.0 in (
      instance-expression G ok m rule.variables vs v rule.relation k.1.formed,
      right-instance G ok m rule.variables vs v rule.relation k.1.formed ∙ ap (type_instance m) k.1.typed
          ∙ sym (type_at-instance S rule.constant m rule.pattern k.1.counted) ∙ (λ j. type_at S (w.0 j) (w.1 j)),
    )
