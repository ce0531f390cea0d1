-- Replacements of the right types, and the expressions and equations of a statement under them.
use Rattle.std.specs.Prelude.{if◌then◌else◌}
use Rattle.std.proofs.Common.{◌≡◌, ℕ, zero, suc, ◌+◌, List, [], ◌∷◌, ◌++◌, length, Some, slice_get, refl, subst, sym, ap, ◌∙◌, inl, inr, arith}
use Rattle.std.proofs.lemmas.Bool.{cases_Bool}
use Rattle.lt_definitions.specs.Types.{Chars, same_name, found, TypeTree, fun, TypeMap}
use Rattle.lt_definitions.specs.Terms.{TermTree, free_variable, bound_name, constant, application, abstraction}
use Rattle.lt_definitions.specs.Typing.{Signature}
use Rattle.lt_transport_definitions.specs.Relations.{Relation, relation_variable, equality, constructed, Relations, no_relations, relation_and, relation_row, RelationVariable, Registry, kind_of}
use Rattle.lt_transport_definitions.specs.Expressions.{right_of, right, normal_equality, IsExpression, function_relator}
use Rattle.lt_transport_definitions.specs.Below.{Below, AreBelow, SideAt}
use Rattle.lt_transport_definitions.specs.RuleForm.{TransferRule}
use Rattle.lt_transport_definitions.specs.Candidates.{type_at, match_of, fits, candidates}
use Rattle.lt_transport_definitions.specs.Correspondence.{ChosenStatement, chosen_name, chosen_rule, chosen_equality, not_chosen, chosen_application, chosen_abstraction, statement_of, Assignment, AreCandidates, relation_instance, AreValues, IsAssignment, Corresponds}
use Rattle.lt_transport_laws.proofs.Sides.{EachBelow}
use Rattle.lt_unify.specs.Solutions.{AllRelated}
use Rattle.lt_transport_laws.specs.Statements.{IsRegistry, AreTyped}
use Rattle.lt_transport_laws.proofs.Sides.{each_holds-map}
use Rattle.lt_transport_laws.proofs.Equalities.{right-equality, expression-equality}
use Rattle.lt_transport_laws.proofs.Lowers.{are_below-rights}
use Rattle.lt_transport_laws.proofs.Assignments.{has-below, BelowIn}
use Rattle.lt_transport_laws.proofs.Typing.{among, chosen-typed}
use Rattle.lt_search_laws.specs.Equations.{under, all_under, size, rule_slots, numbered, reading, bound_in, expression_at, applied_equation, structure_at, choices_at}
use Rattle.lt_search_laws.specs.RelationTrees.{relation_tree, equation_trees}
use Rattle.lt_search_laws.specs.Slots.{SlotsOf, HasNodes, HasChoices, SidesHold}
use Rattle.lt_search_laws.proofs.Parts.{tree_type, same_right, is-same, IsFitting, expression-typed, Comes}
use Rattle.lt_search_laws.proofs.Systems.{IsNumbered, under-equality, under-instance, IsProper, names_under, binds-under, Gives, node_values, node_values-length, rule_values, rule_values-length}

pub function-comes : (G : Registry) (r s : Relation) (t u : TypeTree) → Comes G r t → Comes G s u → Comes G (function_relator r s) (fun t u)
function-comes G r s t u h k =
    let p = h.right_is in
    let q = k.right_is in
    record { expression = (refl, (h.expression, (k.expression, tt))); right_is = (λ i. fun (p i) (q i)) }

pub result-comes : (G : Registry) (r s : Relation) (t u : TypeTree) → Comes G (function_relator r s) (fun t u) → Comes G s u
result-comes G r s t u h =
    let p : fun (right G r) (right G s) ≡ fun t u = h.right_is in
    let q : right G s ≡ u = cc (p) in
    record { expression = h.expression.1.1.0; right_is = q }

pub fit-comes : (G : Registry) (τ : ℕ → TypeTree) (e : ℕ → Relation) → IsFitting G τ e → (n : ℕ) (t : TypeTree) → τ n ≡ t → Comes G (e n) t
fit-comes G τ e ok n t h = record { expression = ok.expressions n; right_is = ok.types n ∙ h }

pub equality-comes : (G : Registry) → IsRegistry G → (t : TypeTree) → Comes G (normal_equality G t) t
equality-comes G ok t = record { expression = expression-equality G ok t; right_is = right-equality G ok t }

pub equality-fits : (G : Registry) → IsRegistry G → (τ : ℕ → TypeTree) → IsFitting G τ (λ k. normal_equality G (τ k))
equality-fits G ok τ = record { expressions = λ k. expression-equality G ok (τ k); types = λ k. right-equality G ok (τ k) }

pub values-fit : (G : Registry) (τ : ℕ → TypeTree) (e : ℕ → Relation) → IsFitting G τ e → (n : ℕ) (m : TypeMap) (xs : List RelationVariable) → SlotsOf τ n m xs → AreValues G m xs (numbered e n xs)
values-fit G τ e ok n m [] h = tt
values-fit G τ e ok n m (x ∷ xs) h = (ok.expressions n, ok.types n ∙ h.0, values-fit G τ e ok (suc n) m xs h.1)

pub rule-comes : (G : Registry) → IsRegistry G → (sig : Signature) (rules : List TransferRule) → AreTyped G sig rules → (c : Chars) (ts : List TypeTree) (i : ℕ) (rule : TransferRule) (vs : List Relation) (ty : TypeTree)
    → slice_get (candidates rules c ts) i ≡ Some rule → AreValues G (match_of rule ts) rule.variables vs → type_at sig c ts ≡ ty → Comes G (relation_instance G (match_of rule ts) vs rule.relation) ty
rule-comes G ok sig rules are_typed c ts i rule vs ty h v e = let k = chosen-typed G ok sig rules c ts i rule vs are_typed h v in record { expression = k.0; right_is = k.1 ∙ e }

-- names with expressions under a replacement, of their types
abbrev pub NamesFit : Registry → List (Chars × Relation) → List (Chars × TypeTree) → Type 0
NamesFit G [] [] = Unit {0}
NamesFit G (p ∷ ps) (q ∷ qs) = (p.0 ≡ q.0) × Comes G p.1 q.1 × NamesFit G ps qs
NamesFit G _ _ = ⊥

pub name-fits : (G : Registry) (names : List (Chars × Relation)) (env : List (Chars × TypeTree)) (x : Chars) (e : Relation) (ty : TypeTree)
    → NamesFit G names env → found x env ≡ Some ty → found x names ≡ Some e → Comes G e ty
name-fits G [] [] x e ty h k l = absurd (cc (k))
name-fits G [] (q ∷ qs) x e ty h k l = absurd h
name-fits G (p ∷ ps) [] x e ty h k l = absurd h
name-fits G (p ∷ ps) (q ∷ qs) x e ty h k l =
    let o : (if same_name x p.0 then Some q.1 else found x qs) ≡ Some ty = subst (λ z. (if same_name x z then Some q.1 else found x qs) ≡ Some ty) (sym h.0) k in
    elim (cases_Bool (same_name x p.0)) [
      | inl y ↦ (let a : Some q.1 ≡ Some ty = subst (λ b. (if b then Some q.1 else found x qs) ≡ Some ty) y o in
          let b : Some p.1 ≡ Some e = subst (λ b. (if b then Some p.1 else found x ps) ≡ Some e) y l in
          let c : q.1 ≡ ty = cc (a) in
          let d : p.1 ≡ e = cc (b) in subst (Comes G e) c (subst (λ z. Comes G z q.1) d h.1))
      | inr y ↦ name-fits G ps qs x e ty h.2 (subst (λ b. (if b then Some q.1 else found x qs) ≡ Some ty) y o) (subst (λ b. (if b then Some p.1 else found x ps) ≡ Some e) y l)
    ]

pub name-there : (G : Registry) (names : List (Chars × Relation)) (env : List (Chars × TypeTree)) (x : Chars) (ty : TypeTree)
    → NamesFit G names env → found x env ≡ Some ty → (e : Relation) × (found x names ≡ Some e)
name-there G [] [] x ty h k = absurd (cc (k))
name-there G [] (q ∷ qs) x ty h k = absurd h
name-there G (p ∷ ps) [] x ty h k = absurd h
name-there G (p ∷ ps) (q ∷ qs) x ty h k =
    let o : (if same_name x p.0 then Some q.1 else found x qs) ≡ Some ty = subst (λ z. (if same_name x z then Some q.1 else found x qs) ≡ Some ty) (sym h.0) k in
    elim (cases_Bool (same_name x p.0)) [
      | inl y ↦ (p.1, ap (λ b. if b then Some p.1 else found x ps) y)
      | inr y ↦ (let w = name-there G ps qs x ty h.2 (subst (λ b. (if b then Some q.1 else found x qs) ≡ Some ty) y o) in
          (w.0, ap (λ b. if b then Some p.1 else found x ps) y ∙ w.1))
    ]

-- names whose expressions fit when a replacement is put
abbrev pub UnderFit : Registry → (ℕ → Relation) → List (Chars × Relation) → List (Chars × TypeTree) → Type 0
UnderFit G e names env = NamesFit G (names_under e names) env

-- the name is bound
pub bound-there : (e : ℕ → Relation) (names : List (Chars × Relation)) (x : Chars) (d : Relation) → found x (names_under e names) ≡ Some d → (c : Relation) × (found x names ≡ Some c)
bound-there e [] x d h = absurd (cc (h))
bound-there e (p ∷ ps) x d h = elim (cases_Bool (same_name x p.0)) [
  | inl y ↦ (p.1, ap (λ b. if b then Some p.1 else found x ps) y)
  | inr y ↦ (let w = bound-there e ps x d (subst (λ b. (if b then Some (under e p.1) else found x (names_under e ps)) ≡ Some d) y h) in
      (w.0, ap (λ b. if b then Some p.1 else found x ps) y ∙ w.1))
]

-- a chosen statement with types for its nodes is proper
pub slots-proper : (G : Registry) (sig : Signature) (rules : List TransferRule) → AreTyped G sig rules → (τ : ℕ → TypeTree) (k : ℕ) (names : List (Chars × Relation)) (env : List (Chars × TypeTree)) (K : ChosenStatement) (ty : TypeTree)
    → HasNodes sig τ k env (statement_of K) ty → AreCandidates rules K → ((x : Chars) (t : TypeTree) → found x env ≡ Some t → (c : Relation) × (found x names ≡ Some c)) → IsProper G names K
slots-proper G sig rules are_typed τ k names env (chosen_name x) ty h c b = b x ty h.0
slots-proper G sig rules are_typed τ k names env (chosen_rule d ts i rule) ty h c b = (among G sig (fits d ts) rules i rule are_typed c).1.formed
slots-proper G sig rules are_typed τ k names env (chosen_equality d ts) ty h c b = tt
slots-proper G sig rules are_typed τ k names env (not_chosen d ts) ty h c b = tt
slots-proper G sig rules are_typed τ k names env (chosen_application f a) ty h c b = (
  slots-proper G sig rules are_typed τ k names env f (fun h.0 ty) h.2 c.0 b,
  slots-proper G sig rules are_typed τ (k + size (statement_of f)) names env a h.0 h.3 c.1 b,
)
slots-proper G sig rules are_typed τ k names env (chosen_abstraction x u d) ty h c b =
    λ r. slots-proper G sig rules are_typed τ k ((x, r) ∷ names) ((x, u) ∷ env) d h.0 h.3 c (λ y t l. bind x u r names env b y t l)
  where
    bind : (x : Chars) (u : TypeTree) (r : Relation) (names : List (Chars × Relation)) (env : List (Chars × TypeTree)) → ((x : Chars) (t : TypeTree) → found x env ≡ Some t → (c : Relation) × (found x names ≡ Some c))
        → (y : Chars) (t : TypeTree) → found y ((x, u) ∷ env) ≡ Some t → (c : Relation) × (found y ((x, r) ∷ names) ≡ Some c)
    bind x u r names env b y t l = elim (cases_Bool (same_name y x)) [
      | inl z ↦ (r, ap (λ q. if q then Some r else found y names) z)
      | inr z ↦ (let w = b y t (subst (λ q. (if q then Some u else found y env) ≡ Some t) z l) in (w.0, ap (λ q. if q then Some r else found y names) z ∙ w.1))
    ]

-- the expression of a statement has its type under a fitting replacement
pub expression-comes : (G : Registry) (sig : Signature) (τ : ℕ → TypeTree) (e var : ℕ → Relation) → IsFitting G τ e → IsNumbered var
    → (k : ℕ) (names : List (Chars × Relation)) (env : List (Chars × TypeTree)) (t : TermTree) (ty : TypeTree) → HasNodes sig τ k env t ty → UnderFit G e names env
    → Comes G (under e (expression_at var k names t)) ty
expression-comes G sig τ e var fit num k names env (free_variable x u) ty h l = absurd h
expression-comes G sig τ e var fit num k names env (bound_name x) ty h l =
    let w = name-there G (names_under e names) env x ty l h.0 in
    let b = bound-there e names x w.0 w.1 in
    name-fits G (names_under e names) env x (under e (bound_in names x)) ty l h.0 (binds-under e names x b.0 b.1)
expression-comes G sig τ e var fit num k names env (constant c ts) ty h l = subst (λ r. Comes G r ty) (sym (num e k)) (fit-comes G τ e fit k ty h.1)
expression-comes G sig τ e var fit num k names env (application f a) ty h l =
    subst (λ r. Comes G r ty) (sym (num e (k + size f + size a))) (fit-comes G τ e fit (k + size f + size a) ty h.1)
expression-comes G sig τ e var fit num k names env (abstraction x u b) ty h l =
    let n = k + size b in
    let v : Comes G (under e (var n)) u = subst (λ r. Comes G r u) (sym (num e n)) (fit-comes G τ e fit n u h.2) in
    let w = expression-comes G sig τ e var fit num k ((x, var n) ∷ names) ((x, u) ∷ env) b h.0 h.3 (refl, v, l) in
    subst (Comes G (function_relator (under e (var n)) (under e (expression_at var k ((x, var n) ∷ names) b)))) h.1
    (function-comes G (under e (var n)) (under e (expression_at var k ((x, var n) ∷ names) b)) u h.0 v w)

-- both sides of each equation are expressions of one right type
abbrev pub AllAlike : Registry → (ℕ → Relation) → List (Relation × Relation) → Type 0
AllAlike G e [] = Unit {0}
AllAlike G e (q ∷ es) = ((t : TypeTree) × Comes G (under e q.0) t × Comes G (under e q.1) t) × AllAlike G e es

pub alike-both : (G : Registry) (e : ℕ → Relation) (es fs : List (Relation × Relation)) → AllAlike G e es → AllAlike G e fs → AllAlike G e (es ++ fs)
alike-both G e [] fs h k = k
alike-both G e (x ∷ es) fs h k = (h.0, alike-both G e es fs h.1 k)

pub structure-alike : (G : Registry) (sig : Signature) (τ : ℕ → TypeTree) (e var : ℕ → Relation) → IsFitting G τ e → IsNumbered var
    → (k : ℕ) (names : List (Chars × Relation)) (env : List (Chars × TypeTree)) (t : TermTree) (ty : TypeTree) → HasNodes sig τ k env t ty → UnderFit G e names env
    → AllAlike G e (structure_at var k names t)
structure-alike G sig τ e var fit num k names env (free_variable x u) ty h l = tt
structure-alike G sig τ e var fit num k names env (bound_name x) ty h l = tt
structure-alike G sig τ e var fit num k names env (constant c ts) ty h l = tt
structure-alike G sig τ e var fit num k names env (application f a) ty h l =
    let c = k + size f in
    let n = k + size f + size a in
    let x = expression-comes G sig τ e var fit num k names env f (fun h.0 ty) h.2 l in
    let y = expression-comes G sig τ e var fit num c names env a h.0 h.3 l in
    let v : Comes G (under e (var n)) ty = subst (λ r. Comes G r ty) (sym (num e n)) (fit-comes G τ e fit n ty h.1) in
    alike-both G e (structure_at var k names f) (structure_at var c names a ++ applied_equation var k names f a ∷ [])
    (structure-alike G sig τ e var fit num k names env f (fun h.0 ty) h.2 l)
    (alike-both G e (structure_at var c names a) (applied_equation var k names f a ∷ [])
    (structure-alike G sig τ e var fit num c names env a h.0 h.3 l)
    ((fun h.0 ty, x, function-comes G (under e (expression_at var c names a)) (under e (var n)) h.0 ty y v), tt))
structure-alike G sig τ e var fit num k names env (abstraction x u b) ty h l =
    let n = k + size b in
    let v : Comes G (under e (var n)) u = subst (λ r. Comes G r u) (sym (num e n)) (fit-comes G τ e fit n u h.2) in
    structure-alike G sig τ e var fit num k ((x, var n) ∷ names) ((x, u) ∷ env) b h.0 h.3 (refl, v, l)

pub choices-alike : (G : Registry) → IsRegistry G → (sig : Signature) (rules : List TransferRule) → AreTyped G sig rules → (τ : ℕ → TypeTree) (e var : ℕ → Relation) → IsFitting G τ e → IsNumbered var
    → (k m : ℕ) (env : List (Chars × TypeTree)) (K : ChosenStatement) (ty : TypeTree) → HasNodes sig τ k env (statement_of K) ty → HasChoices τ m K → AreCandidates rules K
    → AllAlike G e (choices_at G sig var k m K)
choices-alike G ok sig rules are_typed τ e var fit num k m env (chosen_name x) ty h s c = tt
choices-alike G ok sig rules are_typed τ e var fit num k m env (chosen_rule d ts i rule) ty h s c =
    let v : Comes G (under e (var k)) ty = subst (λ r. Comes G r ty) (sym (num e k)) (fit-comes G τ e fit k ty h.1) in
    let w = subst (λ r. Comes G r ty) (sym (under-instance G (match_of rule ts) e var num m rule.variables rule.relation (among G sig (fits d ts) rules i rule are_typed c).1.formed))
    (rule-comes G ok sig rules are_typed d ts i rule (numbered e m rule.variables) ty c (values-fit G τ e fit m (match_of rule ts) rule.variables s) h.0) in
    ((ty, v, w), tt)
choices-alike G ok sig rules are_typed τ e var fit num k m env (chosen_equality d ts) ty h s c =
    let v : Comes G (under e (var k)) ty = subst (λ r. Comes G r ty) (sym (num e k)) (fit-comes G τ e fit k ty h.1) in
    let w = subst (λ r. Comes G r ty) (sym (under-equality G e (type_at sig d ts))) (subst (Comes G (normal_equality G (type_at sig d ts))) h.0 (equality-comes G ok (type_at sig d ts))) in
    ((ty, v, w), tt)
choices-alike G ok sig rules are_typed τ e var fit num k m env (not_chosen d ts) ty h s c = tt
choices-alike G ok sig rules are_typed τ e var fit num k m env (chosen_application f a) ty h s c =
    let l = k + size (statement_of f) in
    alike-both G e (choices_at G sig var l m a) (choices_at G sig var k (m + rule_slots a) f)
    (choices-alike G ok sig rules are_typed τ e var fit num l m env a h.0 h.3 s.0 c.1)
    (choices-alike G ok sig rules are_typed τ e var fit num k (m + rule_slots a) env f (fun h.0 ty) h.2 s.1 c.0)
choices-alike G ok sig rules are_typed τ e var fit num k m env (chosen_abstraction x u b) ty h s c =
    choices-alike G ok sig rules are_typed τ e var fit num k m ((x, u) ∷ env) b h.0 h.3 s c

-- alike equations pass the test of right types
pub alike-related : (G : Registry) (τ : ℕ → TypeTree) (e : ℕ → Relation) → IsFitting G τ e → (es : List (Relation × Relation)) → AllAlike G e es → AllRelated (same_right G τ) (equation_trees es)
alike-related G τ e fit [] h = tt
alike-related G τ e fit (q ∷ es) h =
    let t = h.0.0 in
    let a = h.0.1 in
    let b = h.0.2 in (
      is-same (tree_type G τ (relation_tree q.0)) (tree_type G τ (relation_tree q.1)) t
          (expression-typed G τ e fit q.0 a.expression ∙ ap Some a.right_is) (expression-typed G τ e fit q.1 b.expression ∙ ap Some b.right_is),
      alike-related G τ e fit es h.1,
    )

-- a fitting replacement under which the side conditions hold gives an assignment
pub reading-assigned : (G : Registry) (sig : Signature) (τ : ℕ → TypeTree) (e : ℕ → Relation) → IsFitting G τ e → (k m : ℕ) (env : List (Chars × TypeTree)) (K : ChosenStatement) (ty : TypeTree)
    → HasNodes sig τ k env (statement_of K) ty → HasChoices τ m K → SidesHold G K (reading e k m K) → IsAssignment G sig K (reading e k m K)
reading-assigned G sig τ e fit k m env (chosen_name x) ty h s c = tt
reading-assigned G sig τ e fit k m env (chosen_rule d ts i rule) ty h s c = (values-fit G τ e fit m (match_of rule ts) rule.variables s, c)
reading-assigned G sig τ e fit k m env (chosen_equality d ts) ty h s c = tt
reading-assigned G sig τ e fit k m env (not_chosen d ts) ty h s c = (fit.expressions k, fit.types k ∙ h.1 ∙ sym h.0)
reading-assigned G sig τ e fit k m env (chosen_application f a) ty h s c = (
  reading-assigned G sig τ e fit k (m + rule_slots a) env f (fun h.0 ty) h.2 s.1 c.0,
  reading-assigned G sig τ e fit (k + size (statement_of f)) m env a h.0 h.3 s.0 c.1,
)
reading-assigned G sig τ e fit k m env (chosen_abstraction x u b) ty h s c =
    let n = k + size (statement_of b) in
    (fit.expressions n, fit.types n ∙ h.2, reading-assigned G sig τ e fit k m ((x, u) ∷ env) b h.0 h.3 s c)

pub assigned-sides : (G : Registry) (sig : Signature) (K : ChosenStatement) (v : Assignment K) → IsAssignment G sig K v → SidesHold G K v
assigned-sides G sig (chosen_name x) v h = tt
assigned-sides G sig (chosen_rule c ts i rule) v h = h.1
assigned-sides G sig (chosen_equality c ts) v h = tt
assigned-sides G sig (not_chosen c ts) v h = tt
assigned-sides G sig (chosen_application f a) v h = (assigned-sides G sig f v.0 h.0, assigned-sides G sig a v.1 h.1)
assigned-sides G sig (chosen_abstraction x u b) v h = assigned-sides G sig b v.1 h.2

pub sides-below : (G : Registry) (K : ChosenStatement) (v w : Assignment K) → BelowIn G K v w → SidesHold G K w → SidesHold G K v
sides-below G (chosen_name x) v w h k = tt
sides-below G (chosen_rule c ts i rule) v w h k = each_holds-map rule.sides (SideAt G (relation_row w)) (SideAt G (relation_row v)) (λ j p. has-below G v w j p h) k
sides-below G (chosen_equality c ts) v w h k = tt
sides-below G (not_chosen c ts) v w h k = tt
sides-below G (chosen_application f a) v w h k = (sides-below G f v.0 w.0 h.0 k.0, sides-below G a v.1 w.1 h.1 k.1)
sides-below G (chosen_abstraction x u b) v w h k = sides-below G b v.1 w.1 h.1 k

numbered-below : (G : Registry) (s t : ℕ → Relation) → ((n : ℕ) → Below G (s n) (t n)) → (n : ℕ) (xs : List RelationVariable) → EachBelow G (numbered s n xs) (numbered t n xs)
numbered-below G s t h n [] = tt
numbered-below G s t h n (x ∷ xs) = (h n, numbered-below G s t h (suc n) xs)

pub reading-below : (G : Registry) (s t : ℕ → Relation) → ((n : ℕ) → Below G (s n) (t n)) → (k m : ℕ) (K : ChosenStatement) → BelowIn G K (reading s k m K) (reading t k m K)
reading-below G s t h k m (chosen_name x) = tt
reading-below G s t h k m (chosen_rule c ts i rule) = numbered-below G s t h m rule.variables
reading-below G s t h k m (chosen_equality c ts) = tt
reading-below G s t h k m (not_chosen c ts) = h k
reading-below G s t h k m (chosen_application f a) =
    (reading-below G s t h k (m + rule_slots a) f, reading-below G s t h (k + size (statement_of f)) m a)
reading-below G s t h k m (chosen_abstraction x u b) = (h (k + size (statement_of b)), reading-below G s t h k m b)

mutual
  pub under-below : (G : Registry) (s t : ℕ → Relation) → ((n : ℕ) → Below G (s n) (t n)) → (r : Relation) → Below G (under s r) (under t r)
  under-below G s t h (relation_variable n u) = h n
  under-below G s t h (equality u) = (refl, refl)
  under-below G s t h (constructed c ts rs) =
      let k = all_under-below G s t h rs in
      (ap (right_of (kind_of G c) ts) (are_below-rights G (all_under s rs) (all_under t rs) k), inr (refl, refl, k))

  pub all_under-below : (G : Registry) (s t : ℕ → Relation) → ((n : ℕ) → Below G (s n) (t n)) → (rs : Relations) → AreBelow G (all_under s rs) (all_under t rs)
  all_under-below G s t h no_relations = tt
  all_under-below G s t h (relation_and r rs) = (under-below G s t h r, all_under-below G s t h rs)

mutual
  pub under-under : (s t : ℕ → Relation) (r : Relation) → under s (under t r) ≡ under (λ n. under s (t n)) r
  under-under s t (relation_variable n u) = refl
  under-under s t (equality u) = refl
  under-under s t (constructed c ts rs) = ap (constructed c ts) (all_under-under s t rs)

  pub all_under-under : (s t : ℕ → Relation) (rs : Relations) → all_under s (all_under t rs) ≡ all_under (λ n. under s (t n)) rs
  all_under-under s t no_relations = refl
  all_under-under s t (relation_and r rs) = let p = under-under s t r in let q = all_under-under s t rs in (λ i. relation_and (p i) (q i))

-- Every correspondence fits.

abbrev pub ValuesFit : Registry → (ℕ → TypeTree) → ℕ → List Relation → Type 0
ValuesFit G τ n [] = Unit {0}
ValuesFit G τ n (v ∷ vs) = Comes G v (τ n) × ValuesFit G τ (suc n) vs

pub fit-append : (G : Registry) (τ : ℕ → TypeTree) (n m : ℕ) (us vs : List Relation) → m ≡ n + length us → ValuesFit G τ n us → ValuesFit G τ m vs → ValuesFit G τ n (us ++ vs)
fit-append G τ n m [] vs e h k = let p : m ≡ n = omega arith in subst (λ z. ValuesFit G τ z vs) p k
fit-append G τ n m (u ∷ us) vs e h k = (h.0, fit-append G τ (suc n) m us vs (omega arith) h.1 k)

rule-fit : (G : Registry) (τ : ℕ → TypeTree) (n : ℕ) (m : TypeMap) (xs : List RelationVariable) (vs : List Relation) → SlotsOf τ n m xs → AreValues G m xs vs → ValuesFit G τ n vs
rule-fit G τ n m [] [] h k = tt
rule-fit G τ n m [] (v ∷ vs) h k = absurd k
rule-fit G τ n m (x ∷ xs) [] h k = absurd k
rule-fit G τ n m (x ∷ xs) (v ∷ vs) h k = (record { expression = k.0; right_is = k.1 ∙ sym h.0 }, rule-fit G τ (suc n) m xs vs h.1 k.2)

pub record AllFit (G : Registry) (τ : ℕ → TypeTree) (k m : ℕ) (e : Relation) (ty : TypeTree) (vs ws : List Relation) : Type 0 where
  pub whole : Comes G e ty
  pub each : ValuesFit G τ k vs
  pub picked : ValuesFit G τ m ws

-- an expression of a node's type fits its variable
node-fit : (G : Registry) (τ : ℕ → TypeTree) (k : ℕ) (e : Relation) (ty : TypeTree) → τ k ≡ ty → Comes G e ty → ValuesFit G τ k (e ∷ [])
node-fit G τ k e ty p h = (record { expression = h.expression; right_is = h.right_is ∙ sym p }, tt)

pub correspondence-fits : (G : Registry) → IsRegistry G → (sig : Signature) (rules : List TransferRule) → AreTyped G sig rules → (τ : ℕ → TypeTree) (k m : ℕ) (names : List (Chars × Relation)) (env : List (Chars × TypeTree)) (K : ChosenStatement) (ty : TypeTree)
    → HasNodes sig τ k env (statement_of K) ty → HasChoices τ m K → AreCandidates rules K → NamesFit G names env → (v : Assignment K) (e : Relation) → IsAssignment G sig K v → (h : Corresponds G sig names K v e)
    → AllFit G τ k m e ty (node_values G sig names K v e h) (rule_values K v)
correspondence-fits G ok sig rules are_typed τ k m names env (chosen_name x) ty s o c l v e a h =
    let w = name-fits G names env x e ty l s.0 h in record { whole = w; each = node-fit G τ k e ty s.1 w; picked = tt }
correspondence-fits G ok sig rules are_typed τ k m names env (chosen_rule d ts i rule) ty s o c l v e a h =
    let w = subst (λ r. Comes G r ty) (sym h) (rule-comes G ok sig rules are_typed d ts i rule v ty c a.0 s.0) in
    record { whole = w; each = node-fit G τ k e ty s.1 w; picked = rule-fit G τ m (match_of rule ts) rule.variables v o a.0 }
correspondence-fits G ok sig rules are_typed τ k m names env (chosen_equality d ts) ty s o c l v e a h =
    let w = subst (λ r. Comes G r ty) (sym h) (subst (Comes G (normal_equality G (type_at sig d ts))) s.0 (equality-comes G ok (type_at sig d ts))) in
    record { whole = w; each = node-fit G τ k e ty s.1 w; picked = tt }
correspondence-fits G ok sig rules are_typed τ k m names env (not_chosen d ts) ty s o c l v e a h =
    let w : Comes G e ty = record { expression = subst (IsExpression G) (sym h) a.0; right_is = ap (right G) h ∙ a.1 ∙ s.0 } in
    record { whole = w; each = node-fit G τ k e ty s.1 w; picked = tt }
correspondence-fits G ok sig rules are_typed τ k m names env (chosen_application f b) ty s o c l v e a h =
    let p = k + size (statement_of f) in
    let n = k + size (statement_of f) + size (statement_of b) in
    let x = correspondence-fits G ok sig rules are_typed τ k (m + rule_slots b) names env f (fun s.0 ty) s.2 o.1 c.0 l v.0 (function_relator h.0 e) a.0 h.2 in
    let y = correspondence-fits G ok sig rules are_typed τ p m names env b s.0 s.3 o.0 c.1 l v.1 h.0 a.1 h.1 in
    let z = result-comes G h.0 e s.0 ty x.whole in
    let fs = node_values G sig names f v.0 (function_relator h.0 e) h.2 in
    let bs = node_values G sig names b v.1 h.0 h.1 in
    let fl = node_values-length G sig names f v.0 (function_relator h.0 e) h.2 in
    let bl = node_values-length G sig names b v.1 h.0 h.1 in
    let rl = rule_values-length G sig b v.1 a.1 in
    record {
      whole = z;
      each = fit-append G τ k p fs (bs ++ e ∷ []) (omega arith) x.each (fit-append G τ p n bs (e ∷ []) (omega arith) y.each (node-fit G τ n e ty s.1 z));
      picked = fit-append G τ m (m + rule_slots b) (rule_values b v.1) (rule_values f v.0) (omega arith) y.picked x.picked;
    }
correspondence-fits G ok sig rules are_typed τ k m names env (chosen_abstraction x u b) ty s o c l v e a h =
    let n = k + size (statement_of b) in
    let w : Comes G v.0 u = record { expression = a.0; right_is = a.1 } in
    let y = correspondence-fits G ok sig rules are_typed τ k m ((x, v.0) ∷ names) ((x, u) ∷ env) b s.0 s.3 o c (refl, w, l) v.1 h.0 a.2 h.2 in
    let bs = node_values G sig ((x, v.0) ∷ names) b v.1 h.0 h.2 in
    let bl = node_values-length G sig ((x, v.0) ∷ names) b v.1 h.0 h.2 in
    record {
      whole = subst (Comes G e) s.1 (subst (λ r. Comes G r (fun u s.0)) (sym h.1) (function-comes G v.0 h.0 u s.0 w y.whole));
      each = fit-append G τ k n bs (v.0 ∷ []) (omega arith) y.each (node-fit G τ n v.0 u s.2 w);
      picked = y.picked;
    }

-- the listed expressions, and behind them what a replacement gives
abbrev pub given_or : (ℕ → Relation) → List Relation → ℕ → Relation
given_or d [] i = d i
given_or d (v ∷ vs) zero = v
given_or d (v ∷ vs) (suc i) = given_or (λ j. d (suc j)) vs i

shift : (s : ℕ → Relation) (n : ℕ) (vs : List Relation) → Gives (λ i. s (suc i)) n vs → Gives s (suc n) vs
shift s n [] h = tt
shift s n (v ∷ vs) h = (h.0, shift s (suc n) vs h.1)

pub given_or-gives : (d : ℕ → Relation) (vs : List Relation) → Gives (given_or d vs) 0 vs
given_or-gives d [] = tt
given_or-gives d (v ∷ vs) = (refl, shift (given_or d (v ∷ vs)) 0 vs (given_or-gives (λ j. d (suc j)) vs))

fit-shift : (G : Registry) (τ : ℕ → TypeTree) (n : ℕ) (vs : List Relation) → ValuesFit G τ (suc n) vs → ValuesFit G (λ j. τ (suc j)) n vs
fit-shift G τ n [] h = tt
fit-shift G τ n (v ∷ vs) h = (h.0, fit-shift G τ (suc n) vs h.1)

given-comes : (G : Registry) (τ : ℕ → TypeTree) (d : ℕ → Relation) → ((n : ℕ) → Comes G (d n) (τ n)) → (vs : List Relation) → ValuesFit G τ 0 vs → (n : ℕ) → Comes G (given_or d vs n) (τ n)
given-comes G τ d ok [] h n = ok n
given-comes G τ d ok (v ∷ vs) h zero = h.0
given-comes G τ d ok (v ∷ vs) h (suc n) = given-comes G (λ j. τ (suc j)) (λ j. d (suc j)) (λ j. ok (suc j)) vs (fit-shift G τ 0 vs h.1) n

pub given-fits : (G : Registry) → IsRegistry G → (τ : ℕ → TypeTree) (vs : List Relation) → ValuesFit G τ 0 vs → IsFitting G τ (given_or (λ k. normal_equality G (τ k)) vs)
given-fits G ok τ vs h =
    let c = given-comes G τ (λ k. normal_equality G (τ k)) (λ k. equality-comes G ok (τ k)) vs h in
    record { expressions = λ n. (c n).expression; types = λ n. (c n).right_is }
